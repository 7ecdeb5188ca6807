use Rattle.std.proofs.Common.{◌<◌, ◌^◌, List, length, subst, arith}
use Rattle.std.specs.List.{All}
use Rattle.std.proofs.lemmas.List.Elements.{recursion_from_All}
use Rattle.lam_value.specs.declared.values.Value.{Value}
use Rattle.lam_bytecode.specs.declared.unit.CodeUnit.{CodeUnit}
use Rattle.lam_bytecode.specs.Codes.{IsUnit, IsConstant, AreCounted, region_numbers}
use Rattle.written_code.proofs.tested_code.Goals as goal

pub new-requires : goal.new-requires
new-requires c =
    record {
      units = omega (arith, c.can_count.ensures c.if-can_count.true, c.len.ensures);
      constants = subst (λ (vs : List Value). length vs < 2 ^ 32) c.as_slice.ensures (c.can_count-then-can_count.ensures c.if-can_count-2.true);
      classes = omega (arith, c.can_count-then-can_count-2.ensures c.if-can_count-3.true, c.len-then-can_count-2.ensures);
      each_unit = recursion_from_All IsUnit _ (subst (λ (us : List CodeUnit). All IsUnit us) c.deref.ensures.value (c.are_units.ensures c.if-are_units.true));
      each_constant = recursion_from_All IsConstant _ (subst (λ (vs : List Value). All IsConstant vs) c.as_slice-then-are_units.ensures (c.are_constants.ensures c.if-are_constants.true));
      regions = subst (λ (us : List CodeUnit). AreCounted 0 (region_numbers us)) c.deref-then-are_constants.ensures.value (c.are_counted.ensures c.if-are_counted.true);
    }
