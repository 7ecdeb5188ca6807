use Rattle.std.proofs.Common.{subst}
use Rattle.std.proofs.lemmas.List.{take_all}
use Rattle.std.proofs.lemmas.List.Elements.{All-more}
use Rattle.std.specs.List.{All}
use Rattle.lam_bytecode.specs.Codes.{IsUnit}
use Rattle.written_code.proofs.are_units.Goals as goal

pub loop-unit-preserved : goal.loop-unit-preserved
loop-unit-preserved c =
    All-more IsUnit c.args.units.now c.loop-unit.unit-index c.unit-item.result c.loop-unit-test.true c.loop-unit.invariant (subst IsUnit c.unit-item.is (c.is_unit.ensures c.if-not-is_unit.false))

pub returns : goal.returns
returns c = λ _. subst (All IsUnit) (take_all c.loop-unit.unit-index c.args.units.now c.loop-unit-test.false) c.loop-unit.invariant
