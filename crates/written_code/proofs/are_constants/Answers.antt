use Rattle.std.proofs.Common.{subst}
use Rattle.std.proofs.lemmas.List.{take_all}
use Rattle.std.proofs.lemmas.List.Elements.{All-more}
use Rattle.std.specs.List.{All}
use Rattle.lam_bytecode.specs.Codes.{IsConstant}
use Rattle.written_code.proofs.are_constants.Goals as goal

pub loop-value-preserved : goal.loop-value-preserved
loop-value-preserved c =
    All-more IsConstant c.args.values.now c.loop-value.value-index c.value-item.result c.loop-value-test.true c.loop-value.invariant (subst IsConstant c.value-item.is (c.is_constant.ensures c.if-not-is_constant.false))

pub returns : goal.returns
returns c = λ _. subst (All IsConstant) (take_all c.loop-value.value-index c.args.values.now c.loop-value-test.false) c.loop-value.invariant
