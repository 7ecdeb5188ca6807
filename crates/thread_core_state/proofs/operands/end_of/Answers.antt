use Rattle.std.proofs.Common.{◌-◌, ◌∙◌, length, arith}
use Rattle.std.proofs.lemmas.List.{take_rest, length-reverse}
use Rattle.thread_core_state.proofs.Ends.{end_reversed}
use Rattle.thread_core_state.proofs.operands.end_of.Goals as goal

pub returns : goal.returns
returns c = (
  omega (arith, length-reverse c.args.items.now),
  take_rest c.args.items.now (length c.args.items.now - c.args.count) ∙ end_reversed c.args.count c.args.items.now c.if-items-count.false,
)
