use Rattle.thread_core_state.proofs.Ends.{reversed_same}
use Rattle.thread_core_state.proofs.operands.Operands.same.Goals as goal

pub returns : goal.returns
returns c =
    reversed_same c.same_values.result c.self.inside.items.items c.other.inside.items.items c.as_slice.result.now c.as_slice-2.result.now c.args.self.now
    c.args.other.now c.same_values.ensures c.as_slice.ensures.value c.as_slice-2.ensures.value c.self.view_is c.other.view_is
