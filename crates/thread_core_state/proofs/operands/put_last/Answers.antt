use Rattle.std.proofs.Common.{◌-◌, arith}
use Rattle.std.proofs.lemmas.List.{length-reverse}
use Rattle.thread_core_state.proofs.Ends.{set_last}
use Rattle.thread_core_state.proofs.operands.put_last.Goals as goal

pub returns : goal.returns
returns c =
    set_last c.args.items.now.items c.truncate.new.self.items (c.len.result - c.args.count) c.args.count c.args.value c.truncate.ensures.items
    (omega (arith, length-reverse c.args.items.now.items)) (omega (arith, length-reverse c.args.items.now.items))
