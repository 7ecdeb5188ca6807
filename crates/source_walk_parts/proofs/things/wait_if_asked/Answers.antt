use Rattle.source_walk_parts.specs.States.{state_of}
use Rattle.source_walk_parts.proofs.Steps.{on_ok, asked_if, unasked_if}
use Rattle.source_walk_parts.proofs.things.wait_if_asked.Goals as goal

pub returns-then-asks : goal.returns-then-asks
returns-then-asks c = on_ok c.push.result c.push.ensures (λ h. asked_if c.asks.result c.args.control.now (state_of c.args.w.now) (state_of c.push.new.w) c.args.frame c.asks.ensures c.if-asks.true h)

pub returns-else-asks : goal.returns-else-asks
returns-else-asks c = unasked_if c.asks.result c.args.control.now (state_of c.args.w.now) c.args.frame c.asks.ensures c.if-asks.false
