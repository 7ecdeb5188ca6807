use Rattle.std.proofs.Common.{sym, ◌∙◌}
use Rattle.source_walk_parts.proofs.Calls.{null_calls, many_calls}
use Rattle.source_walk_parts.proofs.controls.too_many.Goals as goal

pub returns-then-some_null : goal.returns-then-some_null
returns-then-some_null c = λ l k b s. null_calls s l k b c.args.args.now (sym c.some_null.ensures ∙ c.if-some_null.true)

pub returns-else-some_null : goal.returns-else-some_null
returns-else-some_null c = λ l k b s. many_calls s l k b c.args.args.now c.requires (sym c.some_null.ensures ∙ c.if-some_null.false)
