use Rattle.std.proofs.Common.{sym, ◌∙◌}
use Rattle.source_walk_go.proofs.DelimiterFrames.{leave_stops, leave_passes}
use Rattle.source_walk_go.proofs.delimiters.leave_past.Goals as goal

pub returns-then-is_region_delimiter : goal.returns-then-is_region_delimiter
returns-then-is_region_delimiter c = λ s h g r. leave_stops r s c.args.v c.args.frame.now (sym c.is_region_delimiter.ensures ∙ c.if-is_region_delimiter.true)

pub returns-else-is_region_delimiter : goal.returns-else-is_region_delimiter
returns-else-is_region_delimiter c = λ s h g r. leave_passes r s c.args.v c.args.frame.now (sym c.is_region_delimiter.ensures ∙ c.if-is_region_delimiter.false) h g
