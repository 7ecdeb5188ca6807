use Rattle.std.proofs.Common.{◌≡◌, ◌+◌, length}
use Rattle.json.specs.Print.{escape}
use Rattle.world_save_items.specs.Measures.{capped, text_size}
use Rattle.world_save_items.proofs.measure.escaped_len.Given as goal

abbrev pub invariant-loop-b : goal.invariant-loop-b
invariant-loop-b l = capped (l.bytes + text_size l.rest) ≡ capped (length (escape l.text)) × (l.bytes ≡ capped l.bytes)

abbrev pub decreases-loop-b : goal.decreases-loop-b
decreases-loop-b l = length l.rest
