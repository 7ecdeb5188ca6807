use Rattle.std.proofs.Common.{drop, false}
use Rattle.std.specs.Prelude.{nat_lt}
use Rattle.world_save_terms.specs.Document.{tags_from}
use Rattle.world_save_text.proofs.Writings.{HasWritten}
use Rattle.world_save_text.specs.Pieces.{items_left}
use Rattle.world_save_text.proofs.tags.write_each.Given as goal

abbrev pub invariant-loop-at : goal.invariant-loop-at
invariant-loop-at l = HasWritten l.initial.writer l.writer (items_left false (tags_from l.public 0 l.names)) (items_left (nat_lt 0 l.at) (tags_from l.public l.at (drop l.at l.names)))
