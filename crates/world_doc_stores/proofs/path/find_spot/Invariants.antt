use Rattle.std.proofs.Common.{◌≡◌, length}
use Rattle.world_doc_terms.specs.Stores.{parts, spot_from}
use Rattle.world_doc_stores.proofs.path.find_spot.Given as goal

abbrev pub invariant-loop-part : goal.invariant-loop-part
invariant-loop-part l = spot_from l.files l.files.root (parts l.path) ≡ spot_from l.files l.dir (parts l.rest)

abbrev pub decreases-loop-part : goal.decreases-loop-part
decreases-loop-part l = length l.rest
