use Rattle.world_doc_stores.proofs.PathLemmas.{down, nowhere}
use Rattle.world_doc_stores.proofs.path.find_spot.Goals as goal

pub returns-in_default-look_up : goal.returns-in_default-look_up
returns-in_default-look_up c = nowhere c.args.files.now c.loop-part.dir.now c.loop-part.rest.now c.in-Some.part.now c.in-Some.after.now _ c.loop-part.invariant c.in-Some.ensures.0 c.in_default-look_up.ensures

pub loop-part-preserved : goal.loop-part-preserved
loop-part-preserved c = down c.args.files.now c.loop-part.dir.now c.in-Some-look_up.below.now c.loop-part.rest.now c.in-Some.part.now c.in-Some.after.now _ c.loop-part.invariant c.in-Some.ensures.0 c.in-Some-look_up.ensures
