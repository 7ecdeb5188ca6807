use Rattle.std.proofs.Common.{Ok}
use Rattle.serde_json.specs.View.{view}
use Rattle.lam_machine_effects.specs.Parts.{world_of}
use Rattle.world_doc_terms.specs.Entries.{threads_in}
use Rattle.world_doc_stores.specs.Seen.{members}
use Rattle.world_doc_stores.proofs.Steps.{fails_here}
use Rattle.world_doc.specs.Called.{called_of}
use Rattle.world_doc.proofs.document.with_threads.Goals as goal

pub returns-in-Err : goal.returns-in-Err
returns-in-Err c =
    fails_here c.in-Err.fault (threads_in c.args.code.now c.args.stores.names (called_of c.args.called.now.entries) (members (view c.args.document.now))) (λ threads. Ok (world_of c.args.stores threads)) c.in-Err.ensures.gives
