use Rattle.serde_json.specs.View.{view}
use Rattle.world_doc_stores.specs.Seen.{members}
use Rattle.world_doc_stores.proofs.Steps.{gives_same}
use Rattle.world_doc.specs.Called.{called_of}
use Rattle.world_doc.specs.Document.{with_threads, world_onto}
use Rattle.world_doc.proofs.WorldLemmas.{not_onto, onto}
use Rattle.world_doc.proofs.document.world_onto.Goals as goal

pub returns-in-Err : goal.returns-in-Err
returns-in-Err c = not_onto c.args.code.now c.args.version (members (view c.args.document.now)) c.args.stores c.args.called.now.entries c.in-Err.fault c.in-Err.ensures

pub returns-in-Ok : goal.returns-in-Ok
returns-in-Ok c =
    gives_same (λ w. w) c.with_threads.result (with_threads c.args.code.now (members (view c.args.document.now)) (c.fill.new.stores, called_of c.fill.new.called.entries)) (world_onto c.args.code.now c.args.version (members (view c.args.document.now)) c.args.stores (called_of c.args.called.now.entries))
    (onto c.args.code.now c.args.version (members (view c.args.document.now)) c.args.stores c.args.called.now.entries (c.fill.new.stores, called_of c.fill.new.called.entries) c.in-Ok.ensures)
    c.with_threads.ensures
