use Rattle.serde_json.specs.View.{view}
use Rattle.world_doc_stores.specs.Seen.{members, tags_seen}
use Rattle.world_doc_stores.proofs.Steps.{gives_same}
use Rattle.world_doc.specs.Called.{called_of}
use Rattle.world_doc.specs.Document.{world_onto, after_tags}
use Rattle.world_doc.proofs.WorldLemmas.{from_first}
use Rattle.world_doc.proofs.document.after_tags.Goals as goal

pub returns : goal.returns
returns c =
    gives_same (λ w. w) c.world_onto.result (world_onto c.args.code.now c.args.version (members (view c.args.document.now)) c.in_ok-stores.stores (called_of c.new-called.result.entries)) (after_tags c.args.code.now c.args.version (members (view c.args.document.now)) (tags_seen c.args.tags))
    (from_first c.args.code.now c.args.version (members (view c.args.document.now)) (tags_seen c.args.tags) c.in_ok-stores.stores c.new-called.result.entries c.in_ok-stores.ensures c.new-called.ensures.empty)
    c.world_onto.ensures
