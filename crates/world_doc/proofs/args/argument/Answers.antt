use Rattle.std.proofs.Common.{sym}
use Rattle.serde_json.specs.View.{view}
use Rattle.world_doc_terms.specs.Entries.{argument, contents}
use Rattle.world_doc_stores.specs.Seen.{members}
use Rattle.world_doc_stores.proofs.Steps.{gives_same}
use Rattle.world_doc.specs.Called.{called_of}
use Rattle.world_doc.specs.Found.{read_as}
use Rattle.world_doc.proofs.ArgLemmas.{one_is}
use Rattle.world_doc.proofs.args.argument.Goals as goal

pub returns-in-One : goal.returns-in-One
returns-in-One c =
    gives_same (λ v. v) c.read_content.result (read_as c.args.names.now (called_of c.args.called.now.entries) c.in-One.kind (view c.in-One.content.now)) (argument c.args.names.now (called_of c.args.called.now.entries) (members (view c.args.object.now)))
    (sym (one_is c.args.names.now (called_of c.args.called.now.entries) c.in-One.kind c.in-One.content (contents c.args.names.now (called_of c.args.called.now.entries) (members (view c.args.object.now))) (c.in-One.ensures c.args.names.now (called_of c.args.called.now.entries)))) c.read_content.ensures
