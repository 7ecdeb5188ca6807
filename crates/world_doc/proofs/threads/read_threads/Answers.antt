use Rattle.std.proofs.Common.{sym}
use Rattle.serde_json.specs.View.{view, items_view}
use Rattle.world_doc_terms.specs.Entries.{threads_of, threads_in}
use Rattle.world_doc_stores.specs.Seen.{members}
use Rattle.world_doc_stores.proofs.Steps.{says_fails, gives_same}
use Rattle.world_doc.specs.Called.{called_of}
use Rattle.world_doc.proofs.CountLemmas.{threads_counted, threads_other}
use Rattle.world_doc.proofs.threads.read_threads.Goals as goal

pub returns-else-may_be-clause-gives : goal.returns-else-may_be-clause-gives
returns-else-may_be-clause-gives c =
    says_fails c.bad_member.ensures
    (threads_other c.args.code.now c.args.names.now (called_of c.args.called.now.entries) (members (view c.args.document.now)) c.in_ok-items.items.now c.may_be.result c.in_ok-items.ensures c.may_be.ensures c.if-may_be.false)

pub returns-then-may_be-clause-gives : goal.returns-then-may_be-clause-gives
returns-then-may_be-clause-gives c =
    gives_same (λ v. v.items) c.read_all.result (threads_of c.args.code.now c.args.names.now (called_of c.args.called.now.entries) (items_view c.in_ok-items.items.now)) (threads_in c.args.code.now c.args.names.now (called_of c.args.called.now.entries) (members (view c.args.document.now)))
    (sym (threads_counted c.args.code.now c.args.names.now (called_of c.args.called.now.entries) (members (view c.args.document.now)) c.in_ok-items.items.now c.may_be.result c.in_ok-items.ensures c.may_be.ensures c.if-may_be.true)) c.read_all.ensures.gives
