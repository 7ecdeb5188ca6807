use Rattle.std.proofs.Common.{sym}
use Rattle.serde_json.specs.View.{view, items_view}
use Rattle.world_doc_terms.specs.Entries.{arguments, args_in}
use Rattle.world_doc_stores.specs.Seen.{members}
use Rattle.world_doc_stores.proofs.Steps.{says_fails, gives_same}
use Rattle.world_doc.specs.Called.{called_of}
use Rattle.world_doc.proofs.CountLemmas.{args_counted, args_other}
use Rattle.world_doc.proofs.args.read_args.Goals as goal

pub returns-then-items-takes : goal.returns-then-items-takes
returns-then-items-takes c =
    says_fails c.bad_member.ensures (args_other c.args.names.now (called_of c.args.called.now.entries) c.args.takes.now (members (view c.args.thread.now)) c.in_ok-items.items.now c.in_ok-items.ensures c.if-items-takes.true)

pub returns : goal.returns
returns c =
    gives_same (λ vs. vs) c.arguments.result (arguments c.args.names.now (called_of c.args.called.now.entries) c.args.takes.now (items_view c.in_ok-items.items.now)) (args_in c.args.names.now (called_of c.args.called.now.entries) c.args.takes.now (members (view c.args.thread.now)))
    (sym (args_counted c.args.names.now (called_of c.args.called.now.entries) c.args.takes.now (members (view c.args.thread.now)) c.in_ok-items.items.now c.in_ok-items.ensures c.if-items-takes.false)) c.arguments.ensures
