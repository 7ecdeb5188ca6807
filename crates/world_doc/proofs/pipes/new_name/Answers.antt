use Rattle.serde_json.specs.View.{view}
use Rattle.world_doc_stores.specs.Seen.{members}
use Rattle.world_doc_stores.proofs.Steps.{says_fails}
use Rattle.world_doc.proofs.CalledLemmas.{name_taken, name_new}
use Rattle.world_doc.proofs.pipes.new_name.Goals as goal

pub returns-then-contains_key : goal.returns-then-contains_key
returns-then-contains_key c =
    says_fails c.bad_member.ensures (name_taken c.args.called.now.entries (members (view c.args.item.now)) c.in_ok-name.name.now c.contains_key.result c.in_ok-name.ensures c.contains_key.ensures c.if-contains_key.true)

pub returns : goal.returns
returns c = name_new c.args.called.now.entries (members (view c.args.item.now)) c.in_ok-name.name.now c.contains_key.result c.in_ok-name.ensures c.contains_key.ensures c.if-contains_key.false
