use Rattle.serde_json.specs.View.{view}
use Rattle.world_doc_stores.specs.Seen.{members, tags_seen}
use Rattle.world_doc_stores.proofs.TagLemmas.{kind_added}
use Rattle.world_doc_stores.proofs.tags.add_by_kind.Goals as goal

pub returns : goal.returns
returns c =
    kind_added (tags_seen c.args.tags.now) c.add_name.new.names c.push.new.self.items (view c.args.item.now) (members (view c.args.item.now)) c.in_ok-name.name.now c.in_ok-kind.kind c.in_ok-object.ensures c.in_ok-name.ensures.gives c.in_ok-add_name.ensures.gives c.in_ok-kind.ensures c.in_ok-add_name.ensures.ok c.in_ok-push.ensures.items
