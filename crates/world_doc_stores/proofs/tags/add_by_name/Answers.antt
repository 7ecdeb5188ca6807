use Rattle.serde_json.specs.View.{view}
use Rattle.world_doc_stores.specs.Seen.{tags_seen}
use Rattle.world_doc_stores.proofs.TagLemmas.{name_added}
use Rattle.world_doc_stores.proofs.tags.add_by_name.Goals as goal

pub returns : goal.returns
returns c =
    name_added (tags_seen c.args.tags.now) c.add_name.new.names c.push.new.self.items (view c.args.item.now) c.in_ok-name.name.now c.in_ok-name.ensures.gives c.in_ok-add_name.ensures.gives c.in_ok-add_name.ensures.ok c.in_ok-push.ensures.items
