use Rattle.std.proofs.Common.{Some, ap, ◌∙◌, string_bytes}
use Rattle.std.proofs.lemmas.Map.Text.{btree_map_updates_text}
use Rattle.std.specs.BTreeMap.{get_by_text}
use Rattle.std.specs.Map.{update}
use Rattle.std.specs.Str.{bytes_eq}
use Rattle.flow_labels.proofs.names.put_tag.Goals as goal

pub returns-clause-ok : goal.returns-clause-ok
returns-clause-ok c = λ text.
    btree_map_updates_text (string_bytes c.in_ok-text.text) c.args.tags.now c.insert.new.self (Some c.args.tag) c.in_ok-insert.ensures.updates text
    ∙ ap (λ bs. update bytes_eq (get_by_text c.args.tags.now) bs (Some c.args.tag) text) c.in_ok-text.ensures.ok
