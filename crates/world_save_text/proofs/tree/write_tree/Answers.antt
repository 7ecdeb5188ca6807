use Rattle.std.proofs.Common.{map, subst}
use Rattle.std.specs.Prelude.{OnOk}
use Rattle.world_save_terms.specs.Document.{item_data, list_text}
use Rattle.world_save_text.specs.Writing.{Wrote}
use Rattle.world_save_text.proofs.Writings.{mapped, then}
use Rattle.world_save_text.proofs.tree.write_tree.Goals as goal

pub returns : goal.returns
returns c =
    subst (λ is. OnOk c.write_each.result (Wrote c.args.writer.now c.write_each.new.writer (list_text (map (item_data c.args.names.now c.args.files.now) is)))) c.requires.items (mapped c.write_each.result c.write_each.ensures (λ w. then c.in_ok-raw.ensures w))
