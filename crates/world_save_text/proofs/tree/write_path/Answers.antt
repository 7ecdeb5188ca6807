use Rattle.std.proofs.Common.{refl, sym, ◌∙◌}
use Rattle.world_save_text.proofs.Written.{path_counted}
use Rattle.world_save_text.proofs.tree.write_path.Goals as goal

pub returns : goal.returns
returns c = path_counted _ _ c.args.path.now c.args.bytes c.more.result c.more-writer.result refl (sym c.is_some.ensures ∙ c.if-is_some.false) c.requires c.more.ensures c.more-writer.ensures refl
