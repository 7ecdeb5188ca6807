use Rattle.std.proofs.Common.{refl}
use Rattle.world_save_text.proofs.Lists.{tag_at, no_tag_at}
use Rattle.world_save_text.proofs.tags.write_tag_at.Goals as goal

pub returns-in-Some : goal.returns-in-Some
returns-in-Some c =
    tag_at c.args.public.now c.args.names.now c.args.at c.write_tag.result c.args.writer.now c.write_tag.new.writer c.in-Some.name.now _ _ refl c.kind_at.ensures c.in-Some.ensures c.write_tag.ensures

pub returns-in-None : goal.returns-in-None
returns-in-None c = no_tag_at _ c.args.names.now c.args.at c.in-None.ensures
