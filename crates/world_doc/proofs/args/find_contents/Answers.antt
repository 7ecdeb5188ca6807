use Rattle.std.proofs.Common.{[], refl}
use Rattle.world_doc.proofs.args.find_contents.Goals as goal

pub returns : goal.returns
returns c = λ names called. c.find.ensures names called _ (c.find-flag.ensures names called _ (c.find-text.ensures names called _ (c.find-tag.ensures names called _ (c.find-pipe.ensures names called [] refl))))
