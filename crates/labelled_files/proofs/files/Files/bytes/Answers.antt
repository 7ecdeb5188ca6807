use Rattle.std.proofs.Common.{◌∙◌, sym, ap}
use Rattle.std.specs.Option.{option_copied}
use Rattle.labelled_files.proofs.SeenLemmas.{no_bytes, the_bytes}
use Rattle.labelled_files.proofs.files.Files.bytes.Goals as goal

pub returns-in-None-clause-value : goal.returns-in-None-clause-value
returns-in-None-clause-value c = no_bytes c.self.inside.dirs.entries c.self.inside.files.entries c.self.inside.counters c.self.inside.root c.args.self.now c.self.view_is c.args.f.now (sym c.get.ensures.value ∙ ap option_copied c.in-None.is)

pub returns-in-Some-clause-value : goal.returns-in-Some-clause-value
returns-in-Some-clause-value c = c.bytes.ensures.value ∙ the_bytes c.self.inside.dirs.entries c.self.inside.files.entries c.self.inside.counters c.self.inside.root c.args.self.now c.self.view_is c.args.f.now c.in-Some.contents.now (sym c.get.ensures.value ∙ ap option_copied c.in-Some.is)
