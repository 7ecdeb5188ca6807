use Rattle.std.proofs.Common.{◌∙◌, sym, ap}
use Rattle.std.specs.Prelude.{slice_get}
use Rattle.std.specs.Option.{option_copied}
use Rattle.labelled_files.proofs.SeenLemmas.{no_entries, the_entries}
use Rattle.labelled_files.proofs.files.Files.entry_at.Goals as goal

pub returns-in-None : goal.returns-in-None
returns-in-None c = ap (λ es. slice_get es c.args.i) (no_entries c.self.inside.dirs.entries c.self.inside.files.entries c.self.inside.counters c.self.inside.root c.args.self.now c.self.view_is c.args.dir.now (sym c.get.ensures.value ∙ ap option_copied c.in-None.is))

pub returns-in-Some : goal.returns-in-Some
returns-in-Some c = c.entry_at.ensures ∙ ap (λ es. slice_get es c.args.i) (the_entries c.self.inside.dirs.entries c.self.inside.files.entries c.self.inside.counters c.self.inside.root c.args.self.now c.self.view_is c.args.dir.now c.in-Some.directory.now (sym c.get.ensures.value ∙ ap option_copied c.in-Some.is))
