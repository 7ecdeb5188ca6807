use Rattle.std.proofs.Common.{◌∙◌, sym, ap}
use Rattle.std.specs.Option.{option_copied}
use Rattle.std.specs.Map.{lookup}
use Rattle.labelled_files.specs.Entries.{text_eq}
use Rattle.labelled_files.proofs.SeenLemmas.{no_entries, the_entries}
use Rattle.labelled_files.proofs.files.Files.target.Goals as goal

pub returns-in-None : goal.returns-in-None
returns-in-None c = ap (lookup (text_eq c.args.entry.now)) (no_entries c.self.inside.dirs.entries c.self.inside.files.entries c.self.inside.counters c.self.inside.root c.args.self.now c.self.view_is c.args.dir.now (sym c.get.ensures.value ∙ ap option_copied c.in-None.is))

pub returns-in-Some : goal.returns-in-Some
returns-in-Some c = c.target.ensures ∙ ap (lookup (text_eq c.args.entry.now)) (the_entries c.self.inside.dirs.entries c.self.inside.files.entries c.self.inside.counters c.self.inside.root c.args.self.now c.self.view_is c.args.dir.now c.in-Some.directory.now (sym c.get.ensures.value ∙ ap option_copied c.in-Some.is))
