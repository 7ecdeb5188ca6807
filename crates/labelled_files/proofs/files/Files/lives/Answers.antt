use Rattle.std.proofs.Common.{◌∙◌, sym, ap}
use Rattle.labelled_files.specs.Trees.{lives_as}
use Rattle.labelled_files.proofs.SeenLemmas.{dir_lives, file_lives}
use Rattle.labelled_files.proofs.files.Files.lives.Goals as goal

pub returns-in-File : goal.returns-in-File
returns-in-File c = c.contains_key.ensures ∙ file_lives c.self.inside.dirs.entries c.self.inside.files.entries c.self.inside.counters c.self.inside.root c.args.self.now c.self.view_is c.args.n.now ∙ ap (λ k. lives_as k c.args.self.now c.args.n.now) (sym c.in-File.is)

pub returns-in-Dir : goal.returns-in-Dir
returns-in-Dir c = c.contains_key-in-Dir.ensures ∙ dir_lives c.self.inside.dirs.entries c.self.inside.files.entries c.self.inside.counters c.self.inside.root c.args.self.now c.self.view_is c.args.n.now ∙ ap (λ k. lives_as k c.args.self.now c.args.n.now) (sym c.in-Dir.is)
