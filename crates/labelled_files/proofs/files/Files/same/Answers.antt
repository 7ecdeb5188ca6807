use Rattle.std.proofs.Common.{◌∙◌, sym}
use Rattle.labelled_files.proofs.SeenLemmas.{same_trees, dirs_same, files_same, counts_same, root_same}
use Rattle.labelled_files.proofs.files.Files.same.Goals as goal

pub returns-then-same_ground : goal.returns-then-same_ground
returns-then-same_ground c = (
  λ t. let ground = c.same_ground.ensures.0 c.if-same_ground.true in let things = c.same_things.ensures.0 t in same_trees c.self.inside.dirs.entries c.other.inside.dirs.entries c.self.inside.files.entries c.other.inside.files.entries c.self.inside.counters c.other.inside.counters c.self.inside.root c.other.inside.root c.args.self.now c.args.other.now c.self.view_is c.other.view_is ground.0 ground.1 things.0 things.1,
  λ e. c.same_things.ensures.1 (dirs_same c.self.inside.dirs.entries c.other.inside.dirs.entries c.self.inside.files.entries c.other.inside.files.entries c.self.inside.counters c.other.inside.counters c.self.inside.root c.other.inside.root c.args.self.now c.args.other.now c.self.view_is c.other.view_is e, files_same c.self.inside.dirs.entries c.other.inside.dirs.entries c.self.inside.files.entries c.other.inside.files.entries c.self.inside.counters c.other.inside.counters c.self.inside.root c.other.inside.root c.args.self.now c.args.other.now c.self.view_is c.other.view_is e),
)

pub returns-else-same_ground : goal.returns-else-same_ground
returns-else-same_ground c = (
  λ t. let no = sym c.if-same_ground.false ∙ t in cc,
  λ e. c.same_ground.ensures.1 (root_same c.self.inside.dirs.entries c.other.inside.dirs.entries c.self.inside.files.entries c.other.inside.files.entries c.self.inside.counters c.other.inside.counters c.self.inside.root c.other.inside.root c.args.self.now c.args.other.now c.self.view_is c.other.view_is e, counts_same c.self.inside.dirs.entries c.other.inside.dirs.entries c.self.inside.files.entries c.other.inside.files.entries c.self.inside.counters c.other.inside.counters c.self.inside.root c.other.inside.root c.args.self.now c.args.other.now c.self.view_is c.other.view_is e),
)
