-- What contracts see of a checked program.
use Rattle.lam_syntax.specs.Tree.{ProgramTree}
use Rattle.lam_types.specs.Seen.{tree_of}
use Rattle.region_check.specs.declared.checked.Checked.{Checked}

-- its tree
abbrev pub checked_tree : Checked → ProgramTree
checked_tree c = tree_of c.typed
