-- What contracts see of a typed program.
use Rattle.lam_syntax.specs.Tree.{ProgramTree, program_tree}
use Rattle.lam_types.specs.declared.typed.Typed.{Typed}

-- its tree
abbrev pub tree_of : Typed → ProgramTree
tree_of t = program_tree t.program
