-- What a checked program is compiled to.
use Rattle.std.specs.Prelude.{◌≡◌, ℕ, Some, Result}
use Rattle.lam_syntax.specs.Tree.{ProgramTree}
use Rattle.lam_resolve_tree.specs.Tree.{ResolvedTree}
use Rattle.lam_bytecode.specs.Codes.{CodeTree}
use Rattle.lam_meaning.specs.Long.{compiled}
use Rattle.lam_resolve_laws.specs.Resolved.{resolved}
use Rattle.lam_meaning_laws.specs.Acts.{ActsAsSource}

-- with its names resolved, the scheme makes this of it: its code, or the number of the first unit that is too long
pub record IsCompiledTo (p : ProgramTree) (made : Result CodeTree ℕ) : Type 0 where
  pub tree : ResolvedTree
  pub resolves : resolved p ≡ Some tree
  pub makes : compiled tree ≡ made

-- a thread of its code makes the asks that the program means, in order, and is not stuck
abbrev pub ActsAsProgram : ProgramTree → Type 0
ActsAsProgram p = (r : ResolvedTree) → resolved p ≡ Some r → ActsAsSource r
