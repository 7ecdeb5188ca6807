-- The code of a program acts as the program.
use Rattle.std.proofs.Common.{Option, IsSomeAnd, subst}
use Rattle.lam_syntax.specs.Tree.{ProgramTree}
use Rattle.lam_resolve_tree.specs.Tree.{ResolvedTree}
use Rattle.lam_resolve_tree.specs.Typing.{IsTypedTree}
use Rattle.lam_resolve_tree.specs.Regions.{AreNumbered}
use Rattle.lam_resolve_laws.specs.Resolved.{resolved}
use Rattle.lam_meaning_laws.specs.Acts.{CodeActs}
use Rattle.barrier_compiler.specs.Compiled.{ActsAsProgram}

pub acts_of : (p : ProgramTree) → IsSomeAnd (resolved p) IsTypedTree → IsSomeAnd (resolved p) AreNumbered → ((r : ResolvedTree) → CodeActs r) → ActsAsProgram p
acts_of p typed numbered law r is =
    law r (subst (λ (o : Option ResolvedTree). IsSomeAnd o IsTypedTree) is typed) (subst (λ (o : Option ResolvedTree). IsSomeAnd o AreNumbered) is numbered)
