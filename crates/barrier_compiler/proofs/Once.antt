-- A program is compiled to one thing.
use Rattle.std.proofs.Common.{◌≡◌, ℕ, Some, Result, sym, ap, ◌∙◌}
use Rattle.lam_syntax.specs.Tree.{ProgramTree}
use Rattle.lam_resolve_tree.specs.Tree.{ResolvedTree}
use Rattle.lam_bytecode.specs.Codes.{CodeTree}
use Rattle.lam_meaning.specs.Long.{compiled}
use Rattle.barrier_compiler.specs.Compiled.{IsCompiledTo}

one_tree : {r t : ResolvedTree} → Some r ≡ Some t → r ≡ t
one_tree e = cc

pub one_compiled : (p : ProgramTree) (m n : Result CodeTree ℕ) → IsCompiledTo p m → IsCompiledTo p n → m ≡ n
one_compiled p m n h k = sym h.makes ∙ ap compiled (one_tree (sym h.resolves ∙ k.resolves)) ∙ k.makes
