-- What `emit` answers, said of the checked program.
use Rattle.std.proofs.Common.{◌≡◌, ◌⊎◌, ℕ, Some, Result, Ok, Err, IfOk, IfErr, inl, inr, refl, sym}
use Rattle.lam_syntax.specs.Tree.{ProgramTree}
use Rattle.lam_resolve_tree.specs.Tree.{ResolvedTree}
use Rattle.lam_bytecode.specs.Codes.{CodeTree}
use Rattle.lam_meaning.specs.Long.{compiled}
use Rattle.lam_resolve_laws.specs.Resolved.{resolved}
use Rattle.barrier_compiler.specs.declared.generation.CompileFault.{CompileFault}
use Rattle.barrier_compiler.specs.declared.generation.CompileFault.TheVariants.{CodeTooLong, NoMemory}
use Rattle.barrier_compiler.specs.Faults.{IsFaultOf}
use Rattle.barrier_compiler.specs.Compiled.{IsCompiledTo}

module _ (p : ProgramTree) (r : ResolvedTree) (is : Some r ≡ resolved p) where
  pub made_ok : (x : Result CodeTree CompileFault) → IfOk x (λ c. compiled r ≡ Ok c) → IfOk x (λ c. IsCompiledTo p (Ok c))
  made_ok (Ok c) h = record { tree = r; resolves = sym is; makes = h }
  made_ok (Err f) h = tt

  made_fault : (f : CompileFault) → IsFaultOf f (compiled r) → (f ≡ NoMemory) ⊎ ((unit : ℕ) × (f ≡ CodeTooLong unit) × IsCompiledTo p (Err unit))
  made_fault NoMemory h = inl refl
  made_fault (CodeTooLong unit) h = inr (unit, refl, record { tree = r; resolves = sym is; makes = h })

  pub made_err : (x : Result CodeTree CompileFault) → IfErr x (λ f. IsFaultOf f (compiled r)) → IfErr x (λ f. (f ≡ NoMemory) ⊎ ((unit : ℕ) × (f ≡ CodeTooLong unit) × IsCompiledTo p (Err unit)))
  made_err (Ok c) h = tt
  made_err (Err f) h = made_fault f h
