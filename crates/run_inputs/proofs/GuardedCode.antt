-- The code that a program is compiled to is guarded, and is the program's.
use Rattle.std.proofs.Common.{◌≡◌, Option, Ok, IsSomeAnd, subst}
use Rattle.flow_labels.specs.TwoLists.{Text}
use Rattle.lam_syntax.specs.Tree.{ProgramTree}
use Rattle.lam_front.specs.Programs.{IsFine}
use Rattle.lam_resolve_tree.specs.Tree.{ResolvedTree}
use Rattle.lam_resolve_tree.specs.Typing.{IsTypedTree}
use Rattle.lam_resolve_tree.specs.Regions.{AreNumbered}
use Rattle.lam_resolve_laws.specs.Resolved.{resolved}
use Rattle.lam_bytecode.specs.Codes.{CodeTree}
use Rattle.guarded_code.specs.Breaks.{IsGuarded}
use Rattle.thinned_code.specs.Thinned.{thinned}
use Rattle.barrier_thin.proofs.CompiledCodeGuardedUnits.{compiled_guarded}
use Rattle.barrier_compiler.specs.Compiled.{IsCompiledTo}
use Rattle.run_inputs.specs.Inputs.{IsRunCode}

-- where the names of the program are resolved into a typed tree with its regions numbered
pub resolved_guarded : (p : ProgramTree) (code : CodeTree) → IsSomeAnd (resolved p) IsTypedTree → IsSomeAnd (resolved p) AreNumbered → IsCompiledTo p (Ok code) → IsGuarded code
resolved_guarded p code typed numbered made =
    let of = λ (P : ResolvedTree → Type 0) (h : IsSomeAnd (resolved p) P). subst (λ (o : Option ResolvedTree). IsSomeAnd o P) made.resolves h in
    compiled_guarded made.tree code (of IsTypedTree typed) (of AreNumbered numbered) made.makes

-- without its redundant barriers it is what is run of the program
pub is_run : (bytes : Text) (p : ProgramTree) (whole code : CodeTree) → IsFine bytes p → IsCompiledTo p (Ok whole) → code ≡ thinned whole → IsRunCode bytes code
is_run bytes p whole code is made thin = record { whole = whole; makes = record { program = p; fine = is; makes = made }; thin = thin }
