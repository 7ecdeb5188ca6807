-- Thinned code of a program acts as the program.
use Rattle.std.proofs.Common.{◌≡◌, sym, ap, ◌∙◌, subst}
use Rattle.lam_bytecode.specs.Codes.{CodeTree, IsCode}
use Rattle.guarded_code.specs.Breaks.{IsGuarded}
use Rattle.thinned_code.specs.Thinned.{thinned}
use Rattle.thinned_code.proofs.Thinned.{stays_guarded}
use Rattle.lam_resolve_tree.specs.Tree.{ResolvedTree}
use Rattle.lam_meaning.specs.Scheme.{scheme}
use Rattle.thinned_code_acts.specs.Acts.{ActsAs}
use Rattle.compiled_code_guarded.specs.Compiled.{SchemeIsGuarded}
use Rattle.thinned_code_acts.specs.Laws.{ThinnedSchemeActs}
use Rattle.barrier_thin.specs.Programs.{StandsForPrograms}

pub stands_for_programs : (code made : CodeTree) → SchemeIsGuarded → ((r : ResolvedTree) → ThinnedSchemeActs r) → IsCode code → made ≡ thinned code → StandsForPrograms code made
stands_for_programs code made guards acts is e r typed numbered same =
    let guarded : IsGuarded (scheme r) = guards r typed numbered in
    let its : IsGuarded code = subst IsGuarded (sym same) guarded in (
      its,
      subst IsGuarded (sym e) (stays_guarded code its),
      subst (λ (c : CodeTree). ActsAs c r) (sym (e ∙ ap thinned same)) (acts r typed numbered (subst IsCode same is) guarded),
    )
