-- No thread of any world of a run is stuck.
use Rattle.std.proofs.Common.{◌≡◌, ℕ, List, [], ◌∷◌, ◌++◌, Option, Some, None, refl, sym, subst}
use Rattle.std.specs.List.{AllByRecursion}
use Rattle.lam_bytecode.specs.Codes.{CodeTree}
use Rattle.lam_resolve_tree.specs.Tree.{ResolvedTree}
use Rattle.lam_machine_valid.specs.Worlds.{World}
use Rattle.lam_machine_valid.specs.Turns.{Moment, step, and_then, moments, replay, IsRun}
use Rattle.lam_machine_runs.proofs.RunLemmas.{joined_runs}
use Rattle.lam_machine_means.specs.Meant.{NoneStuck, NoRunSticks}
use Rattle.lam_machine_means.proofs.Meaning.{runs_mean}

-- what all worlds are that turns leave, each world after one of them is
module _ (code : CodeTree) (w : World) (P : World → Type 0) (all : (turns : List ℕ) → P (replay code turns w)) where
  along : (ts front : List ℕ) (v : World) → IsRun code front w → replay code front w ≡ v → AllByRecursion (λ (m : Moment). P m.world) (moments code ts v)
  along [] front v run e = tt
  along (t ∷ ts) front v run e = by (step code v t) refl (λ front u run e. along ts front u run e)
    where
      by : (o : Option Moment) → step code v t ≡ o → ((front : List ℕ) (u : World) → IsRun code front w → replay code front w ≡ u → AllByRecursion (λ (m : Moment). P m.world) (moments code ts u)) → AllByRecursion (λ (m : Moment). P m.world) (and_then o (moments code ts))
      by None f more = tt
      by (Some m) f more =
          let g = (joined_runs code).grows w front t m run (subst (λ u. step code u t ≡ Some m) (sym e) f) in
          (subst P g.2 (all (front ++ t ∷ [])), more (front ++ t ∷ []) m.world g.0 g.2)

pub none_sticks : (r : ResolvedTree) (code : CodeTree) → NoRunSticks r code
none_sticks r code acts_as is_code typed w turns valid starts =
    let all : (turns : List ℕ) → NoneStuck code (replay code turns w) = λ turns u th at. (runs_mean r code acts_as is_code typed w turns valid starts u th at).meant.never_stuck in
    (all [], along code w (NoneStuck code) all turns [] w tt refl)
