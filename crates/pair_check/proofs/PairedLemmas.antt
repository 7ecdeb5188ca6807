-- Two starts that agree, and two agendas that meet.
use Rattle.std.proofs.Common.{◌≡◌, ℕ, List, None, sym, ◌∙◌, subst}
use Rattle.flow_labels.specs.declared.Label.{Label}
use Rattle.lam_bytecode.specs.Codes.{CodeTree}
use Rattle.lam_machine_terms.specs.Worlds.{World}
use Rattle.lam_machine_terms.specs.Turns.{moments, IsRun}
use Rattle.lam_machine_terms.specs.Valid.{IsValid}
use Rattle.lam_machine_terms.specs.Views.{Item, Agree, agenda}
use Rattle.lam_machine_runs.specs.Stops.{stopped_at}
use Rattle.guarded_code_runs.specs.Worlds.{IsSound}
use Rattle.pair_check_terms.specs.declared.answer.PairAnswer.{PairAnswer}
use Rattle.pair_check_terms.specs.declared.answer.PairAnswer.TheVariants.{WorldsDiffer, TurnsDiffer, ReleaseDiffers, Agree as agree_up_to}
use Rattle.pair_check_terms.specs.Pairs.{IsMet, IsPairedBy, IsPaired}
use Rattle.pair_check_terms.specs.Laws.{LookSameBy, PairsLookSame}

pub met_paired : (o : Label) (s s' : World) (xs ys : List Item) (answer : PairAnswer) → Agree o s s' → IsMet xs ys answer → IsPairedBy o s s' xs ys answer
met_paired o s s' xs ys (WorldsDiffer what) a h = absurd h
met_paired o s s' xs ys (TurnsDiffer n) a h = (a, h)
met_paired o s s' xs ys (ReleaseDiffers n) a h = (a, h)
met_paired o s s' xs ys (agree_up_to n) a h = (a, h)

-- what is told of two things holds of those that they equal
pub moved : {X : Type 0} (P : X → X → Type 0) (s s' w w' : X) → s ≡ w → s' ≡ w' → P s s' → P w w'
moved {X} P s s' w w' e f h = subst (λ (x : X). P x w') e (subst (λ (y : X). P s y) f h)

-- turns that were read of a run, with its code and its start
module _ (c c' : CodeTree) (ts ts' : List ℕ) (w w' : World) (code : c ≡ c') (turns : ts ≡ ts') (start : w ≡ w') where
  pub sound_read : IsSound c' w' → IsSound c w
  sound_read h = subst (λ (x : CodeTree). IsSound x w) (sym code) (subst (λ (v : World). IsSound c' v) (sym start) h)

  pub whole_read : stopped_at c' ts' w' ≡ None → stopped_at c ts w ≡ None
  whole_read h = (λ i. stopped_at (code i) (turns i) (start i)) ∙ h

  pub agenda_read : (o : Label) → agenda o (moments c ts w) ≡ agenda o (moments c' ts' w')
  agenda_read o = λ i. agenda o (moments (code i) (turns i) (start i))

-- ---- two runs of equal codes

pub look_same : ((code : CodeTree) → PairsLookSame code) → (o : Label) (c c' : CodeTree) (s s' : World) (ts ts' : List ℕ) (answer : PairAnswer) → c ≡ c' → IsValid s → IsValid s' → IsRun c ts s → IsRun c' ts' s'
    → IsPaired o s (moments c ts s) s' (moments c' ts' s') answer → LookSameBy answer o s (moments c ts s) s' (moments c' ts' s')
look_same law o c c' s s' ts ts' answer same v v' r r' h =
    subst (λ (x : CodeTree). LookSameBy answer o s (moments c ts s) s' (moments x ts' s')) same
    (law c o s s' ts ts' answer v v' r (subst (λ (x : CodeTree). IsRun x ts' s') (sym same) r') (subst (λ (x : CodeTree). IsPaired o s (moments c ts s) s' (moments x ts' s') answer) (sym same) h))
