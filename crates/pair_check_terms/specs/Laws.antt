-- What holds of the answers.
use Rattle.std.specs.Prelude.{◌≡◌, ◌↔◌, ℕ, List}
use Rattle.flow_labels.specs.declared.Label.{Label}
use Rattle.lam_bytecode.specs.Codes.{CodeTree}
use Rattle.lam_machine_terms.specs.Worlds.{World}
use Rattle.lam_machine_terms.specs.Turns.{Moment, moments, IsRun}
use Rattle.lam_machine_terms.specs.Valid.{IsValid}
use Rattle.lam_machine_terms.specs.Views as views
use Rattle.lam_machine_laws.specs.Isolation.{LookSame}
use Rattle.pair_check_terms.specs.declared.answer.Part.{Part}
use Rattle.pair_check_terms.specs.declared.answer.PairAnswer.{PairAnswer}
use Rattle.pair_check_terms.specs.declared.answer.PairAnswer.TheVariants.{WorldsDiffer, TurnsDiffer, ReleaseDiffers, Agree}
use Rattle.pair_check_terms.specs.Parts.{IsSame}
use Rattle.pair_check_terms.specs.Pairs.{IsPaired}

-- no part differs exactly where two worlds agree
abbrev pub PartsMakeAgreement : Type 0
PartsMakeAgreement = (o : Label) (s s' : World) → ((part : Part) → IsSame o s s' part) ↔ views.Agree o s s'

abbrev pub PairsHaveOneAnswer : Type 0
PairsHaveOneAnswer =
    (o : Label) (s s' : World) (ms ms' : List Moment) (a b : PairAnswer) → IsPaired o s ms s' ms' a → IsPaired o s ms s' ms' b → a ≡ b

-- two runs look the same up to the number of an answer, where it has one
abbrev pub LookSameBy : PairAnswer → Label → World → List Moment → World → List Moment → Type 0
LookSameBy (WorldsDiffer what) o s ms s' ms' = Unit {0}
LookSameBy (TurnsDiffer n) o s ms s' ms' = LookSame n o s ms s' ms'
LookSameBy (ReleaseDiffers n) o s ms s' ms' = LookSame n o s ms s' ms'
LookSameBy (Agree n) o s ms s' ms' = LookSame n o s ms s' ms'

abbrev pub PairsLookSame : CodeTree → Type 0
PairsLookSame code =
    (o : Label) (s s' : World) (turns turns' : List ℕ) (answer : PairAnswer) →
    IsValid s → IsValid s' → IsRun code turns s → IsRun code turns' s' →
    IsPaired o s (moments code turns s) s' (moments code turns' s') answer →
    LookSameBy answer o s (moments code turns s) s' (moments code turns' s')
