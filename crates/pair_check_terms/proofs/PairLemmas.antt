-- The answers of two runs.
use Rattle.std.proofs.Common.{◌≡◌, ◌<◌, ◌≤◌, ℕ, Bool, true, false, List, Some, length, take, ap, arith}
use Rattle.std.specs.Prelude.{min, slice_get}
use Rattle.std.proofs.lemmas.Option.{slice_get_within}
use Rattle.flow_labels.specs.declared.Label.{Label}
use Rattle.lam_bytecode.specs.Codes.{CodeTree}
use Rattle.lam_machine_terms.specs.Worlds.{World}
use Rattle.lam_machine_terms.specs.Turns.{Moment, moments, IsRun}
use Rattle.lam_machine_terms.specs.Valid.{IsValid}
use Rattle.lam_machine_terms.specs.Views as views
use Rattle.lam_machine_terms.specs.Views.{Item, agenda}
use Rattle.lam_machine_laws.specs.Isolation.{LookSame}
use Rattle.lam_machine_laws.proofs.TurnLemmas.{valid_safe}
use Rattle.lam_machine_laws.proofs.WholeLemmas.{isolated}
use Rattle.pair_check_terms.specs.declared.answer.PairAnswer.{PairAnswer}
use Rattle.pair_check_terms.specs.declared.answer.PairAnswer.TheVariants.{WorldsDiffer, TurnsDiffer, ReleaseDiffers, Agree}
use Rattle.pair_check_terms.specs.Pairs.{DifferAt, GoTogether, IsMet, IsPaired}
use Rattle.pair_check_terms.specs.Laws.{PairsHaveOneAnswer, PairsLookSame}
use Rattle.pair_check_terms.proofs.PartLemmas.{first_differs, one_first}
use Rattle.pair_check_terms.proofs.MeetLemmas.{one_meeting}

-- ---- one answer

pub one_answer : PairsHaveOneAnswer
one_answer o s s' ms ms' (WorldsDiffer p) (WorldsDiffer q) h k = ap WorldsDiffer (one_first o s s' p q h k)
one_answer o s s' ms ms' (WorldsDiffer p) (TurnsDiffer n) h k = first_differs o s s' p h k.0
one_answer o s s' ms ms' (WorldsDiffer p) (ReleaseDiffers n) h k = first_differs o s s' p h k.0
one_answer o s s' ms ms' (WorldsDiffer p) (Agree n) h k = first_differs o s s' p h k.0
one_answer o s s' ms ms' (TurnsDiffer m) (WorldsDiffer q) h k = first_differs o s s' q k h.0
one_answer o s s' ms ms' (TurnsDiffer m) (TurnsDiffer n) h k = one_meeting (agenda o ms) (agenda o ms') (TurnsDiffer m) (TurnsDiffer n) h.1 k.1
one_answer o s s' ms ms' (TurnsDiffer m) (ReleaseDiffers n) h k = one_meeting (agenda o ms) (agenda o ms') (TurnsDiffer m) (ReleaseDiffers n) h.1 k.1
one_answer o s s' ms ms' (TurnsDiffer m) (Agree n) h k = one_meeting (agenda o ms) (agenda o ms') (TurnsDiffer m) (Agree n) h.1 k.1
one_answer o s s' ms ms' (ReleaseDiffers m) (WorldsDiffer q) h k = first_differs o s s' q k h.0
one_answer o s s' ms ms' (ReleaseDiffers m) (TurnsDiffer n) h k = one_meeting (agenda o ms) (agenda o ms') (ReleaseDiffers m) (TurnsDiffer n) h.1 k.1
one_answer o s s' ms ms' (ReleaseDiffers m) (ReleaseDiffers n) h k = one_meeting (agenda o ms) (agenda o ms') (ReleaseDiffers m) (ReleaseDiffers n) h.1 k.1
one_answer o s s' ms ms' (ReleaseDiffers m) (Agree n) h k = one_meeting (agenda o ms) (agenda o ms') (ReleaseDiffers m) (Agree n) h.1 k.1
one_answer o s s' ms ms' (Agree m) (WorldsDiffer q) h k = first_differs o s s' q k h.0
one_answer o s s' ms ms' (Agree m) (TurnsDiffer n) h k = one_meeting (agenda o ms) (agenda o ms') (Agree m) (TurnsDiffer n) h.1 k.1
one_answer o s s' ms ms' (Agree m) (ReleaseDiffers n) h k = one_meeting (agenda o ms) (agenda o ms') (Agree m) (ReleaseDiffers n) h.1 k.1
one_answer o s s' ms ms' (Agree m) (Agree n) h k = one_meeting (agenda o ms) (agenda o ms') (Agree m) (Agree n) h.1 k.1

-- ---- they look the same

-- both agendas go as far
differ_left : (b : Bool) (n : ℕ) (xs ys : List Item) → DifferAt b n xs ys → n ≤ length xs
differ_left b n xs ys d = let lt : n < length xs = slice_get_within xs n d.left d.left_at in omega arith

differ_right : (b : Bool) (n : ℕ) (xs ys : List Item) → DifferAt b n xs ys → n ≤ length ys
differ_right b n xs ys d = let lt : n < length ys = slice_get_within ys n d.right d.right_at in omega arith

together_left : (n : ℕ) (xs ys : List Item) → GoTogether n xs ys → n ≤ length xs
together_left n xs ys t = let whole : n ≡ min (length xs) (length ys) = t.whole in omega arith

together_right : (n : ℕ) (xs ys : List Item) → GoTogether n xs ys → n ≤ length ys
together_right n xs ys t = let whole : n ≡ min (length xs) (length ys) = t.whole in omega arith

module _ (code : CodeTree) (o : Label) (s s' : World) (turns turns' : List ℕ) (valid : IsValid s) (valid' : IsValid s') (run : IsRun code turns s) (run' : IsRun code turns' s') where
  abbrev xs : List Item
  xs = agenda o (moments code turns s)

  abbrev ys : List Item
  ys = agenda o (moments code turns' s')

  up_to : (n : ℕ) → views.Agree o s s' → n ≤ length xs → n ≤ length ys → take n xs ≡ take n ys → LookSame n o s (moments code turns s) s' (moments code turns' s')
  up_to n a le le' same = isolated code o s s' turns turns' n (valid_safe s valid) (valid_safe s' valid') a run run' le le' same

  differing : (b : Bool) (n : ℕ) → views.Agree o s s' → DifferAt b n xs ys → LookSame n o s (moments code turns s) s' (moments code turns' s')
  differing b n a d = up_to n a (differ_left b n xs ys d) (differ_right b n xs ys d) d.same

  together : (n : ℕ) → views.Agree o s s' → GoTogether n xs ys → LookSame n o s (moments code turns s) s' (moments code turns' s')
  together n a t = up_to n a (together_left n xs ys t) (together_right n xs ys t) t.same

pub look_same : (code : CodeTree) → PairsLookSame code
look_same code o s s' turns turns' (WorldsDiffer what) v v' r r' h = tt
look_same code o s s' turns turns' (TurnsDiffer n) v v' r r' h = differing code o s s' turns turns' v v' r r' true n h.0 h.1
look_same code o s s' turns turns' (ReleaseDiffers n) v v' r r' h = differing code o s s' turns turns' v v' r r' false n h.0 h.1
look_same code o s s' turns turns' (Agree n) v v' r r' h = together code o s s' turns turns' v v' r r' n h.0 h.1
