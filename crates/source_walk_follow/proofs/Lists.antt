-- What a thread did up to a place, and from there on.
use Rattle.std.proofs.Common.{◌≡◌, ℕ, ◌<◌, ◌≤◌, List, [], ◌∷◌, ◌++◌, length, take, get_or, Some, None, refl, sym, ap, ◌∙◌, subst, arith, drop_of_length-le, length-append}
use Rattle.std.proofs.Math.Seq.{take-append_seam}
use Rattle.std.proofs.lemmas.List.{append-nil, take-append-drop}
use Rattle.std.proofs.lemmas.Option.{slice_get_read, slice_get_past}
use Rattle.std.specs.Prelude.{◌≢◌, slice_get}
use Rattle.lam_asks.specs.declared.answer.What.{What}
use Rattle.lam_asks.specs.declared.answer.What.TheVariants.{Private, Asked}
use Rattle.lam_asks.specs.declared.ask.Ask.{Ask}
use Rattle.source_walk_terms.specs.Runs.{asked_in, answers_in}
use Rattle.source_walk_terms.specs.Departs.{DepartsAt}

pub asked-append : (xs ys : List What) → asked_in (xs ++ ys) ≡ asked_in xs ++ asked_in ys
asked-append [] ys = refl
asked-append (Private ∷ xs) ys = asked-append xs ys
asked-append (Asked a x ∷ xs) ys = ap (λ l. a ∷ l) (asked-append xs ys)

pub answers-append : (xs ys : List What) → answers_in (xs ++ ys) ≡ answers_in xs ++ answers_in ys
answers-append [] ys = refl
answers-append (Private ∷ xs) ys = answers-append xs ys
answers-append (Asked a x ∷ xs) ys = ap (λ l. x ∷ l) (answers-append xs ys)

get_past : {A : Type 0} (xs ys : List A) → slice_get (xs ++ ys) (length xs) ≡ slice_get ys 0
get_past [] ys = refl
get_past (x ∷ xs) ys = get_past xs ys

-- two lists that go apart behind their first part
pub departs : (front asks made : List Ask) (a : Ask) (rest : List Ask) (place : ℕ) → asks ≡ front ++ a ∷ rest → (behind : List Ask) → made ≡ front ++ behind → slice_get behind 0 ≢ Some a → place ≡ length front → DepartsAt asks made place
departs front asks made a rest place e behind h differs at =
    record {
      before = ap (λ n. take n asks) at ∙ (ap (take (length front)) e ∙ (take-append_seam front (a ∷ rest) ∙ sym (ap (λ n. take n made) at ∙ (ap (take (length front)) h ∙ take-append_seam front behind))));
      there = omega (arith, ap length e, length-append front (a ∷ rest), at);
      differs = λ same.
          differs
          (sym (get_past front behind) ∙ (ap (λ l. slice_get l (length front)) (sym h) ∙ (ap (λ n. slice_get made n) (sym at) ∙ (same ∙ (ap (λ n. slice_get asks n) at ∙ (ap (λ l. slice_get l (length front)) e ∙ get_past front (a ∷ rest)))))));
    }

pub whole_taken : {A : Type 0} (xs : List A) (i : ℕ) → length xs ≤ i → take i xs ≡ xs
whole_taken xs i h = sym (append-nil (take i xs)) ∙ (ap (λ l. take i xs ++ l) (sym (drop_of_length-le xs h)) ∙ take-append-drop i xs)

-- what a reference from a list has
pub item_there : {A : Type 0} (xs ys : List A) (i : ℕ) (x : A) → ys ≡ xs → i < length ys → x ≡ get_or ys i x → slice_get xs i ≡ Some x
item_there xs ys i x e lt is = subst (λ l. slice_get l i ≡ Some x) e (slice_get_read ys (length ys) i x refl lt is)

pub none_there : {A : Type 0} (xs ys : List A) (i : ℕ) → ys ≡ xs → length ys ≤ i → slice_get xs i ≡ None
none_there xs ys i e past = subst (λ l. slice_get l i ≡ None) e (slice_get_past ys i past)
