-- Each release and each refusal is noted, and nothing else.
use Rattle.std.proofs.Common.{◌≡◌, ℕ, zero, suc, ◌+◌, Bool, true, false, cond, ◌⊎◌, inl, inr, List, [], ◌∷◌, Option, Some, None, refl, sym, ap, ◌∙◌, subst, arith}
use Rattle.std.specs.Prelude.{slice_get}
use Rattle.std.specs.List.{Contains}
use Rattle.std.proofs.lemmas.List.Elements.{Contains-append_left, Contains-append_right, Contains-append_cases, Contains-push, Contains-push_cases}
use Rattle.flow_labels.specs.declared.Denied.{Denied}
use Rattle.lam_bytecode.specs.Codes.{CodeTree}
use Rattle.lam_machine_terms.specs.Turns.{Moment}
use Rattle.lam_machine_terms.specs.Views.{is_release}
use Rattle.lam_machine_laws.proofs.ThreadLemmas.{some_inj}
use Rattle.lam_machine_laws.proofs.DownLemmas.{two_release}
use Rattle.audit_log_notes.specs.Notes.{refusal_of, refused, noted_at, noted_from}
use Rattle.audit_log_notes.specs.declared.Noted.{Noted}
use Rattle.lam_main_laws.specs.Whole.{release_note_of, refusal_note_of, IsNoteOf, of_release, of_refusal, AuditsAreWhole}

-- ---- lists of one

none_in : {X Y : Type 0} (x : X) → Contains [] x → Y
none_in x h = let l = h.1 in absurd (omega arith)

is_it : {X : Type 0} (y x : X) → Contains [] x ⊎ (y ≡ x) → y ≡ x
is_it y x (inl h) = none_in x h
is_it y x (inr e) = e

only_one : {X : Type 0} (y x : X) → Contains (y ∷ []) x → y ≡ x
only_one y x h = is_it y x (Contains-push_cases [] y x h)

-- ---- one moment

-- what a moment is noted as, by whether it is a release and by its refusal
abbrev noted_by : ℕ → Moment → Bool → Option Denied → List Noted
noted_by k m b x = cond b (release_note_of k m ∷ []) (refused k m.event x)

release_noted : (k : ℕ) (m : Moment) → is_release m ≡ true → Contains (noted_at k m) (release_note_of k m)
release_noted k m e = subst (λ b. Contains (noted_by k m b (refusal_of m.event.what)) (release_note_of k m)) (sym e) (Contains-push [] (release_note_of k m))

refusal_noted : (k : ℕ) (m : Moment) (d : Denied) → is_release m ≡ false → refusal_of m.event.what ≡ Some d → Contains (noted_at k m) (refusal_note_of k m)
refusal_noted k m d e r =
    subst (λ b. Contains (noted_by k m b (refusal_of m.event.what)) (refusal_note_of k m)) (sym e)
    (subst (λ x. Contains (noted_by k m false x) (refusal_note_of k m)) (sym r) (Contains-push [] (refusal_note_of k m)))

-- a note is of its turn
turn_of : (k : ℕ) (n : Noted) (note : ℕ → Noted) → ((j : ℕ) → (note j).turn ≡ j) → note k ≡ n → n ≡ note n.turn
turn_of k n note is e = subst (λ j. n ≡ note j) (sym (is k) ∙ ap (λ (x : Noted). x.turn) e) (sym e)

noted_only : (k : ℕ) (m : Moment) (n : Noted) (b : Bool) (x : Option Denied) → is_release m ≡ b → refusal_of m.event.what ≡ x → Contains (noted_by k m b x) n → (n.turn ≡ k) × IsNoteOf n m
noted_only k m n true x e r h =
    let is = only_one (release_note_of k m) n h in
    (ap (λ (y : Noted). y.turn) (sym is), of_release e (turn_of k n (λ j. release_note_of j m) (λ j. refl) is))
noted_only k m n false None e r h = none_in n h
noted_only k m n false (Some d) e r h =
    let is = only_one (refusal_note_of k m) n h in
    (ap (λ (y : Noted). y.turn) (sym is), of_refusal d e r (turn_of k n (λ j. refusal_note_of j m) (λ j. refl) is))

-- ---- all moments

-- a note of the moment at a place stands among all, the first of which is of turn k
noted_in_all : (k : ℕ) (ms : List Moment) (j turn : ℕ) (m : Moment) (n : Noted) → turn ≡ k + j → slice_get ms j ≡ Some m → Contains (noted_at turn m) n → Contains (noted_from k ms) n
noted_in_all k [] j turn m n t s h = absurd cc
noted_in_all k (x ∷ ms) zero turn m n t s h =
    Contains-append_left (noted_at k x) (noted_from (k + 1) ms) n
    (subst (λ q. Contains (noted_at q x) n) (omega (arith, t)) (subst (λ y. Contains (noted_at turn y) n) (sym (some_inj x m s)) h))
noted_in_all k (x ∷ ms) (suc j) turn m n t s h =
    Contains-append_right (noted_at k x) (noted_from (k + 1) ms) n (noted_in_all (k + 1) ms j turn m n (omega (arith, t)) s h)

record IsFrom (k : ℕ) (ms : List Moment) (n : Noted) : Type 0 where
  place : ℕ
  moment : Moment
  at : slice_get ms place ≡ Some moment
  turn : n.turn ≡ k + place
  is : IsNoteOf n moment

from_one : (k : ℕ) (x : Moment) (ms : List Moment) (n : Noted) → (n.turn ≡ k) × IsNoteOf n x → IsFrom k (x ∷ ms) n
from_one k x ms n p = let t = p.0 in record { place = 0; moment = x; at = refl; turn = omega (arith, t); is = p.1 }

from_later : (k : ℕ) (x : Moment) (ms : List Moment) (n : Noted) → IsFrom (k + 1) ms n → IsFrom k (x ∷ ms) n
from_later k x ms n f = let t = f.turn in record { place = suc f.place; moment = f.moment; at = f.at; turn = omega (arith, t); is = f.is }

all_noted : (k : ℕ) (ms : List Moment) (n : Noted) → Contains (noted_from k ms) n → IsFrom k ms n
all_noted k [] n h = none_in n h
all_noted k (x ∷ ms) n h = go (all_noted (k + 1) ms n) (Contains-append_cases (noted_at k x) (noted_from (k + 1) ms) n h)
  where
    go : (Contains (noted_from (k + 1) ms) n → IsFrom (k + 1) ms n) → Contains (noted_at k x) n ⊎ Contains (noted_from (k + 1) ms) n → IsFrom k (x ∷ ms) n
    go more (inl a) = from_one k x ms n (noted_only k x n (is_release x) (refusal_of x.event.what) refl refl a)
    go more (inr b) = from_later k x ms n (more b)

no_code : CodeTree
no_code = record { units = []; constants = []; classes = [] }

pub audits_whole : AuditsAreWhole
audits_whole ms =
    record {
      releases = λ turn m s e. noted_in_all 0 ms turn turn m (release_note_of turn m) (omega arith) s (release_noted turn m e);
      past = λ o turn m s p. noted_in_all 0 ms turn turn m (release_note_of turn m) (omega arith) s (release_noted turn m ((two_release no_code).past o m p));
      refusals = λ turn m d s e r. noted_in_all 0 ms turn turn m (refusal_note_of turn m) (omega arith) s (refusal_noted turn m d e r);
      nothing_else = λ n h.
          let f = all_noted 0 ms n h in
          let t = f.turn in
          let same : f.place ≡ n.turn = omega (arith, t) in
          (f.moment, subst (λ j. slice_get ms j ≡ Some f.moment) same f.at, f.is);
    }
