-- What is counted, with one moment more.
use Rattle.std.proofs.Common.{◌≡◌, ℕ, ◌+◌, ◌<◌, Bool, true, false, cond, List, [], ◌∷◌, ◌++◌, length, Option, Some, None, sym, ap, ◌∙◌, subst, arith}
use Rattle.std.specs.List.{count_by}
use Rattle.std.proofs.lemmas.List.Sums.{sum_by-append, count_by-le-length}
use Rattle.flow_labels.specs.declared.Label.{Label}
use Rattle.lam_asks.specs.declared.answer.What.TheVariants.{Private}
use Rattle.lam_asks.specs.declared.answer.Event.{Event}
use Rattle.lam_machine_terms.specs.Worlds.{World}
use Rattle.lam_machine_terms.specs.Turns.{Moment}
use Rattle.lam_machine_terms.specs.Views.{is_release}
use Rattle.lam_machine_replay.specs.Told.{product_label, IsToldBy}
use Rattle.audit_log_notes.specs.declared.Sums.{Sums}
use Rattle.audit_log_notes.specs.Sums.{is_said, is_refused, said, releases, refused, sums}
use Rattle.lam_machine_replay.specs.Counted.{goes_below, tells_release, counted, with_turn, AreBelow}
use Rattle.lam_machine_replay.specs.Keeping.{KeptOfSoMany, KeepsEvent}

one_more : (n : ℕ) (so : Bool) → n + (0 + cond so 1 0) ≡ counted n so
one_more n true = omega arith
one_more n false = omega arith

count_more : {X : Type 0} (p : X → Bool) (xs : List X) (x : X) → count_by p (xs ++ x ∷ []) ≡ counted (count_by p xs) (p x)
count_more p xs x = sum_by-append (λ y. cond (p y) 1 0) xs (x ∷ []) ∙ one_more (count_by p xs) (p x)

-- a moment is a release exactly where its event tells of one
told_below : (m : Moment) (own : Option Label) → IsToldBy m own → is_release m ≡ goes_below m.event.label own
told_below m None told = told
told_below m (Some own) told = told.down

release_told : (m : Moment) → IsToldBy m (product_label m.event.what) → is_release m ≡ tells_release m.event
release_told m told = told_below m (product_label m.event.what) told

-- the sums of moments and of one more
sums_more : (ms : List Moment) (m : Moment) → IsToldBy m (product_label m.event.what) → sums (ms ++ m ∷ []) ≡ with_turn (sums ms) m.event
sums_more ms m told =
    let s : said (ms ++ m ∷ []) ≡ counted (said ms) (is_said m.event.what) = count_more (λ (x : Moment). is_said x.event.what) ms m in
    let r : releases (ms ++ m ∷ []) ≡ counted (releases ms) (tells_release m.event) = count_more is_release ms m ∙ ap (counted (releases ms)) (release_told m told) in
    let f : refused (ms ++ m ∷ []) ≡ counted (refused ms) (is_refused m.event.what) = count_more (λ (x : Moment). is_refused x.event.what) ms m in
    λ i. record { said = s i; releases = r i; refused = f i }

pub sums_kept : (n : ℕ) (e : Event) (after : World) (before kept : Sums) → kept ≡ with_turn before e → KeepsEvent (λ ms s. s ≡ sums ms) n e after before kept
sums_kept n e after before kept new m of_event of_world is ms many old =
    new
    ∙ ap (λ (s : Sums). with_turn s e) old
    ∙ ap (with_turn (sums ms)) (sym of_event)
    ∙ sym (sums_more ms m is)

-- a private moment counts for nothing
uncounted : (s : Sums) (e : Event) → e.what ≡ Private → with_turn s e ≡ s
uncounted s e is = λ i. record { said = counted s.said (is_said (is i)); releases = counted s.releases (goes_below e.label (product_label (is i))); refused = counted s.refused (is_refused (is i)) }

pub private_uncounted : (ms : List Moment) (m : Moment) (s : Sums) → m.event.what ≡ Private → IsToldBy m (product_label m.event.what) → s ≡ sums ms → s ≡ sums (ms ++ m ∷ [])
private_uncounted ms m s is told old = old ∙ sym (uncounted (sums ms) m.event is) ∙ sym (sums_more ms m told)

-- nothing is counted more often than there are moments
below : (ms : List Moment) (n most : ℕ) → length ms ≡ n → n < most → AreBelow (sums ms) most
below ms n most many less =
    let a = count_by-le-length (λ (m : Moment). is_said m.event.what) ms in
    let b = count_by-le-length is_release ms in
    let c = count_by-le-length (λ (m : Moment). is_refused m.event.what) ms in
    record { said = omega (arith, a, many); releases = omega (arith, b, many); refused = omega (arith, c, many) }

pub room : (n most : ℕ) (s : Sums) → n < most → KeptOfSoMany (λ ms x. x ≡ sums ms) n s → AreBelow s most
room n most s less h = subst (λ (x : Sums). AreBelow x most) (sym h.2) (below h.0 n most h.1 less)
