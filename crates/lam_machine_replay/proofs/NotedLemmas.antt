-- What is noted of one moment, by its event and its world.
use Rattle.std.proofs.Common.{◌≡◌, ℕ, suc, ◌+◌, Bool, true, false, cond, List, [], ◌∷◌, ◌++◌, length, Option, Some, None, refl, sym, ap, ◌∙◌, append-nil, append_assoc, arith}
use Rattle.std.specs.Prelude.{not}
use Rattle.std.specs.Option.{option_to_list}
use Rattle.flow_labels.specs.declared.Label.{Label}
use Rattle.flow_labels.specs.declared.Denied.{Denied}
use Rattle.flow_labels.specs.Flow.{flows}
use Rattle.capabilities.specs.declared.Caps.{Caps}
use Rattle.capabilities.specs.Changes.{used}
use Rattle.lam_asks.specs.declared.answer.What.TheVariants.{Private}
use Rattle.lam_asks.specs.declared.answer.Event.{Event}
use Rattle.lam_machine_terms.specs.Worlds.{World}
use Rattle.lam_machine_terms.specs.Turns.{Moment}
use Rattle.lam_machine_terms.specs.Views.{used_by}
use Rattle.audit_log_notes.specs.Notes.{refusal_of, refused, noted_at, noted_from, noted_in}
use Rattle.audit_log_notes.specs.declared.Noted.{Noted}
use Rattle.lam_machine_replay.specs.Told.{product_label, IsToldBy}
use Rattle.lam_machine_replay.specs.Audited.{taken_by, note, noted_of}
use Rattle.lam_machine_replay.specs.Keeping.{KeepsEvent}

refused_listed : (k : ℕ) (e : Event) (d : Option Denied) → refused k e d ≡ option_to_list (note k e None d)
refused_listed k e None = refl
refused_listed k e (Some d) = refl

-- by whether a moment is a release, and what it took
abbrev noted_as : ℕ → Moment → Bool → Option Caps → List Noted
noted_as k m b by = cond b (record { turn = k; event = m.event; by = by } ∷ []) (refused k m.event (refusal_of m.event.what))

taken_noted : (k : ℕ) (m : Moment) (by : Caps) (b : Bool) → noted_as k m (not b) (Some by) ≡ option_to_list (note k m.event (cond b None (Some by)) (refusal_of m.event.what))
taken_noted k m by true = refused_listed k m.event (refusal_of m.event.what)
taken_noted k m by false = refl

told_noted : (k : ℕ) (m : Moment) (x : Option Label) → IsToldBy m x → noted_at k m ≡ option_to_list (note k m.event (taken_by m.event.label x) (refusal_of m.event.what))
told_noted k m None is =
    ap (λ b. noted_as k m b (used_by m.event.label m.made)) is ∙ refused_listed k m.event (refusal_of m.event.what)
told_noted k m (Some own) is =
    ap (λ b. noted_as k m b (used_by m.event.label m.made)) is.down
    ∙ ap (λ by. noted_as k m (not (flows m.event.label own)) by) is.by
    ∙ taken_noted k m (used m.event.label own) (flows m.event.label own)

noted_one : (k : ℕ) (m : Moment) → IsToldBy m (product_label m.event.what) → noted_at k m ≡ option_to_list (noted_of k m.event)
noted_one k m is = told_noted k m (product_label m.event.what) is

-- with one moment more, what is noted of it is put behind; its turn is as many as there were before
first_turn : (k : ℕ) → k + 0 ≡ k
first_turn k = omega arith

noted_more : (k : ℕ) (ms : List Moment) (m : Moment) → noted_from k (ms ++ m ∷ []) ≡ noted_from k ms ++ noted_at (k + length ms) m
noted_more k [] m = append-nil (noted_at k m) ∙ ap (λ j. noted_at j m) (sym (first_turn k))
noted_more k (x ∷ ms) m =
    ap (λ ns. noted_at k x ++ ns) (noted_more (k + 1) ms m)
    ∙ sym (append_assoc (noted_at k x) (noted_from (k + 1) ms) (noted_at ((k + 1) + length ms) m))
    ∙ ap (λ j. (noted_at k x ++ noted_from (k + 1) ms) ++ noted_at j m) (later k (length ms))
  where
    later : (j n : ℕ) → (j + 1) + n ≡ j + suc n
    later j n = omega arith

noted_next : (n : ℕ) (ms : List Moment) (m : Moment) → length ms ≡ n → IsToldBy m (product_label m.event.what) → noted_in (ms ++ m ∷ []) ≡ noted_in ms ++ option_to_list (noted_of n m.event)
noted_next n ms m many is =
    noted_more 0 ms m
    ∙ ap (λ j. noted_in ms ++ noted_at j m) (from_first (length ms) n many)
    ∙ ap (λ ns. noted_in ms ++ ns) (noted_one n m is)
  where
    from_first : (k n : ℕ) → k ≡ n → 0 + k ≡ n
    from_first k n e = omega (arith, e)

pub noted_kept : (n : ℕ) (e : Event) (after : World) (before kept : List Noted) → kept ≡ before ++ option_to_list (noted_of n e) → KeepsEvent (λ ms all. all ≡ noted_in ms) n e after before kept
noted_kept n e after before kept new m of_event of_world is ms many old =
    new
    ∙ ap (λ ns. ns ++ option_to_list (noted_of n e)) old
    ∙ ap (λ x. noted_in ms ++ option_to_list (noted_of n x)) (sym of_event)
    ∙ sym (noted_next n ms m many is)

nothing_noted : (n : ℕ) (e : Event) → e.what ≡ Private → noted_of n e ≡ None
nothing_noted n e is = ap (λ what. note n e (taken_by e.label (product_label what)) (refusal_of what)) is

-- of a private moment nothing is noted
pub private_unnoted : (ms : List Moment) (m : Moment) (all : List Noted) → m.event.what ≡ Private → IsToldBy m (product_label m.event.what) → all ≡ noted_in ms → all ≡ noted_in (ms ++ m ∷ [])
private_unnoted ms m all is told old =
    old
    ∙ sym (append-nil (noted_in ms))
    ∙ ap (λ x. noted_in ms ++ option_to_list x) (sym (nothing_noted (length ms) m.event is))
    ∙ sym (noted_next (length ms) ms m refl told)
