-- An auditor's text with the line of one moment more.
use Rattle.std.proofs.Common.{◌≡◌, ℕ, ◌+◌, Bool, true, false, cond, List, [], ◌∷◌, ◌++◌, length, Option, Some, None, String, string_bytes, refl, sym, ap, suc, ◌∙◌, append-nil, append_assoc, arith}
use Rattle.std.specs.Prelude.{not}
use Rattle.std.specs.declared.alloc.Global.{Global}
use Rattle.flow_labels.specs.TwoLists.{Text}
use Rattle.flow_labels.specs.declared.Label.{Label}
use Rattle.flow_labels.specs.Flow.{flows}
use Rattle.capabilities.specs.declared.Caps.{Caps}
use Rattle.capabilities.specs.Changes.{used}
use Rattle.lam_asks.specs.declared.answer.What.{What}
use Rattle.lam_asks.specs.declared.answer.What.TheVariants.{Private}
use Rattle.lam_asks.specs.declared.answer.Event.{Event}
use Rattle.lam_machine_terms.specs.Worlds.{World}
use Rattle.lam_machine_terms.specs.Turns.{Moment}
use Rattle.lam_machine_terms.specs.Views.{is_release, used_by}
use Rattle.audit_log_notes.specs.Notes.{refusal_of}
use Rattle.lam_machine_replay.specs.Told.{product_label, IsToldBy}
use Rattle.lam_machine_replay.specs.Audited.{taken_by, taken}
use Rattle.lam_machine_replay.specs.Keeping.{KeepsEvent, LeavesPrivate}
use Rattle.audit_log.specs.Log.{turn_text, refusal_note, note_line, moment_line, lines_from, audit_lines}
use Rattle.audit_log_lines.specs.Kept.{IsAudit}

-- ---- the line of one moment

either_way : (b : Bool) (by : Caps) → cond (not b) (Some by) None ≡ cond b None (Some by)
either_way true by = refl
either_way false by = refl

took : (m : Moment) (own : Option Label) → IsToldBy m own → cond (is_release m) (used_by m.event.label m.made) None ≡ taken_by m.event.label own
took m None told = ap (λ b. cond b (used_by m.event.label m.made) None) told
took m (Some own) told =
    ap (λ b. cond b (used_by m.event.label m.made) None) told.down
    ∙ ap (λ by. cond (not (flows m.event.label own)) by None) told.by
    ∙ either_way (flows m.event.label own) (used m.event.label own)

line_of : (names : List Text) (turn : ℕ) (m : Moment) → IsToldBy m (product_label m.event.what) → moment_line names turn m ≡ note_line names m.world.public turn m.event (taken m.event)
line_of names turn m told = ap (note_line names m.world.public turn m.event) (took m (product_label m.event.what) told)

-- ---- the lines of moments and of one more

first_turn : (k : ℕ) → k ≡ k + 0
first_turn k = omega arith

next_turn : (k n : ℕ) → (k + 1) + n ≡ k + suc n
next_turn k n = omega arith

lines_more : (names : List Text) (k : ℕ) (ms : List Moment) (m : Moment) → lines_from names k (ms ++ m ∷ []) ≡ lines_from names k ms ++ moment_line names (k + length ms) m
lines_more names k [] m = append-nil (moment_line names k m) ∙ ap (λ j. moment_line names j m) (first_turn k)
lines_more names k (x ∷ ms) m =
    ap (λ (t : List ℕ). moment_line names k x ++ t) (lines_more names (k + 1) ms m)
    ∙ sym (append_assoc (moment_line names k x) (lines_from names (k + 1) ms) (moment_line names ((k + 1) + length ms) m))
    ∙ ap (λ j. (moment_line names k x ++ lines_from names (k + 1) ms) ++ moment_line names j m) (next_turn k (length ms))

from_first : (k n : ℕ) → k ≡ n → 0 + k ≡ n
from_first k n e = omega (arith, e)

module _ (names : List Text) where
  audit_more : (n : ℕ) (ms : List Moment) (m : Moment) → length ms ≡ n → IsToldBy m (product_label m.event.what) → audit_lines names (ms ++ m ∷ []) ≡ audit_lines names ms ++ note_line names m.world.public n m.event (taken m.event)
  audit_more n ms m many told =
      lines_more names 0 ms m
      ∙ ap (λ j. audit_lines names ms ++ moment_line names j m) (from_first (length ms) n many)
      ∙ ap (λ (t : List ℕ). audit_lines names ms ++ t) (line_of names n m told)

  pub audit_kept : (n : ℕ) (e : Event) (after : World) (before kept : String Global) → string_bytes kept ≡ string_bytes before ++ note_line names after.public n e (taken e) → KeepsEvent (IsAudit names) n e after before kept
  audit_kept n e after before kept new m of_event of_world told ms many old =
      new
      ∙ ap (λ (t : List ℕ). t ++ note_line names after.public n e (taken e)) old
      ∙ ap (λ (x : Event). audit_lines names ms ++ note_line names after.public n x (taken x)) (sym of_event)
      ∙ ap (λ (w : World). audit_lines names ms ++ note_line names w.public n m.event (taken m.event)) (sym of_world)
      ∙ sym (audit_more n ms m many told)

  -- a private moment took nothing and was refused nothing
  no_line : (public : Caps) (turn : ℕ) (e : Event) → e.what ≡ Private → note_line names public turn e (taken e) ≡ []
  no_line public turn e is =
      ap (λ (what : What). note_line names public turn e (taken_by e.label (product_label what))) is
      ∙ ap (λ (what : What). refusal_note names (turn_text names turn e) (refusal_of what)) is

  pub audit_private : LeavesPrivate (IsAudit names)
  audit_private ms m text is told old =
      old
      ∙ sym (append-nil (audit_lines names ms))
      ∙ ap (λ (t : List ℕ). audit_lines names ms ++ t) (sym (no_line m.world.public (length ms) m.event is))
      ∙ sym (audit_more (length ms) ms m refl told)
