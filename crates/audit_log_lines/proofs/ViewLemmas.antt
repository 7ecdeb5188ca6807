-- An observer's text with the lines of one moment more.
use Rattle.std.proofs.Common.{◌≡◌, ℕ, List, [], ◌∷◌, ◌++◌, length, Option, None, String, string_bytes, refl, sym, ap, ◌∙◌, append-nil, append_assoc}
use Rattle.std.specs.declared.alloc.Global.{Global}
use Rattle.std.specs.Option.{option_to_list}
use Rattle.flow_labels.specs.TwoLists.{Text}
use Rattle.flow_labels.specs.declared.Label.{Label}
use Rattle.lam_asks.specs.declared.answer.What.TheVariants.{Private}
use Rattle.lam_asks.specs.declared.answer.Event.{Event}
use Rattle.lam_machine_terms.specs.Worlds.{World}
use Rattle.lam_machine_terms.specs.Turns.{Moment}
use Rattle.audit_log_notes.specs.declared.Seen.{Seen}
use Rattle.audit_log_notes.specs.Notes.{seen_by}
use Rattle.lam_machine_replay.specs.Told.{product_label, IsToldBy}
use Rattle.lam_machine_replay.specs.Keeping.{KeepsEvent, LeavesPrivate}
use Rattle.lam_machine_replay.specs.Viewed.{seen_of}
use Rattle.lam_machine_replay.proofs.SeenLemmas.{seen_more, nothing_seen}
use Rattle.audit_log.specs.Log.{seen_line, seen_lines, view_lines}
use Rattle.audit_log.specs.Laws.{ViewsAreRead}
use Rattle.audit_log_lines.specs.Kept.{IsView}

lines_join : (names : List Text) (xs ys : List Seen) → seen_lines names (xs ++ ys) ≡ seen_lines names xs ++ seen_lines names ys
lines_join names [] ys = refl
lines_join names (x ∷ xs) ys = ap (λ (t : List ℕ). seen_line names x ++ t) (lines_join names xs ys) ∙ sym (append_assoc (seen_line names x) (seen_lines names xs) (seen_lines names ys))

module _ (law : ViewsAreRead) (names : List Text) (o : Label) where
  view_more : (ms : List Moment) (m : Moment) → IsToldBy m (product_label m.event.what) → view_lines names o (ms ++ m ∷ []) ≡ view_lines names o ms ++ seen_lines names (option_to_list (seen_of o m.event m.world))
  view_more ms m told =
      sym (law names o (ms ++ m ∷ []))
      ∙ ap (seen_lines names) (seen_more o ms m told)
      ∙ lines_join names (seen_by o ms) (option_to_list (seen_of o m.event m.world))
      ∙ ap (λ (t : List ℕ). t ++ seen_lines names (option_to_list (seen_of o m.event m.world))) (law names o ms)

  pub view_kept : (e : Event) (after : World) (before kept : String Global) → string_bytes kept ≡ string_bytes before ++ seen_lines names (option_to_list (seen_of o e after)) → (n : ℕ) → KeepsEvent (IsView names o) n e after before kept
  view_kept e after before kept new n m of_event of_world told ms many old =
      new
      ∙ ap (λ (t : List ℕ). t ++ seen_lines names (option_to_list (seen_of o e after))) old
      ∙ ap (λ x. view_lines names o ms ++ seen_lines names (option_to_list (seen_of o x after))) (sym of_event)
      ∙ ap (λ w. view_lines names o ms ++ seen_lines names (option_to_list (seen_of o m.event w))) (sym of_world)
      ∙ sym (view_more ms m told)

  pub view_private : LeavesPrivate (IsView names o)
  view_private ms m text is told old =
      old
      ∙ sym (append-nil (view_lines names o ms))
      ∙ ap (λ (x : Option Seen). view_lines names o ms ++ seen_lines names (option_to_list x)) (sym (nothing_seen o m.event m.world is))
      ∙ sym (view_more ms m told)
