-- What was seen and what was noted, one after another, have the lines of the run's moments.
use Rattle.std.proofs.Common.{◌≡◌, ℕ, ◌+◌, IsTrue, Bool, true, false, ◌&&◌, cond, List, [], ◌∷◌, ◌++◌, Option, Some, None, refl, sym, ap, ◌∙◌, append_assoc, append-nil}
use Rattle.std.specs.List.{flat_map}
use Rattle.std.specs.FinSet.{is_subset}
use Rattle.std.proofs.Math.Bool.{true≢false}
use Rattle.flow_labels.specs.TwoLists.{Text}
use Rattle.flow_labels.specs.declared.Denied.{Denied}
use Rattle.capabilities.specs.declared.Caps.{Caps}
use Rattle.lam_asks.specs.declared.answer.What.{What}
use Rattle.lam_asks.specs.declared.answer.What.TheVariants.{Private, Asked}
use Rattle.lam_asks.specs.declared.answer.Event.{Event}
use Rattle.audit_log_notes.specs.Turns.{Moment}
use Rattle.audit_log_notes.specs.Views.{Entry, event, release, is_release, used_by, trace}
use Rattle.audit_log_texts.specs.Lines.{head_text, line_after}
use Rattle.audit_log_notes.specs.Notes.{content_in, released, asked, shown, refusal_of, refused, noted_at, noted_from}
use Rattle.audit_log_notes.specs.declared.Content.{Content}
use Rattle.audit_log_notes.specs.declared.Seen.{Seen}
use Rattle.audit_log_notes.specs.declared.Noted.{Noted}
use Rattle.audit_log.specs.Log.{seen_line, seen_lines, released_line, entry_line, turn_text, refusal_note, note_line, noted_lines, moment_line, lines_from}
use Rattle.audit_log.specs.Laws.{ViewsAreRead, ArePublicIn, AuditsAreRead, MarksAreExact}

-- ---- what was seen

seen_lines-append : (names : List Text) (xs ys : List Seen) → seen_lines names (xs ++ ys) ≡ seen_lines names xs ++ seen_lines names ys
seen_lines-append names [] ys = refl
seen_lines-append names (x ∷ xs) ys =
    ap (λ t. seen_line names x ++ t) (seen_lines-append names xs ys)
    ∙ sym (append_assoc (seen_line names x) (seen_lines names xs) (seen_lines names ys))

asked_read : (names : List Text) (e : Event) (what : What) → e.what ≡ what → seen_lines names (asked e what) ≡ line_after names (head_text names e.thread e.label) what
asked_read names e Private is = refl
asked_read names e (Asked ask answer) is = append-nil _ ∙ ap (line_after names (head_text names e.thread e.label)) is

released_read : (names : List Text) (t : ℕ) (c : Option Content) (by : Option Caps) → seen_lines names (released t c by) ≡ released_line names t c by
released_read names t None None = refl
released_read names t None (Some by) = refl
released_read names t (Some c) None = refl
released_read names t (Some c) (Some by) = append-nil _

shown_read : (names : List Text) (x : Entry) → seen_lines names (shown x) ≡ entry_line names x
shown_read names (event e) = asked_read names e e.what refl
shown_read names (release r) = released_read names r.thread (content_in r.content) r.by

entries_read : (names : List Text) (xs : List Entry) → seen_lines names (flat_map shown xs) ≡ flat_map (entry_line names) xs
entries_read names [] = refl
entries_read names (x ∷ xs) =
    seen_lines-append names (shown x) (flat_map shown xs)
    ∙ ap (λ t. seen_lines names (shown x) ++ t) (entries_read names xs)
    ∙ ap (λ t. t ++ flat_map (entry_line names) xs) (shown_read names x)

pub views_read : ViewsAreRead
views_read names o ms = entries_read names (trace o ms)

-- ---- what was noted

noted_lines-append : (names : List Text) (public : Caps) (xs ys : List Noted) → noted_lines names public (xs ++ ys) ≡ noted_lines names public xs ++ noted_lines names public ys
noted_lines-append names public [] ys = refl
noted_lines-append names public (x ∷ xs) ys =
    ap (λ t. note_line names public x.turn x.event x.by ++ t) (noted_lines-append names public xs ys)
    ∙ sym (append_assoc (note_line names public x.turn x.event x.by) (noted_lines names public xs) (noted_lines names public ys))

refused_read : (names : List Text) (public : Caps) (k : ℕ) (e : Event) (x : Option Denied) → refusal_of e.what ≡ x → noted_lines names public (refused k e x) ≡ refusal_note names (turn_text names k e) x
refused_read names public k e None is = refl
refused_read names public k e (Some d) is = append-nil _ ∙ ap (refusal_note names (turn_text names k e)) is

-- a release, or a refusal
either_read : (names : List Text) (public : Caps) (k : ℕ) (e : Event) (by : Option Caps) (b : Bool) →
    noted_lines names public (cond b (record { turn = k; event = e; by = by } ∷ []) (refused k e (refusal_of e.what))) ≡ note_line names public k e (cond b by None)
either_read names public k e by true = append-nil _
either_read names public k e by false = refused_read names public k e (refusal_of e.what) refl

moment_read : (names : List Text) (public : Caps) (k : ℕ) (m : Moment) → m.world.public ≡ public → noted_lines names public (noted_at k m) ≡ moment_line names k m
moment_read names public k m same =
    either_read names public k m.event (used_by m.event.label m.made) (is_release m)
    ∙ ap (λ (p : Caps). note_line names p k m.event (cond (is_release m) (used_by m.event.label m.made) None)) (sym same)

moments_read : (names : List Text) (public : Caps) (k : ℕ) (ms : List Moment) → ArePublicIn public ms → noted_lines names public (noted_from k ms) ≡ lines_from names k ms
moments_read names public k [] same = refl
moments_read names public k (m ∷ ms) same =
    noted_lines-append names public (noted_at k m) (noted_from (k + 1) ms)
    ∙ ap (λ t. noted_lines names public (noted_at k m) ++ t) (moments_read names public (k + 1) ms same.1)
    ∙ ap (λ t. t ++ lines_from names (k + 1) ms) (moment_read names public k m same.0)

pub audits_read : AuditsAreRead
audits_read names public ms same = moments_read names public 0 ms same

-- ---- what is marked

both_true : (a b : Bool) → IsTrue (a && b) → IsTrue a × IsTrue b
both_true true true h = (refl, refl)
both_true true false h = absurd (true≢false (sym h))
both_true false b h = absurd (true≢false (sym h))

true_both : (a b : Bool) → IsTrue a → IsTrue b → IsTrue (a && b)
true_both true b h k = k
true_both false b h k = absurd (true≢false (sym h))

pub marks_exact : MarksAreExact
marks_exact public by = (
  λ h. let both = both_true (is_subset by.plus public.plus) (is_subset by.minus public.minus) h in record { plus = both.0; minus = both.1 },
  λ h. true_both (is_subset by.plus public.plus) (is_subset by.minus public.minus) h.plus h.minus,
)
