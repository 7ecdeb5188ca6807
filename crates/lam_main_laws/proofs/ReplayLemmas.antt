-- From what files hold to what is printed.
use Rattle.std.proofs.Common.{◌≡◌, ℕ, zero, suc, ◌+◌, Bool, true, not, cond, List, [], ◌∷◌, ◌++◌, length, take, drop, Option, Some, None, Result, Ok, slice_get, refl, sym, ap, subst, ◌∙◌, append_assoc, arith}
use Rattle.std.specs.List.{flat_map}
use Rattle.std.specs.Option.{option_map}
use Rattle.std.proofs.lemmas.Option.{slice_get_past}
use Rattle.std.proofs.lemmas.Bool.{and_parts}
use Rattle.flow_labels.specs.declared.Label.{Label}
use Rattle.flow_labels.specs.Flow.{seen}
use Rattle.capabilities.specs.Changes.{used}
use Rattle.lam_io.specs.Outside.{Files}
use Rattle.lam_bytecode.specs.Codes.{CodeTree}
use Rattle.lam_machine_terms.specs.Worlds.{World}
use Rattle.lam_machine_terms.specs.Serves.{Made, made_label}
use Rattle.lam_machine_terms.specs.Turns.{Moment, moments, IsRun}
use Rattle.lam_machine_terms.specs.Views.{Entry, shows, is_release, is_past, used_by, trace}
use Rattle.lam_machine_laws.specs.Isolation.{ValidAreWellLabelled, IsIsolated, TwoAsksRelease}
use Rattle.lam_machine_runs.specs.Runs.{RunsStop}
use Rattle.audit_log.specs.Log.{entry_line, view_lines, audit_lines, lines_from, moment_line, note_line, turn_text, release_note}
use Rattle.lam_main_laws.specs.Whole.{AuditsAreWhole}
use Rattle.turn_book.specs.Reading.{turns_of}
use Rattle.lam_machine_runs.specs.Stops.{NotReady, stopped_at}
use Rattle.world_save_laws.specs.Starts.{TextsStart}
use Rattle.lam_main_words.specs.Words.{Text, Request}
use Rattle.lam_main_plan.specs.Refusals.{prints}
use Rattle.lam_main_plan.specs.Reading.{WithFile, of_file, program_limit}
use Rattle.lam_main_plan.specs.Replays.{Reader, an_observer, an_auditor, RunFiles, view_by, read_by, by_turns, by_book, IsOfBook, Starts, Runs}
use Rattle.lam_main_plan.specs.Plan.{IsPlan, IsPlanOf}
use Rattle.lam_main_plan.proofs.ReadLemmas.{thin_program_then, start_then, reader_then}
use Rattle.lam_main_laws.specs.Calls.{HoldRun, ReplaysRun, first_lines, PrintsFirst, ReplaysAreIsolated, AuditsRun, HasRelease, AuditsArePrinted}

-- ---- a run does not stop

stop_in : (turns : List ℕ) (n : ℕ) → n ≡ length turns → option_map (λ t. let stop : NotReady = record { turn = n; thread = t } in stop) (slice_get turns n) ≡ None
stop_in turns n whole =
    let none : slice_get turns n ≡ None = slice_get_past turns n (omega (arith, whole)) in
    ap (option_map (λ t. let stop : NotReady = record { turn = n; thread = t } in stop)) none

pub never_stops : (tree : CodeTree) → RunsStop tree → (turns : List ℕ) (w : World) → IsRun tree turns w → stopped_at tree turns w ≡ None
never_stops tree law turns w run = stop_in turns (length (moments tree turns w)) ((law.whole w turns).0 run)

-- ---- what is printed

module _ (files : Files) (run : RunFiles) (reader : Reader) (tree : CodeTree) (start : World) (turns : List ℕ) (shown : List Moment → Text) where
  book_read : (bytes : Text) → turns_of bytes ≡ Ok turns → stopped_at tree turns start ≡ None → IsOfBook tree start shown bytes (prints (shown (moments tree turns start)))
  book_read bytes reads whole = sym (ap (by_book tree start shown) reads ∙ ap (λ (stop : Option NotReady). by_turns stop (shown (moments tree turns start))) whole)

  run_printed : (program : Text) → RunsStop tree → read_by reader start.names ≡ Ok shown → HoldRun files program run.world run.book tree start turns → WithFile (files program) program program_limit (Runs files run reader) (prints (shown (moments tree turns start)))
  run_printed program law eyes h =
      thin_program_then (files program) program (Starts files run reader) (prints (shown (moments tree turns start))) tree h.compiled
      (start_then files run reader tree (prints (shown (moments tree turns start))) start h.starts
      (reader_then files run.book reader tree start (prints (shown (moments tree turns start))) shown eyes
      (of_file (record { bytes = h.reads.bytes; there = h.reads.there; short = h.reads.short; follows = book_read h.reads.bytes h.reads.follows (never_stops tree law turns start h.ready) }))))

-- ---- what an observer is shown

pub view_printed : (ws : List Text) (files : Files) (tree : CodeTree) (start : World) (o : Label) (turns : List ℕ) → RunsStop tree → ReplaysRun ws files tree start o turns → IsPlan ws files (prints (view_lines start.names o (moments tree turns start)))
view_printed ws files tree start o turns law r =
    subst (λ (request : Result Request ℕ). IsPlanOf request files (prints (view_lines start.names o (moments tree turns start)))) (sym r.asks)
    (run_printed files (record { world = r.world; book = r.book }) (an_observer 4 r.label) tree start turns (view_lines start.names o) r.program law (ap (view_by 4 start.names) r.observes) r.holds)

flat_split : (f : Entry → Text) (n : ℕ) (es : List Entry) → flat_map f es ≡ flat_map f (take n es) ++ flat_map f (drop n es)
flat_split f zero es = refl
flat_split f (suc n) [] = refl
flat_split f (suc n) (e ∷ es) = ap (λ (r : Text). f e ++ r) (flat_split f n es) ∙ sym (append_assoc (f e) (flat_map f (take n es)) (flat_map f (drop n es)))

begins_of : (ws : List Text) (files : Files) (tree : CodeTree) (start : World) (o : Label) (turns : List ℕ) (n : ℕ) → RunsStop tree → ReplaysRun ws files tree start o turns → PrintsFirst ws files (first_lines n o start.names (moments tree turns start))
begins_of ws files tree start o turns n law r =
    let ms = moments tree turns start in
    (flat_map (entry_line start.names) (drop n (trace o ms)), subst (λ (text : Text). IsPlan ws files (prints text)) (flat_split (entry_line start.names) n (trace o ms)) (view_printed ws files tree start o turns law r))

same_lines : (n : ℕ) (o : Label) (names names' : List Text) (ms ms' : List Moment) → names ≡ names' → take n (trace o ms) ≡ take n (trace o ms') → first_lines n o names' ms' ≡ first_lines n o names ms
same_lines n o names names' ms ms' one two = sym (ap (λ (ns : List Text). flat_map (entry_line ns) (take n (trace o ms))) one ∙ ap (flat_map (entry_line names')) two)

pub isolated : ((tree : CodeTree) (o : Label) → IsIsolated tree o) → ValidAreWellLabelled → ((tree : CodeTree) → RunsStop tree) → ((tree : CodeTree) → TextsStart tree) → (ws : List Text) (files : Files) → ReplaysAreIsolated ws files
isolated runs labelled stops starts ws files ws' files' tree o s s' turns turns' n r r' agree few few' same =
    let look = runs tree o s s' turns turns' n (labelled s (starts tree r.holds.starts.bytes s r.holds.starts.follows).valid) (labelled s' (starts tree r'.holds.starts.bytes s' r'.holds.starts.follows).valid) agree r.holds.ready r'.holds.ready few few' same in
    record {
      look = look;
      first = begins_of ws files tree s o turns n (stops tree) r;
      second = subst (PrintsFirst ws' files') (same_lines n o s.names s'.names (moments tree turns s) (moments tree turns' s') agree.names look.traces) (begins_of ws' files' tree s' o turns' n (stops tree) r');
    }

-- ---- what an auditor is shown

pub audit_printed : (ws : List Text) (files : Files) (tree : CodeTree) (start : World) (turns : List ℕ) → RunsStop tree → AuditsRun ws files tree start turns → IsPlan ws files (prints (audit_lines start.names (moments tree turns start)))
audit_printed ws files tree start turns law r =
    subst (λ (request : Result Request ℕ). IsPlanOf request files (prints (audit_lines start.names (moments tree turns start)))) (sym r.asks)
    (run_printed files (record { world = r.world; book = r.book }) an_auditor tree start turns (audit_lines start.names) r.program law refl r.holds)

-- a line stands among the lines of moments
record Stands (text line : Text) : Type 0 where
  before : Text
  after : Text
  is : text ≡ before ++ (line ++ after)

later_stands : (text line first : Text) → Stands text line → Stands (first ++ text) line
later_stands text line first h = record { before = first ++ h.before; after = h.after; is = ap (λ (t : Text). first ++ t) h.is ∙ sym (append_assoc first h.before (line ++ h.after)) }

module _ (names : List Text) where
  moment_stands : (ms : List Moment) (turn k : ℕ) (m : Moment) → slice_get ms k ≡ Some m → Stands (lines_from names turn ms) (moment_line names (turn + k) m)
  moment_stands [] turn k m is = absurd (let no : ⊥ = cc in no)
  moment_stands (first ∷ ms) turn zero m is =
      let same : first ≡ m = cc in
      let here : turn + 0 ≡ turn = omega arith in
      record { before = []; after = lines_from names (turn + 1) ms; is = ap (λ (x : Moment). moment_line names turn x ++ lines_from names (turn + 1) ms) same ∙ ap (λ (t : ℕ). moment_line names t m ++ lines_from names (turn + 1) ms) (sym here) }
  moment_stands (first ∷ ms) turn (suc k) m is =
      let next : turn + 1 + k ≡ turn + suc k = omega arith in
      later_stands (lines_from names (turn + 1) ms) (moment_line names (turn + suc k) m) (moment_line names turn first)
      (subst (λ (t : ℕ). Stands (lines_from names (turn + 1) ms) (moment_line names t m)) next (moment_stands ms (turn + 1) k m is))

  -- what is past an observer was made, by a release
  release_line : (turn : ℕ) (m : Moment) (made : Made) → m.made ≡ Some made → is_release m ≡ true → moment_line names turn m ≡ release_note names m.world.public (turn_text names turn m.event) m.event.what (used m.event.label (made_label made))
  release_line turn m made it down =
      ap (λ (b : Bool). note_line names m.world.public turn m.event (cond b (used_by m.event.label m.made) None)) down
      ∙ ap (λ (x : Option Made). note_line names m.world.public turn m.event (used_by m.event.label x)) it

  shown_made : (o : Label) (x : Option Made) → shows o x ≡ true → (made : Made) × (x ≡ Some made)
  shown_made o None h = absurd (let no : ⊥ = cc in no)
  shown_made o (Some made) h = (made, refl)

  release_stands : (ms : List Moment) (o : Label) (turn : ℕ) (m : Moment) → slice_get ms turn ≡ Some m → is_release m ≡ true → is_past o m ≡ true → HasRelease names (audit_lines names ms) turn m
  release_stands ms o turn m is down past =
      let made = shown_made o m.made (and_parts (not (seen m.event.label o)) (shows o m.made) past).1 in
      let here : 0 + turn ≡ turn = omega arith in
      let h = subst (λ (line : Text). Stands (audit_lines names ms) line) (ap (λ (t : ℕ). moment_line names t m) here ∙ release_line turn m made.0 made.1 down) (moment_stands ms 0 turn m is) in
      record { made = made.0; it = made.1; before = h.before; after = h.after; stands = h.is }

pub printed : AuditsAreWhole → ((tree : CodeTree) → TwoAsksRelease tree) → ((tree : CodeTree) → RunsStop tree) → (ws : List Text) (files : Files) → AuditsArePrinted ws files
printed whole asks stops ws files tree start turns r =
    record {
      printed = audit_printed ws files tree start turns (stops tree) r;
      whole = whole (moments tree turns start);
      past = λ o turn m is past. release_stands start.names (moments tree turns start) o turn m is ((asks tree).past o m past) past;
    }
