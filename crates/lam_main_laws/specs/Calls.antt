-- What the texts of `replay` and `audit` tell.
use Rattle.std.specs.Prelude.{◌≡◌, ℕ, ◌≤◌, true, List, ◌++◌, length, Some, Ok, slice_get, take}
use Rattle.std.specs.List.{flat_map}
use Rattle.flow_labels.specs.LabelText.{label_of}
use Rattle.flow_labels.specs.declared.Label.{Label}
use Rattle.capabilities.specs.Changes.{used}
use Rattle.lam_io.specs.Outside.{Files}
use Rattle.lam_bytecode.specs.Codes.{CodeTree}
use Rattle.lam_machine_terms.specs.Worlds.{World}
use Rattle.lam_machine_terms.specs.Serves.{Made, made_label}
use Rattle.lam_machine_terms.specs.Turns.{Moment, moments, IsRun}
use Rattle.lam_machine_terms.specs.Views.{Agree, is_past, agenda, trace}
use Rattle.lam_machine_laws.specs.Isolation.{LookSame}
use Rattle.audit_log.specs.Log.{entry_line, audit_lines, turn_text, release_note}
use Rattle.lam_main_laws.specs.Whole.{IsWhole}
use Rattle.world_doc_terms.specs.Start.{start_of}
use Rattle.turn_book.specs.Reading.{turns_of}
use Rattle.lam_main_words.specs.Words.{Text, replay, audit, request_of}
use Rattle.lam_main_plan.specs.Refusals.{prints}
use Rattle.lam_main_plan.specs.Reading.{HasFile, IsRunCode, program_limit, world_limit, book_limit}
use Rattle.lam_main_plan.specs.Plan.{IsPlan}

-- the files of these names hold this code, this start and these turns, which are a run
pub record HoldRun (files : Files) (program world book : Text) (code : CodeTree) (start : World) (turns : List ℕ) : Type 0 where
  pub compiled : HasFile (files program) program_limit (λ bytes. IsRunCode bytes code)
  pub starts : HasFile (files world) world_limit (λ bytes. start_of bytes code ≡ Ok start)
  pub reads : HasFile (files book) book_limit (λ bytes. turns_of bytes ≡ Ok turns)
  pub ready : IsRun code turns start

-- ---- what an observer is shown

-- the words ask what this observer sees of this run
pub record ReplaysRun (ws : List Text) (files : Files) (code : CodeTree) (start : World) (o : Label) (turns : List ℕ) : Type 0 where
  pub program : Text
  pub world : Text
  pub book : Text
  pub label : Text
  pub asks : request_of ws ≡ Ok (replay program world book label)
  pub holds : HoldRun files program world book code start turns
  pub observes : label_of start.names label ≡ Ok o

-- the lines of the first n entries of what an observer sees
abbrev pub first_lines : ℕ → Label → List Text → List Moment → Text
first_lines n o names ms = flat_map (entry_line names) (take n (trace o ms))

-- a call prints a text that begins so
abbrev pub PrintsFirst : List Text → Files → Text → Type 0
PrintsFirst ws files front = (rest : Text) × IsPlan ws files (prints (front ++ rest))

-- two runs look the same as far as their first n entries, and both calls print the same lines of these
pub record PrintSame (n : ℕ) (o : Label) (ws ws' : List Text) (files files' : Files) (s s' : World) (ms ms' : List Moment) : Type 0 where
  pub look : LookSame n o s ms s' ms'
  pub first : PrintsFirst ws files (first_lines n o s.names ms)
  pub second : PrintsFirst ws' files' (first_lines n o s.names ms)

-- Two calls of one code, from starts that the observer cannot tell apart, print the same as far as both runs have the
-- same agenda: the same threads at the turns that the observer sees, and the same releases past it.
abbrev pub ReplaysAreIsolated : List Text → Files → Type 0
ReplaysAreIsolated ws files =
    (ws' : List Text) (files' : Files) (code : CodeTree) (o : Label) (s s' : World) (turns turns' : List ℕ) (n : ℕ) →
    ReplaysRun ws files code s o turns → ReplaysRun ws' files' code s' o turns' → Agree o s s' →
    n ≤ length (agenda o (moments code turns s)) → n ≤ length (agenda o (moments code turns' s')) →
    take n (agenda o (moments code turns s)) ≡ take n (agenda o (moments code turns' s')) →
    PrintSame n o ws ws' files files' s s' (moments code turns s) (moments code turns' s')

-- ---- what an auditor is shown

-- the words ask for the audit of this run
pub record AuditsRun (ws : List Text) (files : Files) (code : CodeTree) (start : World) (turns : List ℕ) : Type 0 where
  pub program : Text
  pub world : Text
  pub book : Text
  pub asks : request_of ws ≡ Ok (audit program world book)
  pub holds : HoldRun files program world book code start turns

-- the line of a release, with the capabilities that it took, stands in a text; it is marked where all of them are public
-- in the moment's world
pub record HasRelease (names : List Text) (text : Text) (turn : ℕ) (m : Moment) : Type 0 where
  pub made : Made
  pub it : m.made ≡ Some made
  pub before : Text
  pub after : Text
  pub stands : text ≡ before ++ (release_note names m.world.public (turn_text names turn m.event) m.event.what (used m.event.label (made_label made)) ++ after)

-- the audit is printed; it notes all releases and refusals and nothing else, and has the line of each release past
-- any observer
pub record AuditIsPrinted (ws : List Text) (files : Files) (names : List Text) (ms : List Moment) : Type 0 where
  pub printed : IsPlan ws files (prints (audit_lines names ms))
  pub whole : IsWhole ms
  pub past : (o : Label) (turn : ℕ) (m : Moment) → slice_get ms turn ≡ Some m → is_past o m ≡ true → HasRelease names (audit_lines names ms) turn m

abbrev pub AuditsArePrinted : List Text → Files → Type 0
AuditsArePrinted ws files =
    (code : CodeTree) (start : World) (turns : List ℕ) →
    AuditsRun ws files code start turns → AuditIsPrinted ws files start.names (moments code turns start)
