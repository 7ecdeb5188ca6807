-- From the answer of a command to how the call ended.
use Rattle.std.proofs.Common.{◌≡◌, ℕ, [], Option, None, Result, Ok, Err, IsErr, IfErr, string_bytes, refl, sym, subst, ◌∙◌}
use Rattle.lam_io.specs.Outside.{Files, AllStay, Took}
use Rattle.lam_io.specs.declared.SinkFault.{SinkFault as Failure}
use Rattle.closed_terms.specs.declared.End.{End}
use Rattle.closed_terms.specs.declared.End.TheVariants as ends
use Rattle.world_doc_terms.specs.Breaks.{break_seen}
use Rattle.world_doc_terms.specs.declared.breaks.WorldBreak.{WorldBreak}
use Rattle.world_doc_terms.specs.declared.breaks.WorldBreak.TheVariants.{NotJson, NoMember, BadMember, NoTag, BadPath, PathTwice}
use Rattle.lam_main_words.specs.Words.{Text}
use Rattle.lam_main_plan.specs.Refusals.{no_world}
use Rattle.lam_main_plan.specs.Answer.{OthersKept}
use Rattle.lam_main_plan.proofs.AnswerLemmas.{no_file_written}
use Rattle.lam_main_replay.specs.declared.halt.Refusal.{Refusal}
use Rattle.lam_main_replay.specs.declared.halt.Refusal.TheVariants.{Word, Script, NotUtf8, Flawed, CodeTooLong, World, Unnamed, BadText, TooBig, Book, NotReady, Absent, TooLong}
use Rattle.lam_main_replay.specs.declared.halt.Halt.{Halt}
use Rattle.lam_main_replay.specs.declared.halt.Halt.TheVariants.{Refused, NoMemory as no_memory, ShelfFailed}
use Rattle.lam_main_replay.specs.Halts.{refuses}
use Rattle.lam_closed_words.specs.Words.{Request}
use Rattle.lam_closed_plan.specs.declared.Status.{Status}
use Rattle.lam_closed_plan.specs.declared.Status.TheVariants.{NoMemory, ShelfFault, SinkFault}
use Rattle.lam_closed_plan.specs.Outcome.{Plan, status_of}
use Rattle.lam_closed_plan.specs.Plan.{plain, no_word}
use Rattle.lam_closed_plan.specs.Answer.{outside, Outside, IsPrinted, whole, front, AsPlanned, IsAnswer, by_plan, out_of_memory, shelf_failed}
use Rattle.lam_closed_rooms.specs.declared.Report.{Report}
use Rattle.lam_closed_main.specs.Ends.{Reports, Prints, ended, Ends}

-- the statuses that no plan has
pub record IsPlain (status : Status) : Type 0 where
  pub memory : status ≡ NoMemory → ⊥
  pub shelf : status ≡ ShelfFault → ⊥
  pub sink : status ≡ SinkFault → ⊥

pub plain_end : (e : End) → IsPlain (status_of e)
plain_end ends.Done = record { memory = λ e. cc; shelf = λ e. cc; sink = λ e. cc }
plain_end ends.Cut = record { memory = λ e. cc; shelf = λ e. cc; sink = λ e. cc }
plain_end ends.Waits = record { memory = λ e. cc; shelf = λ e. cc; sink = λ e. cc }
plain_end ends.Stalled = record { memory = λ e. cc; shelf = λ e. cc; sink = λ e. cc }
plain_end ends.Over = record { memory = λ e. cc; shelf = λ e. cc; sink = λ e. cc }

-- a refusal has a status of its own, and writes no file
pub record IsRefusal (plan : Plan) : Type 0 where
  pub plain : IsPlain plan.status
  pub no_file : plan.writes ≡ None

breaks : (breach : WorldBreak) → IsRefusal (plain (no_world (break_seen breach)))
breaks NotJson = record { plain = record { memory = λ e. cc; shelf = λ e. cc; sink = λ e. cc }; no_file = refl }
breaks (NoMember name) = record { plain = record { memory = λ e. cc; shelf = λ e. cc; sink = λ e. cc }; no_file = refl }
breaks (BadMember name) = record { plain = record { memory = λ e. cc; shelf = λ e. cc; sink = λ e. cc }; no_file = refl }
breaks (NoTag name) = record { plain = record { memory = λ e. cc; shelf = λ e. cc; sink = λ e. cc }; no_file = refl }
breaks (BadPath index) = record { plain = record { memory = λ e. cc; shelf = λ e. cc; sink = λ e. cc }; no_file = refl }
breaks (PathTwice index) = record { plain = record { memory = λ e. cc; shelf = λ e. cc; sink = λ e. cc }; no_file = refl }

pub refusals : (refusal : Refusal) → IsRefusal (plain (refuses refusal))
refusals (Word index) = record { plain = record { memory = λ e. cc; shelf = λ e. cc; sink = λ e. cc }; no_file = refl }
refusals (Script number) = record { plain = record { memory = λ e. cc; shelf = λ e. cc; sink = λ e. cc }; no_file = refl }
refusals NotUtf8 = record { plain = record { memory = λ e. cc; shelf = λ e. cc; sink = λ e. cc }; no_file = refl }
refusals (Flawed flaw at) = record { plain = record { memory = λ e. cc; shelf = λ e. cc; sink = λ e. cc }; no_file = refl }
refusals (CodeTooLong unit) = record { plain = record { memory = λ e. cc; shelf = λ e. cc; sink = λ e. cc }; no_file = refl }
refusals (World breach) = breaks breach
refusals (Unnamed tag) = record { plain = record { memory = λ e. cc; shelf = λ e. cc; sink = λ e. cc }; no_file = refl }
refusals (BadText item) = record { plain = record { memory = λ e. cc; shelf = λ e. cc; sink = λ e. cc }; no_file = refl }
refusals (TooBig bytes) = record { plain = record { memory = λ e. cc; shelf = λ e. cc; sink = λ e. cc }; no_file = refl }
refusals (Book flaw number) = record { plain = record { memory = λ e. cc; shelf = λ e. cc; sink = λ e. cc }; no_file = refl }
refusals (NotReady turn thread) = record { plain = record { memory = λ e. cc; shelf = λ e. cc; sink = λ e. cc }; no_file = refl }
refusals (Absent name) = record { plain = record { memory = λ e. cc; shelf = λ e. cc; sink = λ e. cc }; no_file = refl }
refusals (TooLong name) = record { plain = record { memory = λ e. cc; shelf = λ e. cc; sink = λ e. cc }; no_file = refl }

-- ---- what was printed

pub printed_of : (printed : Result Status Failure) (planned : Status) (text : Text) (old new : Option Text) → Prints printed planned text old new → IsPrinted (ended printed) planned text old new
printed_of (Ok status) planned text old new h = whole h.0 h.1
printed_of (Err failure) planned text old new h = front refl h

module _ (status planned : Status) (text : Text) (old new : Option Text) (plain : IsPlain planned) where
  no_memory_printed : IsPrinted status planned text old new → status ≡ NoMemory → ⊥
  no_memory_printed (whole e t) is = plain.memory (sym e ∙ is)
  no_memory_printed (front e t) is = let clash : SinkFault ≡ NoMemory = sym e ∙ is in cc

  no_shelf_printed : IsPrinted status planned text old new → status ≡ ShelfFault → ⊥
  no_shelf_printed (whole e t) is = plain.shelf (sym e ∙ is)
  no_shelf_printed (front e t) is = let clash : SinkFault ≡ ShelfFault = sym e ∙ is in cc

-- ---- how the call ended

module _ (status : Status) (old new : Option Text) where
  pub silent_memory : (answer : Result Report Halt) → Ends status answer old new → status ≡ NoMemory → Took old new []
  silent_memory (Ok report) h is = absurd (no_memory_printed status (status_of report.end) (string_bytes report.text) old new (plain_end report.end) h is)
  silent_memory (Err (Refused refusal)) h is = absurd (no_memory_printed status (plain (refuses refusal)).status (refuses refusal).text old new (refusals refusal).plain h is)
  silent_memory (Err no_memory) h is = h.1
  silent_memory (Err ShelfFailed) h is = h.1

  pub silent_shelf : (answer : Result Report Halt) → Ends status answer old new → status ≡ ShelfFault → Took old new []
  silent_shelf (Ok report) h is = absurd (no_shelf_printed status (status_of report.end) (string_bytes report.text) old new (plain_end report.end) h is)
  silent_shelf (Err (Refused refusal)) h is = absurd (no_shelf_printed status (plain (refuses refusal)).status (refuses refusal).text old new (refusals refusal).plain h is)
  silent_shelf (Err no_memory) h is = h.1
  silent_shelf (Err ShelfFailed) h is = h.1

  -- the shelf failed only where reading said so
  pub shelf_failed_as : {P : Type 0} (answer : Result Report Halt) → Ends status answer old new → IfErr answer (λ halt. halt ≡ ShelfFailed → P) → status ≡ ShelfFault → P
  shelf_failed_as (Ok report) h f is = absurd (no_shelf_printed status (status_of report.end) (string_bytes report.text) old new (plain_end report.end) h is)
  shelf_failed_as (Err (Refused refusal)) h f is = absurd (no_shelf_printed status (plain (refuses refusal)).status (refuses refusal).text old new (refusals refusal).plain h is)
  shelf_failed_as (Err no_memory) h f is = let clash : NoMemory ≡ ShelfFault = sym h.0 ∙ is in absurd (let no : ⊥ = cc in no)
  shelf_failed_as (Err ShelfFailed) h f is = f refl

  -- and memory ran out only where reading or writing said so
  pub memory_ended_as : {P : Type 0} (answer : Result Report Halt) → Ends status answer old new → IfErr answer (λ halt. halt ≡ no_memory → P) → status ≡ NoMemory → P
  memory_ended_as (Ok report) h f is = absurd (no_memory_printed status (status_of report.end) (string_bytes report.text) old new (plain_end report.end) h is)
  memory_ended_as (Err (Refused refusal)) h f is = absurd (no_memory_printed status (plain (refuses refusal)).status (refuses refusal).text old new (refusals refusal).plain h is)
  memory_ended_as (Err no_memory) h f is = f refl
  memory_ended_as (Err ShelfFailed) h f is = let clash : ShelfFault ≡ NoMemory = sym h.0 ∙ is in absurd (let no : ⊥ = cc in no)

  module _ (asked : Option Text) (IsPlan : Plan → Type 0) (before after : Files) (kept : OthersKept asked before after) where
    pub answer_of : (answer : Result Report Halt) → Reports answer IsPlan before after → Ends status answer old new → IsAnswer asked status IsPlan (outside before old) (outside after new)
    answer_of (Ok report) g h = by_plan (record { status = status_of report.end; text = string_bytes report.text; writes = g.0 }) g.1 (record { printed = h; files = g.2 })
    answer_of (Err (Refused refusal)) g h = by_plan (plain (refuses refusal)) g.0 (record { printed = h; files = no_file_written (refuses refusal).writes before after (refusals refusal).no_file g.1 })
    answer_of (Err no_memory) g h = out_of_memory h.0 h.1 kept
    answer_of (Err ShelfFailed) g h = shelf_failed h.0 h.1 kept

-- a call that met no fault ended as planned
planned_end : (status planned : Status) (text : Text) (old new : Option Text) → (status ≡ SinkFault → ⊥) → IsPrinted status planned text old new → status ≡ planned
planned_end status planned text old new sink (whole e t) = e
planned_end status planned text old new sink (front e t) = absurd (sink e)

pub unfailed_end : (asked : Option Text) (status : Status) (IsPlan : Plan → Type 0) (old new : Outside) (plan : Plan) → ((p : Plan) → IsPlan p → p ≡ plan) → (status ≡ NoMemory → ⊥) → (status ≡ ShelfFault → ⊥) → (status ≡ SinkFault → ⊥) → IsAnswer asked status IsPlan old new → status ≡ plan.status
unfailed_end asked status IsPlan old new plan one memory shelf sink (by_plan p is does) = planned_end status plan.status plan.text old.taken new.taken sink (subst (λ (q : Plan). AsPlanned status q old new) (one p is) does).printed
unfailed_end asked status IsPlan old new plan one memory shelf sink (out_of_memory e t k) = absurd (memory e)
unfailed_end asked status IsPlan old new plan one memory shelf sink (shelf_failed e t k) = absurd (shelf e)

-- ---- words that are in no form

refused_word : (status : Status) (before after : Files) (old new : Option Text) (at : ℕ) (answer : Result Report Halt) → answer ≡ Err (Refused (Word at)) → AllStay before after → Ends status answer old new → AsPlanned status (no_word at) (outside before old) (outside after new)
refused_word status before after old new at answer is stay h = record { printed = subst (λ (a : Result Report Halt). Ends status a old new) is h; files = stay }

pub words_first : (status : Status) (before after : Files) (old new : Option Text) (request : Result Request ℕ) (answer : Result Report Halt) → IfErr request (λ at. answer ≡ Err (Refused (Word at))) → (IsErr request → AllStay before after) → Ends status answer old new → IfErr request (λ at. AsPlanned status (no_word at) (outside before old) (outside after new))
words_first status before after old new (Ok r) answer first stay h = tt
words_first status before after old new (Err at) answer first stay h = refused_word status before after old new at answer first (stay refl) h
