-- From the answer of a command to how the call ended.
use Rattle.std.proofs.Common.{◌≡◌, ℕ, [], Option, None, Result, Ok, Err, IsErr, IfErr, string_bytes, refl, sym, subst, ◌∙◌}
use Rattle.lam_machine_runs.specs.declared.How.{How}
use Rattle.lam_machine_runs.specs.declared.How.TheVariants as how
use Rattle.lam_io.specs.Outside.{Files, AllStay, Took}
use Rattle.lam_io.specs.declared.SinkFault.{SinkFault as Failure}
use Rattle.lam_main_words.specs.Words.{Text, Request}
use Rattle.lam_main_plan.specs.declared.Status.{Status}
use Rattle.lam_main_plan.specs.declared.Status.TheVariants.{NoMemory, ShelfFault, SinkFault}
use Rattle.lam_main_plan.specs.Threads.{status_of}
use Rattle.lam_main_plan.specs.Refusals.{Plan, no_word, no_world}
use Rattle.lam_main_plan.specs.Answer.{outside, IsPrinted, whole, front, AsPlanned, IsPlanned, by_plan, without_memory, without_shelf}
use Rattle.lam_main_plan.proofs.AnswerLemmas.{no_file_written}
use Rattle.lam_main_replay.specs.declared.halt.Refusal.{Refusal}
use Rattle.lam_main_replay.specs.declared.halt.Refusal.TheVariants.{Word, Script, NotUtf8, Flawed, CodeTooLong, World, Unnamed, BadText, TooBig, Book, NotReady, Absent, TooLong}
use Rattle.lam_main_replay.specs.declared.halt.Halt.{Halt}
use Rattle.lam_main_replay.specs.declared.halt.Halt.TheVariants.{Refused, NoMemory as no_memory, ShelfFailed}
use Rattle.world_doc_terms.specs.Breaks.{break_seen}
use Rattle.world_doc_terms.specs.declared.breaks.WorldBreak.{WorldBreak}
use Rattle.world_doc_terms.specs.declared.breaks.WorldBreak.TheVariants.{NotJson, NoMember, BadMember, NoTag, BadPath, PathTwice}
use Rattle.lam_main_replay.specs.declared.report.Report.{Report}
use Rattle.lam_main_replay.specs.Halts.{refuses, Reports}
use Rattle.lam_main.specs.Ends.{Ends}
use Rattle.lam_main_print.specs.Lines.{Prints, ended}

-- the statuses that no plan has
pub record IsPlain (status : Status) : Type 0 where
  pub memory : status ≡ NoMemory → ⊥
  pub shelf : status ≡ ShelfFault → ⊥
  pub sink : status ≡ SinkFault → ⊥

pub plain_end : (ended : How) → IsPlain (status_of ended)
plain_end how.Done = record { memory = λ e. cc; shelf = λ e. cc; sink = λ e. cc }
plain_end how.AllWait = record { memory = λ e. cc; shelf = λ e. cc; sink = λ e. cc }
plain_end how.Budget = record { memory = λ e. cc; shelf = λ e. cc; sink = λ e. cc }

-- a refusal has a status of its own, and writes no file
pub record IsRefusal (plan : Plan) : Type 0 where
  pub plain : IsPlain plan.status
  pub no_file : plan.writes ≡ None

breaks : (breach : WorldBreak) → IsRefusal (no_world (break_seen breach))
breaks NotJson = record { plain = record { memory = λ e. cc; shelf = λ e. cc; sink = λ e. cc }; no_file = refl }
breaks (NoMember name) = record { plain = record { memory = λ e. cc; shelf = λ e. cc; sink = λ e. cc }; no_file = refl }
breaks (BadMember name) = record { plain = record { memory = λ e. cc; shelf = λ e. cc; sink = λ e. cc }; no_file = refl }
breaks (NoTag name) = record { plain = record { memory = λ e. cc; shelf = λ e. cc; sink = λ e. cc }; no_file = refl }
breaks (BadPath index) = record { plain = record { memory = λ e. cc; shelf = λ e. cc; sink = λ e. cc }; no_file = refl }
breaks (PathTwice index) = record { plain = record { memory = λ e. cc; shelf = λ e. cc; sink = λ e. cc }; no_file = refl }

pub refusals : (refusal : Refusal) → IsRefusal (refuses refusal)
refusals (Word index) = record { plain = record { memory = λ e. cc; shelf = λ e. cc; sink = λ e. cc }; no_file = refl }
refusals (Script number) = record { plain = record { memory = λ e. cc; shelf = λ e. cc; sink = λ e. cc }; no_file = refl }
refusals NotUtf8 = record { plain = record { memory = λ e. cc; shelf = λ e. cc; sink = λ e. cc }; no_file = refl }
refusals (Flawed flaw at) = record { plain = record { memory = λ e. cc; shelf = λ e. cc; sink = λ e. cc }; no_file = refl }
refusals (CodeTooLong unit) = record { plain = record { memory = λ e. cc; shelf = λ e. cc; sink = λ e. cc }; no_file = refl }
refusals (World breach) = breaks breach
refusals (Unnamed tag) = record { plain = record { memory = λ e. cc; shelf = λ e. cc; sink = λ e. cc }; no_file = refl }
refusals (BadText item) = record { plain = record { memory = λ e. cc; shelf = λ e. cc; sink = λ e. cc }; no_file = refl }
refusals (TooBig bytes) = record { plain = record { memory = λ e. cc; shelf = λ e. cc; sink = λ e. cc }; no_file = refl }
refusals (Book flaw number) = record { plain = record { memory = λ e. cc; shelf = λ e. cc; sink = λ e. cc }; no_file = refl }
refusals (NotReady turn thread) = record { plain = record { memory = λ e. cc; shelf = λ e. cc; sink = λ e. cc }; no_file = refl }
refusals (Absent name) = record { plain = record { memory = λ e. cc; shelf = λ e. cc; sink = λ e. cc }; no_file = refl }
refusals (TooLong name) = record { plain = record { memory = λ e. cc; shelf = λ e. cc; sink = λ e. cc }; no_file = refl }

-- ---- what was printed

pub printed_of : (printed : Result Status Failure) (plan : Plan) (old new : Option Text) → Prints printed plan old new → IsPrinted (ended printed) plan.status plan.text old new
printed_of (Ok status) plan old new h = whole h.0 h.1
printed_of (Err failure) plan old new h = front refl h

no_memory_printed : (status planned : Status) (text : Text) (old new : Option Text) → IsPlain planned → IsPrinted status planned text old new → status ≡ NoMemory → ⊥
no_memory_printed status planned text old new plain (whole e t) is = plain.memory (sym e ∙ is)
no_memory_printed status planned text old new plain (front e t) is = let clash : SinkFault ≡ NoMemory = sym e ∙ is in cc

no_shelf_printed : (status planned : Status) (text : Text) (old new : Option Text) → IsPlain planned → IsPrinted status planned text old new → status ≡ ShelfFault → ⊥
no_shelf_printed status planned text old new plain (whole e t) is = plain.shelf (sym e ∙ is)
no_shelf_printed status planned text old new plain (front e t) is = let clash : SinkFault ≡ ShelfFault = sym e ∙ is in cc

-- ---- how the call ended

module _ (status : Status) (old new : Option Text) where
  pub silent_memory : (answer : Result Report Halt) → Ends status answer old new → status ≡ NoMemory → Took old new []
  silent_memory (Ok report) h is = absurd (no_memory_printed status (status_of report.how) (string_bytes report.text) old new (plain_end report.how) h is)
  silent_memory (Err (Refused refusal)) h is = absurd (no_memory_printed status (refuses refusal).status (refuses refusal).text old new (refusals refusal).plain h is)
  silent_memory (Err no_memory) h is = h.1
  silent_memory (Err ShelfFailed) h is = h.1

  pub silent_shelf : (answer : Result Report Halt) → Ends status answer old new → status ≡ ShelfFault → Took old new []
  silent_shelf (Ok report) h is = absurd (no_shelf_printed status (status_of report.how) (string_bytes report.text) old new (plain_end report.how) h is)
  silent_shelf (Err (Refused refusal)) h is = absurd (no_shelf_printed status (refuses refusal).status (refuses refusal).text old new (refusals refusal).plain h is)
  silent_shelf (Err no_memory) h is = h.1
  silent_shelf (Err ShelfFailed) h is = h.1

  -- the shelf failed only where reading said so
  pub shelf_failed_as : {P : Type 0} (answer : Result Report Halt) → Ends status answer old new → IfErr answer (λ halt. halt ≡ ShelfFailed → P) → status ≡ ShelfFault → P
  shelf_failed_as (Ok report) h f is = absurd (no_shelf_printed status (status_of report.how) (string_bytes report.text) old new (plain_end report.how) h is)
  shelf_failed_as (Err (Refused refusal)) h f is = absurd (no_shelf_printed status (refuses refusal).status (refuses refusal).text old new (refusals refusal).plain h is)
  shelf_failed_as (Err no_memory) h f is = let clash : NoMemory ≡ ShelfFault = sym h.0 ∙ is in absurd (let no : ⊥ = cc in no)
  shelf_failed_as (Err ShelfFailed) h f is = f refl

  -- and memory ran out only where reading or writing said so
  pub memory_ended_as : {P : Type 0} (answer : Result Report Halt) → Ends status answer old new → IfErr answer (λ halt. halt ≡ no_memory → P) → status ≡ NoMemory → P
  memory_ended_as (Ok report) h f is = absurd (no_memory_printed status (status_of report.how) (string_bytes report.text) old new (plain_end report.how) h is)
  memory_ended_as (Err (Refused refusal)) h f is = absurd (no_memory_printed status (refuses refusal).status (refuses refusal).text old new (refusals refusal).plain h is)
  memory_ended_as (Err no_memory) h f is = f refl
  memory_ended_as (Err ShelfFailed) h f is = let clash : ShelfFault ≡ NoMemory = sym h.0 ∙ is in absurd (let no : ⊥ = cc in no)

  module _ (IsPlan : Plan → Type 0) (before after : Files) where
    pub planned_of : (answer : Result Report Halt) → Reports answer IsPlan before after → Ends status answer old new → IsPlanned status IsPlan (outside before old) (outside after new)
    planned_of (Ok report) g h = by_plan (record { status = status_of report.how; text = string_bytes report.text; writes = g.0 }) g.1 (record { printed = h; files = g.2 })
    planned_of (Err (Refused refusal)) g h = by_plan (refuses refusal) g.0 (record { printed = h; files = no_file_written (refuses refusal).writes before after (refusals refusal).no_file g.1 })
    planned_of (Err no_memory) g h = without_memory h.0
    planned_of (Err ShelfFailed) g h = without_shelf h.0

-- ---- words that are in no form

refused_word : (status : Status) (before after : Files) (old new : Option Text) (at : ℕ) (answer : Result Report Halt) → answer ≡ Err (Refused (Word at)) → AllStay before after → Ends status answer old new → AsPlanned status (no_word at) (outside before old) (outside after new)
refused_word status before after old new at answer is stay h = record { printed = subst (λ (a : Result Report Halt). Ends status a old new) is h; files = stay }

pub words_first : (status : Status) (before after : Files) (old new : Option Text) (request : Result Request ℕ) (answer : Result Report Halt) → IfErr request (λ at. answer ≡ Err (Refused (Word at))) → (IsErr request → AllStay before after) → Ends status answer old new → IfErr request (λ at. AsPlanned status (no_word at) (outside before old) (outside after new))
words_first status before after old new (Ok r) answer first stay h = tt
words_first status before after old new (Err at) answer first stay h = refused_word status before after old new at answer first (stay refl) h
