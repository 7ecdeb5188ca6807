-- From what a call did of its plan to what it tells of a run.
use Rattle.std.proofs.Common.{◌≡◌, ℕ, List, Option, Result, Ok, sym, ap, subst, ◌∙◌}
use Rattle.flow_labels.specs.LabelText.{label_of}
use Rattle.flow_labels.specs.declared.Label.{Label}
use Rattle.lam_io.specs.Outside.{Files, Took, TookFront}
use Rattle.lam_bytecode.specs.Codes.{CodeTree}
use Rattle.lam_machine_terms.specs.Worlds.{World}
use Rattle.lam_machine_terms.specs.Turns.{Moment, moments}
use Rattle.lam_machine_laws.specs.Isolation.{ValidAreWellLabelled, IsIsolated}
use Rattle.audit_log.specs.Log.{view_lines}
use Rattle.lam_machine_runs.specs.Ends.{Runs}
use Rattle.lam_machine_runs.specs.declared.How.{How}
use Rattle.world_doc_terms.specs.Start.{start_of}
use Rattle.world_save_laws.specs.Starts.{TextsStart}
use Rattle.lam_make.specs.Made.{program_text, world_text}
use Rattle.audit_log_notes.specs.Sums.{summary_lines}
use Rattle.lam_main_words.specs.Words.{Text, Request, run, request_of}
use Rattle.lam_main_plan.specs.declared.Status.{Status}
use Rattle.lam_main_plan.specs.declared.Status.TheVariants.{NoMemory, ShelfFault, SinkFault}
use Rattle.lam_main_plan.specs.Refusals.{Plan}
use Rattle.lam_main_plan.specs.Reading.{HasFile, IsRunCode, program_limit, world_limit}
use Rattle.lam_main_plan.specs.Replays.{Reader, an_observer, view_by, read_by, ByWorld}
use Rattle.lam_main_plan.specs.Threads.{status_of, shows_run, IsOfThreads, ThreadFiles, TakesTurns, StartsThreads, RunsThreads, Makes, made_budget}
use Rattle.lam_main_plan.specs.Plan.{IsPlan, IsPlanOf}
use Rattle.lam_main_plan.specs.Answer.{Outside, IsPrinted, whole, front, AsPlanned, IsPlanned, by_plan, without_memory, without_shelf}
use Rattle.lam_main_laws.specs.Headline.{AsksRun, IsRunEnd, KeepsRun, LooksAlone, Headline, BreaksOff, IsInOrder, EndsInOrder, RunsAreComplete, Generated, GeneratedRuns}
use Rattle.lam_main_laws.proofs.PlanLemmas.{of_bytes, of_code, of_world, of_reader, is_run_end, file_there, code_there, start_there, label_there}

-- ---- the plan, where words, files and label are in order

module _ (files : Files) (run_files : ThreadFiles) (budget : ℕ) (reader : Reader) (code : CodeTree) (start : World) (shown : List Moment → Text) (plan : Plan) where
  start_planned : HasFile (files run_files.world) world_limit (λ bytes. start_of bytes code ≡ Ok start) → read_by reader start.names ≡ Ok shown → StartsThreads files run_files budget reader code plan → IsOfThreads code start run_files.out budget shown plan
  start_planned h eyes is =
      let Is : Text → Type 0 = λ bytes. start_of bytes code ≡ Ok start in
      let IsOf : Text → Plan → Type 0 = λ bytes. ByWorld (TakesTurns run_files.out budget reader code) (start_of bytes code) in
      of_reader (IsOfThreads code start run_files.out budget) (read_by reader start.names) shown plan eyes
      (of_world (TakesTurns run_files.out budget reader code) (start_of h.bytes code) start plan h.follows
      (of_bytes (files run_files.world) run_files.world world_limit Is IsOf plan h is))

module _ (ws : List Text) (files : Files) (code : CodeTree) (start : World) (o : Label) (out : Text) (budget : ℕ) (plan : Plan) where
  asks_planned : AsksRun ws files code start o out budget → IsPlan ws files plan → IsOfThreads code start out budget (view_lines start.names o) plan
  asks_planned r is =
      let run_files : ThreadFiles = record { world = r.world; out = out } in
      let reader : Reader = an_observer 3 r.label in
      let Is : Text → Type 0 = λ bytes. IsRunCode bytes code in
      let planned : IsPlanOf (Ok (run r.program r.world r.label out r.workers budget)) files plan = subst (λ (request : Result Request ℕ). IsPlanOf request files plan) r.asks is in
      start_planned files run_files budget reader code start (view_lines start.names o) plan r.starts (ap (view_by 3 start.names) r.observes)
      (of_code (StartsThreads files run_files budget reader) r.compiled.bytes code plan r.compiled.follows
      (of_bytes (files r.program) r.program program_limit Is (RunsThreads files run_files budget reader) plan r.compiled planned))

  run_planned : AsksRun ws files code start o out budget → IsPlan ws files plan → IsOfThreads code start out budget (view_lines start.names o) plan × IsRunEnd plan.status
  run_planned r is =
      let p = asks_planned r is in
      (p, subst (λ (it : Plan). IsRunEnd it.status) (sym p.is) (is_run_end p.ended))

pub runs_planned : (ws : List Text) (files : Files) → RunsAreComplete ws files
runs_planned ws files code start o out budget plan r is = run_planned ws files code start o out budget plan r is

-- ---- what the call did

-- it did what some plan says
pub record Did (status : Status) (IsPlan : Plan → Type 0) (old new : Outside) : Type 0 where
  pub plan : Plan
  pub is : IsPlan plan
  pub does : AsPlanned status plan old new

pub did : (status : Status) (IsPlan : Plan → Type 0) (old new : Outside) → (status ≡ NoMemory → ⊥) → (status ≡ ShelfFault → ⊥) → IsPlanned status IsPlan old new → Did status IsPlan old new
did status IsPlan old new memory shelf (by_plan plan is does) = record { plan = plan; is = is; does = does }
did status IsPlan old new memory shelf (without_memory e) = absurd (memory e)
did status IsPlan old new memory shelf (without_shelf e) = absurd (shelf e)

ended_did : (status : Status) (IsPlan : Plan → Type 0) (old new : Outside) → IsRunEnd status → IsPlanned status IsPlan old new → Did status IsPlan old new
ended_did status IsPlan old new end planned = did status IsPlan old new (λ e. subst IsRunEnd e end) (λ e. subst IsRunEnd e end) planned

sink_or_memory : {status : Status} → status ≡ SinkFault → status ≡ NoMemory → ⊥
sink_or_memory e f = cc

sink_or_shelf : {status : Status} → status ≡ SinkFault → status ≡ ShelfFault → ⊥
sink_or_shelf e f = cc

pub broken_did : (status : Status) (IsPlan : Plan → Type 0) (old new : Outside) → status ≡ SinkFault → IsPlanned status IsPlan old new → Did status IsPlan old new
broken_did status IsPlan old new sink planned = did status IsPlan old new (sink_or_memory sink) (sink_or_shelf sink) planned

-- it printed all, and ended as planned
ended_whole : (status planned : Status) (text : Text) (old new : Option Text) → IsRunEnd status → IsPrinted status planned text old new → (status ≡ planned) × Took old new text
ended_whole status planned text old new end (whole e t) = (e, t)
ended_whole status planned text old new end (front e t) = absurd (subst IsRunEnd e end)

-- it printed a front, where a run's end was planned
pub broken_front : (status : Status) (ended : How) (text : Text) (old new : Option Text) → status ≡ SinkFault → IsPrinted status (status_of ended) text old new → TookFront old new text
broken_front status ended text old new sink (whole e t) = absurd (subst IsRunEnd (sym e ∙ sink) (is_run_end ended))
broken_front status ended text old new sink (front e t) = t

-- ---- what it tells of the run

module _ (code : CodeTree) (start : World) (out : Text) (budget : ℕ) (shown : List Moment → Text) (status : Status) (plan : Plan) (old new : Outside) where
  pub does_run : (p : IsOfThreads code start out budget shown plan) → AsPlanned status plan old new → AsPlanned status (shows_run code start out shown p.turns p.ended) old new
  does_run p does = subst (λ (it : Plan). AsPlanned status it old new) p.is does

  pub keeps_run : (p : IsOfThreads code start out budget shown plan) → AsPlanned status plan old new → KeepsRun code start out budget p.turns p.ended old.files new.files
  keeps_run p does = let d = does_run p does in record { runs = p.runs; recorded = d.files.0; others = d.files.1 }

module _ (isolated : (code : CodeTree) (o : Label) → IsIsolated code o) (labelled : ValidAreWellLabelled) (starts : (code : CodeTree) → TextsStart code) where
  alone : (ws : List Text) (files : Files) (code : CodeTree) (start : World) (o : Label) (out : Text) (budget : ℕ) (turns : List ℕ) (ended : How) → AsksRun ws files code start o out budget → Runs code start budget turns ended → LooksAlone code o start turns
  alone ws files code start o out budget turns ended r h =
      λ s others n labels ready agree few few' same.
      isolated code o start s turns others n (labelled start (starts code r.starts.bytes start r.starts.follows).valid) labels agree h.run ready few few' same

  pub recorded : (ws : List Text) (status : Status) (old new : Outside) → IsPlanned status (IsPlan ws old.files) old new → Headline ws status old new
  recorded ws status old new planned code start o out budget r end =
      let d = ended_did status (IsPlan ws old.files) old new end planned in
      let shown : List Moment → Text = view_lines start.names o in
      let p = asks_planned ws old.files code start o out budget d.plan r d.is in
      let does = does_run code start out budget shown status d.plan old new p d.does in
      let all = ended_whole status (status_of p.ended) (shown (moments code p.turns start)) old.taken new.taken end does.printed in
      record {
        turns = p.turns;
        ended = p.ended;
        keeps = keeps_run code start out budget shown status d.plan old new p d.does;
        ends = all.0;
        printed = all.1;
        alone = alone ws old.files code start o out budget p.turns p.ended r p.runs;
      }

  pub broken_off : (ws : List Text) (status : Status) (old new : Outside) → IsPlanned status (IsPlan ws old.files) old new → BreaksOff ws status old new
  broken_off ws status old new planned code start o out budget r sink =
      let d = broken_did status (IsPlan ws old.files) old new sink planned in
      let shown : List Moment → Text = view_lines start.names o in
      let p = asks_planned ws old.files code start o out budget d.plan r d.is in
      let does = does_run code start out budget shown status d.plan old new p d.does in
      record {
        turns = p.turns;
        ended = p.ended;
        keeps = keeps_run code start out budget shown status d.plan old new p d.does;
        front = broken_front status p.ended (shown (moments code p.turns start)) old.taken new.taken sink does.printed;
        alone = alone ws old.files code start o out budget p.turns p.ended r p.runs;
      }

-- ---- what was in order

-- a plan of a call that ended as a run ends is one of a run's end
plan_ends : (status : Status) (plan : Plan) (old new : Outside) → IsRunEnd status → AsPlanned status plan old new → IsRunEnd plan.status
plan_ends status plan old new end does = subst IsRunEnd (ended_whole status plan.status plan.text old.taken new.taken end does.printed).0 end

module _ (ws : List Text) (files : Files) (program world label out : Text) (workers budget : ℕ) (plan : Plan) where
  order_of : request_of ws ≡ Ok (run program world label out workers budget) → IsRunEnd plan.status → IsPlanOf (Ok (run program world label out workers budget)) files plan → IsInOrder ws files out budget
  order_of asks end is =
      let run_files : ThreadFiles = record { world = world; out = out } in
      let reader : Reader = an_observer 3 label in
      let p = file_there (files program) program program_limit (RunsThreads files run_files budget reader) plan end is in
      let c = code_there (StartsThreads files run_files budget reader) p.bytes plan end p.follows in
      let w = file_there (files world) world world_limit (λ bytes. ByWorld (TakesTurns out budget reader c.code) (start_of bytes c.code)) plan end c.follows in
      let s = start_there (TakesTurns out budget reader c.code) (start_of w.bytes c.code) plan end w.follows in
      let o = label_there (IsOfThreads c.code s.start out budget) 3 s.start.names (label_of s.start.names label) plan end s.follows in
      record {
        code = c.code;
        start = s.start;
        observer = o.0;
        asked = record {
          program = program;
          world = world;
          label = label;
          workers = workers;
          asks = asks;
          compiled = record { bytes = p.bytes; there = p.there; short = p.short; follows = c.compiled };
          starts = record { bytes = w.bytes; there = w.there; short = w.short; follows = s.starts };
          observes = o.1;
        };
      }

pub ends_in_order : (ws : List Text) (status : Status) (old new : Outside) → IsPlanned status (IsPlan ws old.files) old new → EndsInOrder ws status old
ends_in_order ws status old new planned program world label out workers budget asks end =
    let d = ended_did status (IsPlan ws old.files) old new end planned in
    order_of ws old.files program world label out workers budget d.plan asks (plan_ends status d.plan old new end d.does)
    (subst (λ (request : Result Request ℕ). IsPlanOf request old.files d.plan) asks d.is)

-- ---- the made run

module _ (seed threads : ℕ) (out : Text) (status : Status) (plan : Plan) (old new : Outside) where
  made_recorded : IsRunEnd status → AsPlanned status plan old new → Makes seed threads out plan → Generated seed threads out status old new
  made_recorded end does is =
      let shown : List Moment → Text = summary_lines seed threads in
      let OfStart : CodeTree → World → Plan → Type 0 = λ code start. IsOfThreads code start out made_budget shown in
      let last : IsRunEnd plan.status = plan_ends status plan old new end does in
      let c = code_there (λ code. ByWorld (OfStart code) (start_of (world_text seed threads) code)) program_text plan last is in
      let s = start_there (OfStart c.code) (start_of (world_text seed threads) c.code) plan last c.follows in
      let p : IsOfThreads c.code s.start out made_budget shown plan = s.follows in
      let it = does_run c.code s.start out made_budget shown status plan old new p does in
      let all = ended_whole status (status_of p.ended) (shown (moments c.code p.turns s.start)) old.taken new.taken end it.printed in
      record {
        code = c.code;
        compiled = c.compiled;
        start = s.start;
        starts = s.starts;
        turns = p.turns;
        ended = p.ended;
        keeps = keeps_run c.code s.start out made_budget shown status plan old new p does;
        ends = all.0;
        printed = all.1;
      }

pub generated : (ws : List Text) (status : Status) (old new : Outside) → IsPlanned status (IsPlan ws old.files) old new → GeneratedRuns ws status old new
generated ws status old new planned seed threads out asks end =
    let d = ended_did status (IsPlan ws old.files) old new end planned in
    made_recorded seed threads out status d.plan old new end d.does
    (subst (λ (request : Result Request ℕ). IsPlanOf request old.files d.plan) asks d.is)
