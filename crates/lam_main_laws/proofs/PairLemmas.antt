-- From what files hold to what `pair` tells.
use Rattle.std.proofs.Common.{◌≡◌, ℕ, List, Option, None, Result, Ok, subst}
use Rattle.flow_labels.specs.LabelText.{label_of}
use Rattle.flow_labels.specs.declared.Label.{Label}
use Rattle.flow_labels.specs.declared.texts.LabelFault.{LabelFault}
use Rattle.lam_io.specs.Outside.{Files}
use Rattle.lam_bytecode.specs.Codes.{CodeTree}
use Rattle.lam_machine_terms.specs.Worlds.{World}
use Rattle.lam_machine_terms.specs.Valid.{IsValid}
use Rattle.lam_machine_runs.specs.Runs.{RunsStop}
use Rattle.lam_machine_runs.specs.Stops.{NotReady, stopped_at}
use Rattle.pair_check_terms.specs.Laws.{PairsLookSame}
use Rattle.turn_book.specs.Reading.{turns_of}
use Rattle.turn_book.specs.declared.BookFault.{BookFault}
use Rattle.world_doc_terms.specs.Start.{start_of}
use Rattle.world_save_laws.specs.Starts.{TextsStart}
use Rattle.lam_main_words.specs.Words.{Text, Request, pair}
use Rattle.lam_main_plan.specs.Refusals.{Plan}
use Rattle.lam_main_plan.specs.Reading.{HasFile, IsRunCode, program_limit, world_limit, book_limit}
use Rattle.lam_main_plan.specs.Replays.{RunFiles, ByWorld}
use Rattle.lam_main_plan.specs.Books.{WithStart, WithRun, ByLabel, ByTurns, WhereReady}
use Rattle.lam_main_plan.specs.Pairs.{IsOfPair, PairsWith, PairsRuns, Pairs}
use Rattle.lam_main_plan.specs.Plan.{IsPlan, IsPlanOf}
use Rattle.lam_main_laws.specs.Calls.{HoldRun}
use Rattle.lam_main_laws.specs.Pairs.{AsksPair, PairsAreTold}
use Rattle.lam_main_laws.proofs.PlanLemmas.{of_bytes, of_code, of_world}
use Rattle.lam_main_laws.proofs.ReplayLemmas.{never_stops}

-- ---- what is planned of what is there

module _ (files : Files) (tree : CodeTree) (plan : Plan) where
  pub of_start : (world : Text) (IsOf : World → Plan → Type 0) (start : World) → HasFile (files world) world_limit (λ bytes. start_of bytes tree ≡ Ok start) → WithStart files world tree IsOf plan → IsOf start plan
  of_start world IsOf start h is =
      let Is : Text → Type 0 = λ bytes. start_of bytes tree ≡ Ok start in
      of_world IsOf (start_of h.bytes tree) start plan h.follows
      (of_bytes (files world) world world_limit Is (λ bytes. ByWorld IsOf (start_of bytes tree)) plan h is)

  of_ready : (IsOf : Plan → Type 0) (stop : Option NotReady) → stop ≡ None → WhereReady IsOf stop plan → IsOf plan
  of_ready IsOf stop none is = subst (λ (s : Option NotReady). WhereReady IsOf s plan) none is

  of_turns : (IsOf : List ℕ → Plan → Type 0) (read : Result (List ℕ) BookFault) (turns : List ℕ) → read ≡ Ok turns → ByTurns IsOf read plan → IsOf turns plan
  of_turns IsOf read turns reads is = subst (λ (r : Result (List ℕ) BookFault). ByTurns IsOf r plan) reads is

  pub of_run : (book : Text) (start : World) (IsOf : List ℕ → Plan → Type 0) (turns : List ℕ) → HasFile (files book) book_limit (λ bytes. turns_of bytes ≡ Ok turns) → stopped_at tree turns start ≡ None → WithRun files book tree start IsOf plan → IsOf turns plan
  of_run book start IsOf turns h none is =
      let Is : Text → Type 0 = λ bytes. turns_of bytes ≡ Ok turns in
      let Ready : List ℕ → Plan → Type 0 = λ ts. WhereReady (IsOf ts) (stopped_at tree ts start) in
      of_ready (IsOf turns) (stopped_at tree turns start) none
      (of_turns Ready (turns_of h.bytes) turns h.follows
      (of_bytes (files book) book book_limit Is (λ bytes. ByTurns Ready (turns_of bytes)) plan h is))

  of_label : (index : ℕ) (IsOf : Label → Plan → Type 0) (read : Result Label LabelFault) (o : Label) → read ≡ Ok o → ByLabel index IsOf read plan → IsOf o plan
  of_label index IsOf read o reads is = subst (λ (r : Result Label LabelFault). ByLabel index IsOf r plan) reads is

module _ (ws : List Text) (files : Files) (code : CodeTree) (o : Label) (s : World) (turns : List ℕ) (s' : World) (turns' : List ℕ) (plan : Plan) (law : RunsStop code) where
  runs_paired : (first second : RunFiles) (program label : Text) → HoldRun files program first.world first.book code s turns → HoldRun files program second.world second.book code s' turns' → label_of s.names label ≡ Ok o → PairsRuns files first second 6 label code plan → IsOfPair code o s turns s' turns' plan
  runs_paired first second program label one two observes is =
      let OfSecond : List ℕ → Plan → Type 0 = λ ts'. IsOfPair code o s turns s' ts' in
      let OfStart : World → Plan → Type 0 = λ w'. WithRun files second.book code w' (λ ts'. IsOfPair code o s turns w' ts') in
      let OfLabel : Label → Plan → Type 0 = λ l. WithRun files first.book code s (PairsWith files second code l s) in
      let OfFirst : World → Plan → Type 0 = λ w. ByLabel 6 (λ l. WithRun files first.book code w (PairsWith files second code l w)) (label_of w.names label) in
      of_run files code plan second.book s' OfSecond turns' two.reads (never_stops code law turns' s' two.ready)
      (of_start files code plan second.world OfStart s' two.starts
      (of_run files code plan first.book s (PairsWith files second code o s) turns one.reads (never_stops code law turns s one.ready)
      (of_label files code plan 6 OfLabel (label_of s.names label) o observes
      (of_start files code plan first.world OfFirst s one.starts is))))

  pub pair_planned : AsksPair ws files code o s turns s' turns' → IsPlan ws files plan → IsOfPair code o s turns s' turns' plan
  pair_planned a is =
      let first : RunFiles = record { world = a.first_world; book = a.first_book } in
      let second : RunFiles = record { world = a.second_world; book = a.second_book } in
      let planned : IsPlanOf (Ok (pair a.program a.first_world a.first_book a.second_world a.second_book a.label)) files plan = subst (λ (request : Result Request ℕ). IsPlanOf request files plan) a.asks is in
      runs_paired first second a.program a.label a.first a.second a.observes
      (of_code (PairsRuns files first second 6 a.label) a.first.compiled.bytes code plan a.first.compiled.follows
      (of_bytes (files a.program) a.program program_limit (λ bytes. IsRunCode bytes code) (Pairs files first second 6 a.label) plan a.first.compiled planned))

pub told : ((code : CodeTree) → PairsLookSame code) → ((code : CodeTree) → RunsStop code) → ((code : CodeTree) → TextsStart code) → (ws : List Text) (files : Files) → PairsAreTold ws files
told look stops starts ws files code o s turns s' turns' plan a is =
    let p = pair_planned ws files code o s turns s' turns' plan (stops code) a is in
    let valid : IsValid s = (starts code a.first.starts.bytes s a.first.starts.follows).valid in
    let valid' : IsValid s' = (starts code a.second.starts.bytes s' a.second.starts.follows).valid in
    record {
      answer = p.answer;
      paired = p.paired;
      printed = p.is;
      look = look code o s s' turns turns' p.answer valid valid' a.first.ready a.second.ready p.paired;
    }
