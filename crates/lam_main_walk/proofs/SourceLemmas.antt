-- From what was read of a program, a start and a book to what is told of a walk.
use Rattle.std.proofs.Common.{◌≡◌, inl, inr, ℕ, ◌≤◌, List, [], ◌∷◌, ◌++◌, length, Option, Some, None, Result, Ok, Err, String, string_bytes, refl, sym, ap, subst, ◌∙◌}
use Rattle.std.specs.Prelude.{Vec}
use Rattle.std.specs.declared.alloc.Global.{Global}
use Rattle.capabilities.specs.declared.Caps.{Caps}
use Rattle.lam_value.specs.declared.values.Value.{Value}
use Rattle.lam_io.specs.Outside.{Files, AllStay}
use Rattle.lam_syntax.specs.Tree.{ProgramTree}
use Rattle.lam_front.specs.Programs.{IsFine}
use Rattle.lam_resolve_tree.specs.Tree.{ResolvedTree, resolved_tree}
use Rattle.lam_resolve_laws.specs.Resolved.{resolved}
use Rattle.lam_bytecode.specs.Codes.{CodeTree}
use Rattle.thread_steps.specs.Threads.{Thread}
use Rattle.lam_machine_terms.specs.Worlds.{World, thread_at}
use Rattle.lam_machine_terms.specs.Turns.{Moment}
use Rattle.lam_machine_runs.specs.Stops.{NotReady, stopped_at}
use Rattle.lam_main_replay.specs.Stops.{IsStop}
use Rattle.lam_main_replay.specs.RunFault.{RunFault}
use Rattle.lam_main_replay.specs.RunFault.TheVariants.{NotReady as not_ready, NoMemory as no_memory_of_run}
use Rattle.lam_machine_means.specs.Runs.{Began}
use Rattle.lam_machine_means.specs.Meant.{MeansItsSource}
use Rattle.turn_book.specs.Reading.{turns_of}
use Rattle.world_doc_terms.specs.Breaks.{Reading}
use Rattle.world_doc_terms.specs.Start.{start_of}
use Rattle.lam_main_laws.specs.Documents.{RunMeans}
use Rattle.source_walk_terms.specs.declared.Walked.{Walked}
use Rattle.source_walk_terms.specs.declared.Walked.TheVariants.{Same, Departs}
use Rattle.source_walk_terms.specs.Walks.{IsEntry, StandsAtEntry, ThreadsAtEntries, IsWalked}
use Rattle.source_walk.specs.Meets.{MeantRunsAreSame}
use Rattle.lam_main_words.specs.Words.{Text}
use Rattle.lam_main_replay.specs.Refusals.{Plan, prints, no_turn}
use Rattle.lam_main_replay.specs.Reading.{HasFile, WithFile, of_file, Never, Compiles, IsRunCode, program_limit, world_limit, book_limit}
use Rattle.lam_main_replay.specs.Replays.{RunFiles, ByWorld, NoStart}
use Rattle.lam_main_replay.specs.Books.{WithRun, NoTurns, WhereReady}
use Rattle.lam_main_replay.specs.Walks.{IsSource, same_line, TellsSame, IsOfWalk, WalksRun, Walks}
use Rattle.lam_main_replay.proofs.ReadLemmas.{same_files, file_map, thin_then, no_thin_then}
use Rattle.lam_main_replay.proofs.BookLemmas.{start_then, no_start_then, run_then, no_turns_then, ready_then, run_map}
use Rattle.lam_main_replay.specs.declared.halt.Halt.{Halt}
use Rattle.lam_main_replay.specs.declared.halt.Halt.TheVariants.{Refused, NoMemory, ShelfFailed}
use Rattle.lam_main_replay.specs.Halts.{Finds, Says, Gives, IsRead}
use Rattle.lam_main_replay.proofs.FileLemmas.{says_map, not_found, gives_of}
use Rattle.lam_main_replay.specs.Asked.{IsStartOf, halt_of_run}
use Rattle.lam_main_laws.specs.Meant.{MeansEverywhere, SourcesRunAsMeant}
use Rattle.lam_main_walk.specs.declared.source.Source.{Source}
use Rattle.lam_main_walk.specs.Sources.{IsSourceOf, IsOfProgram, Tells}

-- ---- the source

pub source_found : (bytes : Text) (p : ProgramTree) (s : Source) → IsFine bytes p → IsRunCode bytes s.code → Some (resolved_tree s.program) ≡ resolved p → IsSourceOf bytes s
source_found bytes p s is run resolves = record { code = run; spells = record { program = p; fine = is; resolves = sym resolves } }

-- what is found of the bytes of a file is found of the file
pub source_in_file : (found : Option Text) (name b : Text) (bytes : Vec ℕ Global) (answer : Result Source Halt) → IsRead (Ok bytes) found name program_limit → b ≡ bytes.items → Finds {X = Source} answer (IsSourceOf b) (Compiles Never b) → Finds {X = Source} answer (λ s. HasFile found program_limit (λ bs. IsSourceOf bs s)) (WithFile found name program_limit (Compiles Never))
source_in_file found name b bytes (Ok s) read same h = record { bytes = b; there = read.0 ∙ ap Some (sym same); short = subst (λ (bs : Text). length bs ≤ program_limit) (sym same) read.1; follows = h }
source_in_file found name b bytes (Err (Refused refusal)) read same h = of_file (record { bytes = b; there = read.0 ∙ ap Some (sym same); short = subst (λ (bs : Text). length bs ≤ program_limit) (sym same) read.1; follows = h })
source_in_file found name b bytes (Err NoMemory) read same h = tt
source_in_file found name b bytes (Err ShelfFailed) read same h = tt

pub means_everywhere : SourcesRunAsMeant → (s : Source) → IsOfProgram s → MeansEverywhere (resolved_tree s.program) s.code
means_everywhere law s it = law it.0 s.code (resolved_tree s.program) it.1.code it.1.spells

pub means_from : (r : ResolvedTree) (code : CodeTree) (start : World) → MeansEverywhere r code → IsStartOf code start → (turns : List ℕ) → RunMeans r code start turns
means_from r code start means it turns = means it.0 start it.1 turns

-- ---- the threads of a start

one_thread : {a b : Thread} → ◌≡◌ {A = Option Thread} (Some a) (Some b) → a ≡ b
one_thread e = cc

none_before : (before later : List Moment) (m : Moment) → [] ≡ before ++ m ∷ later → ⊥
none_before [] later m e = cc
none_before (b ∷ before) later m e = cc

module _ (r : ResolvedTree) (code : CodeTree) (start : World) where
  at_entry : (u f : ℕ) (vs : List Value) (k : Caps) (th : Thread) → thread_at start u ≡ Some th → IsEntry r f vs → Began code start [] u f vs k → StandsAtEntry r code th
  at_entry u f vs k th there entry (inl e) = record { function = f; args = vs; caps = k; it = one_thread (sym there ∙ e); entry = entry }
  at_entry u f vs k th there entry (inr spawned) = absurd (none_before spawned.before spawned.later spawned.spawning spawned.parts)

  -- where no turn was taken each thread stands at the entry of its source
  pub at_entries : RunMeans r code start [] → ThreadsAtEntries r code start
  at_entries means u th there =
      let it : MeansItsSource r code start [] u th = means.each u th there in
      at_entry u it.function it.args it.caps th there (record { function = it.declared; found = it.found; result = it.result; sorts = it.sorts }) it.began

  -- ---- what is told

  module _ (turns : List ℕ) where
    pub none_departs : {thread ask : ℕ} → MeantRunsAreSame → RunMeans r code start turns → (answer : Walked) → IsWalked r code start turns answer → answer ≡ Departs thread ask → ⊥
    none_departs law means answer walked is = let clash = sym is ∙ law r code start turns means.each answer walked in cc

    pub same_says : (asks : ℕ) (text : String Global) → IsWalked r code start turns (Same asks) → stopped_at code turns start ≡ None → string_bytes text ≡ same_line asks → Says (Ok text) (WhereReady (TellsSame r code start turns) (stopped_at code turns start))
    same_says asks text walked whole is = ready_then (TellsSame r code start turns) (prints (string_bytes text)) (stopped_at code turns start) whole (record { asks = asks; walked = walked; is = ap prints is })

fault_says : (Is : Plan → Type 0) (f : RunFault) (stop : Option NotReady) → IsStop f stop → Says (Err (halt_of_run f)) (WhereReady Is stop)
fault_says Is (not_ready turn thread) stop h = subst (λ (s : Option NotReady). WhereReady Is s (no_turn (record { turn = turn; thread = thread }))) (sym h) refl
fault_says Is no_memory_of_run stop h = tt

-- turns that are no run are refused
pub no_run_says : (Is : Plan → Type 0) (f : RunFault) (halt : Halt) (stop : Option NotReady) → IsStop f stop → halt ≡ halt_of_run f → Says (Err halt) (WhereReady Is stop)
no_run_says Is f halt stop h is = subst (λ (x : Halt). Says (Err x) (WhereReady Is stop)) (sym is) (fault_says Is f stop h)

-- ---- one part after another

module _ (files : Files) (book : Text) (code : CodeTree) (start : World) (IsOf : List ℕ → Plan → Type 0) where
  pub turns_say : (turns : List ℕ) (answer : Result (String Global) Halt) → HasFile (files book) book_limit (λ bytes. turns_of bytes ≡ Ok turns) → Says answer (WhereReady (IsOf turns) (stopped_at code turns start)) → Says answer (WithRun files book code start IsOf)
  turns_say turns answer has h = says_map (WhereReady (IsOf turns) (stopped_at code turns start)) (WithRun files book code start IsOf) (λ p k. run_then files book code start IsOf p turns has k) answer h

  pub no_turns_say : {X : Type 0} (IsIt : X → Type 0) (halt : Halt) → Finds {X = X} (Err halt) IsIt (WithFile (files book) book book_limit NoTurns) → Says (Err halt) (WithRun files book code start IsOf)
  no_turns_say IsIt halt h = not_found IsIt (WithFile (files book) book book_limit NoTurns) (WithRun files book code start IsOf) (λ p k. no_turns_then files book code start IsOf p k) halt h

module _ (files : Files) (run : RunFiles) (s : Source) where
  abbrev OfStart : Files → World → Plan → Type 0
  OfStart fs start p = WithRun fs run.book s.code start (TellsSame (resolved_tree s.program) s.code start) p

  pub start_says : (between : Files) (start : World) (answer : Result (String Global) Halt) → AllStay files between → HasFile (files run.world) world_limit (λ bytes. start_of bytes s.code ≡ Ok start) → Says answer (OfStart between start) → Says answer (Tells files run s)
  start_says between start answer stay has h =
      says_map (OfStart between start) (Tells files run s)
      (λ p k. start_then files run.world s.code (OfStart files) p start has (subst (λ (fs : Files). OfStart fs start p) (same_files files between stay) k)) answer h

  pub no_start_says : {X : Type 0} (IsIt : X → Type 0) (halt : Halt) → Finds {X = X} (Err halt) IsIt (WithFile (files run.world) run.world world_limit (NoStart s.code)) → Says (Err halt) (Tells files run s)
  no_start_says IsIt halt h = not_found IsIt (WithFile (files run.world) run.world world_limit (NoStart s.code)) (Tells files run s) (λ p k. no_start_then files run.world s.code (OfStart files) p k) halt h

  -- ---- the program

  world_map : (A B : World → Plan → Type 0) (p : Plan) → ((start : World) → A start p → B start p) → (read : Reading World) → ByWorld A read p → ByWorld B read p
  world_map A B p f (Ok start) h = f start h
  world_map A B p f (Err breach) h = h

  tells_walk : (bytes : Text) (p : Plan) → IsSource bytes (resolved_tree s.program) → Tells files run s p → WalksRun files run bytes s.code p
  tells_walk bytes p is h =
      let r = resolved_tree s.program in
      let A : World → Plan → Type 0 = λ start q. WithRun files run.book s.code start (TellsSame r s.code start) q in
      let B : World → Plan → Type 0 = λ start q. WithRun files run.book s.code start (IsOfWalk bytes s.code start) q in
      file_map (files run.world) run.world world_limit (λ bs. ByWorld A (start_of bs s.code)) (λ bs. ByWorld B (start_of bs s.code)) p
      (λ bs. world_map A B p (λ start. run_map s.code start (TellsSame r s.code start) (IsOfWalk bytes s.code start) p (λ turns tells. record { source = r; spells = is; tells = tells }) files run.book) (start_of bs s.code)) h

module _ (files : Files) (program : Text) (run : RunFiles) (new : Files) where
  pub source_gives : (between : Files) (s : Source) (answer : Result (String Global) Halt) → AllStay files between → AllStay files new → HasFile (files program) program_limit (λ bytes. IsSourceOf bytes s) → Says answer (Tells between run s) → Gives answer (WithFile (files program) program program_limit (Walks files run)) files new
  source_gives between s answer stay kept has h =
      gives_of (WithFile (files program) program program_limit (Walks files run)) files new answer kept
      (says_map (Tells between run s) (WithFile (files program) program program_limit (Walks files run))
      (λ p k. of_file (record {
        bytes = has.bytes;
        there = has.there;
        short = has.short;
        follows = thin_then (WalksRun files run has.bytes) has.bytes p s.code has.follows.code (tells_walk files run s has.bytes p has.follows.spells (subst (λ (fs : Files). Tells fs run s p) (same_files files between stay) k));
      })) answer h)

  pub no_source_gives : {X : Type 0} (IsIt : X → Type 0) (halt : Halt) → AllStay files new → Finds {X = X} (Err halt) IsIt (WithFile (files program) program program_limit (Compiles Never)) → Gives (Err halt) (WithFile (files program) program program_limit (Walks files run)) files new
  no_source_gives IsIt halt kept h =
      gives_of (WithFile (files program) program program_limit (Walks files run)) files new (Err halt) kept
      (not_found IsIt (WithFile (files program) program program_limit (Compiles Never)) (WithFile (files program) program program_limit (Walks files run))
      (λ p k. file_map (files program) program program_limit (Compiles Never) (Walks files run) p (λ bytes. no_thin_then (WalksRun files run bytes) bytes p) k) halt h)
