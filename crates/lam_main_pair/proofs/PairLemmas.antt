-- What is said of two runs, one part after another.
use Rattle.std.proofs.Common.{◌≡◌, ◌≤◌, ℕ, List, Option, None, Some, Result, Ok, Err, String, string_bytes, IfOk, IfErr, refl, sym, ap, subst, ◌∙◌, min, ◌+◌, ◌-◌, ◌^◌, arith}
use Rattle.std.specs.declared.alloc.Global.{Global}
use Rattle.flow_labels.specs.LabelText.{label_of}
use Rattle.flow_labels.specs.declared.Label.{Label}
use Rattle.lam_io.specs.Outside.{Files, AllStay, Rose}
use Rattle.lam_bytecode.specs.Codes.{CodeTree}
use Rattle.lam_machine_terms.specs.Worlds.{World}
use Rattle.lam_machine_terms.specs.Turns.{moments}
use Rattle.lam_machine_terms.specs.Views.{Item, agenda}
use Rattle.lam_machine_runs.specs.Stops.{NotReady, stopped_at}
use Rattle.lam_main_replay.specs.Stops.{IsStop}
use Rattle.lam_main_replay.specs.RunFault.{RunFault}
use Rattle.lam_main_replay.specs.RunFault.TheVariants.{NotReady as not_ready, NoMemory as no_memory_of_run}
use Rattle.pair_check_terms.specs.Pairs.{IsPairedBy, IsPaired}
use Rattle.pair_check_terms.specs.declared.answer.PairAnswer.{PairAnswer}
use Rattle.turn_book.specs.Reading.{turns_of}
use Rattle.world_doc_terms.specs.Start.{start_of}
use Rattle.lam_main_words.specs.Words.{Text}
use Rattle.lam_main_replay.specs.Refusals.{Plan, prints, no_turn}
use Rattle.lam_main_replay.specs.Reading.{HasFile, WithFile, Never, Compiles, IsRunCode, program_limit, world_limit, book_limit}
use Rattle.lam_main_replay.specs.Replays.{RunFiles, NoStart}
use Rattle.lam_main_replay.specs.Books.{WithStart, WithRun, ByLabel, NoTurns, WhereReady}
use Rattle.lam_main_replay.specs.Pairs.{pair_line, IsOfPair, PairsWith, PairsRuns, Pairs}
use Rattle.lam_main_replay.proofs.ReadLemmas.{same_files, file_map, thin_program_then, no_thin_program_then}
use Rattle.lam_main_replay.proofs.BookLemmas.{start_then, no_start_then, label_then, no_label_then, ready_then, run_then, no_turns_then, run_map}
use Rattle.lam_main_replay.specs.declared.halt.Halt.{Halt}
use Rattle.lam_main_replay.specs.declared.halt.Halt.TheVariants.{Refused, NoMemory, ShelfFailed}
use Rattle.lam_main_replay.specs.Halts.{refuses, Finds, Says, Gives}
use Rattle.lam_main_replay.proofs.FileLemmas.{says_map, not_found, gives_of}
use Rattle.lam_main_replay.specs.Asked.{halt_of_run}
use Rattle.lam_main_pair.specs.declared.half.Half.{Half}
use Rattle.lam_main_pair.specs.Halves.{NoRun, IsNoted, IsHalfOf, OfFirst, OfSecond, OfBoth, IsAnswered}

-- ---- one run

module _ {X : Type 0} (IsIt : X → Type 0) (turns : List ℕ) where
  stops_found : (f : RunFault) (stop : Option NotReady) → IsStop f stop → Finds {X = X} (Err (halt_of_run f)) IsIt (WhereReady (NoRun turns) stop)
  stops_found (not_ready turn thread) stop h = subst (λ (s : Option NotReady). WhereReady (NoRun turns) s (no_turn (record { turn = turn; thread = thread }))) (sym h) refl
  stops_found no_memory_of_run stop h = tt

  -- turns that are no run are refused
  pub no_run_found : (f : RunFault) (halt : Halt) (stop : Option NotReady) → IsStop f stop → halt ≡ halt_of_run f → Finds {X = X} (Err halt) IsIt (WhereReady (NoRun turns) stop)
  no_run_found f halt stop h is = subst (λ (x : Halt). Finds {X = X} (Err x) IsIt (WhereReady (NoRun turns) stop)) (sym is) (stops_found f stop h)

-- no fault of turns is one of the shelf
pub no_shelf_run : (f : RunFault) (halt : Halt) → halt ≡ halt_of_run f → halt ≡ ShelfFailed → ⊥
no_shelf_run (not_ready turn thread) halt is e = cc
no_shelf_run no_memory_of_run halt is e = cc

module _ (files : Files) (book : Text) (code : CodeTree) (o : Label) (start : World) where
  -- the turns of a book that was read
  pub half_found : (turns : List ℕ) (answer : Result Half Halt) → HasFile (files book) book_limit (λ bytes. turns_of bytes ≡ Ok turns) → Finds answer (IsNoted code o start turns) (WhereReady (NoRun turns) (stopped_at code turns start)) → Finds answer (IsHalfOf files book code o start) (WithRun files book code start NoRun)
  half_found turns (Ok half) h found = record { turns = turns; reads = h; is = found }
  half_found turns (Err (Refused refusal)) h found = run_then files book code start NoRun (refuses refusal) turns h found
  half_found turns (Err NoMemory) h found = tt
  half_found turns (Err ShelfFailed) h found = tt

  -- one that was not
  pub no_half_found : (halt : Halt) → Finds {X = List ℕ} (Err halt) (λ turns. HasFile (files book) book_limit (λ bytes. turns_of bytes ≡ Ok turns)) (WithFile (files book) book book_limit NoTurns) → Finds {X = Half} (Err halt) (IsHalfOf files book code o start) (WithRun files book code start NoRun)
  no_half_found (Refused refusal) h = no_turns_then files book code start NoRun (refuses refusal) h
  no_half_found NoMemory h = tt
  no_half_found ShelfFailed h = tt

-- where there is no run, nothing follows
pub no_run_then : (files : Files) (book : Text) (code : CodeTree) (start : World) (IsOf : List ℕ → Plan → Type 0) (p : Plan) → WithRun files book code start NoRun p → WithRun files book code start IsOf p
no_run_then files book code start IsOf p h = run_map code start NoRun IsOf p (λ turns none. absurd none) files book h

-- ---- both runs

module _ (files : Files) (book : Text) (code : CodeTree) (o : Label) (first : Half) (start : World) where
  answer_planned : (turns : List ℕ) (second : Half) (answer : PairAnswer) → first.noted ≡ agenda o (moments code turns first.start) → IsHalfOf files book code o start second → IsPairedBy o first.start second.start first.noted second.noted answer → WithRun files book code start (λ turns'. IsOfPair code o first.start turns start turns') (prints (pair_line answer))
  answer_planned turns second answer noted h paired =
      let ms = agenda o (moments code turns first.start) in
      let ms' = agenda o (moments code h.turns start) in
      let one : IsPairedBy o first.start start first.noted second.noted answer = subst (λ (w : World). IsPairedBy o first.start w first.noted second.noted answer) h.is.begins paired in
      let two : IsPairedBy o first.start start ms second.noted answer = subst (λ (xs : List Item). IsPairedBy o first.start start xs second.noted answer) noted one in
      let both : IsPairedBy o first.start start ms ms' answer = subst (λ (xs : List Item). IsPairedBy o first.start start ms xs answer) h.is.noted two in
      let IsOf : List ℕ → Plan → Type 0 = λ turns'. IsOfPair code o first.start turns start turns' in
      let plan : Plan = prints (pair_line answer) in
      run_then files book code start IsOf plan h.turns h.reads (ready_then (IsOf h.turns) plan (stopped_at code h.turns start) h.is.ready (record { answer = answer; paired = both; is = refl }))

  pub both_say : (second : Half) (answer : Result (String Global) Halt) → IsHalfOf files book code o start second → IfOk answer (IsAnswered o first second) → IfErr answer (λ halt. halt ≡ NoMemory) → OfBoth answer files book code o first start
  both_say second (Ok text) h is err turns noted = subst (λ (t : Text). WithRun files book code start (λ turns'. IsOfPair code o first.start turns start turns') (prints t)) (sym is.is) (answer_planned turns second is.answer noted h is.paired)
  both_say second (Err (Refused refusal)) h is err turns noted = absurd (let no : ⊥ = cc in no)
  both_say second (Err NoMemory) h is err turns noted = tt
  both_say second (Err ShelfFailed) h is err turns noted = tt

  pub no_half_says : (halt : Halt) → Finds {X = Half} (Err halt) (IsHalfOf files book code o start) (WithRun files book code start NoRun) → OfBoth (Err halt) files book code o first start
  no_half_says halt h turns noted =
      let IsOf : List ℕ → Plan → Type 0 = λ turns'. IsOfPair code o first.start turns start turns' in
      not_found (IsHalfOf files book code o start) (WithRun files book code start NoRun) (WithRun files book code start IsOf) (λ p k. no_run_then files book code start IsOf p k) halt h

module _ (files : Files) (second : RunFiles) (code : CodeTree) (o : Label) (first : Half) where
  abbrev OfStart : List ℕ → World → Plan → Type 0
  OfStart turns s' = WithRun files second.book code s' (λ turns'. IsOfPair code o first.start turns s' turns')

  pub second_says : (between : Files) (start : World) (answer : Result (String Global) Halt) → AllStay files between → HasFile (files second.world) world_limit (λ bytes. start_of bytes code ≡ Ok start) → OfBoth answer between second.book code o first start → OfSecond answer files second code o first
  second_says between start answer stay has h turns noted =
      says_map (WithRun between second.book code start (λ turns'. IsOfPair code o first.start turns start turns')) (PairsWith files second code o first.start turns)
      (λ p k. start_then files second.world code (OfStart turns) p start has (subst (λ (fs : Files). WithRun fs second.book code start (λ turns'. IsOfPair code o first.start turns start turns') p) (same_files files between stay) k)) answer (h turns noted)

  pub no_second_says : {X : Type 0} (IsIt : X → Type 0) (halt : Halt) → Finds {X = X} (Err halt) IsIt (WithFile (files second.world) second.world world_limit (NoStart code)) → OfSecond (Err halt) files second code o first
  no_second_says IsIt halt h turns noted =
      not_found IsIt (WithFile (files second.world) second.world world_limit (NoStart code)) (PairsWith files second code o first.start turns) (λ p k. no_start_then files second.world code (OfStart turns) p k) halt h

module _ (files : Files) (book : Text) (second : RunFiles) (code : CodeTree) (o : Label) (start : World) where
  of_noted : (first : Half) (turns : List ℕ) → IsNoted code o start turns first → first.noted ≡ agenda o (moments code turns first.start)
  of_noted first turns is = subst (λ (s : World). first.noted ≡ agenda o (moments code turns s)) (sym is.begins) is.noted

  pub first_says : (between : Files) (first : Half) (answer : Result (String Global) Halt) → AllStay files between → IsHalfOf files book code o start first → OfSecond answer between second code o first → Says answer (WithRun files book code start (PairsWith files second code o start))
  first_says between first answer stay half h =
      let IsOf : List ℕ → Plan → Type 0 = PairsWith files second code o start in
      says_map (PairsWith between second code o first.start half.turns) (WithRun files book code start IsOf)
      (λ p k. run_then files book code start IsOf p half.turns half.reads
      (ready_then (IsOf half.turns) p (stopped_at code half.turns start) half.is.ready
      (subst (λ (fs : Files). PairsWith fs second code o start half.turns p) (same_files files between stay) (subst (λ (s : World). PairsWith between second code o s half.turns p) half.is.begins k)))) answer
      (h half.turns (of_noted first half.turns half.is))

  pub no_first_says : (halt : Halt) → Finds {X = Half} (Err halt) (IsHalfOf files book code o start) (WithRun files book code start NoRun) → Says (Err halt) (WithRun files book code start (PairsWith files second code o start))
  no_first_says halt h =
      not_found (IsHalfOf files book code o start) (WithRun files book code start NoRun) (WithRun files book code start (PairsWith files second code o start)) (λ p k. no_run_then files book code start (PairsWith files second code o start) p k) halt h

module _ (files : Files) (book : Text) (second : RunFiles) (index : ℕ) (label : Text) (code : CodeTree) (start : World) (names : List Text) (same : names ≡ start.names) where
  abbrev OfLabel : Label → Plan → Type 0
  OfLabel o = WithRun files book code start (PairsWith files second code o start)

  pub label_says : (o : Label) (answer : Result (String Global) Halt) → label_of names label ≡ Ok o → Says answer (WithRun files book code start (PairsWith files second code o start)) → Says answer (OfFirst files book second index label code start)
  label_says o answer is h =
      says_map (OfLabel o) (OfFirst files book second index label code start)
      (λ p k. label_then index OfLabel p (label_of start.names label) o (sym (ap (λ (ns : List Text). label_of ns label) same) ∙ is) k) answer h

  pub no_label_says : (halt : Halt) → Finds {X = Label} (Err halt) (λ o. label_of names label ≡ Ok o) (ByLabel index Never (label_of names label)) → Says (Err halt) (OfFirst files book second index label code start)
  no_label_says halt h =
      not_found (λ o. label_of names label ≡ Ok o) (ByLabel index Never (label_of names label)) (OfFirst files book second index label code start)
      (λ p k. no_label_then index OfLabel p (label_of start.names label) (subst (λ (ns : List Text). ByLabel index Never (label_of ns label) p) same k)) halt h

module _ (files : Files) (first second : RunFiles) (index : ℕ) (label : Text) (code : CodeTree) where
  pub start_says : (between : Files) (start : World) (answer : Result (String Global) Halt) → AllStay files between → HasFile (files first.world) world_limit (λ bytes. start_of bytes code ≡ Ok start) → Says answer (OfFirst between first.book second index label code start) → Says answer (PairsRuns files first second index label code)
  start_says between start answer stay has h =
      says_map (OfFirst between first.book second index label code start) (PairsRuns files first second index label code)
      (λ p k. start_then files first.world code (OfFirst files first.book second index label code) p start has (subst (λ (fs : Files). OfFirst fs first.book second index label code start p) (same_files files between stay) k)) answer h

  pub no_start_says : {X : Type 0} (IsIt : X → Type 0) (halt : Halt) → Finds {X = X} (Err halt) IsIt (WithFile (files first.world) first.world world_limit (NoStart code)) → Says (Err halt) (PairsRuns files first second index label code)
  no_start_says IsIt halt h =
      not_found IsIt (WithFile (files first.world) first.world world_limit (NoStart code)) (PairsRuns files first second index label code) (λ p k. no_start_then files first.world code (OfFirst files first.book second index label code) p k) halt h

module _ (files : Files) (program : Text) (first second : RunFiles) (index : ℕ) (label : Text) (new : Files) where
  pub program_gives : (between : Files) (tree : CodeTree) (answer : Result (String Global) Halt) → AllStay files between → AllStay files new → HasFile (files program) program_limit (λ bytes. IsRunCode bytes tree) → Says answer (PairsRuns between first second index label tree) → Gives answer (WithFile (files program) program program_limit (Pairs files first second index label)) files new
  program_gives between tree answer stay kept has h =
      gives_of (WithFile (files program) program program_limit (Pairs files first second index label)) files new answer kept
      (says_map (PairsRuns between first second index label tree) (WithFile (files program) program program_limit (Pairs files first second index label))
      (λ p k. thin_program_then (files program) program (PairsRuns files first second index label) p tree has (subst (λ (fs : Files). PairsRuns fs first second index label tree p) (same_files files between stay) k)) answer h)

  pub no_program_gives : (halt : Halt) → AllStay files new → Finds {X = CodeTree} (Err halt) (λ tree. HasFile (files program) program_limit (λ bytes. IsRunCode bytes tree)) (WithFile (files program) program program_limit (Compiles Never)) → Gives (Err halt) (WithFile (files program) program program_limit (Pairs files first second index label)) files new
  no_program_gives halt kept h =
      gives_of (WithFile (files program) program program_limit (Pairs files first second index label)) files new (Err halt) kept
      (not_found (λ tree. HasFile (files program) program_limit (λ bytes. IsRunCode bytes tree)) (WithFile (files program) program program_limit (Compiles Never)) (WithFile (files program) program program_limit (Pairs files first second index label)) (λ p k. no_thin_program_then (files program) program (PairsRuns files first second index label) p k) halt h)
