-- From what was read of a run to the plan that goes on from it.
use Rattle.std.proofs.Common.{◌≡◌, ℕ, List, Option, Some, None, Result, Ok, Err, sym, subst}
use Rattle.flow_labels.specs.declared.Label.{Label}
use Rattle.flow_labels.specs.declared.texts.LabelFault.{LabelFault}
use Rattle.lam_io.specs.Outside.{Files}
use Rattle.lam_bytecode.specs.Codes.{CodeTree}
use Rattle.lam_machine_terms.specs.Worlds.{World}
use Rattle.world_doc_terms.specs.Start.{start_of}
use Rattle.turn_book.specs.Reading.{turns_of}
use Rattle.turn_book.specs.declared.BookFault.{BookFault}
use Rattle.lam_machine_runs.specs.Stops.{NotReady, stopped_at}
use Rattle.lam_main_words.specs.Words.{Text}
use Rattle.lam_main_plan.specs.Refusals.{Plan, no_turn}
use Rattle.lam_main_plan.specs.Reading.{HasFile, WithFile, of_file, Never, world_limit, book_limit}
use Rattle.lam_main_plan.specs.Replays.{ByWorld, NoStart}
use Rattle.lam_main_plan.specs.Books.{WithStart, WithRun, ByLabel, ByTurns, NoTurns, WhereReady}
use Rattle.lam_main_plan.proofs.ReadLemmas.{file_map, by_no_world, by_this_world}

module _ (files : Files) (name : Text) (tree : CodeTree) (IsOf : World → Plan → Type 0) (p : Plan) where
  pub start_then : (start : World) → HasFile (files name) world_limit (λ bytes. start_of bytes tree ≡ Ok start) → IsOf start p → WithStart files name tree IsOf p
  start_then start h k = of_file (record { bytes = h.bytes; there = h.there; short = h.short; follows = by_this_world IsOf (start_of h.bytes tree) start p h.follows k })

  pub no_start_then : WithFile (files name) name world_limit (NoStart tree) p → WithStart files name tree IsOf p
  no_start_then h = file_map (files name) name world_limit (NoStart tree) (λ bytes. ByWorld IsOf (start_of bytes tree)) p (λ bytes. by_no_world IsOf (start_of bytes tree) p) h

module _ (index : ℕ) (IsOf : Label → Plan → Type 0) (p : Plan) where
  pub label_then : (read : Result Label LabelFault) (o : Label) → read ≡ Ok o → IsOf o p → ByLabel index IsOf read p
  label_then read o is h = subst (λ (r : Result Label LabelFault). ByLabel index IsOf r p) (sym is) h

  pub no_label_then : (read : Result Label LabelFault) → ByLabel index Never read p → ByLabel index IsOf read p
  no_label_then (Ok o) h = absurd h
  no_label_then (Err fault) h = h

-- the turns are all ready, or one is not
module _ (Is : Plan → Type 0) (p : Plan) where
  pub ready_then : (stop : Option NotReady) → stop ≡ None → Is p → WhereReady Is stop p
  ready_then stop is h = subst (λ (s : Option NotReady). WhereReady Is s p) (sym is) h

  pub stop_then : (stop : Option NotReady) (at : NotReady) → stop ≡ Some at → p ≡ no_turn at → WhereReady Is stop p
  stop_then stop at is h = subst (λ (s : Option NotReady). WhereReady Is s p) (sym is) h

module _ (files : Files) (book : Text) (tree : CodeTree) (start : World) (IsOf : List ℕ → Plan → Type 0) (p : Plan) where
  abbrev OfTurns : List ℕ → Plan → Type 0
  OfTurns turns = WhereReady (IsOf turns) (stopped_at tree turns start)

  pub run_then : (turns : List ℕ) → HasFile (files book) book_limit (λ bytes. turns_of bytes ≡ Ok turns) → WhereReady (IsOf turns) (stopped_at tree turns start) p → WithRun files book tree start IsOf p
  run_then turns h k =
      of_file (record { bytes = h.bytes; there = h.there; short = h.short; follows = subst (λ (r : Result (List ℕ) BookFault). ByTurns OfTurns r p) (sym h.follows) k })

  no_turns : (read : Result (List ℕ) BookFault) → ByTurns Never read p → ByTurns OfTurns read p
  no_turns (Ok turns) h = absurd h
  no_turns (Err fault) h = h

  pub no_turns_then : WithFile (files book) book book_limit NoTurns p → WithRun files book tree start IsOf p
  no_turns_then h = file_map (files book) book book_limit NoTurns (λ bytes. ByTurns OfTurns (turns_of bytes)) p (λ bytes. no_turns (turns_of bytes)) h

-- what follows of turns that are a run may be another thing that follows of them
module _ (tree : CodeTree) (start : World) (A B : List ℕ → Plan → Type 0) (p : Plan) (f : (turns : List ℕ) → A turns p → B turns p) where
  ready_map : (turns : List ℕ) (stop : Option NotReady) → WhereReady (A turns) stop p → WhereReady (B turns) stop p
  ready_map turns None h = f turns h
  ready_map turns (Some at) h = h

  turns_map : (read : Result (List ℕ) BookFault) → ByTurns (λ turns. WhereReady (A turns) (stopped_at tree turns start)) read p → ByTurns (λ turns. WhereReady (B turns) (stopped_at tree turns start)) read p
  turns_map (Ok turns) h = ready_map turns (stopped_at tree turns start) h
  turns_map (Err fault) h = h

  pub run_map : (files : Files) (book : Text) → WithRun files book tree start A p → WithRun files book tree start B p
  run_map files book h =
      file_map (files book) book book_limit
      (λ bytes. ByTurns (λ turns. WhereReady (A turns) (stopped_at tree turns start)) (turns_of bytes))
      (λ bytes. ByTurns (λ turns. WhereReady (B turns) (stopped_at tree turns start)) (turns_of bytes)) p (λ bytes. turns_map (turns_of bytes)) h
