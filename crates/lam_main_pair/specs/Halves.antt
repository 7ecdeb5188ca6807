-- What is found of each of two runs, and what is said of both.
use Rattle.std.specs.Prelude.{◌≡◌, ℕ, List, String, string_bytes, Result, Ok, None}
use Rattle.std.specs.declared.alloc.Global.{Global}
use Rattle.flow_labels.specs.LabelText.{label_of}
use Rattle.flow_labels.specs.declared.Label.{Label}
use Rattle.lam_io.specs.Outside.{Files}
use Rattle.lam_bytecode.specs.Codes.{CodeTree}
use Rattle.lam_machine_terms.specs.Worlds.{World}
use Rattle.lam_machine_terms.specs.Turns.{moments}
use Rattle.lam_machine_terms.specs.Views.{agenda}
use Rattle.lam_machine_runs.specs.Stops.{stopped_at}
use Rattle.turn_book.specs.Reading.{turns_of}
use Rattle.pair_check_terms.specs.Pairs.{IsPairedBy}
use Rattle.pair_check_terms.specs.declared.answer.PairAnswer.{PairAnswer}
use Rattle.lam_main_words.specs.Words.{Text}
use Rattle.lam_main_replay.specs.Refusals.{Plan}
use Rattle.lam_main_replay.specs.Reading.{HasFile, book_limit}
use Rattle.lam_main_replay.specs.Replays.{RunFiles}
use Rattle.lam_main_replay.specs.Books.{ByLabel, WithRun}
use Rattle.lam_main_replay.specs.Pairs.{pair_line, IsOfPair, PairsWith}
use Rattle.lam_main_replay.specs.declared.halt.Halt.{Halt}
use Rattle.lam_main_replay.specs.Halts.{Says}
use Rattle.lam_main_pair.specs.declared.half.Half.{Half}

-- no plan of turns: only what comes before has one
abbrev pub NoRun : List ℕ → Plan → Type 0
NoRun turns plan = ⊥

-- ---- one run

-- it has this start, and it is noted what the observer sees of these turns, which are a run from there
pub record IsNoted (code : CodeTree) (o : Label) (start : World) (turns : List ℕ) (half : Half) : Type 0 where
  pub begins : half.start ≡ start
  pub ready : stopped_at code turns start ≡ None
  pub noted : half.noted ≡ agenda o (moments code turns start)

-- the turns are those of the book in a file
pub record IsHalfOf (files : Files) (book : Text) (code : CodeTree) (o : Label) (start : World) (half : Half) : Type 0 where
  pub turns : List ℕ
  pub reads : HasFile (files book) book_limit (λ bytes. turns_of bytes ≡ Ok turns)
  pub is : IsNoted code o start turns half

-- ---- both runs

-- the plan of a start of the first run
abbrev pub OfFirst : Files → Text → RunFiles → ℕ → Text → CodeTree → World → Plan → Type 0
OfFirst files book second index label code s plan = ByLabel index (λ o. WithRun files book code s (PairsWith files second code o s)) (label_of s.names label) plan

-- an answer as it is planned of a second run, whatever the turns of the first are of which this was noted
abbrev pub OfSecond : Result (String Global) Halt → Files → RunFiles → CodeTree → Label → Half → Type 0
OfSecond answer files second code o first =
    (turns : List ℕ) → first.noted ≡ agenda o (moments code turns first.start) → Says answer (PairsWith files second code o first.start turns)

-- and of one from a start, by the book in a file
abbrev pub OfBoth : Result (String Global) Halt → Files → Text → CodeTree → Label → Half → World → Type 0
OfBoth answer files book code o first start =
    (turns : List ℕ) → first.noted ≡ agenda o (moments code turns first.start) → Says answer (WithRun files book code start (λ turns'. IsOfPair code o first.start turns start turns'))

-- the line of what is to be said of the starts and of what was noted
pub record IsAnswered (o : Label) (first second : Half) (text : String Global) : Type 0 where
  pub answer : PairAnswer
  pub paired : IsPairedBy o first.start second.start first.noted second.noted answer
  pub is : string_bytes text ≡ pair_line answer
