-- The code that is run of a program, and its source.
use Rattle.lam_io.specs.Outside.{Files}
use Rattle.lam_resolve_tree.specs.Tree.{resolved_tree}
use Rattle.lam_resolve_tree.specs.Limits.{WithinLimits}
use Rattle.lam_bytecode.specs.Codes.{IsCode}
use Rattle.lam_main_words.specs.Words.{Text}
use Rattle.lam_main_replay.specs.Refusals.{Plan}
use Rattle.lam_main_replay.specs.Reading.{IsRunCode}
use Rattle.lam_main_replay.specs.Replays.{RunFiles}
use Rattle.lam_main_replay.specs.Books.{WithStart, WithRun}
use Rattle.lam_main_replay.specs.Walks.{IsSource, TellsSame}
use Rattle.lam_main_walk.specs.declared.source.Source.{Source}

-- this is run of the program that the bytes spell, and that is it with its names resolved
pub record IsSourceOf (bytes : Text) (s : Source) : Type 0 where
  pub code : IsRunCode bytes s.code
  pub spells : IsSource bytes (resolved_tree s.program)

-- there is a program of which this is so
abbrev pub IsOfProgram : Source → Type 0
IsOfProgram s = (bytes : Text) × IsSourceOf bytes s

-- what holds of the code and the names of every program
pub record IsSoundSource (s : Source) : Type 0 where
  pub code : IsCode s.code
  pub limits : WithinLimits (resolved_tree s.program)

-- the plan of a source: its document is read next, and then its book
abbrev pub Tells : Files → RunFiles → Source → Plan → Type 0
Tells files run s plan = WithStart files run.world s.code (λ start. WithRun files run.book s.code start (TellsSame (resolved_tree s.program) s.code start)) plan
