-- Whether what was asked in the run of a program is what its source asks, by the source alone.
use Rattle.std.specs.Prelude.{◌≡◌, ℕ, List, [], ◌∷◌, ◌++◌, Some, codes, decimal, refl}
use Rattle.lam_io.specs.Outside.{Files}
use Rattle.lam_syntax.specs.Tree.{ProgramTree}
use Rattle.lam_front.specs.Programs.{IsFine}
use Rattle.lam_resolve_tree.specs.Tree.{ResolvedTree}
use Rattle.lam_resolve_laws.specs.Resolved.{resolved}
use Rattle.lam_bytecode.specs.Codes.{CodeTree}
use Rattle.lam_machine_terms.specs.Worlds.{World}
use Rattle.source_walk_terms.specs.declared.Walked.TheVariants.{Same}
use Rattle.source_walk_terms.specs.Walks.{IsWalked}
use Rattle.lam_main_words.specs.Words.{Text}
use Rattle.lam_main_plan.specs.Refusals.{Plan, prints, line}
use Rattle.lam_main_plan.specs.Reading.{Thins}
use Rattle.lam_main_plan.specs.Replays.{RunFiles}
use Rattle.lam_main_plan.specs.Books.{WithStart, WithRun}

-- the bytes spell a program that keeps the type rules and the region rules, and this is it with its names resolved
pub record IsSource (bytes : Text) (source : ResolvedTree) : Type 0 where
  pub program : ProgramTree
  pub fine : IsFine bytes program
  pub resolves : resolved program ≡ Some source

-- the line of so many asks
abbrev pub same_line : ℕ → Text
same_line asks = line (codes "same " ∷ decimal asks ∷ [])

-- each thread's asks are the first ones of this source, and their number is told
pub record TellsSame (source : ResolvedTree) (code : CodeTree) (start : World) (turns : List ℕ) (plan : Plan) : Type 0 where
  pub asks : ℕ
  pub walked : IsWalked source code start turns (Same asks)
  pub is : plan ≡ prints (same_line asks)

-- the plan of turns, for the program that the bytes spell
pub record IsOfWalk (bytes : Text) (code : CodeTree) (start : World) (turns : List ℕ) (plan : Plan) : Type 0 where
  pub source : ResolvedTree
  pub spells : IsSource bytes source
  pub tells : TellsSame source code start turns plan

-- the plan of a code of the program that the bytes spell
abbrev pub WalksRun : Files → RunFiles → Text → CodeTree → Plan → Type 0
WalksRun files run bytes code plan = WithStart files run.world code (λ start. WithRun files run.book code start (IsOfWalk bytes code start)) plan

-- the plan of the bytes of a program
abbrev pub Walks : Files → RunFiles → Text → Plan → Type 0
Walks files run bytes plan = Thins (WalksRun files run bytes) bytes plan

-- ---- worked examples
four_asks : same_line 4 ≡ codes "same " ++ decimal 4 ++ codes "\n"
four_asks = refl
