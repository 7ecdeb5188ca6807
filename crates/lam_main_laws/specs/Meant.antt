-- That the runs which `replay`, `audit` and `run` are asked for mean what their source means.
use Rattle.std.specs.Prelude.{◌≡◌, ℕ, List, Some, Ok}
use Rattle.lam_io.specs.Outside.{Files}
use Rattle.lam_syntax.specs.Tree.{ProgramTree}
use Rattle.lam_front.specs.Programs.{IsFine}
use Rattle.lam_resolve_tree.specs.Tree.{ResolvedTree}
use Rattle.lam_resolve_laws.specs.Resolved.{resolved}
use Rattle.lam_bytecode.specs.Codes.{CodeTree}
use Rattle.thinned_code.specs.Thinned.{thinned}
use Rattle.barrier_compiler.specs.Compiled.{IsCompiledTo}
use Rattle.lam_machine_terms.specs.Worlds.{World}
use Rattle.world_doc_terms.specs.Start.{start_of}
use Rattle.world_save_laws.specs.Documents.{RunMeans}
use Rattle.lam_main_words.specs.Words.{Text, replay, audit, run, request_of}
use Rattle.lam_main_plan.specs.Reading.{HasFile, IsRunCode, program_limit, world_limit}
use Rattle.lam_main_plan.specs.Walks.{IsSource}

-- the words ask for a run of the program in one file from the document in another: for one that a book holds, as an
-- observer or an auditor sees it, or for one that threads take
pub data AskForRun (ws : List Text) (program world : Text) : Type 0 where
  replays : (book label : Text) → request_of ws ≡ Ok (replay program world book label) → AskForRun ws program world
  audits : (book : Text) → request_of ws ≡ Ok (audit program world book) → AskForRun ws program world
  takes : (label out : Text) (workers budget : ℕ) → request_of ws ≡ Ok (run program world label out workers budget) → AskForRun ws program world

-- the words ask for runs of this program, of which this is the code that is run, from this start
pub record AsksRunsOf (ws : List Text) (files : Files) (p : ProgramTree) (code : CodeTree) (start : World) : Type 0 where
  pub program : Text
  pub world : Text
  pub asks : AskForRun ws program world
  pub spells : HasFile (files program) program_limit (λ bytes. IsFine bytes p)
  pub whole : CodeTree
  pub makes : IsCompiledTo p (Ok whole)
  pub thin : code ≡ thinned whole
  pub starts : HasFile (files world) world_limit (λ bytes. start_of bytes code ≡ Ok start)

-- The program has its names resolved, and that is its source. Whatever turns are taken from the start, the asks of each
-- thread are those of the source, and no thread is stuck in any world on the way.
pub record RunsAsMeant (p : ProgramTree) (code : CodeTree) (start : World) : Type 0 where
  pub source : ResolvedTree
  pub resolves : resolved p ≡ Some source
  pub means : (turns : List ℕ) → RunMeans source code start turns

-- the runs that are asked for, of the turns of a book as far as they go and of those that threads take, are as meant
abbrev pub CallsRunAsMeant : List Text → Files → Type 0
CallsRunAsMeant ws files =
    (p : ProgramTree) (code : CodeTree) (start : World) → AsksRunsOf ws files p code start → RunsAsMeant p code start

-- ---- every program

-- every run of a code means this source, whatever document it starts from and whatever turns are taken
abbrev pub MeansEverywhere : ResolvedTree → CodeTree → Type 0
MeansEverywhere r code = (text : Text) (start : World) → start_of text code ≡ Ok start → (turns : List ℕ) → RunMeans r code start turns

-- so does the code that is run of a program, of the program with its names resolved
abbrev pub SourcesRunAsMeant : Type 0
SourcesRunAsMeant = (bytes : Text) (code : CodeTree) (r : ResolvedTree) → IsRunCode bytes code → IsSource bytes r → MeansEverywhere r code
