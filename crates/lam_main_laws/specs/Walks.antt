-- What a call of `walk` tells of a run.
use Rattle.std.specs.Prelude.{◌≡◌, ℕ, List, Ok}
use Rattle.lam_io.specs.Outside.{Files}
use Rattle.lam_bytecode.specs.Codes.{CodeTree}
use Rattle.lam_machine_terms.specs.Worlds.{World}
use Rattle.lam_main_words.specs.Words.{Text, walk, request_of}
use Rattle.lam_main_plan.specs.Refusals.{Plan}
use Rattle.lam_main_plan.specs.Walks.{IsOfWalk}
use Rattle.lam_main_plan.specs.Plan.{IsPlan}
use Rattle.lam_main_laws.specs.Calls.{HoldRun}

-- the words ask for a walk over this run
pub record AsksWalk (ws : List Text) (files : Files) (code : CodeTree) (start : World) (turns : List ℕ) : Type 0 where
  pub program : Text
  pub world : Text
  pub book : Text
  pub asks : request_of ws ≡ Ok (walk program world book)
  pub holds : HoldRun files program world book code start turns

-- its one plan is that the source makes what was asked, and the line of how much that is
abbrev pub WalksAreTold : List Text → Files → Type 0
WalksAreTold ws files =
    (code : CodeTree) (start : World) (turns : List ℕ) (plan : Plan) (a : AsksWalk ws files code start turns) → IsPlan ws files plan →
    IsOfWalk a.holds.compiled.bytes code start turns plan
