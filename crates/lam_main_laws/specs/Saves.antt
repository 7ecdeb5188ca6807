-- What a call of `next` does with the files and directories at the end of a run.
use Rattle.std.specs.Prelude.{◌≡◌, ◌≤◌, ℕ, List, length, Some, Ok}
use Rattle.flow_labels.specs.declared.Label.{Label}
use Rattle.lam_io.specs.Outside.{Files}
use Rattle.lam_bytecode.specs.Codes.{CodeTree}
use Rattle.lam_machine_terms.specs.Worlds.{World}
use Rattle.lam_machine_terms.specs.Turns.{moments, replay}
use Rattle.lam_machine_terms.specs.Views.{Agree, agenda}
use Rattle.world_doc_terms.specs.Start.{start_of}
use Rattle.world_save_terms.specs.Document.{Parts, most_document}
use Rattle.lam_main_plan.specs.Saved.{HaveText, ArePartsOf, IsTextOf}
use Rattle.world_save_laws.specs.Longest.{longest}
use Rattle.world_save_laws.specs.Next.{GoesOn}
use Rattle.world_save_laws.specs.Agreeing.{AreNamedInSeen}
use Rattle.lam_main_words.specs.Words.{Text, next, request_of}
use Rattle.lam_main_plan.specs.Refusals.{Plan}
use Rattle.lam_main_plan.specs.Saves.{IsOfEnd}
use Rattle.lam_main_plan.specs.Plan.{IsPlan}
use Rattle.lam_main_laws.specs.Calls.{HoldRun}

-- the words ask for the world after this run
pub record AsksNext (ws : List Text) (files : Files) (code : CodeTree) (start : World) (turns : List ℕ) : Type 0 where
  pub program : Text
  pub world : Text
  pub book : Text
  pub out : Text
  pub asks : request_of ws ≡ Ok (next program world book out)
  pub holds : HoldRun files program world book code start turns

-- nothing keeps the files and directories at the end from being saved: each label and each path has a text, and no text of
-- them is too long
pub record CanBeSaved (old : Text) (code : CodeTree) (start : World) (turns : List ℕ) : Type 0 where
  pub have : HaveText start.names (replay code turns start).files
  pub fits : (text : Text) → IsTextOf start.names start.public (replay code turns start).files old text → length text ≤ most_document

-- Each label and each path has a text, and the document has no more bytes than it may, with 25 counted of each number in what it takes
-- from the older one.
pub record HasFewBytes (old : Text) (code : CodeTree) (start : World) (turns : List ℕ) : Type 0 where
  pub have : HaveText start.names (replay code turns start).files
  pub parts : Parts
  pub parts_are : ArePartsOf start.names start.public (replay code turns start).files old parts
  pub few : longest parts ≤ most_document

-- its plan is that of these files: the document of them and of the one that the run began with, or why there is none
abbrev pub SavesAreTold : List Text → Files → Type 0
SavesAreTold ws files =
    (code : CodeTree) (start : World) (turns : List ℕ) (plan : Plan) (a : AsksNext ws files code start turns) → IsPlan ws files plan →
    IsOfEnd a.out code a.holds.starts.bytes start turns plan

-- The world that it writes is read as a start that goes on from the end of the run: its tags, public capabilities, pipes and
-- threads are those of the run's start, its files and directories those that the root reached.
abbrev pub NextWorldsAreRead : List Text → Files → Type 0
NextWorldsAreRead ws files =
    (code : CodeTree) (start : World) (turns : List ℕ) (plan : Plan) (text : Text) (a : AsksNext ws files code start turns) → IsPlan ws files plan → plan.writes ≡ Some (a.out, text) →
    (v : World) × ((start_of text code ≡ Ok v) × GoesOn start (replay code turns start).files v)

-- the words ask for the world after this run, and this text is written
pub record WritesNext (ws : List Text) (files : Files) (code : CodeTree) (start : World) (turns : List ℕ) (text : Text) : Type 0 where
  pub asks : AsksNext ws files code start turns
  pub plan : Plan
  pub planned : IsPlan ws files plan
  pub writes : plan.writes ≡ Some (asks.out, text)

-- Two runs that look the same to an observer leave worlds whose starts look the same to it, where at the end of either each
-- file and directory that it sees is named in a directory that it sees.
abbrev pub NextStartsAgree : List Text → List Text → Files → Files → Type 0
NextStartsAgree ws ws' files files' =
    (code : CodeTree) (o : Label) (s s' : World) (turns turns' : List ℕ) (text text' : Text) →
    WritesNext ws files code s turns text → WritesNext ws' files' code s' turns' text' →
    Agree o s s' → agenda o (moments code turns s) ≡ agenda o (moments code turns' s') →
    AreNamedInSeen o (replay code turns s).files → AreNamedInSeen o (replay code turns' s').files →
    (v v' : World) → start_of text code ≡ Ok v → start_of text' code ≡ Ok v' →
    Agree o v v'
