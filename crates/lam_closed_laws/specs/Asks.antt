-- What words and files ask for, where all is in order.
use Rattle.std.specs.Prelude.{◌≡◌, ℕ, List, Ok}
use Rattle.flow_labels.specs.LabelText.{label_of}
use Rattle.flow_labels.specs.declared.Label.{Label}
use Rattle.lam_io.specs.Outside.{Files}
use Rattle.lam_bytecode.specs.Codes.{CodeTree}
use Rattle.lam_machine_terms.specs.Worlds.{World}
use Rattle.world_doc_terms.specs.Start.{start_of}
use Rattle.lam_main_words.specs.Words.{Text}
use Rattle.lam_main_plan.specs.Reading.{HasFile, IsRunCode, program_limit, world_limit}
use Rattle.lam_main_laws.specs.Calls.{HoldRun}
use Rattle.lam_closed_words.specs.Words.{run, check, request_of}
use Rattle.lam_closed_plan.specs.declared.Status.{Status}
use Rattle.lam_closed_plan.specs.declared.Status.TheVariants.{Done, NoMemory, ShelfFault, SinkFault, Cut, Waits, Stalled, Over}

-- the words ask what this observer sees of the closed run of this code from this start, over a base and with so many open
-- turns, whose book goes to a file
pub record AsksRun (ws : List Text) (files : Files) (code : CodeTree) (start : World) (o b : Label) (n : ℕ) (out : Text) : Type 0 where
  pub program : Text
  pub world : Text
  pub label : Text
  pub base : Text
  pub asks : request_of ws ≡ Ok (run program world label out base n)
  pub compiled : HasFile (files program) program_limit (λ bytes. IsRunCode bytes code)
  pub starts : HasFile (files world) world_limit (λ bytes. start_of bytes code ≡ Ok start)
  pub observes : label_of start.names label ≡ Ok o
  pub opens : label_of start.names base ≡ Ok b

-- the words ask whether this run is closed over a base
pub record AsksCheck (ws : List Text) (files : Files) (code : CodeTree) (start : World) (b : Label) (turns : List ℕ) : Type 0 where
  pub program : Text
  pub world : Text
  pub book : Text
  pub base : Text
  pub asks : request_of ws ≡ Ok (check program world book base)
  pub holds : HoldRun files program world book code start turns
  pub opens : label_of start.names base ≡ Ok b

-- the call ended as a closed run ends
abbrev pub IsRunEnd : Status → Type 0
IsRunEnd Done = Unit {0}
IsRunEnd Cut = Unit {0}
IsRunEnd Waits = Unit {0}
IsRunEnd Stalled = Unit {0}
IsRunEnd Over = Unit {0}
IsRunEnd status = ⊥

-- and by a public end
abbrev pub IsPublicEnd : Status → Type 0
IsPublicEnd Done = Unit {0}
IsPublicEnd Cut = Unit {0}
IsPublicEnd Waits = Unit {0}
IsPublicEnd status = ⊥

-- memory did not run out, and neither the file store nor the output failed
abbrev pub IsUnfailed : Status → Type 0
IsUnfailed NoMemory = ⊥
IsUnfailed ShelfFault = ⊥
IsUnfailed SinkFault = ⊥
IsUnfailed status = Unit {0}
