-- How the threads of a document's start stand, and that runs of guarded code from there are sound.
use Rattle.std.specs.Prelude.{◌≡◌, Ok}
use Rattle.flow_labels.specs.TwoLists.{Text}
use Rattle.lam_bytecode.specs.Codes.{CodeTree, IsCode}
use Rattle.guarded_code.specs.Breaks.{IsGuarded}
use Rattle.lam_machine_terms.specs.Worlds.{World}
use Rattle.world_doc_terms.specs.Start.{start_of}
use Rattle.guarded_code_runs.specs.Worlds.{AreAtEntries, IsSound}

-- each thread of the world that a text gives is at the entry of a function, with all its arguments
abbrev pub StartsAreEntered : CodeTree → Type 0
StartsAreEntered code = (text : Text) (w : World) → start_of text code ≡ Ok w → AreAtEntries code w

-- so runs of a guarded code from there are sound
abbrev pub StartsAreSound : CodeTree → Type 0
StartsAreSound code = IsCode code → IsGuarded code → (text : Text) (w : World) → start_of text code ≡ Ok w → IsSound code w
