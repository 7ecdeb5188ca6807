-- What services in code mean.
use Rattle.std.specs.Prelude.{◌≡◌, ℕ, List}
use Rattle.lam_value.specs.Homes.{home_of}
use Rattle.lam_value.specs.Shapes.{slots_of}
use Rattle.lam_machine_terms.specs.Things.{sort_of}
use Rattle.lam_machine_terms.specs.Codes.{CodeTree}
use Rattle.lam_machine_terms.specs.Threads.{Thread}
use Rattle.lam_machine_terms.specs.Serves as told
use Rattle.lam_machine_terms.specs.Serves.{effect_of}
use Rattle.lam_machine_effects.specs.declared.stores.Stores.{Stores}
use Rattle.lam_machine_effects.specs.Parts.{stores_of, world_of}
use Rattle.lam_machine_effects.specs.declared.effect.Effect.{Effect}
use Rattle.lam_machine_effects.specs.declared.effect.Effect.TheVariants.{Nothing, TakesTag, SetsSlot, AddsThing, AddsCopy, TakesMonitor, GivesBack, Drops, AddsFile, AddsDir, Removes, Appends, Cuts, AddsPipe, Sends, Receives, AddsThread}
use Rattle.lam_machine_effects.specs.declared.served.Served.{Served}

abbrev pub meaning : Effect → told.Effect
meaning Nothing = told.nothing
meaning TakesTag = told.takes_tag
meaning (SetsSlot thing at v) = told.sets_slot thing at v
meaning (AddsThing maker own shape) = told.adds_thing (home_of maker own) (sort_of shape) (slots_of shape)
meaning (AddsCopy thing maker own) = told.adds_copy thing (home_of maker own)
meaning (TakesMonitor thing) = told.takes_monitor thing
meaning (GivesBack thing) = told.gives_back thing
meaning (Drops things) = told.drops things.items
meaning (AddsFile dir entry maker own) = told.adds_file dir entry (home_of maker own)
meaning (AddsDir dir entry maker own) = told.adds_dir dir entry (home_of maker own)
meaning (Removes dir entry) = told.removes dir entry
meaning (Appends file bytes) = told.appends file bytes
meaning (Cuts file len) = told.cuts file len
meaning (AddsPipe maker own) = told.adds_pipe (home_of maker own)
meaning (Sends pipe message) = told.sends pipe message
meaning (Receives pipe kind) = told.receives pipe kind
meaning (AddsThread unit args caps) = told.adds_thread unit args caps

-- it answers what the other answers, and does what the other does. What it makes can be told from these two and the
-- ask: a value that it answers names the thing, the file, the directory, the pipe or the thread
pub record DoesAs (d : Served) (other : told.Served) : Type 0 where
  pub answer : d.answer ≡ other.answer
  pub effect : meaning d.effect ≡ other.effect

-- the stores after an effect of a thread, whatever the code and the threads are
abbrev pub IsAfter : ℕ → Effect → Stores → Stores → Type 0
IsAfter thread e s after = (code : CodeTree) (threads : List Thread) → stores_of (effect_of code thread (meaning e) (world_of s threads)) ≡ after
