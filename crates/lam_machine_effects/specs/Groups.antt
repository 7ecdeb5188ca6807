-- Which effects a part of `apply` is given.
use Rattle.std.specs.Prelude.{Bool, true, false}
use Rattle.lam_machine_effects.specs.declared.effect.Effect.{Effect}
use Rattle.lam_machine_effects.specs.declared.effect.Effect.TheVariants.{SetsSlot, AddsThing, TakesMonitor, GivesBack, Drops, AddsFile, AddsDir, Removes, Appends, Cuts, Sends}

-- nothing that it holds goes into a store
abbrev pub is_read : Effect → Bool
is_read (SetsSlot thing at v) = false
is_read (AddsThing maker own shape) = false
is_read (Sends pipe message) = false
is_read e = true

abbrev pub is_of_files : Effect → Bool
is_of_files (AddsFile dir entry maker own) = true
is_of_files (AddsDir dir entry maker own) = true
is_of_files (Removes dir entry) = true
is_of_files (Appends file bytes) = true
is_of_files (Cuts file len) = true
is_of_files e = false

abbrev pub is_of_monitors : Effect → Bool
is_of_monitors (TakesMonitor thing) = true
is_of_monitors (GivesBack thing) = true
is_of_monitors (Drops things) = true
is_of_monitors e = false
