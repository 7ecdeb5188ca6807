-- A code and a world that say nothing, for an origin that nobody has picked.
use Rattle.std.specs.Prelude.{[]}
use Rattle.capabilities.specs.Changes.{no_caps}
use Rattle.lam_bytecode.specs.Codes.{CodeTree}
use Rattle.lam_machine_terms.specs.Worlds.{World}
use Rattle.lam_machine_effects.specs.Parts.{world_of, first_stores}

abbrev pub no_code : CodeTree
no_code = record { units = []; constants = []; classes = [] }

abbrev pub no_world : World
no_world = world_of (first_stores [] no_caps) []
