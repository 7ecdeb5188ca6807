-- A world is its stores and its threads.
use Rattle.std.specs.Prelude.{ℕ, List, length}
use Rattle.std.specs.FinMap as map
use Rattle.lam_machine_terms.specs.Caps.{Caps}
use Rattle.lam_machine_terms.specs.Things.{no_things}
use Rattle.lam_machine_terms.specs.Trees.{root_alone}
use Rattle.lam_machine_terms.specs.Queues.{no_pipes}
use Rattle.lam_machine_effects.specs.declared.stores.Stores.{Stores}
use Rattle.lam_machine_terms.specs.Threads.{Thread}
use Rattle.lam_machine_terms.specs.Worlds.{World}

-- all of a world but its threads
abbrev pub stores_of : World → Stores
stores_of w = record { names = w.names; public = w.public; tags = w.next_tag; heap = w.heap; monitors = w.monitors; files = w.files; pipes = w.pipes }

-- the world of stores and threads
abbrev pub world_of : Stores → List Thread → World
world_of s threads = record { names = s.names; public = s.public; next_tag = s.tags; heap = s.heap; monitors = s.monitors; files = s.files; pipes = s.pipes; threads = threads }

-- the stores in which nothing stands but the root, and no tag is there but those with names; and what is public
abbrev pub first_stores : List (List ℕ) → Caps → Stores
first_stores names public = record { names = names; public = public; tags = length names; heap = no_things; monitors = map.empty; files = root_alone; pipes = no_pipes }
