-- What an effect needs.
use Rattle.std.specs.Prelude.{◌≡◌, ℕ, ◌<◌, IsTrue, None}
use Rattle.std.specs.FinMap.{contains_key}
use Rattle.lam_value.specs.Homes.{count_in}
use Rattle.lam_machine_terms.specs.Things.{most_things}
use Rattle.lam_machine_terms.specs.Held.{most_takings, is_free, takings}
use Rattle.lam_machine_terms.specs.Trees.{first_fault}
use Rattle.lam_machine_terms.specs.Queues.{most_pipes}
use Rattle.lam_machine_terms.specs.Limits.{most_tags}
use Rattle.lam_machine_terms.specs.Serves.{Effect, takes_tag, adds_thing, adds_copy, takes_monitor, adds_file, adds_dir, adds_pipe}
use Rattle.lam_machine_effects.specs.declared.stores.Stores.{Stores}

-- What is made has room, what is copied lives, and a monitor that a thread takes is held by no other. Each service of the
-- monitor has this where the thing that it copies lives and the thread does not wait
abbrev pub HasRoom : ℕ → Effect → Stores → Type 0
HasRoom thread takes_tag s = s.tags < most_tags
HasRoom thread (adds_thing home sort slots) s = count_in s.heap.counts home < most_things
HasRoom thread (adds_copy n home) s = IsTrue (contains_key s.heap.slots n) × (count_in s.heap.counts home < most_things)
HasRoom thread (takes_monitor n) s = IsTrue (is_free s.monitors n thread) × (takings s.monitors n < most_takings)
HasRoom thread (adds_file dir text home) s = first_fault s.files dir text home ≡ None
HasRoom thread (adds_dir dir text home) s = first_fault s.files dir text home ≡ None
HasRoom thread (adds_pipe home) s = count_in s.pipes.counts home < most_pipes
HasRoom thread e s = Unit {0}
