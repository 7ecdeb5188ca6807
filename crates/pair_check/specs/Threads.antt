-- What an observer sees of the threads of two worlds.
use Rattle.std.specs.Prelude.{◌≡◌, ℕ, List, Option, filter, length, slice_get}
use Rattle.flow_labels.specs.declared.Label.{Label}
use Rattle.thread_steps.specs.Threads.{Context, Thread}
use Rattle.lam_machine_terms.specs.Worlds.{contexts_in, result_in}
use Rattle.lam_machine_terms.specs.Views.{is_seen}

-- the contexts of a thread that an observer sees, none where there is no thread
abbrev pub seen_in : Label → Option Thread → List Context
seen_in o thread = filter (is_seen o) (contexts_in thread)

-- each thread has the same seen contexts in both lists
abbrev pub HaveSeenAlike : Label → List Thread → List Thread → Type 0
HaveSeenAlike o xs ys = (t : ℕ) → seen_in o (slice_get xs t) ≡ seen_in o (slice_get ys t)

-- there are as many threads, and each ended alike, or in neither list
abbrev pub EndAlike : List Thread → List Thread → Type 0
EndAlike xs ys = (length xs ≡ length ys) × ((t : ℕ) → result_in (slice_get xs t) ≡ result_in (slice_get ys t))
