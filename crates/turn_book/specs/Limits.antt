-- How long a schedule may be, and who may stand in it.
use Rattle.std.specs.Prelude.{◌≡◌, ℕ, refl}
use Rattle.turn_book.specs.declared.limits.TheConstants.{TURN_LIMIT, LAST_THREAD, WORKER_LIMIT}

-- the most turns of a run, and of its book
abbrev pub most_turns : ℕ
most_turns = TURN_LIMIT

-- the greatest number of a thread
abbrev pub last_thread : ℕ
last_thread = LAST_THREAD

-- the most workers that take the turns of a run
abbrev pub most_workers : ℕ
most_workers = WORKER_LIMIT

--- ---- worked examples
a_million_turns : most_turns ≡ 1000000
a_million_turns = refl

threads_from_zero : last_thread ≡ 4095
threads_from_zero = refl

sixteen_workers : most_workers ≡ 16
sixteen_workers = refl
