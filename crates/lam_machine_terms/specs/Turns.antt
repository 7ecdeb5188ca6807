-- One turn of a thread, runs, and their replay.
use Rattle.std.specs.Prelude.{◌≡◌, ℕ, Bool, true, false, not, ◌&&◌, List, [], ◌∷◌, Option, Some, None, is_none, is_some, if◌then◌else◌}
use Rattle.labelled_heap.specs.Label.{Label}
use Rattle.labelled_heap.specs.Flow.{public_label}
use Rattle.labelled_pipes.specs.Failing.{first_failing, read_test, same_test}
use Rattle.labelled_files.specs.Name.{Name}
use Rattle.thread_steps.specs.Value.{Value}
use Rattle.thread_steps.specs.Value.TheVariants.{Obj, Arr}
use Rattle.monitor_core.specs.Held.{is_free}
use Rattle.thread_steps.specs.Ask.{Ask}
use Rattle.thread_steps.specs.Ask.TheVariants.{Leave, MonEnter, MonLeave, Join, End}
use Rattle.thread_steps.specs.What.{What}
use Rattle.thread_steps.specs.What.TheVariants.{Private, Asked}
use Rattle.thread_steps.specs.Event.{Event}
use Rattle.thread_steps.specs.Codes.{CodeTree}
use Rattle.thread_steps.specs.Threads.{Inside, Phase, Bottom, Body, Catch, Context, Thread}
use Rattle.thread_steps.specs.Ops.{is_held}
use Rattle.thread_steps.specs.Next.{Next, goes, asks, stuck, next_of, with_inside, takes}
use Rattle.lam_machine_terms.specs.Worlds.{World, thread_at, with_thread}
use Rattle.lam_machine_terms.specs.Serves.{Made, Served, effect_of}
use Rattle.lam_machine_terms.specs.Serving.{serve}

-- ---- who is ready

abbrev pub is_bottom : Phase → Bool
is_bottom Bottom = true
is_bottom (Body catch_at) = false
is_bottom Catch = false

abbrev pub lists : List Name → Value → Bool
lists ns (Obj n) = is_held n ns
lists ns (Arr n len) = is_held n ns
lists ns v = false

-- A thread's first context is never left, and ends with its thread; a context gives back a monitor that it lists.
-- With another one of these asks it is stuck.
abbrev pub may_ask : Context → Ask → Bool
may_ask c Leave = not (is_bottom c.phase)
may_ask c (End outcome) = is_bottom c.phase
may_ask c (MonLeave r) = lists c.held r
may_ask c a = true

abbrev pub is_living : Option Thread → Bool
is_living None = false
is_living (Some th) = is_none th.result

-- whether another thread holds the monitor of a thing with the acting label
abbrev pub is_taken : World → ℕ → Label → Value → Bool
is_taken w t p (Obj n) = is_none (first_failing (same_test p n.own)) && not (is_free w.monitors n t)
is_taken w t p (Arr n len) = is_none (first_failing (same_test p n.own)) && not (is_free w.monitors n t)
is_taken w t p v = false

-- an ask waits for a monitor of its own label that another thread holds, and for a living thread that it may read
abbrev pub waits : World → ℕ → Context → Ask → Bool
waits w t c (MonEnter r) = is_taken w t c.label r
waits w t c (Join u) = is_none (first_failing (read_test c.label public_label)) && is_living (thread_at w u)
waits w t c a = false

abbrev pub is_ready : World → ℕ → Context → Ask → Bool
is_ready w t c a = may_ask c a && not (waits w t c a)

-- ---- a turn

-- what a turn was, what it made, and the world after it
pub record Moment : Type 0 where
  pub event : Event
  pub made : Option Made
  pub world : World

abbrev pub moment : Context → ℕ → What → Option Made → World → Moment
moment c t what made w = record { event = record { label = c.label; thread = t; what = what }; made = made; world = w }

-- a private turn changes the inside of the acting context, and nothing else
abbrev pub goes_on : World → ℕ → Thread → Context → List Context → Inside → Moment
goes_on w t th c rest i = moment c t Private None (with_thread w t (record { contexts = with_inside c i ∷ rest; result = th.result }))

-- an ask that is served: the acting thread takes the answer, and the service has its effect
abbrev pub served : CodeTree → World → ℕ → Thread → Context → List Context → Ask → Inside → Served → Moment
served code w t th c rest a i d = moment c t (Asked a d.answer) d.made (effect_of code t d.effect (with_thread w t (takes code th c rest i a d.answer)))

abbrev pub turn_by : CodeTree → World → ℕ → Thread → Context → List Context → Next → Option Moment
turn_by code w t th c rest (goes i) = Some (goes_on w t th c rest i)
turn_by code w t th c rest (asks a i) = if is_ready w t c a then Some (served code w t th c rest a i (serve w c a)) else None
turn_by code w t th c rest stuck = None

abbrev pub turn_on : CodeTree → World → ℕ → Thread → List Context → Option Moment
turn_on code w t th [] = None
turn_on code w t th (c ∷ rest) = turn_by code w t th c rest (next_of code c)

abbrev pub turn_in : CodeTree → World → ℕ → Option Thread → Option Moment
turn_in code w t None = None
turn_in code w t (Some th) = turn_on code w t th th.contexts

-- one turn of a thread, none where it is not ready
unfoldable pub step : CodeTree → World → ℕ → Option Moment
step code w t = turn_in code w t (thread_at w t)

-- an ended and a stuck thread are not ready, and one whose ask waits is not
unfoldable pub ready : CodeTree → World → ℕ → Bool
ready code w t = is_some (step code w t)

-- ---- runs

abbrev pub and_then : Option Moment → (World → List Moment) → List Moment
and_then None next = []
and_then (Some m) next = m ∷ next m.world

-- the moments of turns, up to the first whose thread is not ready
abbrev pub moments : CodeTree → List ℕ → World → List Moment
moments code [] w = []
moments code (t ∷ ts) w = and_then (step code w t) (moments code ts)

-- the world that moments leave
abbrev pub left_by : World → List Moment → World
left_by w [] = w
left_by w (m ∷ ms) = left_by m.world ms

-- the world that turns leave
abbrev pub replay : CodeTree → List ℕ → World → World
replay code ts w = left_by w (moments code ts w)

abbrev pub ReadyThen : Option Moment → (World → Type 0) → Type 0
ReadyThen None Next = ⊥
ReadyThen (Some m) Next = Next m.world

-- each turn's thread is ready in the world that the turns before it leave
abbrev pub IsRun : CodeTree → List ℕ → World → Type 0
IsRun code [] w = Unit {0}
IsRun code (t ∷ ts) w = ReadyThen (step code w t) (IsRun code ts)

-- every thread has ended
abbrev pub IsDone : World → Type 0
IsDone w = (t : ℕ) (th : Thread) → thread_at w t ≡ Some th → is_some th.result ≡ true

-- some thread lives, and none is ready
pub record AllWait (code : CodeTree) (w : World) : Type 0 where
  pub some_lives : (t : ℕ) × (is_living (thread_at w t) ≡ true)
  pub none_ready : (t : ℕ) → ready code w t ≡ false
