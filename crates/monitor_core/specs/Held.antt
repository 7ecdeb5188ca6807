-- What the monitors are seen as, and what entering and leaving make of them.
--
-- Thread 3 enters the monitor of a name twice: it is held by 3, twice, and free for 3 alone. When 3 has left
-- it once it is held once, and when 3 has left it again nobody holds it.
use Rattle.std.specs.Prelude.{◌≡◌, ◌≤◌, IsTrue, ℕ, ◌+◌, ◌-◌, Bool, true, cond, nat_eq, nat_lt, if◌then◌else◌, List, [], ◌∷◌, Option, Some, None}
use Rattle.std.specs.Coded.{Coded}
use Rattle.std.specs.FinMap as map
use Rattle.std.specs.FinMap.{FinMap, get, insert, remove}
use Rattle.std.specs.Ordering.{eq_by_cmp}
use Rattle.lam_value.specs.Label.{Label}
use Rattle.lam_value.specs.Flow.{flows}
use Rattle.lam_value.specs.declared.names.Name.{Name}
use Rattle.lam_value.specs.Names.{name_cmp, coded_name}
use Rattle.lam_value.specs.Maps.{seen_at}
use Rattle.monitor_core.specs.declared.Holder.{Holder}
use Rattle.monitor_core.specs.contracts.Holder as holder

-- the holder of each monitor that is held
abbrev pub Held : Type 0
Held = FinMap name_cmp Holder

abbrev pub coded_held : Coded Held
coded_held = map.code coded_name holder.the_row.coded

abbrev pub held_in : List (Name × Holder) → Held
held_in es = seen_at name_cmp (λ (h : Holder). h) es

abbrev pub is_free_of : Option Holder → ℕ → Bool
is_free_of None t = true
is_free_of (Some h) t = nat_eq h.thread t

-- nobody holds it, or this thread does
abbrev pub is_free : Held → Name → ℕ → Bool
is_free m r t = is_free_of (get m r) t

abbrev pub count_of : Option Holder → ℕ
count_of None = 0
count_of (Some h) = h.count

-- how often it is held
abbrev pub takings : Held → Name → ℕ
takings m r = count_of (get m r)

-- a holder after one entry of a thread
abbrev pub once_more : Option Holder → ℕ → Holder
once_more o t = record { thread = t; count = count_of o + 1 }

-- it is held by the thread, once more
abbrev pub entered : Held → Name → ℕ → Held
entered m r t = insert m r (once_more (get m r) t)

-- a holder after one exit of a thread: the thread holds it once less, and no more after the last exit
abbrev pub one_less : Option Holder → ℕ → Option Holder
one_less None t = None
one_less (Some h) t = if nat_eq h.thread t then (if nat_lt 1 h.count then Some (record h { count = h.count - 1 }) else None) else Some h

-- this holder or nobody holds it; all other monitors stay
abbrev pub held_by : Option Holder → Held → Name → Held
held_by None m r = remove m r
held_by (Some h) m r = insert m r h

-- the thread left it once
abbrev pub left : Held → Name → ℕ → Held
left m r t = held_by (one_less (get m r) t) m r

-- the thread left each of these once for each listing
abbrev pub dropped : Held → List Name → ℕ → Held
dropped m [] t = m
dropped m (r ∷ rs) t = dropped (left m r t) rs t

-- how often a name is listed
abbrev pub listings : Name → List Name → ℕ
listings r [] = 0
listings r (q ∷ qs) = cond (eq_by_cmp name_cmp r q) 1 0 + listings r qs

-- how often it is held after a thread has left each of these: once less for each listing where no other thread
-- holds it, and else as often as before
abbrev pub lowered : Held → Name → ℕ → List Name → ℕ
lowered m r t rs = if is_free m r t then takings m r - listings r rs else takings m r

-- a thread takes a monitor that it holds at most this often
abbrev pub most_takings : ℕ
most_takings = 1048576

-- ---- what holds of all monitors: who holds one holds it once at least, and no more often than a thread may
abbrev pub IsSound : Held → Type 0
IsSound m = (r : Name) (h : Holder) → get m r ≡ Some h → (1 ≤ h.count) × (h.count ≤ most_takings)

-- ---- what is equal in two where an observer sees: the monitors of things whose label flows to the observer's
abbrev pub AreSeenAlike : Label → Held → Held → Type 0
AreSeenAlike o m k = (r : Name) → IsTrue (flows r.own o) → get m r ≡ get k r
