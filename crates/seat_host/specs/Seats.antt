-- What callers see of a shared run and of its seats, and what the calls of a seat do.
use Rattle.std.specs.Prelude.{◌≡◌, ℕ, ◌+◌, ◌<◌, ◌≤◌, ◌≢◌, ◌++◌, List, [], ◌∷◌, true, false, length, Option, Result, max, Ok, Err, Some, slice_get, refl}
use Rattle.std.specs.List.{All}
use Rattle.seat_host.specs.declared.answer.Closed.{Closed}
use Rattle.seat_host.specs.declared.answer.CloseFault.{CloseFault}
use Rattle.seat_host.specs.declared.answer.CloseFault.TheVariants.{Open, NoMemory as OutOfMemory}
use mathlib.Core.List.{IsPrefix}
use Rattle.atomic_table.specs.Table.{Me}
use Rattle.atomic_table.specs.Seated.{TableId, table_id_coded}
use Rattle.std.specs.Coded.{Coded, code_by, coded×, coded_ℕ, coded_list, coded_option}
use Rattle.lam_bytecode.specs.Codes.{CodeTree, coded_code}
use Rattle.lam_machine_terms.specs.Worlds.{World}
use Rattle.lam_machine_world.specs.Coding.{coded_world}
use Rattle.seat_host.specs.declared.law.View.{View}
use Rattle.seat_host.specs.declared.answer.TurnAnswer.{TurnAnswer}
use Rattle.seat_host.specs.declared.answer.TurnAnswer.TheVariants.{Worn, Stale, Full, NotReady, NoMemory, Took}
use Rattle.seat_host.specs.Places.{Shared, shared, turns_in}
use Rattle.seat_host.specs.Answers.{holding, Comes}
use Rattle.thread_host_run.specs.Runs.{Ran}
use Rattle.seat_host.specs.Law.{looked, ticketed, served, longer, merged}

-- no ticket is open, and no slot is out
abbrev pub IsIdle : Me Shared View → Type 0
IsIdle m = (m.1 ≡ []) × (m.0.alive ≡ true) × (m.0.waits ≡ false) × (m.0.acts ≡ false)

-- a ticket is open
abbrev pub IsWaiting : Me Shared View → ℕ → Type 0
IsWaiting m ticket = (m.1 ≡ []) × (m.0.alive ≡ true) × (m.0.waits ≡ true) × (m.0.acts ≡ false) × (m.0.ticket ≡ ticket)

-- a ticket was drawn, or the word is worn out
abbrev pub Drew : Me Shared View → Result ℕ ℕ → Me Shared View → Type 0
Drew m (Ok n) w = (w ≡ (ticketed (looked m.0 n) n, [])) × (n < 18446744073709551615) × (m.0.drawn ≤ n)
Drew m (Err n) w = (w ≡ (looked m.0 n, [])) × (n ≡ 18446744073709551615) × (m.0.drawn ≤ n)

-- the ticket is served: all places before it are seen
abbrev pub Came : Me Shared View → Me Shared View → Type 0
Came m w = (log : List (Option ℕ)) × (length log ≡ m.0.ticket) × IsPrefix m.0.seen log × (w ≡ (served m.0 log, (0, shared m.0.code m.0.start log) ∷ []))

-- ---- what contracts see

-- a shared run: which one it is, its code and its start
pub record SharedRun : Type 0 where
  pub table : TableId
  pub code : CodeTree
  pub start : World

abbrev pub coded_shared_run : Coded SharedRun
coded_shared_run =
    code_by (TableId × (CodeTree × World)) (coded× table_id_coded (coded× coded_code coded_world))
    (λ r. (r.table, (r.code, r.start))) (λ p. record { table = p.0; code = p.1.0; start = p.1.1 }) (λ _. refl)

-- a seat: whose it is, what the first places hold, its own calls with their places, and a number that the ticket word is
-- never below
pub record Sitting : Type 0 where
  pub of : SharedRun
  pub seen : List (Option ℕ)
  pub mine : List (ℕ × Option ℕ)
  pub drawn : ℕ

abbrev pub coded_sitting : Coded Sitting
coded_sitting =
    code_by (SharedRun × (List (Option ℕ) × (List (ℕ × Option ℕ) × ℕ)))
    (coded× coded_shared_run (coded× (coded_list (coded_option coded_ℕ)) (coded× (coded_list (coded× coded_ℕ (coded_option coded_ℕ))) coded_ℕ)))
    (λ s. (s.of, (s.seen, (s.mine, s.drawn)))) (λ p. record { of = p.0; seen = p.1.0; mine = p.1.1.0; drawn = p.1.1.1 }) (λ _. refl)

abbrev pub shared_run : TableId → CodeTree → World → SharedRun
shared_run id code start = record { table = id; code = code; start = start }

abbrev pub sitting : TableId → View → Sitting
sitting id v = record { of = shared_run id v.code v.start; seen = v.seen; mine = v.mine; drawn = v.drawn }

-- a seat that has seen nothing and has no calls
abbrev pub new_seat : SharedRun → Sitting
new_seat r = record { of = r; seen = []; mine = []; drawn = 0 }

-- a seat that has seen as much, and has no calls
abbrev pub without_calls : Sitting → Sitting
without_calls s = record { of = s.of; seen = s.seen; mine = []; drawn = s.drawn }

-- one seat of two: it has seen what either had, and has the calls of both in order of place
abbrev pub both_seats : Sitting → Sitting → Sitting
both_seats a b = record { of = a.of; seen = longer a.seen b.seen; mine = merged a.mine b.mine; drawn = max a.drawn b.drawn }

-- ---- a turn

-- a turn at the next place, after all that was seen: it is the last of those that are seen then, and of the seat's own
abbrev pub NextPlace : Sitting → ℕ → TurnAnswer → Sitting → Type 0
NextPlace v thread a w =
    (before : List (Option ℕ)) × IsPrefix v.seen before × Comes (shared v.of.code v.of.start before) (length v.seen) thread a
    × (length before < 18446744073709551615) × (w.seen ≡ before ++ holding thread a ∷ []) × (w.mine ≡ v.mine ++ (length before, holding thread a) ∷ [])
    × (w.drawn ≡ length before)

abbrev pub TookTurn : Sitting → ℕ → TurnAnswer → Sitting → Type 0
TookTurn v thread (Worn d) w = (w.drawn ≡ d) × (d ≡ 18446744073709551615) × (w.seen ≡ v.seen) × (w.mine ≡ v.mine)
TookTurn v thread (Stale p l) w = NextPlace v thread (Stale p l) w
TookTurn v thread (Full p) w = NextPlace v thread (Full p) w
TookTurn v thread (NotReady p) w = NextPlace v thread (NotReady p) w
TookTurn v thread (NoMemory p) w = NextPlace v thread (NoMemory p) w
TookTurn v thread (Took p e) w = NextPlace v thread (Took p e) w

-- ---- the end

-- the run of a shared run that was closed: its turns are what the places hold, and what a seat knew stands there
pub record Closes (v : Sitting) (r : Ran) (places : List (Option ℕ)) : Type 0 where
  pub code : r.code ≡ v.of.code
  pub start : r.start ≡ v.of.start
  pub turns : r.turns ≡ turns_in places
  pub seen : IsPrefix v.seen places
  pub mine : All (λ e. slice_get places e.0 ≡ Some e.1) v.mine
  pub drawn : v.drawn ≤ length places

-- a ticket is open: more were drawn than places are finished, and no fewer than the seat knew
abbrev pub StaysOpen : Sitting → CloseFault → Type 0
StaysOpen v (Open served drawn) = (served < drawn) × (length v.seen ≤ served) × (v.drawn ≤ drawn)
StaysOpen v OutOfMemory = Unit {0}

-- of two words, how many places are finished and how many tickets were drawn: a ticket is open exactly where they differ,
-- and the answer has both; else the run comes, or memory ran out
abbrev pub ClosesBy : ℕ → ℕ → Result Closed CloseFault → Type 0
ClosesBy served drawn (Ok c) = served ≡ drawn
ClosesBy served drawn (Err (Open s d)) = (served ≢ drawn) × (s ≡ served) × (d ≡ drawn)
ClosesBy served drawn (Err OutOfMemory) = served ≡ drawn

-- how many places are seen after an answer
abbrev pub seen_after : ℕ → TurnAnswer → ℕ
seen_after seen (Worn d) = seen
seen_after seen (Stale p l) = p + 1
seen_after seen (Full p) = p + 1
seen_after seen (NotReady p) = p + 1
seen_after seen (NoMemory p) = p + 1
seen_after seen (Took p e) = p + 1
