-- A thread that runs alone: each of its asks takes the next answer.
use Rattle.std.specs.Prelude.{◌≢◌, ℕ, zero, suc, ◌+◌, Bool, true, false, if◌then◌else◌, ◌*◌, List, [], ◌∷◌, ◌++◌, Option, Some, None, slice_get}
use Rattle.capabilities.specs.declared.Caps.{Caps}
use Rattle.lam_value.specs.declared.values.Value.{Value}
use Rattle.lam_asks.specs.declared.fault.Fault.{Fault}
use Rattle.lam_asks.specs.declared.answer.Answer.{Answer}
use Rattle.lam_asks.specs.declared.ask.Ask.{Ask}
use Rattle.lam_bytecode.specs.Codes.{CodeTree}
use Rattle.lam_bytecode.specs.declared.op.Op.{Op}
use Rattle.lam_bytecode.specs.declared.op.Op.TheVariants.{ReadBarrier, WriteBarrier}
use Rattle.lam_resolve_tree.specs.Tree.{ResolvedTree}
use Rattle.lam_meaning_typed.specs.Scheme.{ops_count, regions_count}
use Rattle.thread_steps.specs.Threads.{Inside, Context, Thread}
use Rattle.thread_steps.specs.Next.{Next, goes, asks, stuck, next_of, ops_of, with_inside, takes, started, standing, is_stuck}

-- the answers to come, the asks so far, and how many turns were no barrier
pub data Lone : Type 0 where
  runs : (thread : Thread) (answers : List Answer) (made : List Ask) (work : ℕ) → Lone
  -- its last ask has no answer
  waits : (made : List Ask) (work : ℕ) → Lone

abbrev pub is_barrier : Op → Bool
is_barrier (ReadBarrier d) = true
is_barrier (WriteBarrier d) = true
is_barrier o = false

abbrev pub op_work : Option Op → ℕ
op_work None = 1
op_work (Some o) = if is_barrier o then 0 else 1

abbrev pub work_in : Option Fault → Option Op → ℕ
work_in (Some f) o = 1
work_in None o = op_work o

-- 0 for a barrier, and else 1
abbrev pub work_of : CodeTree → Context → ℕ
work_of code c = work_in c.inside.fault (slice_get (ops_of code c.inside.frame.unit) c.inside.frame.at)

abbrev pub asked : CodeTree → Thread → Context → List Context → Inside → Ask → List Answer → List Ask → ℕ → Lone
asked code th c rest after a [] made w = waits (made ++ a ∷ []) w
asked code th c rest after a (x ∷ xs) made w = runs (takes code th c rest after a x) xs (made ++ a ∷ []) w

-- with the work before the turn, and after it
abbrev pub done : CodeTree → Thread → Context → List Context → List Answer → List Ask → ℕ → ℕ → Next → Lone
done code th c rest xs made old w (goes i) = runs (record { contexts = with_inside c i ∷ rest; result = th.result }) xs made w
done code th c rest xs made old w (asks a after) = asked code th c rest after a xs made w
done code th c rest xs made old w stuck = runs th xs made old

abbrev pub turn_of : CodeTree → Thread → List Context → List Answer → List Ask → ℕ → Lone
turn_of code th [] xs made w = runs th xs made w
turn_of code th (c ∷ rest) xs made w = done code th c rest xs made w (w + work_of code c) (next_of code c)

-- one turn. A thread that has ended, waits or is stuck stays as it is
abbrev pub turn : CodeTree → Lone → Lone
turn code (runs th xs made w) = turn_of code th th.contexts xs made w
turn code (waits made w) = waits made w

abbrev pub turns : CodeTree → ℕ → Lone → Lone
turns code zero s = s
turns code (suc m) s = turns code m (turn code s)

abbrev pub asks_in : Lone → List Ask
asks_in (runs th xs made w) = made
asks_in (waits made w) = made

abbrev pub work_done : Lone → ℕ
work_done (runs th xs made w) = w
work_done (waits made w) = w

abbrev pub NotStuck : CodeTree → Lone → Type 0
NotStuck code (runs th xs made w) = standing code th ≢ is_stuck
NotStuck code (waits made w) = Unit {0}

-- a function with its arguments, from its entry on
abbrev pub alone : CodeTree → ℕ → List Value → Caps → List Answer → Lone
alone code f vs k xs = runs (started code f vs k) xs [] 0

-- so many turns stand between two turns of loops or calls at most
abbrev pub bound : ResolvedTree → ℕ
bound r = ops_count r + 2 * regions_count r + 1
