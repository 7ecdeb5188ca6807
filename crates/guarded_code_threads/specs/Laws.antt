-- What is proved of described threads, for every guarded code.
use Rattle.std.specs.Prelude.{◌≡◌, ℕ, List, ◌∷◌, Some, length, slice_get}
use Rattle.capabilities.specs.declared.Caps.{Caps}
use Rattle.lam_value.specs.declared.values.Value.{Value}
use Rattle.lam_asks.specs.declared.answer.Answer.{Answer}
use Rattle.lam_asks.specs.declared.ask.Ask.{Ask}
use Rattle.lam_asks.specs.declared.ask.Ask.TheVariants as ask
use Rattle.lam_bytecode.specs.Codes.{CodeTree, IsCode}
use Rattle.lam_bytecode.specs.declared.op.Op.{Op}
use Rattle.thread_steps.specs.Threads.{Inside, Context, Thread}
use Rattle.thread_steps.specs.Ops.{function_takes}
use Rattle.thread_steps.specs.Next.{goes, asks, next_by, next_of, with_inside, takes, started}
use Rattle.guarded_code.specs.Breaks.{IsGuarded}
use Rattle.guarded_code_threads.specs.Described.{IsDescribedContext, IsDescribed}
use Rattle.guarded_code_threads.specs.Answers.{Answers}
use Rattle.guarded_code_threads.specs.Accesses.{StandsAt, Finds, IsAccess, accessed}

-- a unit is a function of so many arguments
abbrev pub TakesAll : CodeTree → ℕ → List Value → Type 0
TakesAll code unit args = function_takes (slice_get code.units unit) ≡ Some (length args)

-- a thread at a function's entry agrees
abbrev pub StartsDescribed : CodeTree → Type 0
StartsDescribed code =
    IsCode code → IsGuarded code → (unit : ℕ) (args : List Value) (caps : Caps) → TakesAll code unit args → IsDescribed code (started code unit args caps)

-- a private turn keeps that a context does
abbrev pub PrivateTurnsKeep : CodeTree → Type 0
PrivateTurnsKeep code =
    IsCode code → IsGuarded code → (c : Context) (i : Inside) → IsDescribedContext code c → next_of code c ≡ goes i → IsDescribedContext code (with_inside c i)

-- an ask keeps that a thread does, whatever it is answered
abbrev pub AnswersKeep : CodeTree → Type 0
AnswersKeep code =
    IsCode code → IsGuarded code → (th : Thread) (c : Context) (rest : List Context) (i : Inside) (a : Ask) (x : Answer) →
    IsDescribed code th → th.contexts ≡ c ∷ rest → next_of code c ≡ asks a i → Answers a x → IsDescribed code (takes code th c rest i a x)

-- what is spawned stands at a function's entry
abbrev pub SpawnsAtEntries : CodeTree → Type 0
SpawnsAtEntries code =
    (c : Context) (i : Inside) (unit : ℕ) (args : List Value) (caps : Caps) → next_of code c ≡ asks (ask.Spawn unit args caps) i → TakesAll code unit args

-- an access finds a reference that is not null and whose rule holds
abbrev pub AccessesFind : CodeTree → Type 0
AccessesFind code = IsGuarded code → (c : Context) (op : Op) → IsDescribedContext code c → StandsAt code c op → Finds c.label op c.inside.frame.stack

-- so no test is made there: it asks or raises Index, unless an operand is of another kind than the access takes
abbrev pub NoSecondTest : CodeTree → Type 0
NoSecondTest code =
    IsGuarded code → (c : Context) (op : Op) → IsDescribedContext code c → StandsAt code c op → IsAccess op → next_of code c ≡ next_by code c.phase c.inside (accessed op c.inside.frame.stack)
