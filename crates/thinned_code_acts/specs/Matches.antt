-- What is proved of the turns of thinned code.
use Rattle.std.specs.Prelude.{◌≡◌, ℕ, List, map}
use Rattle.capabilities.specs.declared.Caps.{Caps}
use Rattle.lam_value.specs.declared.values.Value.{Value}
use Rattle.lam_asks.specs.declared.answer.Answer.{Answer}
use Rattle.lam_asks.specs.declared.ask.Ask.{Ask}
use Rattle.lam_bytecode.specs.Codes.{CodeTree}
use Rattle.thread_steps.specs.Threads.{Inside, Context, Thread}
use Rattle.thread_steps.specs.Next.{Next, goes, asks, next_of, takes, started}
use Rattle.guarded_code.specs.Breaks.{IsGuarded}
use Rattle.thinned_code.specs.Thinned.{thinned}
use Rattle.thinned_code_acts.specs.Moved.{moved_inside, outer_unit, moved_context, moved_thread, moved_next, Stays}

-- a new thread stands where it stood
abbrev pub StartsMatch : CodeTree → Type 0
StartsMatch code = IsGuarded code → (unit : ℕ) (args : List Value) (caps : Caps) → started (thinned code) unit args caps ≡ moved_thread code (started code unit args caps)

-- at an operation that stays, a context does next in thinned code what it does next in the code
abbrev pub NextMatches : CodeTree → Type 0
NextMatches code = IsGuarded code → (c : Context) → Stays code c → next_of (thinned code) (moved_context code c) ≡ moved_next code (next_of code c)

-- an answer does the same
abbrev pub AnswersMatch : CodeTree → Type 0
AnswersMatch code =
    IsGuarded code → (th : Thread) (c : Context) (rest : List Context) (after : Inside) (a : Ask) (x : Answer) → outer_unit after ≡ outer_unit c.inside →
    takes (thinned code) (moved_thread code th) (moved_context code c) (map (moved_context code) rest) (moved_inside code after) a x ≡ moved_thread code (takes code th c rest after a x)

-- the outermost frame stays in its unit
abbrev pub IsKept : Context → Next → Type 0
IsKept c (goes i) = outer_unit i ≡ outer_unit c.inside
IsKept c (asks a after) = outer_unit after ≡ outer_unit c.inside
IsKept c n = Unit {0}

abbrev pub PlaceIsKept : CodeTree → Type 0
PlaceIsKept code = (c : Context) → IsKept c (next_of code c)
