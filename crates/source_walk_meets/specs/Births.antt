-- Which threads the turns of a run start, and that they are numbered in order.
use Rattle.std.specs.Prelude.{◌≡◌, ◌+◌, ◌<◌, ℕ, List, [], ◌∷◌, length, map, Option, Some, None}
use Rattle.std.specs.List.{flat_map}
use Rattle.std.specs.Option.{option_to_list}
use Rattle.capabilities.specs.declared.Caps.{Caps}
use Rattle.lam_value.specs.declared.values.Value.{Value}
use Rattle.lam_value.specs.declared.values.Value.TheVariants as value
use Rattle.lam_asks.specs.declared.answer.Answer.{Answer}
use Rattle.lam_asks.specs.declared.answer.Answer.TheVariants.{Val}
use Rattle.lam_asks.specs.declared.answer.What.{What}
use Rattle.lam_asks.specs.declared.answer.What.TheVariants.{Private, Asked}
use Rattle.lam_asks.specs.declared.ask.Ask.{Ask}
use Rattle.lam_asks.specs.declared.ask.Ask.TheVariants.{Spawn}
use Rattle.lam_bytecode.specs.Codes.{CodeTree, AreCounted}
use Rattle.lam_machine_terms.specs.Worlds.{World}
use Rattle.lam_machine_terms.specs.Turns.{Moment, moments, replay}

-- a thread that was started: its number, and the function, arguments and capabilities that it began with
pub record Birth : Type 0 where
  pub number : ℕ
  pub function : ℕ
  pub args : List Value
  pub caps : Caps

-- an ask starts a thread where it is a spawn that is answered with one
abbrev pub birth_by : Ask → Answer → Option Birth
birth_by (Spawn f vs k) (Val (value.Thread u)) = Some (record { number = u; function = f; args = vs; caps = k })
birth_by a x = None

abbrev pub birth_of : What → Option Birth
birth_of Private = None
birth_of (Asked a x) = birth_by a x

-- the threads that moments started, in order
abbrev pub births : List Moment → List Birth
births ms = flat_map (λ (m : Moment). option_to_list (birth_of m.event.what)) ms

abbrev pub numbers : List Birth → List ℕ
numbers bs = map (λ (b : Birth). b.number) bs

-- where there are so many threads at first, each turn is of one that is there
abbrev pub AreOfThreads : ℕ → List Moment → Type 0
AreOfThreads n [] = Unit {0}
AreOfThreads n (m ∷ ms) = (m.event.thread < n) × AreOfThreads (n + length (option_to_list (birth_of m.event.what))) ms

-- where there are so many threads at first: each turn is of one that is there, those that are started have the next
-- numbers, in order, and a last world has all of them
pub record HasThreads (n : ℕ) (ms : List Moment) (last : World) : Type 0 where
  pub turns : AreOfThreads n ms
  pub counted : AreCounted n (numbers (births ms))
  pub all : length last.threads ≡ n + length (births ms)

abbrev pub RunsHaveThreads : CodeTree → Type 0
RunsHaveThreads code = (w : World) (turns : List ℕ) → HasThreads (length w.threads) (moments code turns w) (replay code turns w)
