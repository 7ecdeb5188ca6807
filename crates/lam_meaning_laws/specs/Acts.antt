-- That compiled code acts as its source.
use Rattle.std.specs.Prelude.{◌≡◌, ◌≤◌, ℕ, ◌+◌, ◌*◌, List, ◌++◌, length, Some, slice_get}
use Rattle.capabilities.specs.declared.Caps.{Caps}
use Rattle.lam_value.specs.declared.values.Value.{Value}
use Rattle.lam_asks.specs.declared.answer.Answer.{Answer}
use Rattle.lam_asks.specs.declared.ask.Ask.{Ask}
use Rattle.lam_bytecode.specs.Codes.{CodeTree}
use Rattle.thread_steps.specs.Ops.{function_takes}
use Rattle.lam_resolve_tree.specs.Tree.{ResolvedFunction, ResolvedTree}
use Rattle.lam_resolve_tree.specs.Typing.{IsTypedTree}
use Rattle.lam_resolve_tree.specs.Regions.{AreNumbered}
use Rattle.lam_meaning_typed.specs.Means.{means}
use Rattle.lam_meaning_typed.specs.Plays.{asks_of, AllFit, asks_made}
use Rattle.lam_meaning_typed.specs.Kinds.{AreOf}
use Rattle.lam_meaning_typed.specs.Scheme.{scheme}
use Rattle.lam_meaning_laws.specs.Lone.{Lone, turns, asks_in, work_done, NotStuck, alone, bound}

-- these are the first of those
abbrev pub AreFirst : List Ask → List Ask → Type 0
AreFirst a b = (rest : List Ask) × (b ≡ a ++ rest)

-- a thread of a code that starts at function f with arguments and capabilities, and runs alone with these answers,
-- after m turns
abbrev pub lone_in : CodeTree → ℕ → List Value → Caps → List Answer → ℕ → Lone
lone_in code f vs k xs m = turns code m (alone code f vs k xs)

-- a thread of the code that the scheme gives a program
abbrev pub lone : ResolvedTree → ℕ → List Value → Caps → List Answer → ℕ → Lone
lone r f vs k xs m = lone_in (scheme r) f vs k xs m

-- against what the source means with n units
pub record ActsWith (code : CodeTree) (n : ℕ) (r : ResolvedTree) (f : ℕ) (vs : List Value) (k : Caps) (xs : List Answer) : Type 0 where
  -- while no more than n of its turns are no barrier, it is not stuck, and its asks are the first ones of the source
  pub never_stuck : (m : ℕ) → work_done (lone_in code f vs k xs m) ≤ n → NotStuck code (lone_in code f vs k xs m)
  pub asks_only : (m : ℕ) → work_done (lone_in code f vs k xs m) ≤ n → AreFirst (asks_in (lone_in code f vs k xs m)) (asks_made r n f vs k xs)
  -- after so many turns it has made all asks of the source; one that has ended, or waits, makes no more
  pub asks_all : (m : ℕ) → (n + 1) * bound r ≤ m → AreFirst (asks_made r n f vs k xs) (asks_in (lone_in code f vs k xs m))

-- A code acts as a program, with any function of it, arguments of its parameters' kinds, any capabilities, and answers
-- that suit the asks that the source makes with n units.
abbrev pub ActsAs : CodeTree → ResolvedTree → Type 0
ActsAs code r =
    (n f : ℕ) (fn : ResolvedFunction) (vs : List Value) (k : Caps) (xs : List Answer) → slice_get r.functions f ≡ Some fn → AreOf fn.params vs → AllFit (asks_of (means r n f vs k) xs) xs
    → ActsWith code n r f vs k xs

-- each function of a program is one of the code, by the same number, and takes as many arguments
abbrev pub HasFunctions : CodeTree → ResolvedTree → Type 0
HasFunctions code r = (f : ℕ) (fn : ResolvedFunction) → slice_get r.functions f ≡ Some fn → function_takes (slice_get code.units f) ≡ Some (length fn.params)

-- the scheme's code of a program
abbrev pub ActsAsSource : ResolvedTree → Type 0
ActsAsSource r = ActsAs (scheme r) r

abbrev pub CodeActs : ResolvedTree → Type 0
CodeActs r = IsTypedTree r → AreNumbered r → ActsAsSource r

-- where they suit them with any number of units
abbrev pub NeverStuck : ResolvedTree → Type 0
NeverStuck r =
    IsTypedTree r → AreNumbered r → (f : ℕ) (fn : ResolvedFunction) (vs : List Value) (k : Caps) (xs : List Answer) → slice_get r.functions f ≡ Some fn → AreOf fn.params vs →
    ((n : ℕ) → AllFit (asks_of (means r n f vs k) xs) xs) → (m : ℕ) → NotStuck (scheme r) (lone r f vs k xs m)
