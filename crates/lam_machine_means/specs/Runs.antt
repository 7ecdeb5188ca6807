-- In every run of a code that acts as a typed program each answer suits the ask that it answers.
use Rattle.std.specs.Prelude.{◌≡◌, ◌⊎◌, ℕ, List, [], ◌∷◌, ◌++◌, Some, None, slice_get}
use Rattle.capabilities.specs.declared.Caps.{Caps}
use Rattle.lam_value.specs.declared.values.Value.{Value}
use Rattle.lam_builtins.specs.Types.{int}
use Rattle.lam_value.specs.declared.values.Value.TheVariants as value
use Rattle.lam_asks.specs.declared.answer.Answer.{Answer}
use Rattle.lam_asks.specs.declared.answer.Answer.TheVariants.{Val}
use Rattle.lam_asks.specs.declared.answer.What.{What}
use Rattle.lam_asks.specs.declared.answer.What.TheVariants.{Private, Asked}
use Rattle.lam_asks.specs.declared.ask.Ask.{Ask}
use Rattle.lam_asks.specs.declared.ask.Ask.TheVariants.{Spawn}
use Rattle.lam_bytecode.specs.Codes.{CodeTree, IsCode}
use Rattle.lam_resolve_tree.specs.Tree.{ResolvedFunction, ResolvedTree}
use Rattle.lam_resolve_tree.specs.Typing.{IsTypedTree}
use Rattle.thread_steps.specs.Threads.{Thread}
use Rattle.thread_steps.specs.Next.{started}
use Rattle.lam_meaning.specs.Means.{means}
use Rattle.lam_meaning.specs.Plays.{asks_of, AllFit}
use Rattle.lam_meaning_typed.specs.Kinds.{AreOf}
use Rattle.lam_meaning_laws.specs.Acts.{ActsAs}
use Rattle.lam_machine_valid.specs.Worlds.{World, thread_at}
use Rattle.lam_machine_valid.specs.Turns.{Moment, moments, replay}
use Rattle.lam_machine_valid.specs.Valid.{IsValid}
use Rattle.lam_machine_valid.specs.Own.{done_by, OwnTurns}
use Rattle.lam_machine_means.specs.Typing.{Typing}
use Rattle.lam_machine_means.specs.Asks.{IsStart}

-- what a thread asked in its turns, in order, and what it was answered
abbrev pub asked_in : List What → List Ask
asked_in [] = []
asked_in (Private ∷ did) = asked_in did
asked_in (Asked a x ∷ did) = a ∷ asked_in did

abbrev pub answers_in : List What → List Answer
answers_in [] = []
answers_in (Private ∷ did) = answers_in did
answers_in (Asked a x ∷ did) = x ∷ answers_in did

-- ---- how threads begin

abbrev pub nothing_known : Typing
nothing_known n = None

-- a thread stands at the entry of a function whose result is a number, with arguments of its parameters' types, among
-- them no object and no array
pub record JustStarts (r : ResolvedTree) (code : CodeTree) (th : Thread) : Type 0 where
  pub function : ℕ
  pub args : List Value
  pub caps : Caps
  pub it : th ≡ started code function args caps
  pub starts : IsStart r nothing_known function args

abbrev pub ThreadsStart : ResolvedTree → CodeTree → World → Type 0
ThreadsStart r code w = (t : ℕ) (th : Thread) → thread_at w t ≡ Some th → JustStarts r code th

-- one of the moments spawned thread u so
pub record WasSpawned (ms : List Moment) (u f : ℕ) (vs : List Value) (k : Caps) : Type 0 where
  pub before : List Moment
  pub spawning : Moment
  pub later : List Moment
  pub parts : ms ≡ before ++ spawning ∷ later
  pub asked : spawning.event.what ≡ Asked (Spawn f vs k) (Val (value.Thread u))

-- thread u stood in the first world at the entry of f with arguments and capabilities, or was spawned so later
abbrev pub Began : CodeTree → World → List Moment → ℕ → ℕ → List Value → Caps → Type 0
Began code w ms u f vs k = (thread_at w u ≡ Some (started code f vs k)) ⊎ WasSpawned ms u f vs k

-- ---- runs

-- Thread u began at a function whose result is a number, with arguments of the sorts of its parameters, and went on by its own turns among the
-- moments. Each answer that it got suits the ask that its source means, with any number of units.
pub record IsSuited (r : ResolvedTree) (code : CodeTree) (w : World) (ms : List Moment) (u : ℕ) (th : Thread) : Type 0 where
  pub function : ℕ
  pub args : List Value
  pub caps : Caps
  pub began : Began code w ms u function args caps
  pub own : OwnTurns code (started code function args caps) (done_by u ms) th
  pub declared : ResolvedFunction
  pub found : slice_get r.functions function ≡ Some declared
  pub result : declared.result ≡ Some int
  pub sorts : AreOf declared.params args
  pub suit : (n : ℕ) → AllFit (asks_of (means r n function args caps) (answers_in (done_by u ms))) (answers_in (done_by u ms))

-- from a valid world whose threads just start, after any turns
abbrev pub AnswersSuitInRuns : ResolvedTree → CodeTree → Type 0
AnswersSuitInRuns r code =
    ActsAs code r → IsCode code → IsTypedTree r → (w : World) (turns : List ℕ) → IsValid w → ThreadsStart r code w → (u : ℕ) (th : Thread) → thread_at (replay code turns w) u ≡ Some th →
    IsSuited r code w (moments code turns w) u th
