-- What its own turns make of a thread.
use Rattle.std.specs.Prelude.{◌≡◌, ℕ, nat_eq, List, [], ◌∷◌, ◌++◌, map, filter, Some, None}
use Rattle.lam_machine_effects.specs.Caps.{Caps}
use Rattle.lam_value.specs.declared.values.Value.{Value}
use Rattle.lam_value.specs.declared.values.Value.TheVariants as value
use Rattle.lam_machine_effects.specs.Answer.TheVariants.{Val}
use Rattle.lam_machine_effects.specs.What.{What}
use Rattle.lam_machine_effects.specs.What.TheVariants.{Private, Asked}
use Rattle.lam_machine_effects.specs.Ask.TheVariants as ask
use Rattle.lam_machine_effects.specs.Codes.{CodeTree}
use Rattle.lam_machine_effects.specs.Threads.{Inside, Context, Thread}
use Rattle.lam_machine_effects.specs.Next.{goes, asks, next_of, with_inside, takes, started}
use Rattle.lam_machine_effects.specs.Worlds.{World, thread_at}
use Rattle.lam_machine_effects.specs.Turns.{Moment, step, moments, replay}

-- ---- one turn

-- a private turn changes the inside of the acting context; an ask is what the context asks next, and its answer is taken
abbrev pub TurnsTo : CodeTree → Thread → Context → List Context → What → Thread → Type 0
TurnsTo code th c rest Private after =
    (i : Inside) × (next_of code c ≡ goes i) × (after ≡ record { contexts = with_inside c i ∷ rest; result = th.result })
TurnsTo code th c rest (Asked a x) after = (i : Inside) × (next_of code c ≡ asks a i) × (after ≡ takes code th c rest i a x)

-- one thread becomes another one by a turn of its own
pub record OwnTurn (code : CodeTree) (th : Thread) (what : What) (after : Thread) : Type 0 where
  pub top : Context
  pub rest : List Context
  pub list : th.contexts ≡ top ∷ rest
  pub turns : TurnsTo code th top rest what after

-- a thread stands at an entry, and what was done is that it was spawned
pub record IsSpawned (code : CodeTree) (u : ℕ) (what : What) (th : Thread) : Type 0 where
  pub unit : ℕ
  pub args : List Value
  pub caps : Caps
  pub asked : what ≡ Asked (ask.Spawn unit args caps) (Val (value.Thread u))
  pub it : th ≡ started code unit args caps

pub record Touches (code : CodeTree) (w : World) (t : ℕ) (m : Moment) : Type 0 where
  pub before : Thread
  pub after : Thread
  pub at : thread_at w t ≡ Some before
  pub then_at : thread_at m.world t ≡ Some after
  pub own : OwnTurn code before m.event.what after
  pub others : (u : ℕ) (th : Thread) → (u ≡ t → ⊥) → thread_at w u ≡ Some th → thread_at m.world u ≡ Some th
  pub new : (u : ℕ) (th : Thread) → thread_at w u ≡ None → thread_at m.world u ≡ Some th → IsSpawned code u m.event.what th

abbrev pub TurnsTouchTheirThread : CodeTree → Type 0
TurnsTouchTheirThread code = (w : World) (t : ℕ) (m : Moment) → step code w t ≡ Some m → Touches code w t m

-- ---- many turns

-- what a thread did, in order
abbrev pub done_by : ℕ → List Moment → List What
done_by u ms = map (λ (m : Moment). m.event.what) (filter (λ (m : Moment). nat_eq m.event.thread u) ms)

-- one thread becomes another one by turns of its own
abbrev pub OwnTurns : CodeTree → Thread → List What → Thread → Type 0
OwnTurns code th [] after = th ≡ after
OwnTurns code th (what ∷ more) after = (next : Thread) × OwnTurn code th what next × OwnTurns code next more after

-- it was spawned by one of the moments, and went on from there
pub record ComesFrom (code : CodeTree) (u : ℕ) (ms : List Moment) (after : Thread) : Type 0 where
  pub before : List Moment
  pub spawning : Moment
  pub later : List Moment
  pub parts : ms ≡ before ++ spawning ∷ later
  pub entry : Thread
  pub spawned : IsSpawned code u spawning.event.what entry
  pub goes_on : OwnTurns code entry (done_by u later) after

pub record ThreadsFollowTheirTurns (code : CodeTree) : Type 0 where
  -- one that was there
  pub old :
      (w : World) (turns : List ℕ) (u : ℕ) (th : Thread) → thread_at w u ≡ Some th →
      (after : Thread) × (thread_at (replay code turns w) u ≡ Some after) × OwnTurns code th (done_by u (moments code turns w)) after
  -- one that was not
  pub new :
      (w : World) (turns : List ℕ) (u : ℕ) (after : Thread) → thread_at w u ≡ None → thread_at (replay code turns w) u ≡ Some after →
      ComesFrom code u (moments code turns w) after
