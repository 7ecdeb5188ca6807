-- That the threads of a run mean what their source means.
use Rattle.std.specs.Prelude.{◌≡◌, ◌≢◌, ◌≤◌, ◌⊎◌, ℕ, ◌+◌, ◌*◌, List, length, Some, slice_get}
use Rattle.std.specs.List.{AllByRecursion}
use Rattle.capabilities.specs.declared.Caps.{Caps}
use Rattle.lam_value.specs.declared.values.Value.{Value}
use Rattle.lam_builtins.specs.Types.{int}
use Rattle.lam_asks.specs.declared.answer.What.{What}
use Rattle.lam_bytecode.specs.Codes.{CodeTree, IsCode}
use Rattle.lam_resolve_tree.specs.Tree.{ResolvedFunction, ResolvedTree}
use Rattle.lam_resolve_tree.specs.Typing.{IsTypedTree}
use Rattle.thread_steps.specs.Threads.{Thread}
use Rattle.thread_steps.specs.Next.{standing, is_stuck, is_ended}
use Rattle.lam_meaning.specs.Plays.{asks_made}
use Rattle.lam_meaning_typed.specs.Kinds.{AreOf}
use Rattle.lam_meaning_laws.specs.Lone.{bound}
use Rattle.lam_meaning_laws.specs.Acts.{AreFirst, ActsAs}
use Rattle.lam_machine_valid.specs.Worlds.{World, thread_at}
use Rattle.lam_machine_valid.specs.Turns.{Moment, moments, replay}
use Rattle.lam_machine_valid.specs.Valid.{IsValid}
use Rattle.lam_machine_valid.specs.Own.{done_by}
use Rattle.lam_machine_means.specs.Runs.{asked_in, answers_in, ThreadsStart, Began}

-- A thread made so many turns that it has made all asks of its source with n units, or it has ended. The bound is the
-- number of operations that the scheme gives the program, twice that of its regions, and one.
abbrev pub IsFar : ResolvedTree → CodeTree → ℕ → List What → Thread → Type 0
IsFar r code n did th = ((n + 1) * bound r ≤ length did) ⊎ (standing code th ≡ is_ended)

-- against its source, what a thread did that was started with a function, arguments and capabilities
pub record DoesAsMeant (r : ResolvedTree) (code : CodeTree) (f : ℕ) (vs : List Value) (k : Caps) (did : List What) (th : Thread) : Type 0 where
  pub never_stuck : standing code th ≢ is_stuck
  -- its asks are the first ones that the source makes, with as many units as the thread made turns, and its answers
  pub asks_only : AreFirst (asked_in did) (asks_made r (length did) f vs k (answers_in did))
  -- those that the source makes with n units, and its answers, are the first ones of its own
  pub asks_all : (n : ℕ) → IsFar r code n did th → AreFirst (asks_made r n f vs k (answers_in did)) (asked_in did)

-- a thread of a run: how it began, with arguments of the sorts of its function's parameters, in a function whose result is a
-- number, and that it does as meant
pub record MeansItsSource (r : ResolvedTree) (code : CodeTree) (w : World) (ms : List Moment) (u : ℕ) (th : Thread) : Type 0 where
  pub function : ℕ
  pub args : List Value
  pub caps : Caps
  pub began : Began code w ms u function args caps
  pub declared : ResolvedFunction
  pub found : slice_get r.functions function ≡ Some declared
  pub result : declared.result ≡ Some int
  pub sorts : AreOf declared.params args
  pub meant : DoesAsMeant r code function args caps (done_by u ms) th

-- each thread, also one that was spawned, after any turns from a valid world whose threads just start
abbrev pub RunsMean : ResolvedTree → CodeTree → Type 0
RunsMean r code =
    ActsAs code r → IsCode code → IsTypedTree r → (w : World) (turns : List ℕ) → IsValid w → ThreadsStart r code w → (u : ℕ) (th : Thread) → thread_at (replay code turns w) u ≡ Some th →
    MeansItsSource r code w (moments code turns w) u th

-- no thread of a world is stuck
abbrev pub NoneStuck : CodeTree → World → Type 0
NoneStuck code w = (u : ℕ) (th : Thread) → thread_at w u ≡ Some th → standing code th ≢ is_stuck

-- at the start, and after each turn
abbrev pub NoRunSticks : ResolvedTree → CodeTree → Type 0
NoRunSticks r code =
    ActsAs code r → IsCode code → IsTypedTree r → (w : World) (turns : List ℕ) → IsValid w → ThreadsStart r code w →
    NoneStuck code w × AllByRecursion (λ (m : Moment). NoneStuck code m.world) (moments code turns w)
