-- What is kept of the turns of a run, and what one turn adds.
use Rattle.std.specs.Prelude.{◌≡◌, ◌+◌, ◌≤◌, ℕ, List, [], ◌∷◌, length, Some, slice_get}
use Rattle.lam_asks.specs.declared.answer.What.{What}
use Rattle.lam_resolve_tree.specs.Tree.{ResolvedTree}
use Rattle.lam_machine_terms.specs.Turns.{Moment}
use Rattle.source_walk_state.specs.declared.Beginning.{Beginning}
use Rattle.source_walk_meets.specs.Runs.{asked_in}
use Rattle.source_walk_meets.specs.Walks.{asks_in}
use Rattle.source_walk_meets.specs.Births.{birth_of, AreOfThreads}
use Rattle.source_walk_follow.specs.declared.followers.Follower.{Follower}
use Rattle.source_walk_follow.specs.Following.{asks_met}
use Rattle.source_walk_run.specs.declared.turns_pass.Kept.{Kept}
use Rattle.source_walk_run.specs.Walking.{AreWalking, Begins, FollowsAt}

-- What is kept after these moments, where the start's threads began as starts, and thread u takes (turns at u) turns in
-- all. walks is known only where each moment is of a thread that is there.
pub record IsKept (r : ResolvedTree) (starts : List Beginning) (turns : List ℕ) (ms : List Moment) (kept : Kept) : Type 0 where
  pub walks : AreOfThreads (length starts) ms → AreWalking r starts turns ms kept.walks.items
  pub few : (u : ℕ) (w : Follower) → slice_get kept.walks.items u ≡ Some w → asks_met w ≤ length ms
  pub asks : kept.asks ≡ asks_in ms

-- a turn of a thread adds this: first begins who is started, and then the thread's walk goes on
pub record Adds (r : ResolvedTree) (turns : List ℕ) (t : ℕ) (what : What) (before after : Kept) : Type 0 where
  pub between : List Follower
  pub begins : Begins r turns (birth_of what) before.walks.items between
  pub follows : FollowsAt r t what between after.walks.items
  pub asks : after.asks ≡ before.asks + length (asked_in (what ∷ []))
