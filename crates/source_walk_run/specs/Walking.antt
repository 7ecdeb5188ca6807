-- How the walks of threads stand to what the threads did, and what one turn changes.
use Rattle.std.specs.Prelude.{◌≡◌, ◌<◌, ◌+◌, ◌-◌, ◌^◌, ◌⊎◌, ℕ, List, [], ◌∷◌, ◌++◌, length, get_or, Option, Some, None, slice_get}
use Rattle.lam_asks.specs.declared.answer.What.{What}
use Rattle.lam_resolve_tree.specs.Tree.{ResolvedTree}
use Rattle.lam_meaning.specs.Plays.{asks_made}
use Rattle.lam_machine_terms.specs.Turns.{Moment}
use Rattle.lam_machine_laws.specs.Own.{done_by}
use Rattle.source_walk_terms.specs.Walks.{IsEntry}
use Rattle.source_walk_state.specs.declared.Beginning.{Beginning}
use Rattle.source_walk_meets.specs.Births.{Birth, births}
use Rattle.source_walk_follow.specs.declared.followers.Follower.{Follower}
use Rattle.source_walk_follow.specs.declared.followers.Follower.TheVariants.{Departed}
use Rattle.source_walk_follow.specs.Following.{IsFollowing, asks_met, FollowsTurn}
use Rattle.source_walk_run.specs.Beginnings.{beginning_of, all_begun}

-- w is the walk of a thread that began as b and did this, over its source with n units. If b is an entry, w follows what
-- the thread did; else the thread departed at once.
abbrev pub IsMeeting : ResolvedTree → ℕ → Beginning → List What → Follower → Type 0
IsMeeting r n b did w = (IsEntry r b.function b.args × IsFollowing r (asks_made r n b.function b.args b.caps) did w) ⊎ ((IsEntry r b.function b.args → ⊥) × (w ≡ Departed 0))

-- the walks of threads that began so and did nothing yet, by the numbers of their turns
pub record AreFirstWalks (r : ResolvedTree) (starts : List Beginning) (turns : List ℕ) (walks : List Follower) : Type 0 where
  pub many : length walks ≡ length starts
  pub each : (u : ℕ) (b : Beginning) (w : Follower) → slice_get starts u ≡ Some b → slice_get walks u ≡ Some w → IsMeeting r (get_or turns u 0) b [] w
  pub asks : (u : ℕ) (w : Follower) → slice_get walks u ≡ Some w → asks_met w ≡ 0

-- the walks of the threads of moments, where those of the start began so
pub record AreWalking (r : ResolvedTree) (starts : List Beginning) (turns : List ℕ) (ms : List Moment) (walks : List Follower) : Type 0 where
  pub many : length walks ≡ length starts + length (births ms)
  pub each : (u : ℕ) (b : Beginning) (w : Follower) → slice_get (all_begun starts ms) u ≡ Some b → slice_get walks u ≡ Some w → IsMeeting r (get_or turns u 0) b (done_by u ms) w

-- ---- one turn

-- no walk met so many asks that their number has no room for one more
abbrev pub HaveRoom : List Follower → Type 0
HaveRoom walks = (u : ℕ) (w : Follower) → slice_get walks u ≡ Some w → asks_met w < 2 ^ 64 - 1

-- the walk of a thread that did nothing yet is put to the end
pub record BeginsOne (r : ResolvedTree) (turns : List ℕ) (birth : Birth) (before after : List Follower) : Type 0 where
  pub walk : Follower
  pub walks : after ≡ before ++ walk ∷ []
  pub meets : IsMeeting r (get_or turns (length before) 0) (beginning_of birth) [] walk
  pub asks : asks_met walk ≡ 0

-- where a thread was started
abbrev pub Begins : ResolvedTree → List ℕ → Option Birth → List Follower → List Follower → Type 0
Begins r turns None before after = after ≡ before
Begins r turns (Some birth) before after = BeginsOne r turns birth before after

-- the walk at this place follows a turn, and the others stay
pub record FollowsAt (r : ResolvedTree) (t : ℕ) (what : What) (before after : List Follower) : Type 0 where
  pub many : length after ≡ length before
  pub here : (w v : Follower) → slice_get before t ≡ Some w → slice_get after t ≡ Some v → FollowsTurn r w what v
  pub apart : (u : ℕ) → (u ≡ t → ⊥) → slice_get after u ≡ slice_get before u
