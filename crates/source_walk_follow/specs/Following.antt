-- How a walk over the source of one thread stands to what the thread did so far.
use Rattle.std.specs.Prelude.{◌≡◌, ◌≤◌, ◌+◌, ℕ, List, [], ◌∷◌, ◌++◌, length, Option, Some, None}
use Rattle.lam_asks.specs.declared.answer.Answer.{Answer}
use Rattle.lam_asks.specs.declared.answer.What.{What}
use Rattle.lam_asks.specs.declared.ask.Ask.{Ask}
use Rattle.lam_resolve_tree.specs.Tree.{ResolvedTree}
use Rattle.source_walk_terms.specs.Runs.{asked_in, answers_in}
use Rattle.source_walk_terms.specs.Departs.{DepartsAt}
use Rattle.source_walk_state.specs.declared.Control.{Control}
use Rattle.source_walk_parts.specs.States.{State, state_of}
use Rattle.source_walk_follow.specs.declared.followers.Follower.{Follower}
use Rattle.source_walk_follow.specs.declared.followers.Follower.TheVariants.{Along, Departed}
use Rattle.source_walk_follow.specs.Standing.{asks_left}

-- what a source asks, by the answers that it gets
abbrev pub Source : Type 0
Source = List Answer → List Ask

-- The thread asked so much, and all of it was its source's. Whatever it is answered next, its source then asks what the
-- walk has left.
pub record GoesAlong (r : ResolvedTree) (source : Source) (did : List What) (asks : ℕ) (c : Control) (s : State) : Type 0 where
  pub many : asks ≡ length (asked_in did)
  pub left : (xs : List Answer) → source (answers_in did ++ xs) ≡ asked_in did ++ asks_left r c s xs

-- the thread left its source at a place, whatever it does next
abbrev pub HasLeft : Source → List What → ℕ → Type 0
HasLeft source did place = (more : List What) → DepartsAt (asked_in (did ++ more)) (source (answers_in (did ++ more))) place

abbrev pub IsFollowing : ResolvedTree → Source → List What → Follower → Type 0
IsFollowing r source did (Along w asks) = GoesAlong r source did asks w.control (state_of w.walk)
IsFollowing r source did (Departed ask) = HasLeft source did ask

-- how many asks were compared and found to be the source's, where the walk goes on
abbrev pub asks_met : Follower → ℕ
asks_met (Along w asks) = asks
asks_met (Departed ask) = 0

-- the place where the thread left its source
abbrev pub place_left : Follower → Option ℕ
place_left (Along w asks) = None
place_left (Departed ask) = Some ask

-- a turn of the thread, which takes its walk from one state to the next
pub record FollowsTurn (r : ResolvedTree) (before : Follower) (what : What) (after : Follower) : Type 0 where
  pub follows : (source : Source) (did : List What) → IsFollowing r source did before → IsFollowing r source (did ++ what ∷ []) after
  -- one that has left stays so
  pub stays : (place : ℕ) → before ≡ Departed place → after ≡ Departed place
  pub few : asks_met after ≤ asks_met before + 1

-- all turns that a thread took, from its first one on
abbrev pub FollowsAll : ResolvedTree → Follower → List What → Follower → Type 0
FollowsAll r before did after = (source : Source) → IsFollowing r source [] before → IsFollowing r source did after
