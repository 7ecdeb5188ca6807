-- A private turn of a thread of many.
use Rattle.std.proofs.Common.{◌≡◌, ℕ, ◌<◌, ◌≤◌, Bool, true, false, List, [], ◌∷◌, Some, length, get_or, set, refl, sym, ap, ◌∙◌, subst}
use Rattle.std.specs.Prelude.{slice_get}
use Rattle.std.proofs.lemmas.Option.{slice_get_read, slice_get_past}
use Rattle.lam_bytecode.specs.Codes.{CodeTree}
use Rattle.thread_steps.specs.Threads.{Context, Thread}
use Rattle.thread_steps.specs.Next as next
use Rattle.thread_steps.specs.Next.{Next, goes, asks, stuck, next_of, stands}
use Rattle.thread_core_answers.specs.Turning.{turned, turn_of, stepped}
use Rattle.thread_core_answers.specs.Turning as turning
use Rattle.thread_core_answers.specs.Untested.{StandsAs}
use Rattle.thread_core_answers.proofs.Untested.{near_same}
use Rattle.thread_core_answers.specs.Turn.{Turn}
use Rattle.thread_core_answers.specs.Turn.TheVariants as turn
use Rattle.lam_machine_terms.specs.Worlds.{World, thread_at}
use Rattle.lam_machine_effects.specs.declared.stores.Stores.{Stores}
use Rattle.lam_machine_effects.specs.Parts.{world_of}
use Rattle.lam_machine.specs.Asking.{Advances}
use Rattle.lam_machine.specs.Privately.{IsPrivateStep, is_private_standing, has_private_turn}
use Rattle.lam_machine.proofs.AdvanceLemmas.{advances, took_private, handed_out, stuck_still, ended_still}

-- whether a turn is private
abbrev is_private : Turn → Bool
is_private turn.Private = true
is_private (turn.Asks a) = false
is_private turn.Stuck = false
is_private turn.Ended = false

turned_as : (n : Next) → is_private_standing (stands n) ≡ is_private (turned n)
turned_as (goes i) = refl
turned_as (asks a i) = refl
turned_as stuck = refl

stands_as : (code : CodeTree) (cs : List Context) → is_private_standing (next.standing_in code cs) ≡ is_private (turning.turn_in code cs)
stands_as code [] = refl
stands_as code (c ∷ cs) = turned_as (next_of code c)

module _ (code : CodeTree) (w : World) (t : ℕ) (after : World) where
  by_turn : (x : Turn) → has_private_turn code (thread_at w t) ≡ is_private x → Advances code w t x after → IsPrivateStep code t w (is_private x) after
  unfolding IsPrivateStep
  by_turn turn.Private e h = (e, took_private code w t turn.Private after h refl _ refl)
  by_turn (turn.Asks a) e h = (e, (handed_out code w t (turn.Asks a) after a h refl).1)
  by_turn turn.Stuck e h = (e, (stuck_still code w t turn.Stuck after h refl).1)
  by_turn turn.Ended e h = (e, (ended_still code w t turn.Ended after h refl).1)

-- a thread that is there
pub goes_on : (code : CodeTree) (s : Stores) (threads : List Thread) (t : ℕ) (th to : Thread) (x : next.Standing) → t < length threads → th ≡ get_or threads t th → StandsAs code th x → to ≡ stepped code th
    → IsPrivateStep code t (world_of s threads) (is_private_standing x) (world_of s (set threads t to))
goes_on code s threads t th to x k e f g =
    let at : slice_get threads t ≡ Some th = slice_get_read threads (length threads) t th refl k e in
    let is : is_private_standing x ≡ is_private (turn_of code th) = near_same is_private_standing refl code th x f ∙ stands_as code th.contexts in
    subst (λ b. IsPrivateStep code t (world_of s threads) b (world_of s (set threads t to))) (sym is)
    (by_turn code (world_of s threads) t (world_of s (set threads t to)) (turn_of code th) (ap (has_private_turn code) at ∙ stands_as code th.contexts) (advances code s threads t th to (turn_of code th) k e refl g))

-- there is no such thread
pub absent : (code : CodeTree) (s : Stores) (threads : List Thread) (t : ℕ) → length threads ≤ t → IsPrivateStep code t (world_of s threads) false (world_of s threads)
unfolding IsPrivateStep
absent code s threads t k = (ap (has_private_turn code) (slice_get_past threads t k), refl)
