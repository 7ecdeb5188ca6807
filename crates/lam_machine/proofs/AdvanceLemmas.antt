-- What was done of a turn when a thread was advanced.
use Rattle.std.proofs.Common.{◌≡◌, ℕ, ◌<◌, ◌≤◌, List, [], ◌∷◌, Option, Some, None, length, get_or, set, refl, sym, ap, ◌∙◌, subst}
use Rattle.std.specs.Prelude.{slice_get, slice_set}
use Rattle.std.proofs.lemmas.Option.{slice_get_read, slice_get_past, get_or_from_slice_get}
use Rattle.std.proofs.lemmas.List.{set-get_or}
use Rattle.flow_labels.specs.declared.Label.{Label}
use Rattle.lam_asks.specs.declared.ask.Ask.{Ask}
use Rattle.lam_asks.specs.declared.answer.Outcome.{Outcome}
use Rattle.lam_asks.specs.declared.answer.What.TheVariants.{Private}
use Rattle.lam_bytecode.specs.Codes.{CodeTree}
use Rattle.thread_steps.specs.Threads.{Context, Thread}
use Rattle.thread_steps.specs.Next.{Next, goes, asks, stuck, next_of, with_inside}
use Rattle.thread_core_answers.specs.Turning as turning
use Rattle.thread_core_answers.specs.Turning.{turned, moved, turn_of, stepped_in, stepped}
use Rattle.thread_core_answers.specs.Turn.{Turn}
use Rattle.thread_core_answers.specs.Turn.TheVariants as turn
use Rattle.lam_machine_terms.specs.Worlds.{World, thread_at}
use Rattle.lam_machine_terms.specs.Turns.{turn_on, turn_in, step}
use Rattle.lam_machine_effects.specs.declared.stores.Stores.{Stores}
use Rattle.lam_machine_effects.specs.Parts.{world_of}
use Rattle.lam_machine_laws.specs.Turned.{IsTurn, Acts}
use Rattle.lam_machine_laws.proofs.PartLemmas.{private_parts}
use Rattle.lam_machine.specs.Asking.{label_at, AsksNext, Advances}
use Rattle.lam_machine.proofs.AskLemmas.{acts_label, step_by}

pub none_there : (code : CodeTree) (w : World) (t : ℕ) → thread_at w t ≡ None → step code w t ≡ None
unfolding step
none_there code w t e = ap (λ x. turn_in code w t x) e

pub none_left : (code : CodeTree) (w : World) (t : ℕ) (th : Thread) → thread_at w t ≡ Some th → th.contexts ≡ [] → step code w t ≡ None
unfolding step
none_left code w t th e f = ap (λ x. turn_in code w t x) e ∙ ap (λ cs. turn_on code w t th cs) f

module _ (code : CodeTree) (s : Stores) (threads : List Thread) (t : ℕ) where
  -- the thread is as it was
  as_was : (th : Thread) → slice_get threads t ≡ Some th → world_of s (slice_set threads t th) ≡ world_of s threads
  as_was th e = ap (λ xs. world_of s xs) (ap (λ x. slice_set threads t x) (sym (get_or_from_slice_get threads t th th e)) ∙ set-get_or threads t th)

  by_next : (c : Context) (rest : List Context) (r : Option Outcome) (n : Next) → slice_get threads t ≡ Some (record { contexts = c ∷ rest; result = r }) → next_of code c ≡ n → Advances code (world_of s threads) t (turned n) (world_of s (slice_set threads t (record { contexts = moved c n ∷ rest; result = r })))
  unfolding Advances
  by_next c rest r (goes i) e f =
      let acts : Acts (world_of s threads) t (record { contexts = c ∷ rest; result = r }) c rest = record { at = e; list = refl } in
      λ l k.
      subst (λ (x : Label). IsTurn code t (world_of s threads) (record { label = x; thread = t; what = Private }) (world_of s (slice_set threads t (record { contexts = with_inside c i ∷ rest; result = r }))))
      (sym (k ∙ acts_label (world_of s threads) t _ c rest acts))
      (private_parts code (world_of s threads) t (record { contexts = c ∷ rest; result = r }) c rest i acts f)
  by_next c rest r (asks a i) e f =
      (record { thread = record { contexts = c ∷ rest; result = r }; top = c; rest = rest; after = i; acts = record { at = e; list = refl }; next = f }, as_was _ e)
  by_next c rest r stuck e f = (step_by code (world_of s threads) t (record { contexts = c ∷ rest; result = r }) c rest stuck (record { at = e; list = refl }) f, as_was _ e)

  by_contexts : (cs : List Context) (r : Option Outcome) → slice_get threads t ≡ Some (record { contexts = cs; result = r }) → Advances code (world_of s threads) t (turning.turn_in code cs) (world_of s (slice_set threads t (record { contexts = stepped_in code cs; result = r })))
  unfolding Advances
  by_contexts [] r e = (none_left code (world_of s threads) t (record { contexts = []; result = r }) e refl, as_was _ e)
  by_contexts (c ∷ rest) r e = by_next c rest r (next_of code c) e refl

-- a thread that is there was advanced
pub advances : (code : CodeTree) (s : Stores) (threads : List Thread) (t : ℕ) (th to : Thread) (x : Turn) → t < length threads → th ≡ get_or threads t th → x ≡ turn_of code th → to ≡ stepped code th
    → Advances code (world_of s threads) t x (world_of s (set threads t to))
advances code s threads t th to x k e f g =
    let at : slice_get threads t ≡ Some th = slice_get_read threads (length threads) t th refl k e in
    subst (λ (y : Turn). Advances code (world_of s threads) t y (world_of s (set threads t to))) (sym f)
    (subst (λ (y : Thread). Advances code (world_of s threads) t (turn_of code th) (world_of s (set threads t y))) (sym g) (by_contexts code s threads t th.contexts th.result at))

-- there is no such thread
pub absent : (code : CodeTree) (s : Stores) (threads : List Thread) (t : ℕ) → length threads ≤ t → Advances code (world_of s threads) t turn.Ended (world_of s threads)
unfolding Advances
absent code s threads t k = (none_there code (world_of s threads) t (slice_get_past threads t k), refl)

-- one that was refused memory is as it was
pub kept_at : (threads : List Thread) (t : ℕ) (th to : Thread) → th ≡ get_or threads t th → to ≡ th → set threads t to ≡ threads
kept_at threads t th to e f = ap (set threads t) (f ∙ e) ∙ set-get_or threads t th

-- ---- what is known then

module _ (code : CodeTree) (w : World) (t : ℕ) (x : Turn) (after : World) where
  pub took_private : Advances code w t x after → x ≡ turn.Private → (l : Label) → l ≡ label_at w t → IsTurn code t w (record { label = l; thread = t; what = Private }) after
  unfolding Advances
  took_private h e = subst (λ y. Advances code w t y after) e h

  pub handed_out : (a : Ask) → Advances code w t x after → x ≡ turn.Asks a → AsksNext code w t a × (after ≡ w)
  unfolding Advances
  handed_out a h e = subst (λ y. Advances code w t y after) e h

  pub stuck_still : Advances code w t x after → x ≡ turn.Stuck → (step code w t ≡ None) × (after ≡ w)
  unfolding Advances
  stuck_still h e = subst (λ y. Advances code w t y after) e h

  pub ended_still : Advances code w t x after → x ≡ turn.Ended → (step code w t ≡ None) × (after ≡ w)
  unfolding Advances
  ended_still h e = subst (λ y. Advances code w t y after) e h
