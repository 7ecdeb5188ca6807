-- Private turns of one thread of many, in a row.
use Rattle.std.proofs.Common.{◌≡◌, ℕ, zero, suc, ◌<◌, Bool, true, List, [], ◌∷◌, Option, Some, None, length, get_or, set, inl, refl, sym, ap, ◌∙◌, subst, arith}
use Rattle.std.proofs.lemmas.Bool.{and_parts}
use Rattle.std.proofs.lemmas.List.{length-set, get_or-set_same, set-set}
use Rattle.lam_bytecode.specs.Codes.{CodeTree}
use Rattle.lam_asks.specs.declared.answer.Outcome.{Outcome}
use Rattle.thread_steps.specs.Threads.{Context, Thread}
use Rattle.thread_steps.specs.Next as next
use Rattle.thread_steps.specs.Next.{Next, goes, asks, stuck, next_of}
use Rattle.thread_core_answers.specs.Turning.{stepped}
use Rattle.thread_core_stretches.specs.Stretches.{is_private, stands_private, rows, are_private, WentPrivately}
use Rattle.lam_machine_terms.specs.Worlds.{World, thread_at, contexts_in, with_thread}
use Rattle.lam_machine_terms.specs.Turns.{Moment}
use Rattle.lam_machine_effects.specs.declared.stores.Stores.{Stores}
use Rattle.lam_machine_effects.specs.Parts.{world_of}
use Rattle.lam_machine_laws.specs.Turned.{IsTurn, Acts, gone_on}
use Rattle.lam_machine_laws.proofs.OwnLemmas.{set_here}
use Rattle.lam_machine_laws.proofs.PartLemmas.{private_parts}
use Rattle.lam_machine.specs.Asking.{top_label, label_at}
use Rattle.lam_machine.specs.Privately.{IsPrivateStep, ArePrivateSteps, is_private_standing, has_private_turn, private_event}
use Rattle.lam_machine.proofs.AskLemmas.{acts_label}
use Rattle.lam_machine.proofs.AdvanceLemmas.{kept_at}
use Rattle.lam_machine.proofs.PrivateLemmas.{goes_on}

is_same : (s : next.Standing) → is_private_standing s ≡ is_private s
is_same next.is_private = refl
is_same next.is_shared = refl
is_same next.is_stuck = refl
is_same next.is_ended = refl

module _ (code : CodeTree) (s : Stores) (t : ℕ) where
  -- a thread whose next turn is private takes it
  one_taken : (threads : List Thread) (th : Thread) → t < length threads → th ≡ get_or threads t th → stands_private code th ≡ true → IsPrivateStep code t (world_of s threads) true (world_of s (set threads t (stepped code th)))
  one_taken threads th k e p =
      subst (λ (b : Bool). IsPrivateStep code t (world_of s threads) b (world_of s (set threads t (stepped code th)))) (is_same (next.standing code th) ∙ p)
      (goes_on code s threads t th (stepped code th) (next.standing code th) k e (inl refl) refl)

  -- and so many, where each of them is private
  all_taken : (threads : List Thread) (th : Thread) (n : ℕ) → t < length threads → th ≡ get_or threads t th → are_private code n th ≡ true → ArePrivateSteps code t n (world_of s threads) (world_of s (set threads t (rows code n th)))
  all_taken threads th zero k e p = ap (λ (ts : List Thread). world_of s ts) (kept_at threads t th th e refl)
  all_taken threads th (suc n) k e p =
      let so_far = and_parts (are_private code n th) (stands_private code (rows code n th)) p in
      let gone : Thread = rows code n th in
      let there : List Thread = set threads t gone in
      let long : length there ≡ length threads = length-set threads t gone in
      let one = one_taken there gone (omega (arith, long, k)) (sym (get_or-set_same threads t gone gone k)) so_far.1 in (
        world_of s there,
        all_taken threads th n k e so_far.0,
        subst (λ (ts : List Thread). IsPrivateStep code t (world_of s there) true (world_of s ts)) (set-set threads t gone (stepped code gone)) one,
      )

-- a thread that is there
pub went_at : (code : CodeTree) (s : Stores) (threads : List Thread) (t n : ℕ) (th to : Thread) → t < length threads → th ≡ get_or threads t th → WentPrivately code th n to → ArePrivateSteps code t n (world_of s threads) (world_of s (set threads t to))
went_at code s threads t n th to k e went =
    subst (λ (x : Thread). ArePrivateSteps code t n (world_of s threads) (world_of s (set threads t x))) (sym went.to)
    (all_taken code s t threads th n k e went.each)

-- ---- a private turn leaves the label at which the thread acts

abbrev world_in : World → Option Moment → World
world_in w None = w
world_in w (Some m) = m.world

module _ (code : CodeTree) (w : World) (t : ℕ) (after : World) (turn : IsTurn code t w (private_event w t) after) where
  by_next : (c : Context) (rest : List Context) (r : Option Outcome) (n : Next) → thread_at w t ≡ Some (record { contexts = c ∷ rest; result = r }) → next_of code c ≡ n → is_private_standing (next.stands n) ≡ true → label_at after t ≡ label_at w t
  by_next c rest r (goes i) at e p =
      let th : Thread = record { contexts = c ∷ rest; result = r } in
      let acts : Acts w t th c rest = record { at = at; list = refl } in
      let to : Thread = gone_on th c rest i in
      let is : after ≡ with_thread w t to = ap (world_in w) (sym turn.is ∙ (private_parts code w t th c rest i acts e).is) in
      ap (λ (v : World). label_at v t) is ∙ ap (λ (x : Option Thread). top_label (contexts_in x)) (set_here t w.threads to th at) ∙ sym (acts_label w t th c rest acts)
  by_next c rest r (asks a i) at e p = absurd cc
  by_next c rest r stuck at e p = absurd cc

  by_contexts : (cs : List Context) (r : Option Outcome) → thread_at w t ≡ Some (record { contexts = cs; result = r }) → is_private_standing (next.standing_in code cs) ≡ true → label_at after t ≡ label_at w t
  by_contexts [] r at p = absurd cc
  by_contexts (c ∷ rest) r at p = by_next c rest r (next_of code c) at refl p

  by_thread : (x : Option Thread) → thread_at w t ≡ x → has_private_turn code x ≡ true → label_at after t ≡ label_at w t
  by_thread None at p = absurd cc
  by_thread (Some th) at p = by_contexts th.contexts th.result at p

pub label_stays : (code : CodeTree) (t : ℕ) (w after : World) → IsPrivateStep code t w true after → label_at after t ≡ label_at w t
unfolding IsPrivateStep
label_stays code t w after h = by_thread code w t after h.1 (thread_at w t) refl h.0

pub labels_stay : (code : CodeTree) (t n : ℕ) (w after : World) → ArePrivateSteps code t n w after → label_at after t ≡ label_at w t
labels_stay code t zero w after same = ap (λ (v : World). label_at v t) same
labels_stay code t (suc n) w after steps = label_stays code t steps.0 after steps.2 ∙ labels_stay code t n w steps.0 steps.1
