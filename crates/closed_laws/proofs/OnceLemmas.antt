-- The one run of a start that ends.
use Rattle.std.proofs.Common.{le_refl, zero-le, ◌≡◌, ℕ, zero, suc, ◌≤◌, ◌+◌, true, false, List, [], ◌∷◌, Option, Some, None, length, refl, sym, ap, ◌∙◌, subst, arith}
use Rattle.std.specs.Prelude.{nat_le, is_some, is_none}
use Rattle.std.proofs.lemmas.Bool.Decides.{nat_tests}
use Rattle.flow_labels.specs.declared.Label.{Label}
use Rattle.lam_machine_effects.specs.Codes.{CodeTree}
use Rattle.lam_machine_effects.specs.Worlds.{World}
use Rattle.lam_machine_effects.specs.Turns.{Moment, step, ready}
use Rattle.closed_terms.specs.declared.End.{End}
use Rattle.closed_terms.specs.declared.Slot.{Slot}
use Rattle.closed_terms.specs.Schedule.{first_slot, is_inside, next_slot, after, one_more, RunsTo}
use Rattle.closed_terms.specs.Ends.{all_ended, most_turns, end_at, IsEnded}
use Rattle.lam_machine_laws.proofs.FlowLemmas.{not_both}
use Rattle.lam_machine_laws.proofs.ThreadLemmas.{some_inj}
use Rattle.closed_laws.specs.Once.{EndsOnce}
use Rattle.closed_laws.proofs.NextLemmas.{next_is, one_thread, rest_at}
use Rattle.closed_laws.proofs.EndLemmas.{none_is, Going, going, closed_of}

steps : (code : CodeTree) (w : World) (t : ℕ) → ready code w t ≡ true → is_some (step code w t) ≡ true
unfolding ready
steps code w t e = e

-- with no turns left
used_up : (m j : ℕ) {X : Type 0} → m ≤ j + 0 → nat_le m j ≡ false → X
used_up m j l e = absurd (let k : m ≤ j = omega arith in grind (arith, nat_tests, e))

one_turn_more : (m j l : ℕ) → nat_le m j ≡ false → (suc j ≤ m → suc j + l ≤ m) → j + suc l ≤ m
one_turn_more m j l e more = let k : suc j ≤ m = grind (arith, nat_tests, e) in let h = more k in omega arith

from_none : (m l : ℕ) → 0 + l ≤ m → l ≤ m
from_none m l h = omega (arith, h)

module _ (b : Label) (code : CodeTree) (n : ℕ) where
  abbrev Goes : World → Slot → ℕ → ℕ → Type 0
  Goes w s k j = end_at b code n w s k j ≡ None

  abbrev IsEnd : End → World → Slot → ℕ → ℕ → Type 0
  IsEnd e w s k j = end_at b code n w s k j ≡ Some e

  tests : (w : World) (s : Slot) (k j : ℕ) → Goes w s k j → Going (all_ended w.threads) (nat_le n k) (is_none (next_slot b code w s)) (nat_le most_turns j)
  tests w s k j h = going (all_ended w.threads) (nat_le n k) (is_none (next_slot b code w s)) (is_inside b w s.thread) (nat_le most_turns j) h

  -- ---- there is one

  -- a run from here that ends
  record Ends (w : World) (s : Slot) (k j : ℕ) : Type 0 where
    turns : List ℕ
    end : End
    it : RunsTo b code Goes (IsEnd end) turns w s k j

  -- it ends here, or goes on
  here_or : (w : World) (s : Slot) (k j : ℕ) → (Goes w s k j → Ends w s k j) → Ends w s k j
  here_or w s k j on = go (end_at b code n w s k j) refl
    where
      go : (x : Option End) → end_at b code n w s k j ≡ x → Ends w s k j
      go (Some e) h = record { turns = []; end = e; it = h }
      go None h = on h

  one_turn : (w : World) (s : Slot) (k j : ℕ) → Goes w s k j → ((v : World) (u : Slot) (i : ℕ) → Ends v u i (suc j)) → Ends w s k j
  one_turn w s k j h on = by_slot (next_slot b code w s) refl
    where
      by_turn : (next : Slot) → next_slot b code w s ≡ Some next → (x : Option Moment) → step code w next.thread ≡ x → is_some x ≡ true → Ends w s k j
      by_turn next e None f r = absurd cc
      by_turn next e (Some m) f r =
          let rest = on m.world (after b next m) (one_more b m k) in
          record { turns = next.thread ∷ rest.turns; end = rest.end; it = (h, record { slot = next; it = m; next = e; thread = refl; takes = f; rest = rest.it }) }

      by_slot : (x : Option Slot) → next_slot b code w s ≡ x → Ends w s k j
      by_slot None e = not_both (is_none (next_slot b code w s)) (tests w s k j h).next (ap is_none e)
      by_slot (Some next) e = by_turn next e (step code w next.thread) refl (steps code w next.thread (next_is b code w s next e))

  -- with so many turns left
  ends_on : (left : ℕ) (w : World) (s : Slot) (k j : ℕ) → most_turns ≤ j + left → Ends w s k j
  ends_on zero w s k j l = here_or w s k j (λ h. used_up most_turns j l (tests w s k j h).turns)
  ends_on (suc left) w s k j l = here_or w s k j (λ h. one_turn w s k j h (λ v u i. ends_on left v u i (suc j) (let e : suc j + left ≡ j + suc left = omega arith in subst (λ x. most_turns ≤ x) (sym e) l)))

  -- ---- there is no other

  one_end : (ts ts' : List ℕ) (w : World) (s : Slot) (k j : ℕ) (e e' : End) → RunsTo b code Goes (IsEnd e) ts w s k j → RunsTo b code Goes (IsEnd e') ts' w s k j → (ts ≡ ts') × (e ≡ e')
  one_end [] [] w s k j e e' h h' = (refl, some_inj e e' (sym h ∙ h'))
  one_end [] (t' ∷ ts') w s k j e e' h h' = none_is e (sym h ∙ h'.0)
  one_end (t ∷ ts) [] w s k j e e' h h' = none_is e' (sym h' ∙ h.0)
  one_end (t ∷ ts) (t' ∷ ts') w s k j e e' h h' =
      let c = h.1 in
      let same = one_thread b code w s t t' c h'.1 in
      let rest' = rest_at b code w s t' c.slot c.it h'.1 c.next (ap (step code w) (sym same) ∙ c.takes) in
      let more = one_end ts ts' c.it.world (after b c.slot c.it) (one_more b c.it k) (suc j) e e' c.rest rest' in
      (λ i. same i ∷ more.0 i, more.1)

  counted : (ts : List ℕ) (w : World) (s : Slot) (k j : ℕ) (e : End) → RunsTo b code Goes (IsEnd e) ts w s k j → j ≤ most_turns → j + length ts ≤ most_turns
  counted [] w s k j e h l = let z : j + 0 ≡ j = omega arith in subst (λ x. x ≤ most_turns) (sym z) l
  counted (t ∷ ts) w s k j e h l =
      one_turn_more most_turns j (length ts) (tests w s k j h.0).turns (counted ts h.1.it.world (after b h.1.slot h.1.it) (one_more b h.1.it k) (suc j) e h.1.rest)

some_run : (b : Label) (code : CodeTree) (n : ℕ) (start : World) → (turns : List ℕ) × (e : End) × IsEnded b code n e turns start
some_run b code n start = let r = ends_on b code n most_turns start first_slot 0 0 (let z : 0 + most_turns ≡ most_turns = omega arith in subst (λ x. most_turns ≤ x) (sym z) (le_refl most_turns)) in (r.turns, r.end, r.it)

pub ends_once : (code : CodeTree) (b : Label) → EndsOnce code b
ends_once code b =
    record {
      some = some_run b code;
      one = λ n start turns turns' e e' h h'. one_end b code n turns turns' start first_slot 0 0 e e' h h';
      closed = λ n start turns e h. closed_of b code _ _ turns start first_slot 0 0 h;
      within = λ n start turns e h. from_none most_turns (length turns) (counted b code n turns start first_slot 0 0 e h zero-le);
      fronts = λ n start turns h. closed_of b code _ _ turns start first_slot 0 0 h;
    }
