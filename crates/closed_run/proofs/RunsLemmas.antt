-- Runs by the schedule, one after another.
use Rattle.std.proofs.Common.{◌≡◌, ℕ, suc, List, [], ◌∷◌, ◌++◌, sym, subst}
use Rattle.flow_labels.specs.declared.Label.{Label}
use Rattle.lam_bytecode.specs.Codes.{CodeTree}
use Rattle.lam_machine_terms.specs.Worlds.{World}
use Rattle.closed_terms.specs.declared.Slot.{Slot}
use Rattle.closed_terms.specs.Schedule.{after, one_more, RunsTo}

-- it is this world, with this slot, after so many open turns and so many turns
pub record IsAt (w : World) (s : Slot) (k j : ℕ) (v : World) (r : Slot) (i h : ℕ) : Type 0 where
  pub world : v ≡ w
  pub slot : r ≡ s
  pub open_turns : i ≡ k
  pub turns : h ≡ j

pub at_it : (P : World → Slot → ℕ → ℕ → Type 0) (w : World) (s : Slot) (k j : ℕ) (v : World) (r : Slot) (i h : ℕ) → P w s k j → IsAt w s k j v r i h → P v r i h
at_it P w s k j v r i h p at =
    subst (λ (x : World). P x r i h) (sym at.world)
    (subst (λ (x : Slot). P w x i h) (sym at.slot)
    (subst (λ (x : ℕ). P w s x h) (sym at.open_turns)
    (subst (λ (x : ℕ). P w s k x) (sym at.turns) p)))

module _ (b : Label) (code : CodeTree) (Going : World → Slot → ℕ → ℕ → Type 0) where
  -- what holds after the last turn gives something else
  pub last_runs : (L M : World → Slot → ℕ → ℕ → Type 0) → ((w : World) (s : Slot) (k j : ℕ) → L w s k j → M w s k j) → (ts : List ℕ) (w : World) (s : Slot) (k j : ℕ) → RunsTo b code Going L ts w s k j → RunsTo b code Going M ts w s k j
  last_runs L M f [] w s k j c = f w s k j c
  last_runs L M f (t ∷ ts) w s k j c = (
    c.0,
    record {
      slot = c.1.slot;
      it = c.1.it;
      next = c.1.next;
      thread = c.1.thread;
      takes = c.1.takes;
      rest = last_runs L M f ts c.1.it.world (after b c.1.slot c.1.it) (one_more b c.1.it k) (suc j) c.1.rest;
    },
  )

  -- or more turns
  pub then_runs : (L M : World → Slot → ℕ → ℕ → Type 0) (us : List ℕ) → ((w : World) (s : Slot) (k j : ℕ) → L w s k j → RunsTo b code Going M us w s k j) → (ts : List ℕ) (w : World) (s : Slot) (k j : ℕ) → RunsTo b code Going L ts w s k j → RunsTo b code Going M (ts ++ us) w s k j
  then_runs L M us f [] w s k j c = f w s k j c
  then_runs L M us f (t ∷ ts) w s k j c = (
    c.0,
    record {
      slot = c.1.slot;
      it = c.1.it;
      next = c.1.next;
      thread = c.1.thread;
      takes = c.1.takes;
      rest = then_runs L M us f ts c.1.it.world (after b c.1.slot c.1.it) (one_more b c.1.it k) (suc j) c.1.rest;
    },
  )
