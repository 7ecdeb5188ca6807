-- A walk has one answer, and which one where each thread means its source.
use Rattle.std.proofs.Common.{◌≡◌, inl, inr, ◌⊎◌, ℕ, ◌<◌, List, length, refl, sym, ap, ◌∙◌, subst}
use Rattle.std.proofs.lemmas.Bool.{cases_order}
use Rattle.capabilities.specs.declared.Caps.{Caps}
use Rattle.lam_value.specs.declared.values.Value.{Value}
use Rattle.lam_bytecode.specs.Codes.{CodeTree}
use Rattle.lam_resolve_tree.specs.Tree.{ResolvedTree}
use Rattle.thread_steps.specs.Threads.{Thread}
use Rattle.lam_machine_terms.specs.Worlds.{World}
use Rattle.lam_machine_terms.specs.Turns.{Moment, moments, replay}
use Rattle.lam_machine_laws.specs.Own.{done_by}
use Rattle.source_walk_terms.specs.Meant.{MeansItsSource}
use Rattle.source_walk_terms.specs.Runs.{asked_in, Began}
use Rattle.source_walk_terms.specs.declared.Walked.{Walked}
use Rattle.source_walk_terms.specs.declared.Walked.TheVariants.{Same, Departs}
use Rattle.source_walk_terms.specs.Departs.{DepartsAt}
use Rattle.source_walk_terms.specs.Walks.{IsEntry, source_asks, KeepsToSource, LeavesAt, LeavesItsSource, asks_in, IsWalkedOf}
use Rattle.source_walk_meets.specs.Births.{HasThreads}
use Rattle.source_walk_meets.specs.Meets.{WalksHaveOneAnswer, MeantRunsAreSame}
use Rattle.source_walk_meets.proofs.Lists.{is_there}
use Rattle.source_walk_meets.proofs.Asks.{first_stays, leaves_once}
use Rattle.source_walk_meets.proofs.Runs.{runs_have}
use Rattle.source_walk_meets.proofs.Began.{Takes, not_both, spawned_same, began_same}

takes : (r : ResolvedTree) (f : ℕ) (vs : List Value) → IsEntry r f vs → Takes r f vs
takes r f vs e = record { function = e.function; found = e.found; sorts = e.sorts }

module _ (r : ResolvedTree) (code : CodeTree) (w : World) (ms : List Moment) (last : World) (has : HasThreads (length w.threads) ms last) (u : ℕ) where
  abbrev Leaves : ℕ → List Value → Caps → ℕ → Type 0
  Leaves f vs k place = DepartsAt (asked_in (done_by u ms)) (source_asks r f vs k (done_by u ms)) place

  -- ---- one thread

  -- of a function and arguments that are an entry and began it: there is no other beginning
  leaves_same : (f : ℕ) (vs : List Value) (k : Caps) (g : ℕ) (us : List Value) (h : Caps) (place : ℕ) → Began code w ms u f vs k → IsEntry r f vs → LeavesAt r code w ms u g us h place → Leaves f vs k place
  leaves_same f vs k g us h place began entry (inl l) =
      let same = began_same r code f vs k g us h w ms last has u (takes r f vs entry) (takes r g us l.1) began l.0 in
      subst (λ n. Leaves n vs k place) (sym same.0) (subst (λ xs. Leaves g xs k place) (sym same.1) (subst (λ c. Leaves g us c place) (sym same.2) l.2))
  leaves_same f vs k g us h place (inl at) entry (inr l) = absurd (not_both r code f vs k g us h w ms last has u at l.0)
  leaves_same f vs k g us h place (inr s) entry (inr l) =
      let same = spawned_same r code f vs k g us h w ms last has u s l.0 in
      absurd (l.1 (subst (λ n. IsEntry r n us) same.0 (subst (λ xs. IsEntry r f xs) same.1 entry)))

  keeps_or_leaves : (place : ℕ) → KeepsToSource r code w ms u → LeavesItsSource r code w ms u place → ⊥
  keeps_or_leaves place k l =
      first_stays (asked_in (done_by u ms)) (source_asks r k.function k.args k.caps (done_by u ms)) place k.asks
      (leaves_same k.function k.args k.caps l.function l.args l.caps place k.began k.entry l.leaves)

  leaves_at_one : (p q : ℕ) → LeavesItsSource r code w ms u p → LeavesItsSource r code w ms u q → p ≡ q
  leaves_at_one p q a b = by a.function a.args a.caps b.function b.args b.caps a.leaves b.leaves
    where
      by : (f : ℕ) (vs : List Value) (k : Caps) (g : ℕ) (us : List Value) (h : Caps) → LeavesAt r code w ms u f vs k p → LeavesAt r code w ms u g us h q → p ≡ q
      by f vs k g us h (inl l) m =
          leaves_once (asked_in (done_by u ms)) (source_asks r f vs k (done_by u ms)) p q l.2 (leaves_same f vs k g us h q l.0 l.1 m)
      by f vs k g us h (inr l) (inl m) =
          sym (leaves_once (asked_in (done_by u ms)) (source_asks r g us h (done_by u ms)) q p m.2 (leaves_same g us h f vs k p m.0 m.1 (inr l)))
      by f vs k g us h (inr l) (inr m) = l.2 ∙ sym m.2

-- ---- a run

module _ (r : ResolvedTree) (code : CodeTree) (w : World) (ms : List Moment) (last : World) (has : HasThreads (length w.threads) ms last) (n : ℕ) where
  one_answer : (a b : Walked) → IsWalkedOf r code w ms n a → IsWalkedOf r code w ms n b → a ≡ b
  one_answer (Same x) (Same y) h k = ap Same (h.1 ∙ sym k.1)
  one_answer (Same x) (Departs t p) h k = absurd (keeps_or_leaves r code w ms last has t p (h.0 t k.0) k.2)
  one_answer (Departs t p) (Same y) h k = absurd (keeps_or_leaves r code w ms last has t p (k.0 t h.0) h.2)
  one_answer (Departs t p) (Departs s q) h k = by (cases_order t s)
    where
      by : (t ≡ s) ⊎ ((t < s) ⊎ (s < t)) → Departs t p ≡ Departs s q
      by (inl e) =
          let place : p ≡ q = leaves_at_one r code w ms last has s p q (subst (λ u. LeavesItsSource r code w ms u p) e h.2) k.2 in
          (λ i. Departs (e i) (place i))
      by (inr (inl lt)) = absurd (keeps_or_leaves r code w ms last has t p (k.1 t lt) h.2)
      by (inr (inr lt)) = absurd (keeps_or_leaves r code w ms last has s q (h.1 s lt) k.2)

pub walks_have_one : WalksHaveOneAnswer
walks_have_one r code w turns a b h k =
    one_answer r code w (moments code turns w) (replay code turns w) (runs_have code w turns) (length (replay code turns w).threads) a b h k

keeps : (r : ResolvedTree) (code : CodeTree) (w : World) (ms : List Moment) (u : ℕ) (th : Thread) → MeansItsSource r code w ms u th → KeepsToSource r code w ms u
keeps r code w ms u th m =
    record {
      function = m.function;
      args = m.args;
      caps = m.caps;
      began = m.began;
      entry = record { function = m.declared; found = m.found; result = m.result; sorts = m.sorts };
      asks = m.meant.asks_only;
    }

pub meant_same : MeantRunsAreSame
meant_same r code w turns each a h =
    let ms = moments code turns w in
    let last = replay code turns w in
    walks_have_one r code w turns a (Same (asks_in ms)) h
    ((λ u lt. let there = is_there last.threads u lt in keeps r code w ms u there.0 (each u there.0 there.1)), refl)
