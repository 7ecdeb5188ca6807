-- Two worlds are the same in a part exactly where its stores and threads look the same.
use Rattle.std.proofs.Common.{◌≡◌, ℕ, Bool, List, Option, Some, length, reverse, ap, ◌∙◌, subst}
use Rattle.std.specs.Prelude.{◌↔◌, IsTrue, filter, slice_get}
use Rattle.std.proofs.Math.Path.{fun_ext}
use Rattle.flow_labels.specs.declared.Label.{Label}
use Rattle.flow_labels.specs.Flow.{flows, public_label}
use Rattle.lam_asks.specs.declared.answer.Outcome.{Outcome}
use Rattle.thread_steps.specs.Threads.{Context}
use Rattle.lam_machine_terms.specs.Worlds.{World, result_in}
use Rattle.lam_machine_terms.specs.Views.{shown, shown_counts, where_public, is_seen}
use Rattle.lam_machine_equal.proofs.ThreadParts.{seen_same}
use Rattle.pair_check_terms.specs.Parts.{SameTags, SameThings, SameFiles, SameCounters, SameThreads}
use Rattle.pair_check.specs.Threads.{HaveSeenAlike, EndAlike}
use Rattle.pair_check.proofs.StoreLemmas.{public_same, same_public, some_same}
use Rattle.pair_check.proofs.WalkLemmas.{filter_reversed}

-- what is told of two things, by the things that were read
pub as_read : {X : Type 0} (P : X → X → Type 0) (b : Bool) (s t w u : X) → s ≡ w → t ≡ u → IsTrue b ↔ P s t → IsTrue b ↔ P w u
as_read {X} P b s t w u e f h = subst (λ (x : X). IsTrue b ↔ P x u) e (subst (λ (y : X). IsTrue b ↔ P s y) f h)

module _ (o : Label) (w u : World) (b : Bool) where
  pub tags_by : IsTrue b ↔ ((w.names ≡ u.names) × (where_public o (Some w.next_tag) ≡ where_public o (Some u.next_tag))) → IsTrue b ↔ SameTags o w u
  tags_by e = (λ t. record { names = (e.0 t).0; next = (e.0 t).1 }, λ h. e.1 (h.names, h.next))

  pub things_by : IsTrue b ↔ ((shown o w.heap.slots ≡ shown o u.heap.slots) × (shown o w.monitors ≡ shown o u.monitors)) → IsTrue b ↔ SameThings o w u
  things_by e = (λ t. record { slots = (e.0 t).0; monitors = (e.0 t).1 }, λ h. e.1 (h.slots, h.monitors))

  pub trees_by : IsTrue b ↔ ((shown o w.files.dirs ≡ shown o u.files.dirs) × (shown o w.files.files ≡ shown o u.files.files)) → IsTrue b ↔ SameFiles o w u
  trees_by e = (λ t. record { dirs = (e.0 t).0; files = (e.0 t).1 }, λ h. e.1 (h.dirs, h.files))

  pub counters_by :
      IsTrue b ↔ ((shown_counts o w.heap.counts ≡ shown_counts o u.heap.counts) × ((shown_counts o w.files.counts ≡ shown_counts o u.files.counts) × (shown_counts o w.pipes.counts ≡ shown_counts o u.pipes.counts))) →
      IsTrue b ↔ SameCounters o w u
  counters_by e = (λ t. record { heap = (e.0 t).0; files = (e.0 t).1.0; pipes = (e.0 t).1.1 }, λ h. e.1 (h.heap, (h.files, h.pipes)))

  threads_same : HaveSeenAlike o w.threads u.threads → (IsTrue (flows public_label o) → EndAlike w.threads u.threads) → SameThreads o w u
  threads_same seen ends =
      record {
        contexts = fun_ext seen;
        number = public_same o (Some (length w.threads)) (Some (length u.threads)) (λ s. ap Some (ends s).0);
        results = fun_ext (λ (t : ℕ). public_same o (result_in (slice_get w.threads t)) (result_in (slice_get u.threads t)) (λ s. (ends s).1 t));
      }

  same_threads : SameThreads o w u → HaveSeenAlike o w.threads u.threads × (IsTrue (flows public_label o) → EndAlike w.threads u.threads)
  same_threads h = (
    λ t. ap (λ (f : ℕ → List Context). f t) h.contexts,
    λ s. (
      some_same (length w.threads) (length u.threads) (same_public o (Some (length w.threads)) (Some (length u.threads)) h.number s),
      λ t. same_public o (result_in (slice_get w.threads t)) (result_in (slice_get u.threads t)) (ap (λ (f : ℕ → Option Outcome). f t) h.results) s,
    ),
  )

  pub threads_by : IsTrue b ↔ (HaveSeenAlike o w.threads u.threads × (IsTrue (flows public_label o) → EndAlike w.threads u.threads)) → IsTrue b ↔ SameThreads o w u
  threads_by e = (λ t. threads_same (e.0 t).0 (e.0 t).1, λ h. e.1 (same_threads h))

-- contexts that are listed the other way round
pub alike_reversed : (o : Label) (b : Bool) (us vs ms ns : List Context) → IsTrue b ↔ (filter (is_seen o) us ≡ filter (is_seen o) vs) → us ≡ reverse ms → vs ≡ reverse ns → IsTrue b ↔ (filter (is_seen o) ms ≡ filter (is_seen o) ns)
alike_reversed o b us vs ms ns e u v =
    seen_same b (filter (is_seen o) us) (filter (is_seen o) vs) (filter (is_seen o) ms) (filter (is_seen o) ns) e
    (ap (filter (is_seen o)) u ∙ filter_reversed (is_seen o) ms) (ap (filter (is_seen o)) v ∙ filter_reversed (is_seen o) ns)
