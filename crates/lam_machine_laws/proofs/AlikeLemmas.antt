-- Two worlds that look alike to an observer, store by store.
use Rattle.std.proofs.Common.{◌≡◌, ℕ, Bool, true, false, List, Option, Some, None, length, refl, sym, ap, ◌∙◌}
use Rattle.std.specs.Prelude.{cond, slice_get, filter}
use Rattle.std.proofs.Math.Path.{fun_ext}
use Rattle.std.specs.FinMap.{FinMap}
use Rattle.flow_labels.specs.declared.Label.{Label}
use Rattle.flow_labels.specs.Flow.{flows, public_label}
use Rattle.lam_value.specs.declared.names.Name.{Name}
use Rattle.lam_value.specs.Names.{name_cmp}
use Rattle.lam_value.specs.Homes.{Home, Counts, count_in}
use Rattle.lam_value.proofs.Keys.{name_total, name_exact}
use Rattle.lam_machine_effects.specs.Things.{Things}
use Rattle.lam_machine_effects.specs.Held.{Held}
use Rattle.labelled_files.specs.Trees.{Tree}
use Rattle.lam_machine_effects.specs.Queues.{Queues}
use Rattle.lam_machine_effects.specs.Threads.{Thread}
use Rattle.lam_machine_effects.specs.Worlds.{World, contexts_in, result_in}
use Rattle.lam_machine_effects.specs.Views.{shown_counts, is_seen, where_public, view}
use Rattle.lam_machine_laws.proofs.PointLemmas.{Same, cond_same, seen_get, seen_map}

abbrev pub own_seen : Label → Name → Bool
own_seen o n = flows n.own o

abbrev pub maker_seen : Label → Home → Bool
maker_seen o h = flows h.maker o

abbrev pub SameNames : {X : Type 0} → Label → FinMap name_cmp X → FinMap name_cmp X → Type 0
SameNames o m n = Same (own_seen o) m n

abbrev pub SameHomes : Label → Counts → Counts → Type 0
SameHomes o m n = (h : Home) → maker_seen o h ≡ true → count_in m h ≡ count_in n h

pub record AlikeHeaps (o : Label) (h k : Things) : Type 0 where
  pub slots : SameNames o h.slots k.slots
  pub counts : SameHomes o h.counts k.counts

pub record AlikeTrees (o : Label) (t u : Tree) : Type 0 where
  pub dirs : SameNames o t.dirs u.dirs
  pub files : SameNames o t.files u.files
  pub counts : SameHomes o t.counts u.counts

pub record AlikeQueues (o : Label) (q r : Queues) : Type 0 where
  pub waiting : SameNames o q.waiting r.waiting
  pub counts : SameHomes o q.counts r.counts

-- two threads have the same seen contexts
abbrev pub SameStacks : Label → Option Thread → Option Thread → Type 0
SameStacks o x y = filter (is_seen o) (contexts_in x) ≡ filter (is_seen o) (contexts_in y)

abbrev pub SameResults : Option Thread → Option Thread → Type 0
SameResults x y = result_in x ≡ result_in y

pub record AlikeThreads (o : Label) (xs ys : List Thread) : Type 0 where
  pub contexts : (t : ℕ) → SameStacks o (slice_get xs t) (slice_get ys t)
  pub count : flows public_label o ≡ true → length xs ≡ length ys
  pub results : flows public_label o ≡ true → (t : ℕ) → SameResults (slice_get xs t) (slice_get ys t)

pub record Alike (o : Label) (w u : World) : Type 0 where
  pub public : w.public ≡ u.public
  pub heap : AlikeHeaps o w.heap u.heap
  pub monitors : SameNames o w.monitors u.monitors
  pub files : AlikeTrees o w.files u.files
  pub pipes : AlikeQueues o w.pipes u.pipes
  pub threads : AlikeThreads o w.threads u.threads
  pub tags : flows public_label o ≡ true → w.next_tag ≡ u.next_tag

-- ---- from views and to them

public_shown : {X : Type 0} (o : Label) (x : Option X) → flows public_label o ≡ true → where_public o x ≡ x
public_shown o x t = ap (λ b. cond b x None) t

counts_shown : (o : Label) (m : Counts) (h : Home) → maker_seen o h ≡ true → shown_counts o m h ≡ count_in m h
counts_shown o m h t = ap (λ b. cond b (count_in m h) 0) t

counts_alike : (o : Label) (m n : Counts) → SameHomes o m n → (h : Home) → shown_counts o m h ≡ shown_counts o n h
counts_alike o m n same h = by (maker_seen o h) (same h)
  where
    by : (b : Bool) → (b ≡ true → count_in m h ≡ count_in n h) → cond b (count_in m h) 0 ≡ cond b (count_in n h) 0
    by true e = e refl
    by false e = refl

some_same : (m n : ℕ) → Some m ≡ Some n → m ≡ n
some_same m n e = cc

pub alike_by_view : (o : Label) (w u : World) → w.public ≡ u.public → view o w ≡ view o u → Alike o w u
alike_by_view o w u public e =
    record {
      public = public;
      heap = record {
        slots = seen_get name_total name_exact (own_seen o) w.heap.slots u.heap.slots (ap (λ v. v.slots) e);
        counts = λ h s. sym (counts_shown o w.heap.counts h s) ∙ ap (λ v. v.heap_counts h) e ∙ counts_shown o u.heap.counts h s;
      };
      monitors = seen_get name_total name_exact (own_seen o) w.monitors u.monitors (ap (λ v. v.monitors) e);
      files = record {
        dirs = seen_get name_total name_exact (own_seen o) w.files.dirs u.files.dirs (ap (λ v. v.dirs) e);
        files = seen_get name_total name_exact (own_seen o) w.files.files u.files.files (ap (λ v. v.files) e);
        counts = λ h s. sym (counts_shown o w.files.counts h s) ∙ ap (λ v. v.file_counts h) e ∙ counts_shown o u.files.counts h s;
      };
      pipes = record {
        waiting = seen_get name_total name_exact (own_seen o) w.pipes.waiting u.pipes.waiting (ap (λ v. v.pipes) e);
        counts = λ h s. sym (counts_shown o w.pipes.counts h s) ∙ ap (λ v. v.pipe_counts h) e ∙ counts_shown o u.pipes.counts h s;
      };
      threads = record {
        contexts = λ t. ap (λ v. v.contexts t) e;
        count = λ s. some_same _ _ (sym (public_shown o _ s) ∙ ap (λ v. v.threads) e ∙ public_shown o _ s);
        results = λ s t. sym (public_shown o _ s) ∙ ap (λ v. v.results t) e ∙ public_shown o _ s;
      };
      tags = λ s. some_same _ _ (sym (public_shown o _ s) ∙ ap (λ v. v.next_tag) e ∙ public_shown o _ s);
    }

pub view_by_alike : (o : Label) (w u : World) → Alike o w u → view o w ≡ view o u
view_by_alike o w u a =
    let slots = seen_map name_total name_exact (own_seen o) w.heap.slots u.heap.slots a.heap.slots in
    let monitors = seen_map name_total name_exact (own_seen o) w.monitors u.monitors a.monitors in
    let dirs = seen_map name_total name_exact (own_seen o) w.files.dirs u.files.dirs a.files.dirs in
    let files = seen_map name_total name_exact (own_seen o) w.files.files u.files.files a.files.files in
    let pipes = seen_map name_total name_exact (own_seen o) w.pipes.waiting u.pipes.waiting a.pipes.waiting in
    let heap_counts = fun_ext (counts_alike o w.heap.counts u.heap.counts a.heap.counts) in
    let file_counts = fun_ext (counts_alike o w.files.counts u.files.counts a.files.counts) in
    let pipe_counts = fun_ext (counts_alike o w.pipes.counts u.pipes.counts a.pipes.counts) in
    let contexts = fun_ext a.threads.contexts in
    let next_tag = cond_same (flows public_label o) (Some w.next_tag) (Some u.next_tag) (λ t. ap Some (a.tags t)) in
    let threads = cond_same (flows public_label o) (Some (length w.threads)) (Some (length u.threads)) (λ t. ap Some (a.threads.count t)) in
    let results = fun_ext (λ j. cond_same (flows public_label o) (result_in (slice_get w.threads j)) (result_in (slice_get u.threads j)) (λ t. a.threads.results t j)) in
    λ i. record { slots = slots i; monitors = monitors i; dirs = dirs i; files = files i; pipes = pipes i; heap_counts = heap_counts i; file_counts = file_counts i; pipe_counts = pipe_counts i; contexts = contexts i; next_tag = next_tag i; threads = threads i; results = results i }

-- ---- it is an equivalence

pub alike_refl : (o : Label) (w : World) → Alike o w w
alike_refl o w =
    record {
      public = refl;
      heap = record { slots = λ n s. refl; counts = λ n s. refl };
      monitors = λ n s. refl;
      files = record { dirs = λ n s. refl; files = λ n s. refl; counts = λ n s. refl };
      pipes = record { waiting = λ n s. refl; counts = λ n s. refl };
      threads = record { contexts = λ t. refl; count = λ s. refl; results = λ s t. refl };
      tags = λ s. refl;
    }

pub alike_sym : (o : Label) (w u : World) → Alike o w u → Alike o u w
alike_sym o w u a =
    record {
      public = sym a.public;
      heap = record { slots = λ n s. sym (a.heap.slots n s); counts = λ n s. sym (a.heap.counts n s) };
      monitors = λ n s. sym (a.monitors n s);
      files = record { dirs = λ n s. sym (a.files.dirs n s); files = λ n s. sym (a.files.files n s); counts = λ n s. sym (a.files.counts n s) };
      pipes = record { waiting = λ n s. sym (a.pipes.waiting n s); counts = λ n s. sym (a.pipes.counts n s) };
      threads = record { contexts = λ t. sym (a.threads.contexts t); count = λ s. sym (a.threads.count s); results = λ s t. sym (a.threads.results s t) };
      tags = λ s. sym (a.tags s);
    }

pub alike_trans : (o : Label) (w u v : World) → Alike o w u → Alike o u v → Alike o w v
alike_trans o w u v a b =
    record {
      public = a.public ∙ b.public;
      heap = record { slots = λ n s. a.heap.slots n s ∙ b.heap.slots n s; counts = λ n s. a.heap.counts n s ∙ b.heap.counts n s };
      monitors = λ n s. a.monitors n s ∙ b.monitors n s;
      files = record { dirs = λ n s. a.files.dirs n s ∙ b.files.dirs n s; files = λ n s. a.files.files n s ∙ b.files.files n s; counts = λ n s. a.files.counts n s ∙ b.files.counts n s };
      pipes = record { waiting = λ n s. a.pipes.waiting n s ∙ b.pipes.waiting n s; counts = λ n s. a.pipes.counts n s ∙ b.pipes.counts n s };
      threads = record { contexts = λ t. a.threads.contexts t ∙ b.threads.contexts t; count = λ s. a.threads.count s ∙ b.threads.count s; results = λ s t. a.threads.results s t ∙ b.threads.results s t };
      tags = λ s. a.tags s ∙ b.tags s;
    }

-- ---- one store changes on both sides

pub with_heaps : (o : Label) (w u : World) (h k : Things) → Alike o w u → AlikeHeaps o h k → Alike o (record w { heap = h }) (record u { heap = k })
with_heaps o w u h k a b = record { public = a.public; heap = b; monitors = a.monitors; files = a.files; pipes = a.pipes; threads = a.threads; tags = a.tags }

pub with_monitors : (o : Label) (w u : World) (m n : Held) → Alike o w u → SameNames o m n → Alike o (record w { monitors = m }) (record u { monitors = n })
with_monitors o w u m n a b = record { public = a.public; heap = a.heap; monitors = b; files = a.files; pipes = a.pipes; threads = a.threads; tags = a.tags }

pub with_trees : (o : Label) (w u : World) (t s : Tree) → Alike o w u → AlikeTrees o t s → Alike o (record w { files = t }) (record u { files = s })
with_trees o w u t s a b = record { public = a.public; heap = a.heap; monitors = a.monitors; files = b; pipes = a.pipes; threads = a.threads; tags = a.tags }

pub with_queues : (o : Label) (w u : World) (q r : Queues) → Alike o w u → AlikeQueues o q r → Alike o (record w { pipes = q }) (record u { pipes = r })
with_queues o w u q r a b = record { public = a.public; heap = a.heap; monitors = a.monitors; files = a.files; pipes = b; threads = a.threads; tags = a.tags }

pub with_threads : (o : Label) (w u : World) (xs ys : List Thread) → Alike o w u → AlikeThreads o xs ys → Alike o (record w { threads = xs }) (record u { threads = ys })
with_threads o w u xs ys a b = record { public = a.public; heap = a.heap; monitors = a.monitors; files = a.files; pipes = a.pipes; threads = b; tags = a.tags }

pub with_tags : (o : Label) (w u : World) (m n : ℕ) → Alike o w u → (flows public_label o ≡ true → m ≡ n) → Alike o (record w { next_tag = m }) (record u { next_tag = n })
with_tags o w u m n a b = record { public = a.public; heap = a.heap; monitors = a.monitors; files = a.files; pipes = a.pipes; threads = a.threads; tags = b }
