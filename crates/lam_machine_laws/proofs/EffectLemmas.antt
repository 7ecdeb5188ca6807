-- What an effect does to what is seen: a hidden one shows what it makes and nothing else, and the same effect keeps
-- worlds alike.
use Rattle.std.proofs.Common.{◌≡◌, ℕ, zero, suc, ◌+◌, Bool, true, false, List, [], ◌∷◌, ◌++◌, Option, Some, None, length, refl, sym, ap, ◌∙◌, subst, arith, length-append}
use Rattle.std.specs.Prelude.{cond, slice_get, slice_set, filter, unwrap_or}
use Rattle.std.specs.List.{AllByRecursion}
use Rattle.std.specs.Ordering.{eq_by_cmp}
use Rattle.std.specs.Cmp.{Equal-is}
use Rattle.std.specs.FinMap.{FinMap, get, insert}
use Rattle.flow_labels.specs.declared.Label.{Label}
use Rattle.flow_labels.specs.Flow.{flows, public_label}
use Rattle.lam_value.specs.declared.names.Name.{Name}
use Rattle.lam_value.specs.declared.values.Value.{Value}
use Rattle.lam_value.specs.Names.{name_cmp}
use Rattle.lam_value.specs.Homes.{Home, home_cmp, Counts, name_of, count_in, counted}
use Rattle.lam_value.proofs.Keys.{name_total, name_exact, home_total, home_exact}
use Rattle.lam_machine_effects.specs.Sort.{Sort}
use Rattle.lam_machine_effects.specs.Things as heap
use Rattle.lam_machine_effects.specs.Things.{Things, slots_at, with_slot, with_thing, with_copy}
use Rattle.lam_machine_effects.specs.Holder.{Holder}
use Rattle.lam_machine_effects.specs.Held.{Held, once_more, entered, one_less, held_by, left, dropped}
use Rattle.labelled_files.specs.Entries.{without}
use Rattle.labelled_files.specs.declared.directory.EntryKind.TheVariants as kind
use Rattle.labelled_files.specs.Trees as tree
use Rattle.labelled_files.specs.Trees.{Tree, with_file, with_dir, next_name, joined}
use Rattle.lam_machine_effects.specs.Message.{Message}
use Rattle.lam_machine_effects.specs.Queues as queue
use Rattle.lam_machine_effects.specs.Queues.{Queues, with_pipe}
use Rattle.lam_machine_effects.specs.Codes.{CodeTree}
use Rattle.lam_machine_effects.specs.Threads.{Context, Thread}
use Rattle.lam_machine_effects.specs.Next.{started, first_context}
use Rattle.lam_machine_effects.specs.Worlds.{World}
use Rattle.lam_machine_effects.specs.Serves.{Effect, nothing, takes_tag, sets_slot, adds_thing, adds_copy, takes_monitor, gives_back, drops, adds_file, adds_dir, removes, appends, cuts, adds_pipe, sends, receives, adds_thread, effect_of, Made, a_thing}
use Rattle.lam_machine_effects.specs.Views.{is_seen, shows}
use Rattle.lam_machine_laws.proofs.FlowLemmas.{not_both}
use Rattle.lam_machine_laws.proofs.PointLemmas.{IsPoint, insert_point, remove_point, same_point, point_kept, point_same, same_trans}
use Rattle.lam_machine_laws.proofs.AlikeLemmas.{own_seen, maker_seen, SameNames, SameHomes, AlikeHeaps, AlikeTrees, AlikeQueues, SameStacks, SameResults, AlikeThreads, Alike, alike_refl, alike_sym, with_heaps, with_monitors, with_trees, with_queues, with_threads, with_tags}

-- ---- changes at one name

abbrev pub mapped : {X : Type 0} → Option X → (X → X) → Option X
mapped None f = None
mapped (Some x) f = Some (f x)

-- a change of a map at a name, hidden or the same on both sides
module _ {X : Type 0} (o : Label) where
  pub name_kept : (m n : FinMap name_cmp X) (k : Name) (y : Option X) → flows k.own o ≡ false → IsPoint m n k y → SameNames o m n
  name_kept m n k y hid h = point_kept name_total name_exact (own_seen o) m n k y hid h

  pub name_same : (m m' n n' : FinMap name_cmp X) (k : Name) (y y' : Option X) → IsPoint m n k y → IsPoint m' n' k y' → (flows k.own o ≡ true → y ≡ y') → SameNames o m m' → SameNames o n n'
  name_same m m' n n' k y y' h h' v all = point_same name_total name_exact (own_seen o) m m' n n' k y y' h h' v all

  pub insert_kept : (m : FinMap name_cmp X) (k : Name) (x : X) → flows k.own o ≡ false → SameNames o m (insert m k x)
  insert_kept m k x hid = name_kept m _ k (Some x) hid (insert_point name_total name_exact m k x)

  pub insert_same : (m m' : FinMap name_cmp X) (k : Name) (x : X) → SameNames o m m' → SameNames o (insert m k x) (insert m' k x)
  insert_same m m' k x all = name_same m m' _ _ k (Some x) (Some x) (insert_point name_total name_exact m k x) (insert_point name_total name_exact m' k x) (λ s. refl) all

counted_point : (m : Counts) (h : Home) → IsPoint m (counted m h) h (Some (count_in m h + 1))
counted_point m h = insert_point home_total home_exact m h (count_in m h + 1)

counted_kept : (o : Label) (m : Counts) (h : Home) → flows h.maker o ≡ false → SameHomes o m (counted m h)
counted_kept o m h hid q s = ap (λ x. unwrap_or x 0) (point_kept home_total home_exact (maker_seen o) m (counted m h) h (Some (count_in m h + 1)) hid (counted_point m h) q s)

counted_same : (o : Label) (m m' : Counts) (h : Home) → SameHomes o m m' → SameHomes o (counted m h) (counted m' h)
counted_same o m m' h all q s = ap (λ x. unwrap_or x 0) (counted_point m h q) ∙ by (eq_by_cmp home_cmp q h) refl ∙ sym (ap (λ x. unwrap_or x 0) (counted_point m' h q))
  where
    by : (b : Bool) → eq_by_cmp home_cmp q h ≡ b → unwrap_or (cond b (Some (count_in m h + 1)) (get m q)) 0 ≡ unwrap_or (cond b (Some (count_in m' h + 1)) (get m' q)) 0
    by true e = ap (λ n. n + 1) (all h (sym (ap (maker_seen o) (home_exact q h ((Equal-is (home_cmp q h)).0 e))) ∙ s))
    by false e = all q s

pub count_same : (o : Label) (m m' : Counts) (h : Home) → SameHomes o m m' → flows h.maker o ≡ true → count_in m h ≡ count_in m' h
count_same o m m' h all s = all h s

-- ---- the heap

slot_point : (x : Option (List Value)) (h : Things) (n : Name) (f : List Value → List Value) → get h.slots n ≡ x → IsPoint h.slots (heap.changed_at x h n f).slots n (mapped x f)
slot_point None h n f e = same_point name_total name_exact h.slots n None e
slot_point (Some xs) h n f e = insert_point name_total name_exact h.slots n (f xs)

slot_counts : (x : Option (List Value)) (h : Things) (n : Name) (f : List Value → List Value) → (heap.changed_at x h n f).counts ≡ h.counts
slot_counts None h n f = refl
slot_counts (Some xs) h n f = refl

heap_slot_kept : (o : Label) (h : Things) (n : Name) (at : ℕ) (v : Value) → flows n.own o ≡ false → AlikeHeaps o h (with_slot h n at v)
heap_slot_kept o h n at v hid =
    record {
      slots = name_kept o h.slots _ n _ hid (slot_point (get h.slots n) h n (λ xs. slice_set xs at v) refl);
      counts = λ q s. ap (λ (c : Counts). count_in c q) (sym (slot_counts (get h.slots n) h n (λ xs. slice_set xs at v)));
    }

heap_slot_same : (o : Label) (h k : Things) (n : Name) (at : ℕ) (v : Value) → AlikeHeaps o h k → AlikeHeaps o (with_slot h n at v) (with_slot k n at v)
heap_slot_same o h k n at v a =
    let f = λ (xs : List Value). slice_set xs at v in
    record {
      slots = name_same o h.slots k.slots _ _ n _ _ (slot_point (get h.slots n) h n f refl) (slot_point (get k.slots n) k n f refl) (λ s. ap (λ x. mapped x f) (a.slots n s)) a.slots;
      counts = λ q s. ap (λ (c : Counts). count_in c q) (slot_counts (get h.slots n) h n f) ∙ a.counts q s ∙ sym (ap (λ (c : Counts). count_in c q) (slot_counts (get k.slots n) k n f));
    }

-- a new thing: the same name on both sides
new_name : (o : Label) (h k : Things) (home : Home) → AlikeHeaps o h k → flows home.maker o ≡ true → name_of home (count_in h.counts home) ≡ name_of home (count_in k.counts home)
new_name o h k home a s = ap (name_of home) (count_same o h.counts k.counts home a.counts s)

heap_thing_same : (o : Label) (h k : Things) (home : Home) (sort : Sort) (xs : List Value) → AlikeHeaps o h k → flows home.maker o ≡ true → AlikeHeaps o (with_thing h home sort xs) (with_thing k home sort xs)
heap_thing_same o h k home sort xs a s =
    let there = insert_same o h.slots k.slots (name_of home (count_in h.counts home)) xs a.slots in
    record {
      slots = subst (λ n. SameNames o (insert h.slots (name_of home (count_in h.counts home)) xs) (insert k.slots n xs)) (new_name o h k home a s) there;
      counts = counted_same o h.counts k.counts home a.counts;
    }

heap_copy_same : (o : Label) (h k : Things) (n : Name) (home : Home) → AlikeHeaps o h k → flows home.maker o ≡ true → flows n.own o ≡ true → AlikeHeaps o (with_copy h n home) (with_copy k n home)
heap_copy_same o h k n home a s r =
    let there = insert_same o h.slots k.slots (name_of home (count_in h.counts home)) (slots_at h n) a.slots in
    let named = subst (λ m. SameNames o (insert h.slots (name_of home (count_in h.counts home)) (slots_at h n)) (insert k.slots m (slots_at h n))) (new_name o h k home a s) there in
    record {
      slots = subst (λ xs. SameNames o (insert h.slots (name_of home (count_in h.counts home)) (slots_at h n)) (insert k.slots (name_of home (count_in k.counts home)) xs)) (ap (λ x. unwrap_or x []) (a.slots n r)) named;
      counts = counted_same o h.counts k.counts home a.counts;
    }

-- ---- monitors

entered_point : (m : Held) (n : Name) (t : ℕ) → IsPoint m (entered m n t) n (Some (once_more (get m n) t))
entered_point m n t = insert_point name_total name_exact m n (once_more (get m n) t)

held_point : (x : Option Holder) (m : Held) (n : Name) → IsPoint m (held_by x m n) n x
held_point None m n = remove_point name_total name_exact m n
held_point (Some h) m n = insert_point name_total name_exact m n h

left_kept : (o : Label) (m : Held) (n : Name) (t : ℕ) → flows n.own o ≡ false → SameNames o m (left m n t)
left_kept o m n t hid = name_kept o m (left m n t) n (one_less (get m n) t) hid (held_point (one_less (get m n) t) m n)

left_same : (o : Label) (m m' : Held) (n : Name) (t : ℕ) → SameNames o m m' → SameNames o (left m n t) (left m' n t)
left_same o m m' n t all =
    name_same o m m' (left m n t) (left m' n t) n (one_less (get m n) t) (one_less (get m' n) t) (held_point (one_less (get m n) t) m n) (held_point (one_less (get m' n) t) m' n)
    (λ s. ap (λ x. one_less x t) (all n s)) all

dropped_kept : (o : Label) (m : Held) (ns : List Name) (t : ℕ) → AllByRecursion (λ (n : Name). flows n.own o ≡ false) ns → SameNames o m (dropped m ns t)
dropped_kept o m [] t h = λ q s. refl
dropped_kept o m (n ∷ ns) t h = same_trans name_total name_exact (own_seen o) m (left m n t) _ (left_kept o m n t h.0) (dropped_kept o (left m n t) ns t h.1)

dropped_same : (o : Label) (m m' : Held) (ns : List Name) (t : ℕ) → SameNames o m m' → SameNames o (dropped m ns t) (dropped m' ns t)
dropped_same o m m' [] t all = all
dropped_same o m m' (n ∷ ns) t all = dropped_same o (left m n t) (left m' n t) ns t (left_same o m m' n t all)

-- ---- files

module _ {X : Type 0} (o : Label) (n : Name) (f : X → X) where
  changed_point : (x : Option X) (m : FinMap name_cmp X) → get m n ≡ x → IsPoint m (tree.changed x m n f) n (mapped x f)
  changed_point None m e = same_point name_total name_exact m n None e
  changed_point (Some x) m e = insert_point name_total name_exact m n (f x)

  changed_kept : (m : FinMap name_cmp X) → flows n.own o ≡ false → SameNames o m (tree.changed_at m n f)
  changed_kept m hid = name_kept o m _ n _ hid (changed_point (get m n) m refl)

  changed_same : (m m' : FinMap name_cmp X) → SameNames o m m' → SameNames o (tree.changed_at m n f) (tree.changed_at m' n f)
  changed_same m m' all = name_same o m m' _ _ n _ _ (changed_point (get m n) m refl) (changed_point (get m' n) m' refl) (λ s. ap (λ x. mapped x f) (all n s)) all

file_kept : (o : Label) (t : Tree) (d : Name) (text : List ℕ) (home : Home) → flows d.own o ≡ false → flows home.maker o ≡ false → flows home.own o ≡ false → AlikeTrees o t (with_file t d text home)
file_kept o t d text home hid maker own =
    record {
      dirs = changed_kept o d (joined text kind.File (next_name t home)) t.dirs hid;
      files = insert_kept o t.files (next_name t home) [] own;
      counts = counted_kept o t.counts home maker;
    }

dir_kept : (o : Label) (t : Tree) (d : Name) (text : List ℕ) (home : Home) → flows d.own o ≡ false → flows home.maker o ≡ false → flows home.own o ≡ false → AlikeTrees o t (with_dir t d text home)
dir_kept o t d text home hid maker own =
    let first = tree.changed_at t.dirs d (joined text kind.Dir (next_name t home)) in
    record {
      dirs = same_trans name_total name_exact (own_seen o) t.dirs first _ (changed_kept o d (joined text kind.Dir (next_name t home)) t.dirs hid) (insert_kept o first (next_name t home) [] own);
      files = λ q s. refl;
      counts = counted_kept o t.counts home maker;
    }

next_same : (o : Label) (t u : Tree) (home : Home) → AlikeTrees o t u → flows home.maker o ≡ true → next_name t home ≡ next_name u home
next_same o t u home a s = ap (name_of home) (count_same o t.counts u.counts home a.counts s)

file_same : (o : Label) (t u : Tree) (d : Name) (text : List ℕ) (home : Home) → AlikeTrees o t u → flows home.maker o ≡ true → AlikeTrees o (with_file t d text home) (with_file u d text home)
file_same o t u d text home a s =
    let named = λ (n : Name). AlikeTrees o (with_file t d text home) (record { dirs = tree.changed_at u.dirs d (joined text kind.File n); files = insert u.files n []; counts = counted u.counts home; root = u.root }) in
    subst named (next_same o t u home a s)
    (record {
      dirs = changed_same o d (joined text kind.File (next_name t home)) t.dirs u.dirs a.dirs;
      files = insert_same o t.files u.files (next_name t home) [] a.files;
      counts = counted_same o t.counts u.counts home a.counts;
    })

dir_same : (o : Label) (t u : Tree) (d : Name) (text : List ℕ) (home : Home) → AlikeTrees o t u → flows home.maker o ≡ true → AlikeTrees o (with_dir t d text home) (with_dir u d text home)
dir_same o t u d text home a s =
    let named = λ (n : Name). AlikeTrees o (with_dir t d text home) (record { dirs = insert (tree.changed_at u.dirs d (joined text kind.Dir n)) n []; files = u.files; counts = counted u.counts home; root = u.root }) in
    subst named (next_same o t u home a s)
    (record {
      dirs = insert_same o _ _ (next_name t home) [] (changed_same o d (joined text kind.Dir (next_name t home)) t.dirs u.dirs a.dirs);
      files = a.files;
      counts = counted_same o t.counts u.counts home a.counts;
    })

-- ---- pipes

line_point : (x : Option (List Message)) (q : Queues) (n : Name) (f : List Message → List Message) → get q.waiting n ≡ x → IsPoint q.waiting (queue.changed_at x q n f).waiting n (mapped x f)
line_point None q n f e = same_point name_total name_exact q.waiting n None e
line_point (Some ms) q n f e = insert_point name_total name_exact q.waiting n (f ms)

line_counts : (x : Option (List Message)) (q : Queues) (n : Name) (f : List Message → List Message) → (queue.changed_at x q n f).counts ≡ q.counts
line_counts None q n f = refl
line_counts (Some ms) q n f = refl

line_kept : (o : Label) (q : Queues) (n : Name) (f : List Message → List Message) → flows n.own o ≡ false → AlikeQueues o q (queue.changed_at (get q.waiting n) q n f)
line_kept o q n f hid =
    record {
      waiting = name_kept o q.waiting _ n _ hid (line_point (get q.waiting n) q n f refl);
      counts = λ k s. ap (λ (c : Counts). count_in c k) (sym (line_counts (get q.waiting n) q n f));
    }

line_same : (o : Label) (q r : Queues) (n : Name) (f : List Message → List Message) → AlikeQueues o q r → AlikeQueues o (queue.changed_at (get q.waiting n) q n f) (queue.changed_at (get r.waiting n) r n f)
line_same o q r n f a =
    record {
      waiting = name_same o q.waiting r.waiting _ _ n _ _ (line_point (get q.waiting n) q n f refl) (line_point (get r.waiting n) r n f refl) (λ s. ap (λ x. mapped x f) (a.waiting n s)) a.waiting;
      counts = λ k s. ap (λ (c : Counts). count_in c k) (line_counts (get q.waiting n) q n f) ∙ a.counts k s ∙ sym (ap (λ (c : Counts). count_in c k) (line_counts (get r.waiting n) r n f));
    }

pipe_kept : (o : Label) (q : Queues) (home : Home) → flows home.maker o ≡ false → flows home.own o ≡ false → AlikeQueues o q (with_pipe q home)
pipe_kept o q home maker own = record { waiting = insert_kept o q.waiting (name_of home (count_in q.counts home)) [] own; counts = counted_kept o q.counts home maker }

pipe_same : (o : Label) (q r : Queues) (home : Home) → AlikeQueues o q r → flows home.maker o ≡ true → AlikeQueues o (with_pipe q home) (with_pipe r home)
pipe_same o q r home a s =
    let named = λ (n : Name). AlikeQueues o (with_pipe q home) (record { waiting = insert r.waiting n []; counts = counted r.counts home }) in
    subst named (ap (name_of home) (count_same o q.counts r.counts home a.counts s))
    (record { waiting = insert_same o q.waiting r.waiting (name_of home (count_in q.counts home)) [] a.waiting; counts = counted_same o q.counts r.counts home a.counts })

-- ---- one more thread

grown_hidden : (o : Label) (c : Context) (th : Thread) (ths : List Thread) → th.contexts ≡ c ∷ [] → flows c.label o ≡ false → (j : ℕ) → SameStacks o (slice_get ths j) (slice_get (ths ++ th ∷ []) j)
grown_hidden o c th [] e h zero = sym (ap (filter (is_seen o)) e ∙ ap (λ b. cond b (c ∷ []) []) h)
grown_hidden o c th [] e h (suc j) = refl
grown_hidden o c th (x ∷ ths) e h zero = refl
grown_hidden o c th (x ∷ ths) e h (suc j) = grown_hidden o c th ths e h j

grown_same : (P : Option Thread → Option Thread → Type 0) (th : Thread) → P (Some th) (Some th) → (xs ys : List Thread) → length xs ≡ length ys → ((j : ℕ) → P (slice_get xs j) (slice_get ys j)) → (j : ℕ) → P (slice_get (xs ++ th ∷ []) j) (slice_get (ys ++ th ∷ []) j)
grown_same P th here [] [] e all zero = here
grown_same P th here [] [] e all (suc j) = all (suc j)
grown_same P th here [] (y ∷ ys) e all j = absurd (omega arith)
grown_same P th here (x ∷ xs) [] e all j = absurd (omega arith)
grown_same P th here (x ∷ xs) (y ∷ ys) e all zero = all zero
grown_same P th here (x ∷ xs) (y ∷ ys) e all (suc j) = grown_same P th here xs ys (omega arith) (λ k. all (suc k)) j

longer : (xs ys : List Thread) (th : Thread) → length xs ≡ length ys → length (xs ++ th ∷ []) ≡ length (ys ++ th ∷ [])
longer xs ys th e = length-append xs (th ∷ []) ∙ ap (λ n. n + length (th ∷ [])) e ∙ sym (length-append ys (th ∷ []))

grown_both : (o : Label) (xs ys : List Thread) (c : Context) (th : Thread) → th.contexts ≡ c ∷ [] → (b : Bool) → flows public_label o ≡ b → c.label ≡ public_label → AlikeThreads o xs ys → AlikeThreads o (xs ++ th ∷ []) (ys ++ th ∷ [])
grown_both o xs ys c th e true s l a =
    record {
      contexts = grown_same (SameStacks o) th refl xs ys (a.count s) a.contexts;
      count = λ p. longer xs ys th (a.count p);
      results = λ p. grown_same SameResults th refl xs ys (a.count p) (a.results p);
    }
grown_both o xs ys c th e false s l a =
    let hid = ap (λ l. flows l o) l ∙ s in
    record {
      contexts = λ j. sym (grown_hidden o c th xs e hid j) ∙ a.contexts j ∙ grown_hidden o c th ys e hid j;
      count = λ p. not_both (flows public_label o) s p;
      results = λ p. not_both (flows public_label o) s p;
    }

-- ---- effects

-- what a release shows of the heap
abbrev pub shown : Option Made → World → World
shown (Some (a_thing n thing slots)) w = record w { heap = record w.heap { slots = insert w.heap.slots n slots } }
shown m w = w

abbrev pub IsNoThing : Option Made → Type 0
IsNoThing (Some (a_thing n thing slots)) = ⊥
IsNoThing m = Unit {0}

abbrev next_thing : Things → Home → Name
next_thing h home = name_of home (count_in h.counts home)

-- what an unseen actor may do: what it makes in the heap is told by its content, and all else is unseen
abbrev pub IsHidden : Label → Things → Effect → Option Made → Type 0
IsHidden o h nothing m = IsNoThing m
IsHidden o h takes_tag m = (flows public_label o ≡ false) × IsNoThing m
IsHidden o h (sets_slot n at v) m = (flows n.own o ≡ false) × IsNoThing m
IsHidden o h (adds_thing home sort xs) m = (flows home.maker o ≡ false) × ((thing : Value) × (m ≡ Some (a_thing (next_thing h home) thing xs)))
IsHidden o h (adds_copy n home) m = (flows home.maker o ≡ false) × ((thing : Value) × (m ≡ Some (a_thing (next_thing h home) thing (slots_at h n))))
IsHidden o h (takes_monitor n) m = (flows n.own o ≡ false) × IsNoThing m
IsHidden o h (gives_back n) m = (flows n.own o ≡ false) × IsNoThing m
IsHidden o h (drops ns) m = AllByRecursion (λ (n : Name). flows n.own o ≡ false) ns × IsNoThing m
IsHidden o h (adds_file d text home) m = (flows d.own o ≡ false) × (flows home.maker o ≡ false) × (flows home.own o ≡ false) × IsNoThing m
IsHidden o h (adds_dir d text home) m = (flows d.own o ≡ false) × (flows home.maker o ≡ false) × (flows home.own o ≡ false) × IsNoThing m
IsHidden o h (removes d text) m = (flows d.own o ≡ false) × IsNoThing m
IsHidden o h (appends f bytes) m = (flows f.own o ≡ false) × IsNoThing m
IsHidden o h (cuts f len) m = (flows f.own o ≡ false) × IsNoThing m
IsHidden o h (adds_pipe home) m = (flows home.maker o ≡ false) × (flows home.own o ≡ false) × IsNoThing m
IsHidden o h (sends p x) m = (flows p.own o ≡ false) × IsNoThing m
IsHidden o h (receives p k) m = (flows p.own o ≡ false) × IsNoThing m
IsHidden o h (adds_thread unit args caps) m = (flows public_label o ≡ false) × IsNoThing m

shown_none : (m : Option Made) (w : World) → IsNoThing m → w ≡ shown m w
shown_none (Some (a_thing n thing slots)) w h = absurd h
shown_none m w h = refl

-- nothing in the heap is made, and nothing seen changes
unshown : (o : Label) (w u : World) (m : Option Made) → IsNoThing m → Alike o w u → Alike o u (shown m w)
unshown o w u m h a = subst (Alike o u) (shown_none m w h) (alike_sym o w u a)

pub hidden_shown : (o : Label) (code : CodeTree) (t : ℕ) (e : Effect) (w : World) (m : Option Made) → IsHidden o w.heap e m → Alike o (effect_of code t e w) (shown m w)
hidden_shown o code t nothing w m h = unshown o w w m h (alike_refl o w)
hidden_shown o code t takes_tag w m h = unshown o w _ m h.1 (with_tags o w w _ _ (alike_refl o w) (λ s. not_both (flows public_label o) h.0 s))
hidden_shown o code t (sets_slot n at v) w m h = unshown o w _ m h.1 (with_heaps o w w _ _ (alike_refl o w) (heap_slot_kept o w.heap n at v h.0))
hidden_shown o code t (adds_thing home sort xs) w m h =
    subst (λ m. Alike o (effect_of code t (adds_thing home sort xs) w) (shown m w)) (sym h.1.1)
    (with_heaps o w w _ _ (alike_refl o w) (record { slots = λ n s. refl; counts = λ q s. sym (counted_kept o w.heap.counts home h.0 q s) }))
hidden_shown o code t (adds_copy n home) w m h =
    subst (λ m. Alike o (effect_of code t (adds_copy n home) w) (shown m w)) (sym h.1.1)
    (with_heaps o w w _ _ (alike_refl o w) (record { slots = λ n s. refl; counts = λ q s. sym (counted_kept o w.heap.counts home h.0 q s) }))
hidden_shown o code t (takes_monitor n) w m h = unshown o w _ m h.1 (with_monitors o w w _ _ (alike_refl o w) (name_kept o w.monitors _ n _ h.0 (entered_point w.monitors n t)))
hidden_shown o code t (gives_back n) w m h = unshown o w _ m h.1 (with_monitors o w w _ _ (alike_refl o w) (left_kept o w.monitors n t h.0))
hidden_shown o code t (drops ns) w m h = unshown o w _ m h.1 (with_monitors o w w _ _ (alike_refl o w) (dropped_kept o w.monitors ns t h.0))
hidden_shown o code t (adds_file d text home) w m h = unshown o w _ m h.3 (with_trees o w w _ _ (alike_refl o w) (file_kept o w.files d text home h.0 h.1 h.2))
hidden_shown o code t (adds_dir d text home) w m h = unshown o w _ m h.3 (with_trees o w w _ _ (alike_refl o w) (dir_kept o w.files d text home h.0 h.1 h.2))
hidden_shown o code t (removes d text) w m h =
    unshown o w _ m h.1 (with_trees o w w _ _ (alike_refl o w) (record { dirs = changed_kept o d (without text) w.files.dirs h.0; files = λ q s. refl; counts = λ q s. refl }))
hidden_shown o code t (appends f bytes) w m h =
    unshown o w _ m h.1 (with_trees o w w _ _ (alike_refl o w) (record { dirs = λ q s. refl; files = changed_kept o f _ w.files.files h.0; counts = λ q s. refl }))
hidden_shown o code t (cuts f len) w m h =
    unshown o w _ m h.1 (with_trees o w w _ _ (alike_refl o w) (record { dirs = λ q s. refl; files = changed_kept o f _ w.files.files h.0; counts = λ q s. refl }))
hidden_shown o code t (adds_pipe home) w m h = unshown o w _ m h.2 (with_queues o w w _ _ (alike_refl o w) (pipe_kept o w.pipes home h.0 h.1))
hidden_shown o code t (sends p x) w m h = unshown o w _ m h.1 (with_queues o w w _ _ (alike_refl o w) (line_kept o w.pipes p _ h.0))
hidden_shown o code t (receives p k) w m h = unshown o w _ m h.1 (with_queues o w w _ _ (alike_refl o w) (line_kept o w.pipes p _ h.0))
hidden_shown o code t (adds_thread unit args caps) w m h =
    unshown o w _ m h.1
    (with_threads o w w _ _ (alike_refl o w)
    (record {
      contexts = grown_hidden o (first_context code unit args caps) (started code unit args caps) w.threads refl h.0;
      count = λ s. not_both (flows public_label o) h.0 s;
      results = λ s. not_both (flows public_label o) h.0 s;
    }))

-- what the same release shows is the same
pub shown_same : (o : Label) (m : Option Made) (w u : World) → Alike o w u → Alike o (shown m w) (shown m u)
shown_same o (Some (a_thing n thing slots)) w u a = with_heaps o w u _ _ a (record { slots = insert_same o w.heap.slots u.heap.slots n slots a.heap.slots; counts = a.heap.counts })
shown_same o m w u a = a

-- what is unseen shows nothing
pub shown_kept : (o : Label) (m : Option Made) (w : World) → shows o m ≡ false → Alike o (shown m w) w
shown_kept o (Some (a_thing n thing slots)) w h = alike_sym o w _ (with_heaps o w w w.heap _ (alike_refl o w) (record { slots = insert_kept o w.heap.slots n slots h; counts = λ q s. refl }))
shown_kept o m w h = alike_refl o w

-- what a seen actor may do: it makes things of its own, and copies what it sees
abbrev pub IsOpen : Label → Effect → Type 0
IsOpen o (adds_thing home sort xs) = flows home.maker o ≡ true
IsOpen o (adds_copy n home) = (flows home.maker o ≡ true) × (flows n.own o ≡ true)
IsOpen o (adds_file d text home) = flows home.maker o ≡ true
IsOpen o (adds_dir d text home) = flows home.maker o ≡ true
IsOpen o (adds_pipe home) = flows home.maker o ≡ true
IsOpen o e = Unit {0}

pub effect_same : (o : Label) (code : CodeTree) (t : ℕ) (e : Effect) (w u : World) → IsOpen o e → Alike o w u → Alike o (effect_of code t e w) (effect_of code t e u)
effect_same o code t nothing w u h a = a
effect_same o code t takes_tag w u h a = with_tags o w u _ _ a (λ s. ap (λ n. n + 1) (a.tags s))
effect_same o code t (sets_slot n at v) w u h a = with_heaps o w u _ _ a (heap_slot_same o w.heap u.heap n at v a.heap)
effect_same o code t (adds_thing home sort xs) w u h a = with_heaps o w u _ _ a (heap_thing_same o w.heap u.heap home sort xs a.heap h)
effect_same o code t (adds_copy n home) w u h a = with_heaps o w u _ _ a (heap_copy_same o w.heap u.heap n home a.heap h.0 h.1)
effect_same o code t (takes_monitor n) w u h a =
    with_monitors o w u _ _ a (name_same o w.monitors u.monitors _ _ n _ _ (entered_point w.monitors n t) (entered_point u.monitors n t) (λ s. ap (λ x. Some (once_more x t)) (a.monitors n s)) a.monitors)
effect_same o code t (gives_back n) w u h a = with_monitors o w u _ _ a (left_same o w.monitors u.monitors n t a.monitors)
effect_same o code t (drops ns) w u h a = with_monitors o w u _ _ a (dropped_same o w.monitors u.monitors ns t a.monitors)
effect_same o code t (adds_file d text home) w u h a = with_trees o w u _ _ a (file_same o w.files u.files d text home a.files h)
effect_same o code t (adds_dir d text home) w u h a = with_trees o w u _ _ a (dir_same o w.files u.files d text home a.files h)
effect_same o code t (removes d text) w u h a =
    with_trees o w u _ _ a (record { dirs = changed_same o d (without text) w.files.dirs u.files.dirs a.files.dirs; files = a.files.files; counts = a.files.counts })
effect_same o code t (appends f bytes) w u h a =
    with_trees o w u _ _ a (record { dirs = a.files.dirs; files = changed_same o f _ w.files.files u.files.files a.files.files; counts = a.files.counts })
effect_same o code t (cuts f len) w u h a =
    with_trees o w u _ _ a (record { dirs = a.files.dirs; files = changed_same o f _ w.files.files u.files.files a.files.files; counts = a.files.counts })
effect_same o code t (adds_pipe home) w u h a = with_queues o w u _ _ a (pipe_same o w.pipes u.pipes home a.pipes h)
effect_same o code t (sends p x) w u h a = with_queues o w u _ _ a (line_same o w.pipes u.pipes p _ a.pipes)
effect_same o code t (receives p k) w u h a = with_queues o w u _ _ a (line_same o w.pipes u.pipes p _ a.pipes)
effect_same o code t (adds_thread unit args caps) w u h a =
    with_threads o w u _ _ a (grown_both o w.threads u.threads (first_context code unit args caps) (started code unit args caps) refl (flows public_label o) refl refl a.threads)
