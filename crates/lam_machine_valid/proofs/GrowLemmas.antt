-- A turn only adds to a world, and what lives in one lives in a greater one.
use Rattle.std.proofs.Common.{◌≡◌, ℕ, zero, suc, ◌+◌, ◌≤◌, Bool, true, false, List, [], ◌∷◌, ◌++◌, Option, Some, None, length, refl, sym, ap, ◌∙◌, subst, arith, length-append}
use Rattle.std.specs.Prelude.{cond, IsTrue, is_some, unwrap_or, slice_set}
use Rattle.std.proofs.Math.Bool.{true≢false}
use Rattle.std.specs.Ordering.{eq_by_cmp}
use Rattle.std.specs.Cmp.{Equal-is}
use Rattle.std.specs.FinMap.{FinMap, get, insert, contains_key, get-insert}
use Rattle.flow_labels.specs.Tags.{Tags}
use Rattle.flow_labels.specs.declared.Label.{Label}
use Rattle.lam_value.specs.declared.names.Name.{Name}
use Rattle.lam_value.specs.Names.{name_cmp}
use Rattle.lam_value.specs.declared.values.Value.{Value}
use Rattle.lam_value.specs.declared.values.Value.TheVariants.{Int, Bool as Truth, Bytes, Nothing, Obj, Arr, File, Dir, Pipe, Thread, Tag, Lab, CapV}
use Rattle.lam_value.specs.Homes.{Home, name_of, count_in}
use Rattle.lam_value.proofs.Keys.{name_total, name_exact}
use Rattle.lam_value.proofs.CountLemmas.{next_is_new}
use Rattle.labelled_heap.specs.Things as heap
use Rattle.labelled_heap.specs.Things.{Things, slots_at}
use Rattle.monitor_core.specs.Held.{Held}
use Rattle.labelled_files.specs.Trees as tree
use Rattle.labelled_files.specs.Trees.{Tree}
use Rattle.labelled_pipes.specs.declared.message.Message.{Message}
use Rattle.labelled_pipes.specs.Queues as queue
use Rattle.labelled_pipes.specs.Queues.{Queues}
use Rattle.lam_bytecode.specs.Codes.{CodeTree}
use Rattle.thread_steps.specs.Threads.{Context}
use Rattle.thread_steps.specs.Threads as threads
use Rattle.thread_steps.specs.Next.{Next, goes, asks, stuck, next_of, started, takes}
use Rattle.lam_machine_laws.specs.Worlds.{World, with_thread}
use Rattle.lam_machine_laws.specs.Serves.{Effect, nothing, takes_tag, sets_slot, adds_thing, adds_copy, takes_monitor, gives_back, drops, adds_file, adds_dir, removes, appends, cuts, adds_pipe, sends, receives, adds_thread, effect_of}
use Rattle.lam_machine_laws.specs.Serving.{serve}
use Rattle.lam_machine_laws.specs.Turns.{is_ready, Moment, goes_on, served, turn_by}
use Rattle.lam_machine_laws.specs.Valid.{AreBelow, IsKnown, IsKnownName, Lives, AreSoundStores}
use Rattle.lam_machine_laws.proofs.ThreadLemmas.{some_inj}
use Rattle.lam_machine_laws.proofs.TurnLemmas.{acts, only}
use Rattle.lam_machine_valid.specs.Living.{LivingGoOn}

-- ---- greater stores

abbrev pub Keeps : {X : Type 0} → FinMap name_cmp X → FinMap name_cmp X → Type 0
Keeps m k = (n : Name) → IsTrue (contains_key m n) → IsTrue (contains_key k n)

abbrev pub KeepsSlots : Things → Things → Type 0
KeepsSlots h k = (n : Name) → IsTrue (contains_key h.slots n) → IsTrue (contains_key k.slots n) × (length (slots_at k n) ≡ length (slots_at h n))

pub record Grows (w u : World) : Type 0 where
  pub tags : w.next_tag ≤ u.next_tag
  pub heap : KeepsSlots w.heap u.heap
  pub files : Keeps w.files.files u.files.files
  pub dirs : Keeps w.files.dirs u.files.dirs
  pub pipes : Keeps w.pipes.waiting u.pipes.waiting
  pub threads : length w.threads ≤ length u.threads

module _ (w u : World) (g : Grows w u) where
  pub below_on : (s : Tags) → AreBelow w.next_tag s → AreBelow u.next_tag s
  below_on s h t e = let a = h t e in let b = g.tags in omega arith

  pub known_on : (l : Label) → IsKnown w l → IsKnown u l
  known_on l h = (below_on l.s h.0, below_on l.i h.1)

  pub name_on : (n : Name) → IsKnownName w n → IsKnownName u n
  name_on n h = (known_on n.maker h.0, known_on n.own h.1)

  pub lives_on : (v : Value) → Lives w v → Lives u v
  lives_on (Int n) h = tt
  lives_on (Truth b) h = tt
  lives_on (Bytes bytes) h = tt
  lives_on Nothing h = tt
  lives_on (Obj n) h = (name_on n h.0, (g.heap n h.1).0)
  lives_on (Arr n len) h = let k = g.heap n h.1.0 in (name_on n h.0, (k.0, k.1 ∙ h.1.1))
  lives_on (File n) h = (name_on n h.0, g.files n h.1)
  lives_on (Dir n) h = (name_on n h.0, g.dirs n h.1)
  lives_on (Pipe n) h = (name_on n h.0, g.pipes n h.1)
  lives_on (Thread t) h = let b = g.threads in omega arith
  lives_on (Tag t) h = let b = g.tags in omega arith
  lives_on (Lab l) h = known_on l h
  lives_on (CapV p m) h = (below_on p h.0, below_on m h.1)

-- ---- maps

pub insert_keeps : {X : Type 0} (m : FinMap name_cmp X) (k : Name) (x : X) → Keeps m (insert m k x)
insert_keeps m k x q h = by (eq_by_cmp name_cmp q k) (get-insert name_total m k x q)
  where
    by : (b : Bool) → get (insert m k x) q ≡ cond b (Some x) (get m q) → is_some (get (insert m k x) q) ≡ true
    by true e = ap is_some e
    by false e = ap is_some e ∙ h

changed_keeps : {X : Type 0} (y : Option X) (m : FinMap name_cmp X) (n : Name) (f : X → X) → Keeps m (tree.changed y m n f)
changed_keeps None m n f q h = h
changed_keeps (Some y) m n f q h = insert_keeps m n (f y) q h

line_keeps : (y : Option (List Message)) (q : Queues) (n : Name) (f : List Message → List Message) → Keeps q.waiting (queue.changed_at y q n f).waiting
line_keeps None q n f k h = h
line_keeps (Some y) q n f k h = insert_keeps q.waiting n (f y) k h

-- slots that are as many as a thing had, where it lived
pub put_keeps : (h : Things) (k : Name) (xs : List Value) → (IsTrue (contains_key h.slots k) → length xs ≡ length (slots_at h k)) → (q : Name) → IsTrue (contains_key h.slots q) → IsTrue (contains_key (insert h.slots k xs) q) × (length (unwrap_or (get (insert h.slots k xs) q) []) ≡ length (slots_at h q))
put_keeps h k xs as_many q there = by (eq_by_cmp name_cmp q k) refl (get-insert name_total h.slots k xs q)
  where
    by : (b : Bool) → eq_by_cmp name_cmp q k ≡ b → get (insert h.slots k xs) q ≡ cond b (Some xs) (get h.slots q) → IsTrue (contains_key (insert h.slots k xs) q) × (length (unwrap_or (get (insert h.slots k xs) q) []) ≡ length (slots_at h q))
    by true t e =
        let same : q ≡ k = name_exact q k ((Equal-is (name_cmp q k)).0 t) in
        (ap is_some e, ap (λ (x : Option (List Value)). length (unwrap_or x [])) e ∙ as_many (subst (λ (n : Name). IsTrue (contains_key h.slots n)) same there) ∙ ap (λ (n : Name). length (slots_at h n)) (sym same))
    by false t e = (ap is_some e ∙ there, ap (λ (x : Option (List Value)). length (unwrap_or x [])) e)

set_length : {X : Type 0} (n : ℕ) (xs : List X) (x : X) → length (slice_set xs n x) ≡ length xs
set_length n [] x = refl
set_length zero (y ∷ xs) x = refl
set_length (suc n) (y ∷ xs) x = ap suc (set_length n xs x)

slot_keeps : (y : Option (List Value)) (h : Things) (n : Name) (at : ℕ) (v : Value) → get h.slots n ≡ y → KeepsSlots h (heap.changed_at y h n (λ xs. slice_set xs at v))
slot_keeps None h n at v e q there = (there, refl)
slot_keeps (Some xs) h n at v e q there =
    put_keeps h n (slice_set xs at v) (λ c. set_length at xs v ∙ sym (ap (λ (x : Option (List Value)). length (unwrap_or x [])) e)) q there

new_keeps : (h : Things) (home : Home) (xs : List Value) → heap.IsSound h → (q : Name) → IsTrue (contains_key h.slots q) → IsTrue (contains_key (insert h.slots (name_of home (count_in h.counts home)) xs) q) × (length (unwrap_or (get (insert h.slots (name_of home (count_in h.counts home)) xs) q) []) ≡ length (slots_at h q))
new_keeps h home xs s =
    put_keeps h (name_of home (count_in h.counts home)) xs (λ c. absurd (true≢false (sym c ∙ next_is_new h.slots h.counts home s.counted)))

-- ---- worlds

with_heap : (w : World) (h : Things) → KeepsSlots w.heap h → Grows w (record w { heap = h })
with_heap w h k = record { tags = omega arith; heap = k; files = λ n h. h; dirs = λ n h. h; pipes = λ n h. h; threads = omega arith }

with_held : (w : World) (m : Held) → Grows w (record w { monitors = m })
with_held w m = record { tags = omega arith; heap = λ n h. (h, refl); files = λ n h. h; dirs = λ n h. h; pipes = λ n h. h; threads = omega arith }

with_tree : (w : World) (t : Tree) → Keeps w.files.files t.files → Keeps w.files.dirs t.dirs → Grows w (record w { files = t })
with_tree w t f d = record { tags = omega arith; heap = λ n h. (h, refl); files = f; dirs = d; pipes = λ n h. h; threads = omega arith }

with_lines : (w : World) (q : Queues) → Keeps w.pipes.waiting q.waiting → Grows w (record w { pipes = q })
with_lines w q k = record { tags = omega arith; heap = λ n h. (h, refl); files = λ n h. h; dirs = λ n h. h; pipes = k; threads = omega arith }

pub with_list : (w : World) (ths : List threads.Thread) → length w.threads ≤ length ths → Grows w (record w { threads = ths })
with_list w ths k = record { tags = omega arith; heap = λ n h. (h, refl); files = λ n h. h; dirs = λ n h. h; pipes = λ n h. h; threads = k }

with_next : (w : World) (n : ℕ) → w.next_tag ≤ n → Grows w (record w { next_tag = n })
with_next w n k = record { tags = k; heap = λ n h. (h, refl); files = λ n h. h; dirs = λ n h. h; pipes = λ n h. h; threads = omega arith }

one_longer : (ths : List threads.Thread) (a : threads.Thread) → length ths ≤ length (ths ++ a ∷ [])
one_longer ths a = let e : length (ths ++ a ∷ []) ≡ length ths + 1 = length-append ths (a ∷ []) in omega arith

pub effect_grows : (code : CodeTree) (t : ℕ) (e : Effect) (w : World) → AreSoundStores w → Grows w (effect_of code t e w)
effect_grows code t nothing w s = with_next w w.next_tag (omega arith)
effect_grows code t takes_tag w s = with_next w (w.next_tag + 1) (omega arith)
effect_grows code t (sets_slot n at v) w s = with_heap w _ (slot_keeps (get w.heap.slots n) w.heap n at v refl)
effect_grows code t (adds_thing home sort xs) w s = with_heap w _ (new_keeps w.heap home xs s.heap)
effect_grows code t (adds_copy n home) w s = with_heap w _ (new_keeps w.heap home (slots_at w.heap n) s.heap)
effect_grows code t (takes_monitor n) w s = with_held w _
effect_grows code t (gives_back n) w s = with_held w _
effect_grows code t (drops ns) w s = with_held w _
effect_grows code t (adds_file d text home) w s = with_tree w _ (insert_keeps w.files.files _ []) (changed_keeps (get w.files.dirs d) w.files.dirs d _)
effect_grows code t (adds_dir d text home) w s =
    with_tree w _ (λ n h. h) (λ n h. insert_keeps _ _ [] n (changed_keeps (get w.files.dirs d) w.files.dirs d _ n h))
effect_grows code t (removes d text) w s = with_tree w _ (λ n h. h) (changed_keeps (get w.files.dirs d) w.files.dirs d _)
effect_grows code t (appends f bytes) w s = with_tree w _ (changed_keeps (get w.files.files f) w.files.files f _) (λ n h. h)
effect_grows code t (cuts f len) w s = with_tree w _ (changed_keeps (get w.files.files f) w.files.files f _) (λ n h. h)
effect_grows code t (adds_pipe home) w s = with_lines w _ (insert_keeps w.pipes.waiting _ [])
effect_grows code t (sends p m) w s = with_lines w _ (line_keeps (get w.pipes.waiting p) w.pipes p _)
effect_grows code t (receives p k) w s = with_lines w _ (line_keeps (get w.pipes.waiting p) w.pipes p _)
effect_grows code t (adds_thread unit args caps) w s = with_list w _ (one_longer w.threads (started code unit args caps))

pub thread_grows : (w : World) (t : ℕ) (to : threads.Thread) → Grows w (with_thread w t to)
thread_grows w t to = let e : length (slice_set w.threads t to) ≡ length w.threads = set_length t w.threads to in with_list w _ (omega arith)

pub same_stores : (w : World) (t : ℕ) (to : threads.Thread) → AreSoundStores w → AreSoundStores (with_thread w t to)
same_stores w t to s = record { heap = s.heap; monitors = s.monitors; files = s.files; root = s.root; pipes = s.pipes }

-- ---- turns

next_goes_on : (code : CodeTree) (w : World) (t : ℕ) (th : threads.Thread) (c : Context) (rest : List Context) (nx : Next) (m : Moment) → AreSoundStores w → turn_by code w t th c rest nx ≡ Some m → (v : Value) → Lives w v → Lives m.world v
next_goes_on code w t th c rest (goes i) m s h v l =
    subst (λ (n : Moment). Lives n.world v) (some_inj (goes_on w t th c rest i) m h) (lives_on w _ (thread_grows w t _) v l)
next_goes_on code w t th c rest (asks a i) m s h v l =
    let d = serve w c a in
    let to = takes code th c rest i a d.answer in
    subst (λ (n : Moment). Lives n.world v) (only (is_ready w t c a) (served code w t th c rest a i d) m h).1
    (lives_on (with_thread w t to) _ (effect_grows code t d.effect (with_thread w t to) (same_stores w t to s)) v (lives_on w _ (thread_grows w t to) v l))
next_goes_on code w t th c rest stuck m s h v l = absurd cc

pub go_on : (code : CodeTree) → LivingGoOn code
go_on code w t m s h v l =
    let a = acts code w t m h in
    next_goes_on code w t a.thread a.top a.rest (next_of code a.top) m s a.gives v l
