-- What stands in the stores lives after an effect, where what the effect puts there does.
use Rattle.std.proofs.Common.{◌≡◌, ℕ, ◌+◌, Bool, true, false, cond, List, [], ◌∷◌, ◌++◌, Option, Some, None, length, refl, sym, ap, subst, ◌∙◌}
use Rattle.std.specs.Prelude.{IsTrue, is_some, nat_lt, slice_set, unwrap_or}
use Rattle.std.specs.List.{AllByRecursion}
use Rattle.std.specs.Ordering.{eq_by_cmp}
use Rattle.std.specs.Cmp.{eq_by_cmp_equiv, Equal-is}
use Rattle.std.specs.FinMap.{FinMap, get, insert, contains_key, get-insert}
use Rattle.lam_value.specs.declared.names.Name.{Name}
use Rattle.lam_value.specs.Names.{name_cmp}
use Rattle.lam_value.specs.declared.values.Value.{Value}
use Rattle.lam_value.specs.Homes.{Home, Counts, home_cmp, name_of, count_in, counted}
use Rattle.lam_value.proofs.Keys.{name_total, name_exact, home_total, home_exact}
use Rattle.labelled_heap.specs.Things as heap
use Rattle.labelled_heap.specs.Things.{Things, slots_at}
use Rattle.monitor_core.specs.declared.Holder.{Holder}
use Rattle.monitor_core.specs.Held.{Held, once_more, one_less, left, dropped}
use Rattle.labelled_files.specs.declared.directory.EntryKind.{EntryKind}
use Rattle.labelled_files.specs.declared.directory.EntryKind.TheVariants as kind
use Rattle.labelled_files.specs.Entries.{Entries, text_eq, without}
use Rattle.labelled_files.specs.Trees as tree
use Rattle.labelled_files.specs.Trees.{Tree, lives_as, joined, next_name}
use Rattle.labelled_pipes.specs.declared.message.Message.{Message}
use Rattle.labelled_pipes.specs.declared.message.Message.TheVariants as message
use Rattle.labelled_pipes.specs.declared.message.MessageKind.{MessageKind}
use Rattle.labelled_pipes.specs.Messages as line
use Rattle.labelled_pipes.specs.Messages.{is_of, rest_of}
use Rattle.labelled_pipes.specs.Queues as queue
use Rattle.labelled_pipes.specs.Queues.{Queues}
use Rattle.lam_bytecode.specs.Codes.{CodeTree}
use Rattle.lam_machine_laws.specs.Worlds.{World}
use Rattle.lam_machine_laws.specs.Serves.{Effect, nothing, takes_tag, sets_slot, adds_thing, adds_copy, takes_monitor, gives_back, drops, adds_file, adds_dir, removes, appends, cuts, adds_pipe, sends, receives, adds_thread, effect_of}
use Rattle.lam_machine_laws.specs.Valid.{IsKnown, AreKnown, IsKnownName, AreKnownNames, AreKnownHomes, Lives, AllLive, EntryLives, MessageLives, AreSoundStores, StoresLive}
use Rattle.lam_machine_valid.proofs.GrowLemmas.{Grows, known_on, below_on, name_on, lives_on, effect_grows}
use Rattle.lam_machine_valid.proofs.PrivateLemmas.{set_live}
use Rattle.lam_machine_valid.proofs.HoldLemmas.{held_at}

-- ---- maps

pub all_on : {X : Type 0} {P Q : X → Type 0} → ((x : X) → P x → Q x) → (xs : List X) → AllByRecursion P xs → AllByRecursion Q xs
all_on f [] h = tt
all_on f (x ∷ xs) h = (f x h.0, all_on f xs h.1)

pub all_append : {X : Type 0} (P : X → Type 0) (xs ys : List X) → AllByRecursion P xs → AllByRecursion P ys → AllByRecursion P (xs ++ ys)
all_append P [] ys h k = k
all_append P (x ∷ xs) ys h k = (h.0, all_append P xs ys h.1 k)

pub there_now : {X : Type 0} (m : FinMap name_cmp X) (k : Name) (x : X) → get (insert m k x) k ≡ Some x
there_now m k x = get-insert name_total m k x k ∙ ap (λ b. cond b (Some x) (get m k)) ((eq_by_cmp_equiv name_total).refl k)

-- what stands at each name of a map
abbrev pub Each : {X : Type 0} → (X → Type 0) → FinMap name_cmp X → Type 0
Each {X} P m = (n : Name) (x : X) → get m n ≡ Some x → P x

module _ {X : Type 0} (P : X → Type 0) (m : FinMap name_cmp X) (all : Each P m) where
  pub put_each : (k : Name) (x : X) → P x → Each P (insert m k x)
  put_each k x here n y e = by (eq_by_cmp name_cmp n k) (sym (get-insert name_total m k x n) ∙ e)
    where
      by : (b : Bool) → cond b (Some x) (get m n) ≡ Some y → P y
      by true is = let same : x ≡ y = cc in subst P same here
      by false is = all n y is

  changed_each : (n : Name) (f : X → X) → ((x : X) → P x → P (f x)) → (o : Option X) → get m n ≡ o → Each P (tree.changed o m n f)
  changed_each n f kept None e = all
  changed_each n f kept (Some x) e = put_each n (f x) (kept x (all n x e))

pub put_known : {X : Type 0} (w : World) (m : FinMap name_cmp X) (k : Name) (x : X) → AreKnownNames w m → IsKnownName w k → AreKnownNames w (insert m k x)
put_known w m k x all here n lives = by (eq_by_cmp name_cmp n k) refl (sym (ap is_some (get-insert name_total m k x n)) ∙ lives)
  where
    by : (b : Bool) → eq_by_cmp name_cmp n k ≡ b → is_some (cond b (Some x) (get m n)) ≡ true → IsKnownName w n
    by true e l = subst (IsKnownName w) (sym (name_exact n k ((Equal-is (name_cmp n k)).0 e))) here
    by false e l = all n l

changed_known : {X : Type 0} (w : World) (m : FinMap name_cmp X) (n : Name) (f : X → X) → AreKnownNames w m → (o : Option X) → get m n ≡ o → AreKnownNames w (tree.changed o m n f)
changed_known w m n f all None e = all
changed_known w m n f all (Some x) e = put_known w m n (f x) all (all n (ap is_some e))

counted_known : (w : World) (m : Counts) (home : Home) → AreKnownHomes w m → IsKnown w home.maker × IsKnown w home.own → AreKnownHomes w (counted m home)
counted_known w m home all here h lives = by (eq_by_cmp home_cmp h home) refl (sym (ap is_some (get-insert home_total m home (count_in m home + 1) h)) ∙ lives)
  where
    by : (b : Bool) → eq_by_cmp home_cmp h home ≡ b → is_some (cond b (Some (count_in m home + 1)) (get m h)) ≡ true → IsKnown w h.maker × IsKnown w h.own
    by true e l = subst (λ (k : Home). IsKnown w k.maker × IsKnown w k.own) (sym (home_exact h home ((Equal-is (home_cmp h home)).0 e))) here
    by false e l = all h l

-- ---- what lives in one store, by the living of a world

pub record HeapLives (w : World) (h : Things) : Type 0 where
  pub slots : Each (AllLive w) h.slots
  pub things : AreKnownNames w h.slots
  pub homes : AreKnownHomes w h.counts

pub record TreeLives (w : World) (t : Tree) : Type 0 where
  pub entries : Each (λ (es : Entries). AllByRecursion (EntryLives w) es) t.dirs
  pub dirs : AreKnownNames w t.dirs
  pub files : AreKnownNames w t.files
  pub homes : AreKnownHomes w t.counts

pub record LinesLive (w : World) (q : Queues) : Type 0 where
  pub messages : Each (λ (ms : List Message). AllByRecursion (MessageLives w) ms) q.waiting
  pub pipes : AreKnownNames w q.waiting
  pub homes : AreKnownHomes w q.counts

together : (w : World) → HeapLives w w.heap → AreKnownNames w w.monitors → TreeLives w w.files → LinesLive w w.pipes → StoresLive w
together w h m t q =
    record {
      slots = h.slots;
      entries = t.entries;
      messages = q.messages;
      things = h.things;
      held = m;
      dirs = t.dirs;
      files = t.files;
      pipes = q.pipes;
      heap_homes = h.homes;
      file_homes = t.homes;
      pipe_homes = q.homes;
    }

module _ (w u : World) (g : Grows w u) where
  kind_on : (k : EntryKind) (n : Name) → IsTrue (lives_as k w.files n) → IsTrue (lives_as k u.files n)
  kind_on kind.File n h = g.files n h
  kind_on kind.Dir n h = g.dirs n h

  message_on : (m : Message) → MessageLives w m → MessageLives u m
  message_on (message.Bytes bytes) h = tt
  message_on (message.Caps caps) h = (below_on w u g caps.plus h.0, below_on w u g caps.minus h.1)

  pub all_lives_on : (vs : List Value) → AllLive w vs → AllLive u vs
  all_lives_on vs h = all_on (λ v l. lives_on w u g v l) vs h

  homes_on : (m : Counts) → AreKnownHomes w m → AreKnownHomes u m
  homes_on m all h l = let k = all h l in (known_on w u g h.maker k.0, known_on w u g h.own k.1)

  names_on : {X : Type 0} (m : FinMap name_cmp X) → AreKnownNames w m → AreKnownNames u m
  names_on m all n l = name_on w u g n (all n l)

  module _ (s : StoresLive w) where
    heap_on : HeapLives u w.heap
    heap_on = record { slots = λ n vs e. all_lives_on vs (s.slots n vs e); things = names_on w.heap.slots s.things; homes = homes_on w.heap.counts s.heap_homes }

    held_on : AreKnownNames u w.monitors
    held_on = names_on w.monitors s.held

    tree_on : TreeLives u w.files
    tree_on =
        record {
          entries = λ n es e. all_on (λ x l. (name_on w u g x.1.name l.0, kind_on x.1.kind x.1.name l.1)) es (s.entries n es e);
          dirs = names_on w.files.dirs s.dirs;
          files = names_on w.files.files s.files;
          homes = homes_on w.files.counts s.file_homes;
        }

    lines_on : LinesLive u w.pipes
    lines_on = record { messages = λ n ms e. all_on (λ m l. message_on m l) ms (s.messages n ms e); pipes = names_on w.pipes.waiting s.pipes; homes = homes_on w.pipes.counts s.pipe_homes }

-- the stores as they were, in a greater world
pub moved_live : (w u : World) → Grows w u → StoresLive w → u.heap ≡ w.heap → u.monitors ≡ w.monitors → u.files ≡ w.files → u.pipes ≡ w.pipes → StoresLive u
moved_live w u g s h m t q =
    together u (subst (HeapLives u) (sym h) (heap_on w u g s)) (subst (λ (k : Held). AreKnownNames u k) (sym m) (held_on w u g s)) (subst (TreeLives u) (sym t) (tree_on w u g s)) (subst (LinesLive u) (sym q) (lines_on w u g s))

-- ---- the heap

put_slot : (u : World) (h : Things) (n : Name) (at : ℕ) (v : Value) → HeapLives u h → Lives u v → (o : Option (List Value)) → get h.slots n ≡ o → HeapLives u (heap.changed_at o h n (λ xs. slice_set xs at v))
put_slot u h n at v l lv None e = l
put_slot u h n at v l lv (Some xs) e =
    record {
      slots = put_each (AllLive u) h.slots l.slots n (slice_set xs at v) (set_live u xs at v (l.slots n xs e) lv);
      things = put_known u h.slots n (slice_set xs at v) l.things (l.things n (ap is_some e));
      homes = l.homes;
    }

abbrev pub IsKnownHome : World → Home → Type 0
IsKnownHome w home = IsKnown w home.maker × IsKnown w home.own

put_thing : (u : World) (h k : Things) (home : Home) (xs : List Value) → HeapLives u h → IsKnownHome u home → AllLive u xs → k.slots ≡ insert h.slots (name_of home (count_in h.counts home)) xs → k.counts ≡ counted h.counts home → HeapLives u k
put_thing u h k home xs l known lx slots counts =
    record {
      slots = subst (Each (AllLive u)) (sym slots) (put_each (AllLive u) h.slots l.slots (name_of home (count_in h.counts home)) xs lx);
      things = subst (λ (m : FinMap name_cmp (List Value)). AreKnownNames u m) (sym slots) (put_known u h.slots (name_of home (count_in h.counts home)) xs l.things known);
      homes = subst (AreKnownHomes u) (sym counts) (counted_known u h.counts home l.homes known);
    }

pub slots_live : (w : World) → StoresLive w → (n : Name) → AllLive w (slots_at w.heap n)
slots_live w s n = by (get w.heap.slots n) refl
  where
    by : (o : Option (List Value)) → get w.heap.slots n ≡ o → AllLive w (unwrap_or o [])
    by None e = tt
    by (Some xs) e = s.slots n xs e

-- ---- monitors

left_known : (u : World) (m : Held) (r : Name) (t : ℕ) → AreKnownNames u m → AreKnownNames u (left m r t)
left_known u m r t all n lives = by (eq_by_cmp name_cmp n r) refl (sym (ap is_some (held_at (one_less (get m r) t) m r n)) ∙ lives)
  where
    was : (o : Option Holder) → is_some (one_less o t) ≡ true → is_some o ≡ true
    was None e = e
    was (Some h) e = refl

    by : (b : Bool) → eq_by_cmp name_cmp n r ≡ b → is_some (cond b (one_less (get m r) t) (get m n)) ≡ true → IsKnownName u n
    by true e l = subst (IsKnownName u) (sym (name_exact n r ((Equal-is (name_cmp n r)).0 e))) (all r (was (get m r) l))
    by false e l = all n l

dropped_known : (u : World) (m : Held) (rs : List Name) (t : ℕ) → AreKnownNames u m → AreKnownNames u (dropped m rs t)
dropped_known u m [] t all = all
dropped_known u m (r ∷ rs) t all = dropped_known u (left m r t) rs t (left_known u m r t all)

-- ---- files and directories

without_live : (u : World) (text : List ℕ) (es : Entries) → AllByRecursion (EntryLives u) es → AllByRecursion (EntryLives u) (without text es)
without_live u text [] h = tt
without_live u text (e ∷ es) h = by (text_eq text e.0) (without_live u text es h.1)
  where
    by : (b : Bool) → AllByRecursion (EntryLives u) (without text es) → AllByRecursion (EntryLives u) (cond b (without text es) (e ∷ without text es))
    by true more = more
    by false more = (h.0, more)

joined_live : (u : World) (text : List ℕ) (k : EntryKind) (n : Name) → IsKnownName u n → IsTrue (lives_as k u.files n) → (es : Entries) → AllByRecursion (EntryLives u) es → AllByRecursion (EntryLives u) (joined text k n es)
joined_live u text k n known lives es h = all_append (EntryLives u) es ((text, record { kind = k; name = n }) ∷ []) h ((known, lives), tt)

-- ---- lines

sent_live : (u : World) (m : Message) → MessageLives u m → (ms : List Message) → AllByRecursion (MessageLives u) ms → AllByRecursion (MessageLives u) (line.joined m ms)
sent_live u m here ms h = by (nat_lt (length ms) line.most_messages)
  where
    by : (b : Bool) → AllByRecursion (MessageLives u) (cond b (ms ++ m ∷ []) ms)
    by true = all_append (MessageLives u) ms (m ∷ []) h (here, tt)
    by false = h

rest_live : (u : World) (k : MessageKind) (ms : List Message) → AllByRecursion (MessageLives u) ms → AllByRecursion (MessageLives u) (rest_of k ms)
rest_live u k [] h = tt
rest_live u k (m ∷ ms) h = by (is_of k m)
  where
    by : (b : Bool) → AllByRecursion (MessageLives u) (cond b ms (m ∷ ms))
    by true = h.1
    by false = h

change_line : (u : World) (q : Queues) (p : Name) (f : List Message → List Message) → LinesLive u q → ((ms : List Message) → AllByRecursion (MessageLives u) ms → AllByRecursion (MessageLives u) (f ms)) → (o : Option (List Message)) → get q.waiting p ≡ o → LinesLive u (queue.changed_at o q p f)
change_line u q p f l kept None e = l
change_line u q p f l kept (Some ms) e =
    record {
      messages = put_each (λ (ms : List Message). AllByRecursion (MessageLives u) ms) q.waiting l.messages p (f ms) (kept ms (l.messages p ms e));
      pipes = put_known u q.waiting p (f ms) l.pipes (l.pipes p (ap is_some e));
      homes = l.homes;
    }

-- ---- effects

-- what an effect puts into a world lives there
abbrev pub EffectLives : World → Effect → Type 0
EffectLives w (sets_slot n at v) = Lives w v
EffectLives w (adds_thing home sort xs) = IsKnownHome w home × AllLive w xs
EffectLives w (adds_copy n home) = IsKnownHome w home
EffectLives w (takes_monitor n) = IsKnownName w n
EffectLives w (adds_file d text home) = IsKnownHome w home
EffectLives w (adds_dir d text home) = IsKnownHome w home
EffectLives w (adds_pipe home) = IsKnownHome w home
EffectLives w (sends p m) = MessageLives w m
EffectLives w (adds_thread unit args caps) = AllLive w args × AreKnown w caps
EffectLives w e = Unit {0}

pub effect_on : (w u : World) → Grows w u → (e : Effect) → EffectLives w e → EffectLives u e
effect_on w u g (sets_slot n at v) h = lives_on w u g v h
effect_on w u g (adds_thing home sort xs) h = ((known_on w u g home.maker h.0.0, known_on w u g home.own h.0.1), all_lives_on w u g xs h.1)
effect_on w u g (adds_copy n home) h = (known_on w u g home.maker h.0, known_on w u g home.own h.1)
effect_on w u g (takes_monitor n) h = name_on w u g n h
effect_on w u g (adds_file d text home) h = (known_on w u g home.maker h.0, known_on w u g home.own h.1)
effect_on w u g (adds_dir d text home) h = (known_on w u g home.maker h.0, known_on w u g home.own h.1)
effect_on w u g (adds_pipe home) h = (known_on w u g home.maker h.0, known_on w u g home.own h.1)
effect_on w u g (sends p m) h = message_on w u g m h
effect_on w u g (adds_thread unit args caps) h = (all_lives_on w u g args h.0, (below_on w u g caps.plus h.1.0, below_on w u g caps.minus h.1.1))
effect_on w u g e h = tt

abbrev entries_live : World → Entries → Type 0
entries_live u es = AllByRecursion (EntryLives u) es

file_live : (w u : World) (d : Name) (text : List ℕ) (home : Home) → Grows w u → StoresLive w → IsKnownHome u home → u.files ≡ tree.with_file w.files d text home → TreeLives u (tree.with_file w.files d text home)
file_live w u d text home g s known is =
    let t = tree_on w u g s in
    let n = next_name w.files home in
    let here : IsTrue (lives_as kind.File u.files n) = ap (λ (k : Tree). contains_key k.files n) is ∙ ap is_some (there_now w.files.files n []) in
    record {
      entries = changed_each (entries_live u) w.files.dirs t.entries d (joined text kind.File n) (joined_live u text kind.File n known here) (get w.files.dirs d) refl;
      dirs = changed_known u w.files.dirs d (joined text kind.File n) t.dirs (get w.files.dirs d) refl;
      files = put_known u w.files.files n [] t.files known;
      homes = counted_known u w.files.counts home t.homes known;
    }

dir_live : (w u : World) (d : Name) (text : List ℕ) (home : Home) → Grows w u → StoresLive w → IsKnownHome u home → u.files ≡ tree.with_dir w.files d text home → TreeLives u (tree.with_dir w.files d text home)
dir_live w u d text home g s known is =
    let t = tree_on w u g s in
    let n = next_name w.files home in
    let more = tree.changed (get w.files.dirs d) w.files.dirs d (joined text kind.Dir n) in
    let here : IsTrue (lives_as kind.Dir u.files n) = ap (λ (k : Tree). contains_key k.dirs n) is ∙ ap is_some (there_now more n []) in
    record {
      entries = put_each (entries_live u) more (changed_each (entries_live u) w.files.dirs t.entries d (joined text kind.Dir n) (joined_live u text kind.Dir n known here) (get w.files.dirs d) refl) n [] tt;
      dirs = put_known u more n [] (changed_known u w.files.dirs d (joined text kind.Dir n) t.dirs (get w.files.dirs d) refl) known;
      files = t.files;
      homes = counted_known u w.files.counts home t.homes known;
    }

bytes_live : (w u : World) (f : Name) (change : List ℕ → List ℕ) → Grows w u → StoresLive w → TreeLives u (record w.files { files = tree.changed (get w.files.files f) w.files.files f change })
bytes_live w u f change g s =
    let t = tree_on w u g s in
    record { entries = t.entries; dirs = t.dirs; files = changed_known u w.files.files f change t.files (get w.files.files f) refl; homes = t.homes }

removed_live : (w u : World) (d : Name) (text : List ℕ) → Grows w u → StoresLive w → TreeLives u (tree.without_entry w.files d text)
removed_live w u d text g s =
    let t = tree_on w u g s in
    record {
      entries = changed_each (entries_live u) w.files.dirs t.entries d (without text) (without_live u text) (get w.files.dirs d) refl;
      dirs = changed_known u w.files.dirs d (without text) t.dirs (get w.files.dirs d) refl;
      files = t.files;
      homes = t.homes;
    }

pipe_live : (w u : World) (home : Home) → Grows w u → StoresLive w → IsKnownHome u home → LinesLive u (queue.with_pipe w.pipes home)
pipe_live w u home g s known =
    let q = lines_on w u g s in
    let n = name_of home (count_in w.pipes.counts home) in
    record {
      messages = put_each (λ (ms : List Message). AllByRecursion (MessageLives u) ms) w.pipes.waiting q.messages n [] tt;
      pipes = put_known u w.pipes.waiting n [] q.pipes known;
      homes = counted_known u w.pipes.counts home q.homes known;
    }

module _ (code : CodeTree) (t : ℕ) (w : World) (sound : AreSoundStores w) (s : StoresLive w) where
  effect_put : (e : Effect) → Grows w (effect_of code t e w) → EffectLives (effect_of code t e w) e → StoresLive (effect_of code t e w)
  effect_put nothing g h = s
  effect_put takes_tag g h = moved_live w _ g s refl refl refl refl
  effect_put (sets_slot n at v) g h = together _ (put_slot _ w.heap n at v (heap_on w _ g s) h (get w.heap.slots n) refl) (held_on w _ g s) (tree_on w _ g s) (lines_on w _ g s)
  effect_put (adds_thing home sort xs) g h = together _ (put_thing _ w.heap _ home xs (heap_on w _ g s) h.0 h.1 refl refl) (held_on w _ g s) (tree_on w _ g s) (lines_on w _ g s)
  effect_put (adds_copy n home) g h = together _ (put_thing _ w.heap _ home (slots_at w.heap n) (heap_on w _ g s) h (all_lives_on w _ g _ (slots_live w s n)) refl refl) (held_on w _ g s) (tree_on w _ g s) (lines_on w _ g s)
  effect_put (takes_monitor n) g h = together _ (heap_on w _ g s) (put_known (effect_of code t (takes_monitor n) w) w.monitors n (once_more (get w.monitors n) t) (held_on w _ g s) h) (tree_on w _ g s) (lines_on w _ g s)
  effect_put (gives_back n) g h = together _ (heap_on w _ g s) (left_known (effect_of code t (gives_back n) w) w.monitors n t (held_on w _ g s)) (tree_on w _ g s) (lines_on w _ g s)
  effect_put (drops ns) g h = together _ (heap_on w _ g s) (dropped_known (effect_of code t (drops ns) w) w.monitors ns t (held_on w _ g s)) (tree_on w _ g s) (lines_on w _ g s)
  effect_put (adds_file d text home) g h = together _ (heap_on w _ g s) (held_on w _ g s) (file_live w _ d text home g s h refl) (lines_on w _ g s)
  effect_put (adds_dir d text home) g h = together _ (heap_on w _ g s) (held_on w _ g s) (dir_live w _ d text home g s h refl) (lines_on w _ g s)
  effect_put (removes d text) g h = together _ (heap_on w _ g s) (held_on w _ g s) (removed_live w _ d text g s) (lines_on w _ g s)
  effect_put (appends f bytes) g h = together _ (heap_on w _ g s) (held_on w _ g s) (bytes_live w _ f (tree.appended bytes) g s) (lines_on w _ g s)
  effect_put (cuts f len) g h = together _ (heap_on w _ g s) (held_on w _ g s) (bytes_live w _ f _ g s) (lines_on w _ g s)
  effect_put (adds_pipe home) g h = together _ (heap_on w _ g s) (held_on w _ g s) (tree_on w _ g s) (pipe_live w _ home g s h)
  effect_put (sends p m) g h = together _ (heap_on w _ g s) (held_on w _ g s) (tree_on w _ g s) (change_line _ w.pipes p (line.joined m) (lines_on w _ g s) (sent_live (effect_of code t (sends p m) w) m h) (get w.pipes.waiting p) refl)
  effect_put (receives p k) g h = together _ (heap_on w _ g s) (held_on w _ g s) (tree_on w _ g s) (change_line _ w.pipes p (rest_of k) (lines_on w _ g s) (rest_live (effect_of code t (receives p k) w) k) (get w.pipes.waiting p) refl)
  effect_put (adds_thread unit args caps) g h = moved_live w _ g s refl refl refl refl

  pub effect_live : (e : Effect) → EffectLives w e → StoresLive (effect_of code t e w)
  effect_live e h = let g = effect_grows code t e w sound in effect_put e g (effect_on w (effect_of code t e w) g e h)
