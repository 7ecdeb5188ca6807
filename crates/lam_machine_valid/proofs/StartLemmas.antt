-- Which worlds a run may start from, and that a monitor is listed in one thread alone.
use Rattle.std.proofs.Common.{◌≡◌, ℕ, zero, suc, ◌<◌, ◌≤◌, Bool, true, false, cond, List, [], ◌∷◌, Some, length, refl, sym, ap, subst, ◌∙◌, arith}
use Rattle.std.specs.Prelude.{is_some, slice_get}
use Rattle.std.specs.List.{AllByRecursion}
use Rattle.std.specs.Ordering.{eq_by_cmp}
use Rattle.std.specs.Cmp.{Equal-is}
use Rattle.std.specs.FinMap.{get, insert, empty, get-empty, get-insert}
use Rattle.lam_value.specs.declared.names.Name.{Name}
use Rattle.lam_value.specs.Names.{name_cmp}
use Rattle.lam_value.specs.Homes.{Home, home_cmp, name_of}
use Rattle.lam_value.proofs.Keys.{home_total, home_exact}
use Rattle.capabilities.specs.declared.Caps.{Caps}
use Rattle.labelled_heap.proofs.ThingLemmas as thing
use Rattle.monitor_core.specs.declared.Holder.{Holder}
use Rattle.labelled_files.specs.Entries.{Entries}
use Rattle.labelled_files.specs.Trees.{public_home}
use Rattle.labelled_files.proofs.SoundLemmas.{sound_root}
use Rattle.labelled_pipes.proofs.QueueLemmas as queue
use Rattle.lam_bytecode.specs.Codes.{CodeTree}
use Rattle.thread_steps.specs.Threads.{Thread}
use Rattle.lam_machine_laws.specs.Limits.{most_tags, most_threads}
use Rattle.lam_machine_laws.specs.Worlds.{World, thread_at}
use Rattle.lam_machine_laws.specs.Valid.{IsKnown, AreKnown, AreKnownNames, AreKnownHomes, EntryLives, all_listings, AreSoundStores, StoresLive, IsValidThread, IsValid}
use Rattle.lam_machine_laws.proofs.ThreadLemmas.{some_inj}
use Rattle.lam_machine_valid.proofs.TagLemmas.{public_known}
use Rattle.lam_machine_valid.specs.Steps.{MonitorsExclude, IsStart, bare, StartsAreValid}
use Rattle.lam_machine_valid.proofs.HoldLemmas.{hold, holds_all, the_holder}
use Rattle.lam_machine_valid.proofs.StoreLemmas.{Each, put_each, put_known}
use Rattle.lam_machine_valid.proofs.WholeLemmas.{started_valid}

-- ---- one holder

listed_holder : (w : World) → IsValid w → (t : ℕ) (a : Thread) → thread_at w t ≡ Some a → (n : Name) → 0 < all_listings n a.contexts → (count : ℕ) × (get w.monitors n ≡ Some (record { thread = t; count = count }))
listed_holder w v t a e n l =
    let h = v.threads t a e in
    let held = holds_all w t a.contexts h.contexts h.counts n in
    let some : 0 < hold w.monitors t n = omega arith in
    the_holder w t (get w.monitors n) some

pub exclude : MonitorsExclude
exclude w v t u a b e f n l k =
    let x = listed_holder w v t a e n l in
    let y = listed_holder w v u b f n k in
    ap (λ (h : Holder). h.thread) (some_inj (record { thread = t; count = x.0 }) (record { thread = u; count = y.0 }) (sym x.1 ∙ y.1))

-- ---- starts

start_valid : (code : CodeTree) (w : World) (ths : List Thread) → AllByRecursion (IsStart code w) ths → (t k : ℕ) (th : Thread) → slice_get ths k ≡ Some th → IsValidThread w t th
start_valid code w [] h t k th e = absurd cc
start_valid code w (x ∷ ths) h t zero th e =
    let s = h.0 in
    subst (IsValidThread w t) (sym s.it ∙ some_inj x th e) (started_valid w t code s.unit s.args s.caps s.lives s.known)
start_valid code w (x ∷ ths) h t (suc k) th e = start_valid code w ths h.1 t k th e

started_world : (code : CodeTree) (w : World) → AreSoundStores w → StoresLive w → AreKnown w w.public → w.next_tag ≤ most_tags → length w.threads ≤ most_threads → AllByRecursion (IsStart code w) w.threads → IsValid w
started_world code w s l public tags number all =
    record { sound = s; live = l; public = public; threads = λ t th e. start_valid code w w.threads all t t th e; tags = tags; number = number }

-- ---- nothing but an empty directory

no_each : {X : Type 0} (P : X → Type 0) → Each P (empty {X = X} {R = name_cmp})
no_each P n x e = let none = sym (get-empty name_cmp n) ∙ e in cc

no_names : (X : Type 0) (w : World) → AreKnownNames w (empty {X = X} {R = name_cmp})
no_names X w n lives = let none : false ≡ true = sym (ap is_some (get-empty name_cmp n)) ∙ lives in cc

no_homes : (w : World) → AreKnownHomes w empty
no_homes w h lives = let none : false ≡ true = sym (ap is_some (get-empty home_cmp h)) ∙ lives in cc

one_home : (w : World) → AreKnownHomes w (insert empty public_home 1)
one_home w h lives = by (eq_by_cmp home_cmp h public_home) refl (sym (ap is_some (get-insert home_total empty public_home 1 h)) ∙ lives)
  where
    by : (b : Bool) → eq_by_cmp home_cmp h public_home ≡ b → is_some {T = ℕ} (cond b (Some 1) (get (empty {X = ℕ} {R = home_cmp}) h)) ≡ true → IsKnown w h.maker × IsKnown w h.own
    by true e l = subst (λ (k : Home). IsKnown w k.maker × IsKnown w k.own) (sym (home_exact h public_home ((Equal-is (home_cmp h public_home)).0 e))) (public_known w, public_known w)
    by false e l = no_homes w h l

bare_sound : (names : List (List ℕ)) (public : Caps) (n : ℕ) (ths : List Thread) → AreSoundStores (bare names public n ths)
bare_sound names public n ths =
    record { heap = thing.sound_none; monitors = λ r h e. (let none = sym (get-empty name_cmp r) ∙ e in cc); files = sound_root; root = refl; pipes = queue.sound_none }

bare_lives : (names : List (List ℕ)) (public : Caps) (n : ℕ) (ths : List Thread) → StoresLive (bare names public n ths)
bare_lives names public n ths =
    let w = bare names public n ths in
    let root = name_of public_home 0 in
    record {
      slots = no_each _;
      entries = put_each (λ (es : Entries). AllByRecursion (EntryLives w) es) empty (no_each (λ (es : Entries). AllByRecursion (EntryLives w) es)) root [] tt;
      messages = no_each _;
      things = no_names _ w;
      held = no_names _ w;
      dirs = put_known w empty root [] (no_names Entries w) (public_known w, public_known w);
      files = no_names _ w;
      pipes = no_names _ w;
      heap_homes = no_homes w;
      file_homes = one_home w;
      pipe_homes = no_homes w;
    }

pub valid_starts : (code : CodeTree) → StartsAreValid code
valid_starts code =
    record {
      all = started_world code;
      nothing_else = λ names public n ths known tags number all. started_world code (bare names public n ths) (bare_sound names public n ths) (bare_lives names public n ths) known tags number all;
    }
