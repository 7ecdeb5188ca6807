-- Each effect that there is room for keeps the stores sound, and each ask has only such effects.
use Rattle.std.proofs.Common.{◌≡◌, ℕ, ◌+◌, ◌<◌, ◌≤◌, true, List, [], ◌∷◌, ◌++◌, Option, Some, None, length, refl, sym, subst, arith, length-append}
use Rattle.std.specs.Prelude.{IsTrue, is_some, unwrap_or, slice_set}
use Rattle.std.specs.FinMap.{get, insert, contains_key}
use Rattle.lam_value.specs.declared.names.Name.{Name}
use Rattle.lam_value.specs.declared.values.Value.{Value}
use Rattle.lam_value.specs.Homes.{Home, name_of, count_in, counted}
use Rattle.lam_machine_effects.specs.Sort.{Sort}
use Rattle.lam_machine_effects.specs.Things as heap
use Rattle.lam_machine_effects.specs.Things.{Things, most_things, sorted_as, with_copy}
use Rattle.lam_machine_effects.proofs.ThingLemmas.{sound_thing, sound_slot}
use Rattle.lam_machine_effects.specs.Held as monitors
use Rattle.lam_machine_effects.specs.Held.{Held, left, dropped}
use Rattle.lam_machine_effects.proofs.HeldLemmas.{entered_sound, left_sound}
use Rattle.labelled_files.specs.Trees as files
use Rattle.labelled_files.specs.Trees.{Tree, root_alone}
use Rattle.labelled_files.proofs.MakeLemmas.{fine, new, room, free}
use Rattle.labelled_files.proofs.SoundLemmas.{sound_file, sound_dir, sound_bytes, sound_without}
use Rattle.lam_machine_effects.specs.Queues as pipes
use Rattle.lam_machine_effects.specs.Queues.{Queues}
use Rattle.lam_machine_effects.proofs.QueueLemmas.{sound_pipe, sound_changed}
use Rattle.lam_machine_effects.specs.Ask.{Ask}
use Rattle.lam_machine_effects.specs.Ask.TheVariants as ask
use Rattle.lam_machine_effects.specs.Codes.{CodeTree}
use Rattle.lam_machine_effects.specs.Threads.{Context, Thread}
use Rattle.lam_machine_effects.specs.Next.{Next, goes, asks, stuck, next_of, started, takes}
use Rattle.lam_machine_effects.specs.Limits.{most_tags, most_threads}
use Rattle.lam_machine_effects.specs.Parts.{stores_of}
use Rattle.lam_machine_effects.specs.Room.{HasRoom}
use Rattle.lam_machine_effects.specs.Worlds.{World, with_thread}
use Rattle.lam_machine_effects.specs.Serves.{Effect, nothing, takes_tag, sets_slot, adds_thing, adds_copy, takes_monitor, gives_back, drops, adds_file, adds_dir, removes, appends, cuts, adds_pipe, sends, receives, adds_thread, effect_of, Served}
use Rattle.lam_machine_effects.specs.Serving.{served_by, publicly, serve}
use Rattle.lam_machine_effects.specs.Turns.{is_ready, Moment, goes_on, served, turn_by}
use Rattle.lam_machine_laws.proofs.ThreadLemmas.{some_inj, length-set}
use Rattle.lam_machine_laws.proofs.RoomLemmas.{room_row}
use Rattle.lam_machine_laws.proofs.TurnLemmas.{acts, only}
use Rattle.lam_machine_laws.proofs.JudgedLemmas.{judged_by}
use Rattle.lam_machine_laws.proofs.Full.{not_full}
use Rattle.lam_machine_laws.specs.Judged.{fault_by, deed_by}
use Rattle.lam_machine_laws.specs.Sound.{IsSoundWorld, FindsLiving, StaysSound}

-- ---- room for a thread

abbrev HasPlace : ℕ → Effect → Type 0
HasPlace n (adds_thread unit args caps) = n < most_threads
HasPlace n e = Unit {0}

done_place : (w : World) (c : Context) (a : Ask) → fault_by w c a ≡ None → HasPlace (length w.threads) (deed_by w c a).effect
done_place w c (ask.Spawn unit args caps) g = not_full _ _ _ g
done_place w c a g = tt

place_row : (w : World) (c : Context) (a : Ask) → HasPlace (length w.threads) (served_by w c a).effect
place_row w c a = judged_by (λ (d : Served). HasPlace (length w.threads) d.effect) w c a (λ x e. tt) (λ f e g. tt) (λ e g. done_place w c a g)

-- ---- stores

copy_by : Things → Home → Option (List Value) → Option Sort → Things
copy_by h home x y =
    record {
      slots = insert h.slots (name_of home (count_in h.counts home)) (unwrap_or x []);
      sorts = sorted_as y h.sorts (name_of home (count_in h.counts home));
      counts = counted h.counts home;
    }

sound_copy : (h : Things) (n : Name) (home : Home) → heap.IsSound h → count_in h.counts home < most_things → IsTrue (contains_key h.slots n) → heap.IsSound (with_copy h n home)
unfolding copy_by
sound_copy h n home sound room_left lives = go (get h.slots n) (get h.sorts n) lives (sound.sorted n)
  where
    go : (x : Option (List Value)) (y : Option Sort) → is_some x ≡ true → is_some y ≡ is_some x → heap.IsSound (copy_by h home x y)
    go None y l e = absurd cc
    go (Some xs) None l e = absurd cc
    go (Some xs) (Some s) l e = sound_thing h home s xs sound room_left

dropped_sound : (m : Held) (ns : List Name) (t : ℕ) → monitors.IsSound m → monitors.IsSound (dropped m ns t)
dropped_sound m [] t s = s
dropped_sound m (n ∷ ns) t s = dropped_sound (left m n t) ns t (left_sound m n t s)

with_heap : (w : World) (h : Things) → IsSoundWorld w → heap.IsSound h → IsSoundWorld (record w { heap = h })
with_heap w h s k = record { stores = record { heap = k; monitors = s.stores.monitors; files = s.stores.files; root = s.stores.root; pipes = s.stores.pipes }; tags = s.tags; threads = s.threads }

with_held : (w : World) (m : Held) → IsSoundWorld w → monitors.IsSound m → IsSoundWorld (record w { monitors = m })
with_held w m s k = record { stores = record { heap = s.stores.heap; monitors = k; files = s.stores.files; root = s.stores.root; pipes = s.stores.pipes }; tags = s.tags; threads = s.threads }

with_tree : (w : World) (t : Tree) → IsSoundWorld w → files.IsSound t → t.root ≡ root_alone.root → IsSoundWorld (record w { files = t })
with_tree w t s k r = record { stores = record { heap = s.stores.heap; monitors = s.stores.monitors; files = k; root = r; pipes = s.stores.pipes }; tags = s.tags; threads = s.threads }

with_lines : (w : World) (q : Queues) → IsSoundWorld w → pipes.IsSound q → IsSoundWorld (record w { pipes = q })
with_lines w q s k = record { stores = record { heap = s.stores.heap; monitors = s.stores.monitors; files = s.stores.files; root = s.stores.root; pipes = k }; tags = s.tags; threads = s.threads }

with_list : (w : World) (ths : List Thread) → IsSoundWorld w → length ths ≤ most_threads → IsSoundWorld (record w { threads = ths })
with_list w ths s k = record { stores = record { heap = s.stores.heap; monitors = s.stores.monitors; files = s.stores.files; root = s.stores.root; pipes = s.stores.pipes }; tags = s.tags; threads = k }

with_next : (w : World) (n : ℕ) → IsSoundWorld w → n ≤ most_tags → IsSoundWorld (record w { next_tag = n })
with_next w n s k = record { stores = record { heap = s.stores.heap; monitors = s.stores.monitors; files = s.stores.files; root = s.stores.root; pipes = s.stores.pipes }; tags = k; threads = s.threads }

one_longer : (ths : List Thread) (a : Thread) → length ths < most_threads → length (ths ++ a ∷ []) ≤ most_threads
one_longer ths a h = let e : length (ths ++ a ∷ []) ≡ length ths + 1 = length-append ths (a ∷ []) in omega arith

effect_sound : (code : CodeTree) (t : ℕ) (e : Effect) (w : World) → HasRoom t e (stores_of w) → HasPlace (length w.threads) e → IsSoundWorld w → IsSoundWorld (effect_of code t e w)
effect_sound code t nothing w h l s = s
effect_sound code t takes_tag w h l s = with_next w (w.next_tag + 1) s (omega arith)
effect_sound code t (sets_slot n at v) w h l s = with_heap w _ s (sound_slot w.heap n at v s.stores.heap)
effect_sound code t (adds_thing home sort xs) w h l s = with_heap w _ s (sound_thing w.heap home sort xs s.stores.heap h)
effect_sound code t (adds_copy n home) w h l s = with_heap w _ s (sound_copy w.heap n home s.stores.heap h.1 h.0)
effect_sound code t (takes_monitor n) w h l s = with_held w _ s (entered_sound w.monitors n t s.stores.monitors h.1)
effect_sound code t (gives_back n) w h l s = with_held w _ s (left_sound w.monitors n t s.stores.monitors)
effect_sound code t (drops ns) w h l s = with_held w _ s (dropped_sound w.monitors ns t s.stores.monitors)
effect_sound code t (adds_file d text home) w h l s =
    let f = s.stores.files in let i = count_in w.files.counts home in
    with_tree w _ s (sound_file w.files f d text home (fine w.files d text i h) (new w.files d text i h) (room w.files d text i h f) (free w.files d text i h (f.within home))) s.stores.root
effect_sound code t (adds_dir d text home) w h l s =
    let f = s.stores.files in let i = count_in w.files.counts home in
    with_tree w _ s (sound_dir w.files f d text home (fine w.files d text i h) (new w.files d text i h) (room w.files d text i h f) (free w.files d text i h (f.within home))) s.stores.root
effect_sound code t (removes d text) w h l s = with_tree w _ s (sound_without w.files s.stores.files d text) s.stores.root
effect_sound code t (appends f bytes) w h l s = with_tree w _ s (sound_bytes w.files s.stores.files f _) s.stores.root
effect_sound code t (cuts f len) w h l s = with_tree w _ s (sound_bytes w.files s.stores.files f _) s.stores.root
effect_sound code t (adds_pipe home) w h l s = with_lines w _ s (sound_pipe w.pipes home s.stores.pipes h)
effect_sound code t (sends p m) w h l s = with_lines w _ s (sound_changed (get w.pipes.waiting p) w.pipes p _ refl s.stores.pipes)
effect_sound code t (receives p k) w h l s = with_lines w _ s (sound_changed (get w.pipes.waiting p) w.pipes p _ refl s.stores.pipes)
effect_sound code t (adds_thread unit args caps) w h l s = with_list w _ s (one_longer w.threads (started code unit args caps) l)

-- ---- turns

thread_sound : (w : World) (t : ℕ) (to : Thread) → IsSoundWorld w → IsSoundWorld (with_thread w t to)
thread_sound w t to s = with_list w (slice_set w.threads t to) s (subst (λ n. n ≤ most_threads) (sym (length-set t w.threads to)) s.threads)

sound_next : (code : CodeTree) (w : World) (t : ℕ) (th : Thread) (c : Context) (rest : List Context) (nx : Next) (m : Moment) → IsSoundWorld w → turn_by code w t th c rest nx ≡ Some m → FindsLiving w m.event.what → IsSoundWorld m.world
sound_next code w t th c rest (goes i) m s h =
    subst (λ (n : Moment). FindsLiving w n.event.what → IsSoundWorld n.world) (some_inj (goes_on w t th c rest i) m h) (λ f. thread_sound w t _ s)
sound_next code w t th c rest (asks a i) m s h =
    let d = serve w c a in
    let to = takes code th c rest i a d.answer in
    let p = only (is_ready w t c a) (served code w t th c rest a i d) m h in
    let place = subst (λ n. HasPlace n d.effect) (sym (length-set t w.threads to)) (place_row w (publicly w.public c) a) in
    subst (λ (n : Moment). FindsLiving w n.event.what → IsSoundWorld n.world) p.1
    (λ f. effect_sound code t d.effect (with_thread w t to) (room_row w t c a p.0 f) place (thread_sound w t to s))
sound_next code w t th c rest stuck m s h = absurd cc

pub stay_sound : (code : CodeTree) → StaysSound code
stay_sound code w t m s h f =
    let a = acts code w t m h in
    sound_next code w t a.thread a.top a.rest (next_of code a.top) m s a.gives f
