-- A heap's own maps against what is seen of them.
use Rattle.std.proofs.Common.{◌≡◌, ◌<◌, cond, ℕ, List, [], Option, Some, None, is_some, refl, sym, ap, ◌∙◌, Bool, true, false}
use Rattle.std.specs.Prelude.{IsTrue}
use Rattle.std.specs.Option.{option_map, unwrap_or}
use Rattle.std.specs.Map.{lookup}
use Rattle.std.specs.FinMap.{get, insert, empty, get-empty, get-insert}
use Rattle.std.specs.Ordering.{eq_by_cmp}
use Rattle.std.specs.Cmp.{Equal-is}
use Rattle.std.specs.List.{slice_set}
use Rattle.lam_value.specs.declared.names.Name.{Name}
use Rattle.lam_value.specs.declared.values.Value.{Value}
use Rattle.lam_value.specs.Names.{name_cmp}
use Rattle.lam_value.specs.Homes.{Home, Counts, name_of, count_in, counted}
use Rattle.lam_value.specs.Maps.{seen_at}
use Rattle.lam_value.proofs.Keys.{name_eq, name_total, name_exact, name_ties}
use Rattle.lam_value.proofs.CountLemmas.{counted_none, counted_next, counted_change, within_none, within_more}
use Rattle.lam_value.specs.Alike.{AreAlike, AreAlikeWhere}
use Rattle.lam_value.proofs.SameLemmas.{seen_where, where_seen, seen_same_map, same_map_alike}
use Rattle.lam_value.proofs.Maps.{get_seen, seen_same, seen_insert, insert_same}
use Rattle.labelled_heap.specs.declared.heap.Thing.{Thing}
use Rattle.labelled_heap.specs.declared.heap.Sort.{Sort}
use Rattle.labelled_heap.specs.Things.{Things, no_things, slots_at, changed_at, with_slot, with_thing, sorted_as, with_copy, IsSound}
use Rattle.labelled_heap.specs.Seen.{things_of}

is_some_map : {X Y : Type 0} (f : X → Y) (o : Option X) → is_some o ≡ is_some (option_map f o)
is_some_map f None = refl
is_some_map f (Some x) = refl

module _ (es : List (Name × Thing)) (counts : Counts) (h : Things) (seen : things_of es counts ≡ h) where
  pub get_slots : (n : Name) → option_map (λ (t : Thing). t.slots) (lookup (name_eq n) es) ≡ get h.slots n
  get_slots n = sym (get_seen name_cmp name_eq (λ (t : Thing). t.slots) name_total name_exact name_ties es n) ∙ ap (λ (t : Things). get t.slots n) seen

  pub get_sorts : (n : Name) → option_map (λ (t : Thing). t.sort) (lookup (name_eq n) es) ≡ get h.sorts n
  get_sorts n = sym (get_seen name_cmp name_eq (λ (t : Thing). t.sort) name_total name_exact name_ties es n) ∙ ap (λ (t : Things). get t.sorts n) seen

  pub lives_seen : (n : Name) → is_some (lookup (name_eq n) es) ≡ is_some (get h.slots n)
  lives_seen n = is_some_map (λ (t : Thing). t.slots) (lookup (name_eq n) es) ∙ ap is_some (get_slots n)

  -- where nothing is stored nothing is seen
  pub no_slots : (n : Name) → lookup (name_eq n) es ≡ None → get h.slots n ≡ None
  no_slots n e = sym (get_slots n) ∙ ap (option_map (λ (t : Thing). t.slots)) e

  pub no_sort : (n : Name) → lookup (name_eq n) es ≡ None → get h.sorts n ≡ None
  no_sort n e = sym (get_sorts n) ∙ ap (option_map (λ (t : Thing). t.sort)) e

  -- and of what is stored its slots and what it is
  pub the_slots : (n : Name) (t : Thing) → lookup (name_eq n) es ≡ Some t → get h.slots n ≡ Some t.slots
  the_slots n t e = sym (get_slots n) ∙ ap (option_map (λ (t : Thing). t.slots)) e

  pub the_sort : (n : Name) (t : Thing) → lookup (name_eq n) es ≡ Some t → get h.sorts n ≡ Some t.sort
  the_sort n t e = sym (get_sorts n) ∙ ap (option_map (λ (t : Thing). t.sort)) e

  pub slots_there : (n : Name) (t : Thing) → lookup (name_eq n) es ≡ Some t → t.slots ≡ slots_at h n
  slots_there n t e = sym (ap (λ o. unwrap_or o []) (the_slots n t e))

  pub none_there : (n : Name) → lookup (name_eq n) es ≡ None → [] ≡ slots_at h n
  none_there n e = sym (ap (λ o. unwrap_or o []) (no_slots n e))

  -- a heap with the same things and the same counters
  pub kept : (fs : List (Name × Thing)) (now : Counts) → ((q : Name) → lookup (name_eq q) fs ≡ lookup (name_eq q) es) → now ≡ counts → things_of fs now ≡ h
  kept fs now same same_counts =
      (λ i. record {
        slots = seen_same name_cmp name_eq (λ (t : Thing). t.slots) name_total name_exact name_ties es fs same i;
        sorts = seen_same name_cmp name_eq (λ (t : Thing). t.sort) name_total name_exact name_ties es fs same i;
        counts = same_counts i;
      })
      ∙ seen

  -- no thing of that name: nothing is written
  pub unwritten : (fs : List (Name × Thing)) (n : Name) (at : ℕ) (v : Value) → fs ≡ es → lookup (name_eq n) es ≡ None → things_of fs counts ≡ with_slot h n at v
  unwritten fs n at v e none = ap (λ l. things_of l counts) e ∙ seen ∙ sym (ap (λ o. changed_at o h n (λ xs. slice_set xs at v)) (no_slots n none))

  -- a thing whose slots were written
  pub written : (fs : List (Name × Thing)) (n : Name) (t u : Thing) (at : ℕ) (v : Value) → lookup (name_eq n) es ≡ Some t → u ≡ record t { slots = slice_set t.slots at v }
      → ((q : Name) → lookup (name_eq q) fs ≡ cond (name_eq n q) (Some u) (lookup (name_eq q) es)) → things_of fs counts ≡ with_slot h n at v
  written fs n t u at v there is put =
      (λ i. record {
        slots = (seen_insert name_cmp name_eq (λ (t : Thing). t.slots) name_total name_exact name_ties es fs n u put
            ∙ ap (λ (w : Thing). insert (seen_at name_cmp (λ (t : Thing). t.slots) es) n w.slots) is) i;
        sorts = (seen_insert name_cmp name_eq (λ (t : Thing). t.sort) name_total name_exact name_ties es fs n u put
            ∙ ap (λ (w : Thing). insert (seen_at name_cmp (λ (t : Thing). t.sort) es) n w.sort) is
            ∙ insert_same name_cmp name_total name_exact (seen_at name_cmp (λ (t : Thing). t.sort) es) n t.sort (get_seen name_cmp name_eq (λ (t : Thing). t.sort) name_total name_exact name_ties es n ∙ ap (option_map (λ (t : Thing). t.sort)) there)) i;
        counts = counts;
      })
      ∙ ap (λ (m : Things). record m { slots = insert m.slots n (slice_set t.slots at v) }) seen
      ∙ sym (ap (λ o. changed_at o h n (λ xs. slice_set xs at v)) (the_slots n t there))

  -- a thing more
  pub added : (fs : List (Name × Thing)) (now : Counts) (home : Home) (number : ℕ) (t : Thing) → number ≡ count_in counts home
      → ((q : Name) → lookup (name_eq q) fs ≡ cond (name_eq (name_of home number) q) (Some t) (lookup (name_eq q) es)) → now ≡ counted counts home → things_of fs now ≡ with_thing h home t.sort t.slots
  added fs now home number t is put more =
      (λ i. record {
        slots = (seen_insert name_cmp name_eq (λ (t : Thing). t.slots) name_total name_exact name_ties es fs (name_of home number) t put
            ∙ ap (λ k. insert (seen_at name_cmp (λ (t : Thing). t.slots) es) (name_of home k) t.slots) is) i;
        sorts = (seen_insert name_cmp name_eq (λ (t : Thing). t.sort) name_total name_exact name_ties es fs (name_of home number) t put
            ∙ ap (λ k. insert (seen_at name_cmp (λ (t : Thing). t.sort) es) (name_of home k) t.sort) is) i;
        counts = more i;
      })
      ∙ ap (λ (m : Things). with_thing m home t.sort t.slots) seen

  -- a thing more, like one that is there
  pub copy_seen : (n : Name) (t : Thing) (home : Home) → lookup (name_eq n) es ≡ Some t → with_thing h home t.sort t.slots ≡ with_copy h n home
  copy_seen n t home e = λ i. record {
    slots = insert h.slots (name_of home (count_in h.counts home)) (slots_there n t e i);
    sorts = sorted_as (sym (the_sort n t e) i) h.sorts (name_of home (count_in h.counts home));
    counts = counted h.counts home;
  }

  -- the next number of a home that is not full
  pub room_seen : (home : Home) (number : ℕ) → number ≡ count_in h.counts home → number ≡ count_in counts home
  room_seen home number is = is ∙ sym (ap (λ (m : Things). count_in m.counts home) seen)

  pub counts_seen : counts ≡ h.counts
  counts_seen = ap (λ (m : Things). m.counts) seen

-- ---- what holds of every heap
pub sound_none : IsSound no_things
sound_none = record {
  counted = counted_none (List Value) empty;
  within = within_none 1048576;
  sorted = λ n. ap is_some (get-empty name_cmp n) ∙ sym (ap is_some (get-empty name_cmp n));
}

both_there : {X Y : Type 0} (b : Bool) (x : X) (y : Y) (o : Option X) (p : Option Y) → is_some o ≡ is_some p → is_some (cond b (Some x) o) ≡ is_some (cond b (Some y) p)
both_there true x y o p e = refl
both_there false x y o p e = e

pub sound_thing : (h : Things) (home : Home) (s : Sort) (xs : List Value) → IsSound h → count_in h.counts home < 1048576 → IsSound (with_thing h home s xs)
sound_thing h home s xs sound room = record {
  counted = counted_next h.slots h.counts home xs sound.counted;
  within = within_more 1048576 h.counts home sound.within room;
  sorted = λ n.
      ap is_some (get-insert name_total h.sorts (name_of home (count_in h.counts home)) s n)
      ∙ both_there (eq_by_cmp name_cmp n (name_of home (count_in h.counts home))) s xs (get h.sorts n) (get h.slots n) (sound.sorted n)
      ∙ sym (ap is_some (get-insert name_total h.slots (name_of home (count_in h.counts home)) xs n));
}

there : (b : Bool) (xs ys : List Value) (o : Option (List Value)) → o ≡ Some ys → is_some o ≡ is_some (cond b (Some xs) o)
there true xs ys o e = ap is_some e
there false xs ys o e = refl

sound_changed : (o : Option (List Value)) (h : Things) (n : Name) (f : List Value → List Value) → get h.slots n ≡ o → IsSound h → IsSound (changed_at o h n f)
sound_changed None h n f e sound = sound
sound_changed (Some xs) h n f e sound = record {
  counted = counted_change h.slots h.counts n (f xs) sound.counted (ap is_some e);
  within = sound.within;
  sorted = λ q. sound.sorted q ∙ kept q (eq_by_cmp name_cmp q n) refl ∙ sym (ap is_some (get-insert name_total h.slots n (f xs) q));
}
  where
    kept : (q : Name) (b : Bool) → eq_by_cmp name_cmp q n ≡ b → is_some (get h.slots q) ≡ is_some (cond b (Some (f xs)) (get h.slots q))
    kept q true t = ap is_some (ap (get h.slots) (name_exact q n ((Equal-is (name_cmp q n)).0 t)) ∙ e)
    kept q false t = refl

pub sound_slot : (h : Things) (n : Name) (at : ℕ) (v : Value) → IsSound h → IsSound (with_slot h n at v)
sound_slot h n at v sound = sound_changed (get h.slots n) h n (λ xs. slice_set xs at v) refl sound

-- ---- two heaps compared
module _ (es fs : List (Name × Thing)) (counts now : Counts) (h k : Things) (one : things_of es counts ≡ h) (two : things_of fs now ≡ k) where
  each_part : AreAlikeWhere (λ _. true) (λ (t u : Thing). t ≡ u) (λ q. lookup (name_eq q) es) (λ q. lookup (name_eq q) fs) → {Y : Type 0} → (f : Thing → Y) → AreAlikeWhere (λ _. true) (λ (t u : Thing). f t ≡ f u) (λ q. lookup (name_eq q) es) (λ q. lookup (name_eq q) fs)
  each_part alike f q s = by (lookup (name_eq q) es) (lookup (name_eq q) fs) (alike q s)
    where
      by : (o p : Option Thing) → AreAlike (λ (t u : Thing). t ≡ u) o p → AreAlike (λ (t u : Thing). f t ≡ f u) o p
      by None None a = tt
      by None (Some u) a = a
      by (Some t) None a = a
      by (Some t) (Some u) a = ap f a

  pub same_heaps : counts ≡ now → AreAlikeWhere (λ _. true) (λ (t u : Thing). t ≡ u) (λ q. lookup (name_eq q) es) (λ q. lookup (name_eq q) fs) → h ≡ k
  same_heaps same alike =
      sym one
      ∙ (λ i. record {
        slots = seen_same_map name_cmp name_eq (λ (t : Thing). t.slots) name_total name_exact name_ties es fs (each_part alike (λ t. t.slots)) i;
        sorts = seen_same_map name_cmp name_eq (λ (t : Thing). t.sort) name_total name_exact name_ties es fs (each_part alike (λ t. t.sort)) i;
        counts = same i;
      })
      ∙ two

  pub heaps_same : h ≡ k → AreAlikeWhere (λ _. true) (λ (t u : Thing). t ≡ u) (λ q. lookup (name_eq q) es) (λ q. lookup (name_eq q) fs)
  heaps_same e q s =
      by (lookup (name_eq q) es) (lookup (name_eq q) fs)
      (same_map_alike name_cmp name_eq (λ (t : Thing). t.slots) name_total name_exact name_ties es fs (ap (λ (m : Things). m.slots) (one ∙ e ∙ sym two)) q s)
      (same_map_alike name_cmp name_eq (λ (t : Thing). t.sort) name_total name_exact name_ties es fs (ap (λ (m : Things). m.sorts) (one ∙ e ∙ sym two)) q s)
    where
      by : (o p : Option Thing) → AreAlike (λ (t u : Thing). t.slots ≡ u.slots) o p → AreAlike (λ (t u : Thing). t.sort ≡ u.sort) o p → AreAlike (λ (t u : Thing). t ≡ u) o p
      by None None a b = tt
      by None (Some u) a b = a
      by (Some t) None a b = a
      by (Some t) (Some u) a b = λ i. record { sort = b i; slots = a i }

  pub same_where : (shown : Name → Bool) → AreAlikeWhere shown (λ (t u : Thing). t.slots ≡ u.slots) (λ q. lookup (name_eq q) es) (λ q. lookup (name_eq q) fs) → (q : Name) → IsTrue (shown q) → get h.slots q ≡ get k.slots q
  same_where shown alike q s =
      ap (λ (m : Things). get m.slots q) (sym one)
      ∙ seen_where name_cmp name_eq (λ (t : Thing). t.slots) name_total name_exact name_ties shown es fs alike q s
      ∙ ap (λ (m : Things). get m.slots q) two

  pub where_same : (shown : Name → Bool) → ((q : Name) → IsTrue (shown q) → get h.slots q ≡ get k.slots q) → AreAlikeWhere shown (λ (t u : Thing). t.slots ≡ u.slots) (λ q. lookup (name_eq q) es) (λ q. lookup (name_eq q) fs)
  where_same shown same =
      where_seen name_cmp name_eq (λ (t : Thing). t.slots) name_total name_exact name_ties shown es fs
      (λ q s. ap (λ (m : Things). get m.slots q) one ∙ same q s ∙ ap (λ (m : Things). get m.slots q) (sym two))
