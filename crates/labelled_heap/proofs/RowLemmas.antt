-- The rows of a heap against the list of all its things, and what each call makes of them.
use Rattle.std.proofs.Common.{◌≡◌, ◌<◌, ◌≤◌, get_or, ◌+◌, ◌++◌, cond, ℕ, zero, suc, List, [], ◌∷◌, length, Option, Some, None, is_some, refl, sym, ap, subst, ◌∙◌, arith, Bool, true, false, slice_get, length-append}
use Rattle.std.specs.Prelude.{◌&&◌, IsTrue, nat_eq, unwrap_or, slice_set, option_and_then}
use Rattle.std.specs.Option.{option_map, option_or}
use Rattle.std.specs.HashMap.{HashMap, IsUnique}
use Rattle.std.specs.List.{IsDistinct, AllByRecursion}
use Rattle.std.specs.Map.{lookup, keys_of}
use Rattle.std.specs.Ordering.{eq_by_cmp}
use Rattle.std.specs.Cmp.{eq_by_cmp_equiv}
use Rattle.std.proofs.lemmas.Bool.Decides.{nat_tests}
use Rattle.lam_value.specs.declared.names.Name.{Name}
use Rattle.lam_value.specs.declared.values.Value.{Value}
use Rattle.lam_value.specs.Homes.{Home, Counts, home_of, home_cmp, home_eq, label_eq, name_of, count_in, counted}
use Rattle.lam_value.specs.Alike.{AreAlike, AreAlikeWhere}
use Rattle.lam_value.proofs.Keys.{name_eq, home_total, home_exact, home_ties}
use Rattle.lam_value.proofs.CountLemmas.{count_insert}
use Rattle.lam_value.proofs.Rows.{is_same, or_none, lookup-append}
use Rattle.labelled_heap.specs.declared.heap.Thing.{Thing}
use Rattle.labelled_heap.specs.declared.heap.Row.{Row}
use Rattle.labelled_heap.specs.Things.{Things, slots_at, with_slot, with_thing, IsSound}
use Rattle.labelled_heap.specs.Seen.{items_of, named_from, things_in, row_at, thing_at, slots_in, written_in, things_of, AreRows, AreSound}
use Rattle.labelled_heap.proofs.ThingLemmas.{get_slots, kept, unwritten, written, added, sound_slot, sound_thing}

home_same : (h k : Home) → home_eq h k ≡ true → h ≡ k
home_same = is_same home_eq home_total home_exact home_ties

-- ---- one law: a name is found among all things exactly where its number is found in its home's row

-- what stands at a number in a list whose first item has another number
abbrev at_from : ℕ → List Thing → ℕ → Option Thing
at_from k [] m = None
at_from k (t ∷ ts) m = cond (nat_eq m k) (Some t) (at_from (k + 1) ts m)

at_place : (k : ℕ) (ts : List Thing) (j m : ℕ) → m ≡ k + j → at_from k ts m ≡ slice_get ts j
at_place k [] j m e = refl
at_place k (t ∷ ts) zero m e = let here : nat_eq m k ≡ true = grind (arith, nat_tests, e) in ap (λ b. cond b (Some t) (at_from (k + 1) ts m)) here
at_place k (t ∷ ts) (suc j) m e = let later : nat_eq m k ≡ false = grind (arith, nat_tests, e) in ap (λ b. cond b (Some t) (at_from (k + 1) ts m)) later ∙ at_place (k + 1) ts j m (omega arith)

parted : (a b c : Bool) (t : Thing) (o : Option Thing) → cond (a && (b && c)) (Some t) (cond (a && b) o None) ≡ cond (a && b) (cond c (Some t) o) None
parted true true c t o = refl
parted true false c t o = refl
parted false b c t o = refl

in_home : (h : Home) (k : ℕ) (ts : List Thing) (n : Name) → lookup (name_eq n) (named_from h k ts) ≡ cond (home_eq (home_of n.maker n.own) h) (at_from k ts n.n) None
in_home h k [] n = elim (home_eq (home_of n.maker n.own) h) as (λ b. ◌≡◌ {A = Option Thing} None (cond b None None)) [ true ↦ refl | false ↦ refl ]
in_home h k (t ∷ ts) n =
    ap (cond (name_eq n (name_of h k)) (Some t)) (in_home h (k + 1) ts n)
    ∙ parted (label_eq n.maker h.maker) (label_eq n.own h.own) (nat_eq n.n k) t (at_from (k + 1) ts n.n)

absent : (h : Home) (rows : List (Home × Row)) → AllByRecursion (λ k. home_eq h k ≡ false) (keys_of rows) → lookup (home_eq h) rows ≡ None
absent h [] none = refl
absent h (row ∷ rows) none = (λ i. cond (none.0 i) (Some row.1) (lookup (home_eq h) rows)) ∙ absent h rows none.1

pub found : (rows : List (Home × Row)) → IsDistinct home_eq (keys_of rows) → (n : Name) → lookup (name_eq n) (things_in rows) ≡ thing_at rows n
unfolding IsDistinct
found [] distinct n = refl
found (row ∷ rows) distinct n =
    lookup-append (name_eq n) (named_from row.0 0 row.1.things.items) (things_in rows)
    ∙ (λ i. option_or ((in_home row.0 0 row.1.things.items n ∙ ap (λ o. cond (home_eq (home_of n.maker n.own) row.0) o None) (at_place 0 row.1.things.items n.n n.n (omega arith))) i) (found rows distinct.1 n i))
    ∙ elim (home_eq (home_of n.maker n.own) row.0) as (λ b. home_eq (home_of n.maker n.own) row.0 ≡ b → option_or (cond b (slice_get row.1.things.items n.n) None) (thing_at rows n) ≡ slice_get (items_of (cond b (Some row.1) (lookup (home_eq (home_of n.maker n.own)) rows))) n.n) [
      | true ↦ λ e.
          let none : lookup (home_eq (home_of n.maker n.own)) rows ≡ None = ap (λ k. lookup (home_eq k) rows) (home_same (home_of n.maker n.own) row.0 e) ∙ absent row.0 rows distinct.0 in
          ap (λ o. option_or (slice_get row.1.things.items n.n) (slice_get (items_of o) n.n)) none ∙ or_none _
      | false ↦ λ e. refl
    ] refl

-- ---- a place of a list
not_first : (m : ℕ) → nat_eq 0 (suc m) ≡ false
not_first m = grind (arith, nat_tests)

not_last : (k : ℕ) → nat_eq (suc k) 0 ≡ false
not_last k = grind (arith, nat_tests)

next_number : (k m : ℕ) → nat_eq (suc k) (suc m) ≡ nat_eq k m
next_number k m = by (nat_eq k m) refl
  where
    by : (b : Bool) → nat_eq k m ≡ b → nat_eq (suc k) (suc m) ≡ b
    by true e = grind (arith, nat_tests, e)
    by false e = grind (arith, nat_tests, e)

some_more : (ts : List Thing) (t : Thing) → 0 < length (ts ++ t ∷ [])
some_more ts t = let a = length-append ts (t ∷ []) in omega arith

at_last : (ts : List Thing) (t : Thing) (m : ℕ) → slice_get (ts ++ t ∷ []) m ≡ cond (nat_eq (length ts) m) (Some t) (slice_get ts m)
at_last [] t zero = refl
at_last [] t (suc m) = ap (λ b. cond b (Some t) None) (sym (not_first m))
at_last (x ∷ ts) t zero = ap (λ b. cond b (Some t) (Some x)) (sym (not_last (length ts)))
at_last (x ∷ ts) t (suc m) = at_last ts t m ∙ ap (λ b. cond b (Some t) (slice_get ts m)) (sym (next_number (length ts) m))

at_written : (ts : List Thing) (i at : ℕ) (v : Value) (t : Thing) → slice_get ts i ≡ Some t → (m : ℕ) → slice_get (written_in ts i at v) m ≡ cond (nat_eq i m) (Some (record t { slots = slice_set t.slots at v })) (slice_get ts m)
at_written [] i at v t e m = let no : false ≡ true = ap is_some e in cc
at_written (x ∷ ts) zero at v t e zero = let same : x ≡ t = cc in ap (λ (y : Thing). Some (record y { slots = slice_set y.slots at v })) same
at_written (x ∷ ts) zero at v t e (suc m) = ap (λ b. cond b (Some (record t { slots = slice_set t.slots at v })) (slice_get ts m)) (sym (not_first m))
at_written (x ∷ ts) (suc i) at v t e zero = ap (λ b. cond b (Some (record t { slots = slice_set t.slots at v })) (Some x)) (sym (not_last i))
at_written (x ∷ ts) (suc i) at v t e (suc m) = at_written ts i at v t e m ∙ ap (λ b. cond b (Some (record t { slots = slice_set t.slots at v })) (slice_get ts m)) (sym (next_number i m))

pub not_written : (ts : List Thing) (i at : ℕ) (v : Value) → slice_get ts i ≡ None → written_in ts i at v ≡ ts
not_written [] i at v e = refl
not_written (x ∷ ts) zero at v e = let no : false ≡ true = sym (ap is_some e) in cc
not_written (x ∷ ts) (suc i) at v e = ap (λ ys. x ∷ ys) (not_written ts i at v e)

pub set_written : (ts : List Thing) (i at : ℕ) (v : Value) (t : Thing) → slice_get ts i ≡ Some t → slice_set ts i (record t { slots = slice_set t.slots at v }) ≡ written_in ts i at v
set_written [] i at v t e = refl
set_written (x ∷ ts) zero at v t e = let same : x ≡ t = cc in ap (λ (y : Thing). record y { slots = slice_set y.slots at v } ∷ ts) (sym same)
set_written (x ∷ ts) (suc i) at v t e = ap (λ ys. x ∷ ys) (set_written ts i at v t e)

length_written : (ts : List Thing) (i at : ℕ) (v : Value) → length (written_in ts i at v) ≡ length ts
length_written [] i at v = refl
length_written (x ∷ ts) zero at v = refl
length_written (x ∷ ts) (suc i) at v = ap suc (length_written ts i at v)

-- what a look-up at a number gives
pub at_read : (ts : List Thing) (i : ℕ) (t : Thing) → i < length ts → t ≡ get_or ts i t → slice_get ts i ≡ Some t
at_read [] i t less e = absurd (omega arith)
at_read (x ∷ ts) zero t less e = ap Some (sym e)
at_read (x ∷ ts) (suc i) t less e = at_read ts i t (omega arith) e

pub at_past : (ts : List Thing) (i : ℕ) → length ts ≤ i → slice_get ts i ≡ None
at_past [] i le = refl
at_past (x ∷ ts) zero le = absurd (omega arith)
at_past (x ∷ ts) (suc i) le = at_past ts i (omega arith)

-- ---- a row put in
put : (b : Bool) (row : Row) (o : Option Row) → items_of (cond b (Some row) o) ≡ cond b row.things.items (items_of o)
put true row o = refl
put false row o = refl

pub row_put : (old new : List (Home × Row)) (k : Home) (row : Row) → ((q : Home) → lookup (home_eq q) new ≡ cond (home_eq k q) (Some row) (lookup (home_eq q) old)) → (q : Home) → row_at new q ≡ cond (home_eq k q) row.things.items (row_at old q)
row_put old new k row outer q = ap items_of (outer q) ∙ put (home_eq k q) row (lookup (home_eq q) old)

-- and one that has the same things
pub row_kept : (old new : List (Home × Row)) (k : Home) (row : Row) → ((q : Home) → lookup (home_eq q) new ≡ cond (home_eq k q) (Some row) (lookup (home_eq q) old)) → row.things.items ≡ row_at old k → (q : Home) → row_at new q ≡ row_at old q
row_kept old new k row outer same q = row_put old new k row outer q ∙ by (home_eq k q) refl
  where
    by : (b : Bool) → home_eq k q ≡ b → cond b row.things.items (row_at old q) ≡ row_at old q
    by true e = same ∙ ap (row_at old) (home_same k q e)
    by false e = refl

pub there : (rows : List (Home × Row)) (h : Home) (row : Row) → lookup (home_eq h) rows ≡ Some row → row_at rows h ≡ row.things.items
there rows h row e = ap items_of e

missing : (rows : List (Home × Row)) (h : Home) → lookup (home_eq h) rows ≡ None → row_at rows h ≡ []
missing rows h e = ap items_of e

module _ {S : Type 0} (old new : HashMap Home Row S) (rows : AreRows old) where
  pub rows_put : (k : Home) (row : Row) → IsUnique home_eq new → ((q : Home) → lookup (home_eq q) new.entries ≡ cond (home_eq k q) (Some row) (lookup (home_eq q) old.entries)) → 0 < length row.things.items → AreRows new
  rows_put k row unique outer some = record { unique = unique; filled = λ h r e. by h r (home_eq k h) (sym (outer h) ∙ e) }
    where
      by : (h : Home) (r : Row) (b : Bool) → cond b (Some row) (lookup (home_eq h) old.entries) ≡ Some r → 0 < length r.things.items
      by h r true e = let same : row ≡ r = cc in subst (λ (x : Row). 0 < length x.things.items) same some
      by h r false e = rows.filled h r e

  -- a row whose thing at a number was written
  pub rows_set : (k : Home) (row wrote : Row) (number at : ℕ) (v : Value) → IsUnique home_eq new → ((q : Home) → lookup (home_eq q) new.entries ≡ cond (home_eq k q) (Some wrote) (lookup (home_eq q) old.entries))
      → lookup (home_eq k) old.entries ≡ Some row → wrote.things.items ≡ written_in row.things.items number at v → AreRows new
  rows_set k row wrote number at v unique outer was is =
      let some = rows.filled k row was in
      let same : length wrote.things.items ≡ length row.things.items = ap length is ∙ length_written row.things.items number at v in
      rows_put k wrote unique outer (omega arith)

  -- a row with a thing more at its end, or with the same things
  pub rows_more : (k : Home) (row more : Row) (t : Thing) → IsUnique home_eq new → ((q : Home) → lookup (home_eq q) new.entries ≡ cond (home_eq k q) (Some more) (lookup (home_eq q) old.entries))
      → more.things.items ≡ row.things.items ++ t ∷ [] → AreRows new
  rows_more k row more t unique outer is = rows_put k more unique outer (subst (λ (ts : List Thing). 0 < length ts) (sym is) (some_more row.things.items t))

  pub rows_kept : (k : Home) (row again : Row) → IsUnique home_eq new → ((q : Home) → lookup (home_eq q) new.entries ≡ cond (home_eq k q) (Some again) (lookup (home_eq q) old.entries))
      → lookup (home_eq k) old.entries ≡ Some row → again.things.items ≡ row.things.items → AreRows new
  rows_kept k row again unique outer was is = rows_put k again unique outer (subst (λ (ts : List Thing). 0 < length ts) (sym is) (rows.filled k row was))

-- a row whose thing at a number was written, put back
pub row_set : (old new : List (Home × Row)) (k home : Home) (row wrote : Row) (number n at : ℕ) (v : Value) → k ≡ home → number ≡ n → lookup (home_eq k) old ≡ Some row → wrote.things.items ≡ written_in row.things.items number at v
    → ((q : Home) → lookup (home_eq q) new ≡ cond (home_eq k q) (Some wrote) (lookup (home_eq q) old)) → (q : Home) → row_at new q ≡ cond (home_eq home q) (written_in (row_at old home) n at v) (row_at old q)
row_set old new k home row wrote number n at v same numbered was is outer q =
    row_put old new k wrote outer q
    ∙ ap (λ ts. cond (home_eq k q) ts (row_at old q)) (is ∙ ap (λ ts. written_in ts number at v) (sym (there old k row was)))
    ∙ (λ i. cond (home_eq (same i) q) (written_in (row_at old (same i)) (numbered i) at v) (row_at old q))

-- a row with a thing more at its end, put back
pub row_more : (old new : List (Home × Row)) (k home : Home) (row more : Row) (t : Thing) → k ≡ home → lookup (home_eq k) old ≡ Some row → more.things.items ≡ row.things.items ++ t ∷ []
    → ((q : Home) → lookup (home_eq q) new ≡ cond (home_eq k q) (Some more) (lookup (home_eq q) old)) → (q : Home) → row_at new q ≡ cond (home_eq home q) (row_at old home ++ t ∷ []) (row_at old q)
row_more old new k home row more t same was is outer q =
    row_put old new k more outer q
    ∙ ap (λ ts. cond (home_eq k q) ts (row_at old q)) (is ∙ ap (λ ts. ts ++ t ∷ []) (sym (there old k row was)))
    ∙ (λ i. cond (home_eq (same i) q) (row_at old (same i) ++ t ∷ []) (row_at old q))

-- and the first thing of a home that had none
pub row_first : (old was new : List (Home × Row)) (k l home : Home) (t : Thing) → k ≡ home → l ≡ home → was ≡ old → lookup (home_eq k) old ≡ None
    → ((q : Home) → row_at new q ≡ cond (home_eq l q) (t ∷ []) (row_at was q)) → (q : Home) → row_at new q ≡ cond (home_eq home q) (row_at old home ++ t ∷ []) (row_at old q)
row_first old was new k l home t same other kept none put q =
    put q
    ∙ (λ i. cond (home_eq (other i) q) (t ∷ []) (row_at (kept i) q))
    ∙ ap (λ ts. cond (home_eq home q) (ts ++ t ∷ []) (row_at old q)) (sym (missing old k none) ∙ ap (row_at old) same)

-- what is kept of a row when a map of rows is copied
pub row_seen : (rows : List (Home × Row)) (h : Home) → row_at rows h ≡ unwrap_or (option_and_then (λ (row : Row). Some row.things.items) (lookup (home_eq h) rows)) []
row_seen rows h = by (lookup (home_eq h) rows)
  where
    by : (o : Option Row) → items_of o ≡ unwrap_or (option_and_then (λ (r : Row). Some r.things.items) o) []
    by None = refl
    by (Some r) = refl

-- ---- one row changed at one number, as a change of the things by name
both : (a b c : Bool) (t : Thing) (o : Option Thing) → cond (a && b) (cond c (Some t) o) o ≡ cond (a && (b && c)) (Some t) o
both true true c t o = refl
both true false c t o = refl
both false b c t o = refl

module _ (old new : List (Home × Row)) (home : Home) (number : ℕ) (t : Thing) (ts : List Thing)
    (changed : (m : ℕ) → slice_get ts m ≡ cond (nat_eq number m) (Some t) (slice_get (row_at old home) m)) (set : (k : Home) → row_at new k ≡ cond (home_eq home k) ts (row_at old k)) where
  thing_put : (q : Name) → thing_at new q ≡ cond (name_eq (name_of home number) q) (Some t) (thing_at old q)
  thing_put q =
      ap (λ l. slice_get l q.n) (set (home_of q.maker q.own))
      ∙ by (home_eq home (home_of q.maker q.own)) refl
      ∙ both (label_eq home.maker q.maker) (label_eq home.own q.own) (nat_eq number q.n) t (thing_at old q)
    where
      by : (b : Bool) → home_eq home (home_of q.maker q.own) ≡ b → slice_get (cond b ts (row_at old (home_of q.maker q.own))) q.n ≡ cond b (cond (nat_eq number q.n) (Some t) (thing_at old q)) (thing_at old q)
      by true e = changed q.n ∙ ap (λ h. cond (nat_eq number q.n) (Some t) (slice_get (row_at old h) q.n)) (home_same home (home_of q.maker q.own) e)
      by false e = refl

-- ---- what a heap is seen as
module _ (rows : List (Home × Row)) (counts : Counts) (h : Things) (unique : IsDistinct home_eq (keys_of rows)) (seen : things_of (things_in rows) counts ≡ h) where
  -- the slots of the thing at a number of a home's row
  pub row_slots : (k : Home) (row : Row) (number : ℕ) (n : Name) → k ≡ home_of n.maker n.own → number ≡ n.n → lookup (home_eq k) rows ≡ Some row → slots_in row.things.items number ≡ slots_at h n
  row_slots k row number n same numbered was =
      ap (λ ts. slots_in ts number) (sym (there rows k row was))
      ∙ (λ i. slots_in (row_at rows (same i)) (numbered i))
      ∙ ap (λ o. unwrap_or (option_map (λ (t : Thing). t.slots) o) []) (sym (found rows unique n))
      ∙ ap (λ o. unwrap_or o []) (get_slots (things_in rows) counts h seen n)

  -- and none where the home has no row
  pub no_row : (k : Home) (n : Name) → k ≡ home_of n.maker n.own → lookup (home_eq k) rows ≡ None → lookup (name_eq n) (things_in rows) ≡ None
  no_row k n same none = found rows unique n ∙ ap (λ q. slice_get (row_at rows q) n.n) (sym same) ∙ ap (λ ts. slice_get ts n.n) (missing rows k none)

-- ---- what a heap is seen as after its calls
module _ {S : Type 0} (old new : HashMap Home Row S) (counts : Counts) (h : Things) (sound : AreSound old counts) (seen : things_of (things_in old.entries) counts ≡ h) where
  by_name : ((k : Home) → row_at new.entries k ≡ row_at old.entries k) → IsUnique home_eq new → (q : Name) → lookup (name_eq q) (things_in new.entries) ≡ lookup (name_eq q) (things_in old.entries)
  by_name same unique q = found new.entries unique q ∙ ap (λ l. slice_get l q.n) (same (home_of q.maker q.own)) ∙ sym (found old.entries sound.kept.unique q)

  named : (home : Home) (number : ℕ) (t : Thing) → ((q : Name) → thing_at new.entries q ≡ cond (name_eq (name_of home number) q) (Some t) (thing_at old.entries q)) → IsUnique home_eq new
      → (q : Name) → lookup (name_eq q) (things_in new.entries) ≡ cond (name_eq (name_of home number) q) (Some t) (lookup (name_eq q) (things_in old.entries))
  named home number t is unique q = found new.entries unique q ∙ is q ∙ ap (cond (name_eq (name_of home number) q) (Some t)) (sym (found old.entries sound.kept.unique q))

  -- the same things
  pub kept_rows : (now : Counts) → AreRows new → ((k : Home) → row_at new.entries k ≡ row_at old.entries k) → now ≡ counts → things_of (things_in new.entries) now ≡ h
  kept_rows now rows same same_counts = kept (things_in old.entries) counts h seen (things_in new.entries) now (by_name same rows.unique) same_counts

  pub kept_sound : (now : Counts) → AreRows new → ((k : Home) → row_at new.entries k ≡ row_at old.entries k) → now ≡ counts → AreSound new now
  kept_sound now rows same same_counts = record {
    kept = rows;
    in_step = λ k. ap length (same k) ∙ sound.in_step k ∙ ap (λ m. count_in m k) (sym same_counts);
    sound = subst IsSound (seen ∙ sym (kept_rows now rows same same_counts)) sound.sound;
  }

  -- a thing more
  module _ (now : Counts) (home : Home) (number : ℕ) (t : Thing) (rows : AreRows new) (is : number ≡ count_in h.counts home) (more : now ≡ counted counts home)
      (set : (k : Home) → row_at new.entries k ≡ cond (home_eq home k) (row_at old.entries home ++ t ∷ []) (row_at old.entries k)) where
    next : number ≡ count_in counts home
    next = is ∙ sym (ap (λ (m : Things). count_in m.counts home) seen)

    last : (m : ℕ) → slice_get (row_at old.entries home ++ t ∷ []) m ≡ cond (nat_eq number m) (Some t) (slice_get (row_at old.entries home) m)
    last m = at_last (row_at old.entries home) t m ∙ ap (λ k. cond (nat_eq k m) (Some t) (slice_get (row_at old.entries home) m)) (sound.in_step home ∙ sym next)

    pub added_rows : things_of (things_in new.entries) now ≡ with_thing h home t.sort t.slots
    added_rows = added (things_in old.entries) counts h seen (things_in new.entries) now home number t next (named home number t (thing_put old.entries new.entries home number t (row_at old.entries home ++ t ∷ []) last set) rows.unique) more

    in_step : (k : Home) → length (row_at new.entries k) ≡ count_in now k
    in_step k = ap length (set k) ∙ by (home_eq home k) refl ∙ sym (count_insert counts home (count_in counts home + 1) k) ∙ ap (λ m. count_in m k) (sym more)
      where
        turned : home_eq home k ≡ eq_by_cmp home_cmp k home
        turned = home_ties home k ∙ (eq_by_cmp_equiv home_total).symm home k

        by : (b : Bool) → home_eq home k ≡ b → length (cond b (row_at old.entries home ++ t ∷ []) (row_at old.entries k)) ≡ cond (eq_by_cmp home_cmp k home) (count_in counts home + 1) (count_in counts k)
        by true e = length-append (row_at old.entries home) (t ∷ []) ∙ ap (λ n. n + 1) (sound.in_step home) ∙ ap (λ b. cond b (count_in counts home + 1) (count_in counts k)) (sym e ∙ turned)
        by false e = sound.in_step k ∙ ap (λ b. cond b (count_in counts home + 1) (count_in counts k)) (sym e ∙ turned)

    pub added_sound : count_in h.counts home < 1048576 → AreSound new now
    added_sound room = record {
      kept = rows;
      in_step = in_step;
      sound = subst IsSound (sym added_rows) (sound_thing h home t.sort t.slots (subst IsSound seen sound.sound) room);
    }

  -- a slot written
  module _ (n : Name) (at : ℕ) (v : Value) (rows : AreRows new)
      (set : (k : Home) → row_at new.entries k ≡ cond (home_eq (home_of n.maker n.own) k) (written_in (row_at old.entries (home_of n.maker n.own)) n.n at v) (row_at old.entries k)) where
    same_length : (k : Home) → length (row_at new.entries k) ≡ length (row_at old.entries k)
    same_length k = ap length (set k) ∙ by (home_eq (home_of n.maker n.own) k) refl
      where
        by : (b : Bool) → home_eq (home_of n.maker n.own) k ≡ b → length (cond b (written_in (row_at old.entries (home_of n.maker n.own)) n.n at v) (row_at old.entries k)) ≡ length (row_at old.entries k)
        by true e = length_written (row_at old.entries (home_of n.maker n.own)) n.n at v ∙ ap (λ l. length (row_at old.entries l)) (home_same (home_of n.maker n.own) k e)
        by false e = refl

    pub slot_rows : things_of (things_in new.entries) counts ≡ with_slot h n at v
    slot_rows = by (thing_at old.entries n) refl
      where
        by : (o : Option Thing) → thing_at old.entries n ≡ o → things_of (things_in new.entries) counts ≡ with_slot h n at v
        by None e =
            kept_rows counts rows (λ k. set k ∙ whole k (home_eq (home_of n.maker n.own) k) refl) refl
            ∙ sym seen ∙ unwritten (things_in old.entries) counts h seen (things_in old.entries) n at v refl (found old.entries sound.kept.unique n ∙ e)
          where
            whole : (k : Home) (b : Bool) → home_eq (home_of n.maker n.own) k ≡ b → cond b (written_in (row_at old.entries (home_of n.maker n.own)) n.n at v) (row_at old.entries k) ≡ row_at old.entries k
            whole k true is = not_written (row_at old.entries (home_of n.maker n.own)) n.n at v e ∙ ap (row_at old.entries) (home_same (home_of n.maker n.own) k is)
            whole k false is = refl
        by (Some t) e =
            let u = record t { slots = slice_set t.slots at v } in
            written (things_in old.entries) counts h seen (things_in new.entries) n t u at v (found old.entries sound.kept.unique n ∙ e) refl
            (named (home_of n.maker n.own) n.n u
            (thing_put old.entries new.entries (home_of n.maker n.own) n.n u (written_in (row_at old.entries (home_of n.maker n.own)) n.n at v) (at_written (row_at old.entries (home_of n.maker n.own)) n.n at v t e) set) rows.unique)

    pub slot_sound : AreSound new counts
    slot_sound = record {
      kept = rows;
      in_step = λ k. same_length k ∙ sound.in_step k;
      sound = subst IsSound (sym slot_rows) (sound_slot h n at v (subst IsSound seen sound.sound));
    }

-- ---- two heaps compared
module _ (P : Thing → Thing → Type 0) where
  abbrev pub SameRow : Row → Row → Type 0
  SameRow r s = (n : ℕ) → AreAlike P (slice_get r.things.items n) (slice_get s.things.items n)

  rows_at : (o p : Option Row) → AreAlike SameRow o p → (n : ℕ) → AreAlike P (slice_get (items_of o) n) (slice_get (items_of p) n)
  rows_at None None a n = tt
  rows_at None (Some s) a n = absurd a
  rows_at (Some r) None a n = absurd a
  rows_at (Some r) (Some s) a n = a n

  -- whose rows are alike, their things are
  pub things_alike : (shown : Home → Bool) (a b : List (Home × Row)) → IsDistinct home_eq (keys_of a) → IsDistinct home_eq (keys_of b) → AreAlikeWhere shown SameRow (λ q. lookup (home_eq q) a) (λ q. lookup (home_eq q) b)
      → AreAlikeWhere (λ (n : Name). shown (home_of n.maker n.own)) P (λ q. lookup (name_eq q) (things_in a)) (λ q. lookup (name_eq q) (things_in b))
  things_alike shown a b one two alike n s =
      subst (λ o. AreAlike P o (lookup (name_eq n) (things_in b))) (sym (found a one n))
      (subst (AreAlike P (thing_at a n)) (sym (found b two n))
      (rows_at (lookup (home_eq (home_of n.maker n.own)) a) (lookup (home_eq (home_of n.maker n.own)) b) (alike (home_of n.maker n.own) s) n.n))

  none_first : (ts : List Thing) → 0 < length ts → AreAlike P None (slice_get ts 0) → ⊥
  none_first [] some a = absurd (omega arith)
  none_first (t ∷ ts) some a = a

  first_none : (ts : List Thing) → 0 < length ts → AreAlike P (slice_get ts 0) None → ⊥
  first_none [] some a = absurd (omega arith)
  first_none (t ∷ ts) some a = a

  -- and whose things are alike, their rows are, for no row is empty
  module _ {S : Type 0} (shown : Home → Bool) (a b : HashMap Home Row S) (one : AreRows a) (two : AreRows b)
      (alike : AreAlikeWhere (λ (n : Name). shown (home_of n.maker n.own)) P (λ q. lookup (name_eq q) (things_in a.entries)) (λ q. lookup (name_eq q) (things_in b.entries))) where
    at_names : (n : Name) → IsTrue (shown (home_of n.maker n.own)) → AreAlike P (thing_at a.entries n) (thing_at b.entries n)
    at_names n s =
        subst (λ o. AreAlike P o (thing_at b.entries n)) (found a.entries one.unique n)
        (subst (AreAlike P (lookup (name_eq n) (things_in a.entries))) (found b.entries two.unique n) (alike n s))

    pub rows_alike : AreAlikeWhere shown SameRow (λ q. lookup (home_eq q) a.entries) (λ q. lookup (home_eq q) b.entries)
    rows_alike h s = by (lookup (home_eq h) a.entries) (lookup (home_eq h) b.entries) refl refl
      where
        at : (o p : Option Row) → lookup (home_eq h) a.entries ≡ o → lookup (home_eq h) b.entries ≡ p → (n : ℕ) → AreAlike P (slice_get (items_of o) n) (slice_get (items_of p) n)
        at o p e f n =
            subst (λ x. AreAlike P (slice_get (items_of x) n) (slice_get (items_of p) n)) e
            (subst (λ y. AreAlike P (thing_at a.entries (name_of h n)) (slice_get (items_of y) n)) f (at_names (name_of h n) s))

        by : (o p : Option Row) → lookup (home_eq h) a.entries ≡ o → lookup (home_eq h) b.entries ≡ p → AreAlike SameRow o p
        by None None e f = tt
        by None (Some r) e f = none_first r.things.items (two.filled h r f) (at None (Some r) e f 0)
        by (Some r) None e f = first_none r.things.items (one.filled h r e) (at (Some r) None e f 0)
        by (Some r) (Some r') e f = at (Some r) (Some r') e f

-- ---- two lists compared, place by place
module _ {X : Type 0} (P : X → X → Type 0) where
  pub same_length_from : (xs ys : List X) → ((n : ℕ) → AreAlike P (slice_get xs n) (slice_get ys n)) → length xs ≡ length ys
  same_length_from [] [] all = refl
  same_length_from [] (y ∷ ys) all = absurd (all 0)
  same_length_from (x ∷ xs) [] all = absurd (all 0)
  same_length_from (x ∷ xs) (y ∷ ys) all = ap suc (same_length_from xs ys (λ n. all (suc n)))
