-- The rows of counters say the counters of all homes, each home once.
use Rattle.std.proofs.Common.{◌≡◌, ◌≤◌, ◌<◌, ℕ, zero, suc, Bool, true, false, cond, List, [], ◌∷◌, map, length, set, get_or, Option, Some, None, Ok, option_map, option_and_then, is_some, refl, sym, ap, subst, ◌∙◌, arith, lt-ltb, le-leb}
use Rattle.std.specs.Prelude.{IsTrue, not, ◌&&◌, nat_le, nat_lt, codes}
use Rattle.std.specs.Option.{option_or, unwrap_or}
use Rattle.std.specs.List.{AllByRecursion, IsDistinct, swap}
use Rattle.std.specs.List.Sorted.{IsPermutation}
use Rattle.std.specs.Map.{lookup, keys_of}
use Rattle.std.specs.FinMap.{find, get, insert, empty, get-empty, get-insert, get-from_entries, same_map}
use Rattle.std.specs.Ordering.{eq_by_cmp}
use Rattle.std.specs.Cmp.{Equal-is, eq_by_cmp_equiv}
use Rattle.std.proofs.lemmas.List.Sorted.{IsPermutation-refl, IsPermutation-map, IsPermutation-keeps, IsPermutation-trans, IsPermutation-sym, All-permutation, Contains-permutation}
use Rattle.std.proofs.lemmas.Map.Keys.{IsDistinct-IsPermutation}
use Rattle.std.proofs.lemmas.Map.Views.{Contains-from_lookup, lookup-from_Contains}
use Rattle.std.proofs.lemmas.List.{map-set, length-map}
use Rattle.std.proofs.lemmas.Option.{slice_get-get_or}
use Rattle.json.specs.Json as json
use Rattle.json.proofs.Printed.Decimals.{IsNumber-decimal}
use Rattle.serde_json.specs.Data.{Num, number, string, object, unsigned, Members, no_members, member, put}
use Rattle.serde_json.specs.Find.{as_str}
use Rattle.serde_json.specs.Read.{of_members}
use Rattle.serde_json.specs.View.{items_of as data_list}
use Rattle.serde_json.proofs.Numbers.{number_of-decimal}
use Rattle.flow_labels.specs.Names.{AreNames}
use Rattle.flow_labels.specs.TwoLists.{Text}
use Rattle.flow_labels.specs.declared.Label.{Label}
use Rattle.flow_labels.specs.LabelText.{label_of, label_text}
use Rattle.flow_labels.proofs.SpelledLemmas.{texts_are_read}
use Rattle.lam_value.specs.Homes.{Home, Counts, home_cmp, count_in}
use Rattle.lam_value.proofs.CountLemmas.{count_insert}
use Rattle.lam_value_homes.proofs.Keys.{home_total, home_exact, home_ties}
use Rattle.lam_value_homes.proofs.Listings.{listed_at}
use Rattle.labelled_files.specs.Trees.{public_home}
use Rattle.world_doc_terms.specs.Breaks.{Reading, ◌>>=◌, only_if, formed, member_as}
use Rattle.world_doc_terms.specs.Tags.{label_or, label_as}
use Rattle.world_doc_terms.specs.Numbered.{next_in, with_root}
use Rattle.world_doc_terms.specs.SavedItems.{counted_items, counts_of, SaysCount, SayAll}
use Rattle.world_save_terms.specs.Rows.{Row, row_of, AreRows}
use Rattle.world_save_terms.specs.Document.{row_data}
use Rattle.world_save_laws.specs.ListLaws.{IsFlatList, IsNamed, AreCountable, AreSaid, CountersAreSaid}
use Rattle.world_save_laws.proofs.PlainLemmas.{IsFlat, flat_list, all_listed}

-- ---- labels

-- the text of a label whose tags are named is read as the label
pub label_read : (names : List Text) → AreNames names → (l : Label) → IsNamed names l → (name : Text) (ms : Members) → member_as name as_str ms ≡ Ok (label_text names l) → label_as name names ms ≡ Ok l
label_read names are l named name ms e =
    ap (λ (r : Reading Text). r >>= λ text. label_or name text (label_of names text)) e ∙ ap (label_or name (label_text names l)) (texts_are_read names l are named.0 named.1)

-- ---- the homes of rows

abbrev same : Home → Home → Bool
same = eq_by_cmp home_cmp

same_is : (h k : Home) → same h k ≡ true → h ≡ k
same_is h k e = home_exact h k ((Equal-is (home_cmp h k)).0 e)

module _ {X Y : Type 0} (f : X → Y) where
  get_map : (xs : List X) (i : ℕ) (d : X) → f (get_or xs i d) ≡ get_or (map f xs) i (f d)
  get_map [] i d = refl
  get_map (y ∷ xs) zero d = refl
  get_map (y ∷ xs) (suc i) d = get_map xs i d

  swap_map : (xs : List X) (i j : ℕ) → map f (swap xs i j) ≡ swap (map f xs) i j
  swap_map [] i j = refl
  swap_map (d ∷ xs) i j =
      map-set f (set (d ∷ xs) i (get_or (d ∷ xs) j d)) j (get_or (d ∷ xs) i d)
      ∙ (λ k. set (map-set f (d ∷ xs) i (get_or (d ∷ xs) j d) k) j (get_map (d ∷ xs) i d k))
      ∙ (λ k. set (set (map f (d ∷ xs)) i (get_map (d ∷ xs) j d k)) j (get_or (map f (d ∷ xs)) i (f d)))

  -- a list in another order, each of whose elements is one of those
  record Sources (xs : List X) (ys : List Y) : Type 0 where
    sources : List X
    same_ones : IsPermutation xs sources
    are : ys ≡ map f sources

  sources_of : (xs : List X) (ys : List Y) → IsPermutation (map f xs) ys → Sources xs ys
  sources_of xs ys p = IsPermutation-keeps (map f xs) (Sources xs) (record { sources = xs; same_ones = IsPermutation-refl xs; are = refl }) step ys p
    where
      step : (l : List Y) (i j : ℕ) → i < length l → j < length l → Sources xs l → Sources xs (swap l i j)
      step l i j a b s =
          let n = ap length s.are ∙ length-map s.sources f in
          record {
            sources = swap s.sources i j;
            same_ones = IsPermutation-trans xs s.sources (swap s.sources i j) s.same_ones (record { moves = (i, j) ∷ []; below = (omega arith, omega arith, tt); is = refl });
            are = ap (λ (m : List Y). swap m i j) s.are ∙ sym (swap_map s.sources i j);
          }

-- ---- counters that are made one after another

found : (q : Home) (es : List (Home × ℕ)) → lookup (same q) es ≡ find home_cmp q es
found q [] = refl
found q (e ∷ es) = ap (cond (same q e.0) (Some e.1)) (found q es)

none_of : (q : Home) (es : List (Home × ℕ)) → AllByRecursion (λ h. same q h ≡ false) (keys_of es) → find home_cmp q es ≡ None
none_of q [] all = refl
none_of q (e ∷ es) all = ap (λ b. cond b (Some e.1) (find home_cmp q es)) all.0 ∙ none_of q es all.1

-- none of the homes is counted yet
abbrev AreNew : Counts → List Home → Type 0
AreNew counts hs = AllByRecursion (λ h. count_in counts h ≡ 0) hs

new_still : (counts : Counts) (k : Home) (n : ℕ) (hs : List Home) → AreNew counts hs → AllByRecursion (λ h. same k h ≡ false) hs → AreNew (insert counts k n) hs
new_still counts k n [] new apart = tt
new_still counts k n (h ∷ hs) new apart = (
  count_insert counts k n h ∙ ap (λ b. cond b n (count_in counts h)) ((eq_by_cmp_equiv home_total).symm h k ∙ apart.0) ∙ new.0,
  new_still counts k n hs new.1 apart.1,
)

record AreMade (counts : Counts) (es : List (Home × ℕ)) : Type 0 where
  now : Counts
  are : counted_items counts es ≡ Ok now
  each : (q : Home) → get now q ≡ option_or (find home_cmp q es) (get counts q)

all_made : (counts : Counts) (es : List (Home × ℕ)) → AreNew counts (keys_of es) → IsDistinct same (keys_of es) → AreMade counts es
unfolding IsDistinct
all_made counts [] new distinct = record { now = counts; are = refl; each = λ q. refl }
all_made counts (e ∷ es) new distinct =
    let m = all_made (insert counts e.0 e.1) es (new_still counts e.0 e.1 (keys_of es) new.1 distinct.0) distinct.1 in
    record {
      now = m.now;
      are = ap (λ n. formed (codes "counts") (only_if (not (nat_lt 0 n)) e.0) >>= λ home. counted_items (insert counts home e.1) es) new.0 ∙ m.are;
      each = λ q. m.each q ∙ ap (option_or (find home_cmp q es)) (get-insert home_total counts e.0 e.1 q) ∙ by q (same q e.0) refl;
    }
  where
    by : (q : Home) (b : Bool) → same q e.0 ≡ b → option_or (find home_cmp q es) (cond b (Some e.1) (get counts q)) ≡ option_or (cond b (Some e.1) (find home_cmp q es)) (get counts q)
    by q true is = ap (λ o. option_or o (Some e.1)) (none_of q es (subst (λ h. AllByRecursion (λ k. same h k ≡ false) (keys_of es)) (sym (same_is q e.0 is)) distinct.0))
    by q false is = refl

-- ---- the same homes in another order

other_order : (homes es : List (Home × ℕ)) → IsPermutation homes es → IsDistinct same (keys_of homes) → IsDistinct same (keys_of es) → (q : Home) → find home_cmp q es ≡ find home_cmp q homes
other_order homes es p d e q = by (find home_cmp q homes) refl (find home_cmp q es) refl
  where
    there : (xs ys : List (Home × ℕ)) → IsPermutation xs ys → IsDistinct same (keys_of ys) → (v : ℕ) → find home_cmp q xs ≡ Some v → find home_cmp q ys ≡ Some v
    there xs ys r distinct v is = sym (found q ys) ∙ lookup-from_Contains (eq_by_cmp_equiv home_total) q v ys distinct (Contains-permutation xs ys (q, v) r (Contains-from_lookup same_is q v xs (found q xs ∙ is)))

    by : (a : Option ℕ) → find home_cmp q homes ≡ a → (b : Option ℕ) → find home_cmp q es ≡ b → b ≡ a
    by (Some v) f b g = sym g ∙ there homes es p e v f
    by None f None g = refl
    by None f (Some v) g = sym (there es homes (IsPermutation-sym homes es p) d v g) ∙ f

-- ---- what the rows say

module _ (names : List Text) (counts : Counts) (rows : List Row) (are : AreNames names) (can : AreCountable names counts) (r : AreRows names counts rows) where
  source : Sources (row_of names) r.homes rows
  source = sources_of (row_of names) r.homes rows r.same

  abbrev homes : List (Home × ℕ)
  homes = source.sources

  abbrev Counted : Home × ℕ → Type 0
  Counted e = get counts e.0 ≡ Some e.1

  all_counted : AllByRecursion Counted homes
  all_counted = all_listed Counted homes (All-permutation Counted r.homes homes source.same_ones (λ k d l. listed_at r.homes counts r.listed k (get_or r.homes k d).0 (get_or r.homes k d).1 (slice_get-get_or r.homes k d l)))

  distinct_first : IsDistinct same (keys_of r.homes)
  distinct_first = subst (λ (e : Home → Home → Bool). IsDistinct e (keys_of r.homes)) (λ i a b. home_ties a b i) (r.listed).once

  distinct : IsDistinct same (keys_of homes)
  distinct = IsDistinct-IsPermutation same (eq_by_cmp_equiv home_total).symm (keys_of r.homes) (keys_of homes) (IsPermutation-map (λ (e : Home × ℕ). e.0) r.homes homes source.same_ones) distinct_first

  none_counted : (hs : List Home) → AreNew empty hs
  none_counted [] = tt
  none_counted (h ∷ hs) = (ap (λ o. unwrap_or o 0) (get-empty home_cmp h), none_counted hs)

  made : AreMade empty homes
  made = all_made empty homes (none_counted (keys_of homes)) distinct

  all_there : made.now ≡ counts
  all_there =
      same_map home_total home_exact made.now counts
      (λ q. made.each q
      ∙ ap (option_or (find home_cmp q homes)) (get-empty home_cmp q)
      ∙ or_none (find home_cmp q homes)
      ∙ other_order r.homes homes source.same_ones distinct_first distinct q
      ∙ sym (get-from_entries home_total r.homes q) ∙ ap (λ m. get m q) (r.listed).each)
    where
      or_none : (o : Option ℕ) → option_or o None ≡ o
      or_none None = refl
      or_none (Some n) = refl

  rooted : with_root counts ≡ Ok counts
  rooted = let l = can.root in ap (λ b. formed (codes "counts") (only_if b counts)) (lt-ltb 0 (count_in counts public_home) l)

  counted_homes : counts_of homes ≡ Ok counts
  counted_homes = ap (λ (r : Reading Counts). r >>= with_root) (made.are ∙ ap Ok all_there) ∙ rooted

  -- ---- each row

  record IsInRange (e : Home × ℕ) : Type 0 where
    positive : 1 ≤ e.1
    few : e.1 ≤ 65536
    maker : IsNamed names e.0.maker
    own : IsNamed names e.0.own

  in_range : (e : Home × ℕ) → Counted e → IsInRange e
  in_range e is =
      let key : IsTrue (is_some (get counts e.0)) = ap is_some is in
      let positive = can.above e.0 e.1 is in
      let few = can.within e.0 in
      let n : count_in counts e.0 ≡ e.1 = ap (λ o. unwrap_or o 0) is in
      let named = can.named e.0 key in
      record { positive = positive; few = omega arith; maker = named.0; own = named.1 }

  number_read : (e : Home × ℕ) → IsInRange e → (maker own : Text) → next_in (member (codes "maker") (string maker) (member (codes "next") (number (unsigned e.1)) (member (codes "own") (string own) no_members))) ≡ Ok e.1
  number_read e h maker own =
      ap (λ b. formed (codes "next") (only_if (b && nat_le e.1 65536) e.1)) (le-leb 1 e.1 h.positive) ∙ ap (λ b. formed (codes "next") (only_if b e.1)) (le-leb e.1 65536 h.few)

  row_said : (e : Home × ℕ) → Counted e → SaysCount names (member (codes "maker") (string (label_text names e.0.maker)) (member (codes "next") (number (unsigned e.1)) (member (codes "own") (string (label_text names e.0.own)) no_members))) e
  row_said e is =
      let h = in_range e is in
      let ms = member (codes "maker") (string (label_text names e.0.maker)) (member (codes "next") (number (unsigned e.1)) (member (codes "own") (string (label_text names e.0.own)) no_members)) in
      record {
        maker = label_read names are e.0.maker h.maker (codes "maker") ms refl;
        own = label_read names are e.0.own h.own (codes "own") ms refl;
        number = number_read e h (label_text names e.0.maker) (label_text names e.0.own);
      }

  all_said : (es : List (Home × ℕ)) → AllByRecursion Counted es → SayAll (SaysCount names) (data_list (map row_data (map (row_of names) es))) es
  all_said [] all = tt
  all_said (e ∷ es) all = ((_, refl, row_said e all.0), all_said es all.1)

  row_flat : (maker own : Text) (n : ℕ) → n ≤ 65536 → IsFlat (row_data (record { maker = maker; own = own; next = n }))
  row_flat maker own n few =
      record {
        reads =
            ap (λ (o : Option Num). option_map object (option_and_then (λ d. of_members (json.member (codes "own") (json.string own) json.no_members) (put (codes "next") d (put (codes "maker") (string maker) no_members))) (option_map number o)))
            (number_of-decimal n (omega arith));
        numbers = (tt, (IsNumber-decimal n (omega arith), (tt, tt)));
        flat = omega arith;
      }

  all_flat : (es : List (Home × ℕ)) → AllByRecursion Counted es → AllByRecursion IsFlat (map row_data (map (row_of names) es))
  all_flat [] all = tt
  all_flat (e ∷ es) all = (row_flat (label_text names e.0.maker) (label_text names e.0.own) e.1 (in_range e all.0).few, all_flat es all.1)

  said : AreSaid names counts rows
  said =
      record {
        homes = homes;
        say = subst (λ (rs : List Row). SayAll (SaysCount names) (data_list (map row_data rs)) homes) (sym source.are) (all_said homes all_counted);
        made = counted_homes;
        flat = subst (λ (rs : List Row). IsFlatList (map row_data rs)) (sym source.are) (flat_list (map row_data (map (row_of names) homes)) (all_flat homes all_counted));
      }

pub counters_said : CountersAreSaid
counters_said names counts rows are can r = said names counts rows are can r
