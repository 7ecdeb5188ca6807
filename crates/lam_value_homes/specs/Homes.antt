-- A home is a pair of a maker's label and an own label, and things are numbered home by home.
use Rattle.std.specs.Prelude.{ℕ, false, refl, ◌+◌, ◌++◌, ◌&&◌, ◌≡◌, ◌<◌, ◌≤◌, Bool, cond, IsTrue, nat_eq, nat_lt, List, [], ◌∷◌, map, Option, unwrap_or, option_and_then, Some, length}
use Rattle.std.specs.Borrow.{Bor}
use Rattle.std.specs.Coded.{Coded, code_by, coded×, coded_ℕ}
use Rattle.std.specs.Ordering.{ordering_then}
use Rattle.std.specs.declared.cmp.Ordering.{Ordering}
use Rattle.std.specs.Cmp.Lexicographic.{pointwise}
use Rattle.std.specs.FinMap.{FinMap, empty, get, insert, from_entries, code}
use Rattle.std.specs.HashMap.{HashMap, IsUnique}
use Rattle.std.specs.List.{IsDistinct}
use Rattle.std.specs.Map.{lookup, keys_of}
use Rattle.flow_labels.specs.Tags.{tags_of}
use Rattle.flow_labels.specs.declared.Label.{Label}
use Rattle.flow_labels.specs.Flow.{flows}
use Rattle.lam_value_homes.specs.Labels.{label_cmp, coded_label}

pub record Home : Type 0 where
  pub maker : Label
  pub own : Label

-- how homes are stored, for what holds them
abbrev pub coded_home : Coded Home
coded_home = code_by (Label × Label) (coded× coded_label coded_label) (λ h. (h.maker, h.own)) (λ p. record { maker = p.0; own = p.1 }) (λ _. refl)

abbrev pub home_of : Label → Label → Home
home_of p l = record { maker = p; own = l }

-- the maker's label, then the own label
abbrev pub home_cmp : Home → Home → Ordering
home_cmp a b = ordering_then (label_cmp a.maker b.maker) (label_cmp a.own b.own)

-- how many things each home has made
abbrev pub Counts : Type 0
Counts = FinMap home_cmp ℕ

abbrev pub coded_counts : Coded Counts
coded_counts = code coded_home coded_ℕ

-- the number of the next thing of a home: 0 where none was made
abbrev pub count_in : Counts → Home → ℕ
count_in m h = unwrap_or (get m h) 0

-- one more thing of a home, and as many of each other home
abbrev pub counted : Counts → Home → Counts
counted m h = insert m h (count_in m h + 1)

-- so many things of a home at least, and as many as before of each other home
abbrev pub raised : Counts → Home → ℕ → Counts
raised m h n = cond (nat_lt (count_in m h) n) (insert m h n) m

-- no home has made more than a home may make
abbrev pub AreWithin : ℕ → Counts → Type 0
AreWithin limit m = (h : Home) → count_in m h ≤ limit

-- a home that is counted has made something
abbrev pub IsAboveZero : Counts → Type 0
IsAboveZero m = (h : Home) (n : ℕ) → get m h ≡ Some n → 0 < n

-- two have equal counters at the homes whose maker is seen
abbrev pub AreSeenAlike : Label → Counts → Counts → Type 0
AreSeenAlike o m k = (h : Home) → IsTrue (flows h.maker o) → get m h ≡ get k h

-- whether two labels have the same tags, and two homes the same labels
abbrev pub label_eq : Label → Label → Bool
label_eq a b = pointwise nat_eq (tags_of a.s) (tags_of b.s) && pointwise nat_eq (tags_of a.i) (tags_of b.i)

abbrev pub home_eq : Home → Home → Bool
home_eq a b = label_eq a.maker b.maker && label_eq a.own b.own

-- the list has each home that is counted with its number, each once, and no other home
pub record IsListing (hs : List (Home × ℕ)) (m : Counts) : Type 0 where
  pub each : from_entries hs ≡ m
  pub once : IsDistinct home_eq (keys_of hs)

-- two homes of which one was counted after the other, listed the other way round
two_homes : (h k : Home) → home_eq h k ≡ false → IsListing ((h, 3) ∷ (k, 1) ∷ []) (insert (insert empty k 1) h 3)
unfolding IsDistinct
two_homes h k apart = record { each = refl; once = ((apart, tt), (tt, tt)) }

-- ---- how homes are found in code: a map from makers to maps from own labels to numbers

-- all homes of all makers, each with its number
abbrev pub homes_in : {S : Type 0} → List (Label × HashMap Label ℕ S) → List (Home × ℕ)
homes_in [] = []
homes_in (row ∷ rows) = map (λ (e : Label × ℕ). (home_of row.0 e.0, e.1)) row.1.entries ++ homes_in rows

-- the homes of one maker, each with its number
abbrev pub homes_of : Label → List (Label × ℕ) → List (Home × ℕ)
homes_of m es = map (λ (e : Label × ℕ). (home_of m e.0, e.1)) es

-- a home with its counter, as a list in code has it: the maker's label, the own label, the counter
abbrev pub listed_home : Bor Label × Bor Label × ℕ → Home × ℕ
listed_home e = (home_of e.0.now e.1.now, e.2)

-- the number of a home, if there is one: that of the own label in the maker's map
abbrev pub home_in : {S : Type 0} → List (Label × HashMap Label ℕ S) → Home → Option ℕ
home_in rows h = option_and_then (λ row. lookup (label_eq h.own) row.entries) (lookup (label_eq h.maker) rows)

-- each maker stands once, and each own label once with its maker; each maker has a number at least, and no number is 0
pub record AreHomes {S T : Type 0} (rows : HashMap Label (HashMap Label ℕ S) T) : Type 0 where
  pub unique : IsUnique label_eq rows
  pub once : (m : Label) (row : HashMap Label ℕ S) → lookup (label_eq m) rows.entries ≡ Some row → IsUnique label_eq row
  pub filled : (m : Label) (row : HashMap Label ℕ S) → lookup (label_eq m) rows.entries ≡ Some row → 0 < length row.entries
  pub above : (h : Home) (n : ℕ) → home_in rows.entries h ≡ Some n → 0 < n
