-- Labels by number, and answers that are remembered.
--
-- In a table with room for one pair `{a}/{}` gets the number 0 and `{}/{}` the number 1. Then `flows` of 1 and 0 is
-- true and is remembered; of 0 and 1 it is false, and there is no room to remember it.
use Rattle.std.specs.Prelude.{◌≡◌, ℕ, ◌+◌, ◌<◌, ◌≤◌, Bool, false, ◌&&◌, nat_eq, nat_lt, if◌then◌else◌, is_some, List, [], ◌∷◌, ◌++◌, length, position, slice_get, Option, Some, None, refl}
use Rattle.std.specs.Coded.{Coded, code_by, coded×, coded_list, coded_ℕ, coded_bool}
use Rattle.std.specs.List.{list_any, position_or_len}
use Rattle.std.specs.Ordering.{nat_cmp, ordering_then}
use Rattle.std.specs.declared.cmp.Ordering.{Ordering}
use Rattle.std.specs.FinMap as map
use Rattle.std.specs.FinMap.{FinMap, empty, get, insert, len}
use Rattle.std.specs.HashMap.{HashMap, IsUnique, spare}
use Rattle.std.specs.HashSet.{HashSet, IsUnique as AreDistinct}
use Rattle.std.specs.Map.{lookup}
use Rattle.flow_labels.specs.declared.Label.{Label}
use Rattle.flow_labels.specs.Flow.{flows}
use Rattle.lam_value_homes.specs.Homes.{label_eq}
use Rattle.lam_value_homes.specs.Labels.{coded_label}
use Rattle.label_table.specs.declared.Pair.{Pair}

-- the pair of two numbers, in this order
abbrev pub pair_of : ℕ → ℕ → Pair
pair_of a b = record { from = a; to = b }

-- an order of pairs, for maps by pair
abbrev pub pair_cmp : Pair → Pair → Ordering
pair_cmp p q = ordering_then (nat_cmp p.from q.from) (nat_cmp p.to q.to)

-- whether two pairs have the same numbers in the same order
abbrev pub pair_eq : Pair → Pair → Bool
pair_eq p q = nat_eq p.from q.from && nat_eq p.to q.to

-- the answers that are remembered, by pair
abbrev pub Answers : Type 0
Answers = FinMap pair_cmp Bool

pub record Table : Type 0 where
  -- the labels that have a number, each at its number
  pub labels : List Label
  pub answers : Answers
  -- how many pairs may be remembered
  pub room : ℕ

abbrev pub coded_pair : Coded Pair
coded_pair = code_by (ℕ × ℕ) (coded× coded_ℕ coded_ℕ) (λ p. (p.from, p.to)) (λ q. record { from = q.0; to = q.1 }) (λ _. refl)

abbrev pub coded_table : Coded Table
coded_table =
    code_by (List Label × (Answers × ℕ)) (coded× (coded_list coded_label) (coded× (map.code coded_pair coded_bool) coded_ℕ))
    (λ t. (t.labels, (t.answers, t.room))) (λ p. record { labels = p.0; answers = p.1.0; room = p.1.1 }) (λ _. refl)

-- no label has a number, and there is no room for a pair
abbrev pub no_labels : Table
no_labels = record { labels = []; answers = empty; room = 0 }

-- ---- numbers of labels

-- the number of a label, if it has one
abbrev pub number_of : List Label → Label → Option ℕ
number_of ls l = position (label_eq l) ls

-- the number that a label gets: the one that it has, else the next
abbrev pub number_for : List Label → Label → ℕ
number_for ls l = position_or_len (label_eq l) ls

-- the labels once a label has its number
abbrev pub interned : List Label → Label → List Label
interned ls l = if list_any (label_eq l) ls then ls else ls ++ l ∷ []

-- the same table with these labels
abbrev pub with_labels : Table → List Label → Table
with_labels t ls = record { labels = ls; answers = t.answers; room = t.room }

-- ---- answers

-- whether information flows from the first label to the second, where both are there
abbrev pub flows_between : Option Label → Option Label → Bool
flows_between None y = false
flows_between (Some x) None = false
flows_between (Some x) (Some y) = flows x y

-- whether it flows from the label of the first number to that of the second
abbrev pub answer_of : List Label → Pair → Bool
answer_of ls p = flows_between (slice_get ls p.from) (slice_get ls p.to)

-- the same table with room for so many more pairs
abbrev pub with_room : Table → ℕ → Table
with_room t pairs = record { labels = t.labels; answers = t.answers; room = t.room + pairs }

-- whether there is room for one more pair
abbrev pub has_room : Table → Bool
has_room t = nat_lt (len t.answers) t.room

abbrev pub with_answer : Table → Pair → Table
with_answer t p = record { labels = t.labels; answers = insert t.answers p (answer_of t.labels p); room = t.room }

-- the table once `flows` was asked of a pair: it is remembered, unless it is already or there is no room
abbrev pub asked : Table → Pair → Table
asked t p = if is_some (get t.answers p) then t else (if has_room t then with_answer t p else t)

-- ---- what holds of every table

pub record IsSound (t : Table) : Type 0 where
  -- a label has one number
  pub one_each : (n m : ℕ) (l : Label) → slice_get t.labels n ≡ Some l → slice_get t.labels m ≡ Some l → n ≡ m
  -- what is remembered is what the labels say
  pub right : (p : Pair) (b : Bool) → get t.answers p ≡ Some b → b ≡ answer_of t.labels p
  pub within : len t.answers ≤ t.room

-- ---- how it is found in code: a set of labels and a map from pairs, both in order of insertion

-- both numbers of a pair are those of labels, and the answer is theirs
pub record IsAnswer (ls : List Label) (p : Pair) (b : Bool) : Type 0 where
  pub from : p.from < length ls
  pub to : p.to < length ls
  pub answer : b ≡ answer_of ls p

pub record IsKept {S T : Type 0} (labels : HashSet Label S) (answers : HashMap Pair Bool T) (room : ℕ) : Type 0 where
  pub distinct : AreDistinct label_eq labels
  pub unique : IsUnique pair_eq answers
  pub right : (p : Pair) (b : Bool) → lookup (pair_eq p) answers.entries ≡ Some b → IsAnswer labels.keys p b
  pub within : length answers.entries ≤ room
  -- as many pairs as there is room for take no memory
  pub spare : room ≤ length answers.entries + spare answers
