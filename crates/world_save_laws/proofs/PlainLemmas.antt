-- Lists of plain values that hold no others are plain.
use Rattle.std.proofs.Common.{◌≡◌, ◌≤◌, suc, List, [], ◌∷◌, Some, option_map, option_and_then, refl, ap, ◌∙◌, arith}
use Rattle.std.specs.List.{Contains, All, AllByRecursion}
use Rattle.json.specs.Tree.{HasNumbers, ItemsHaveNumbers}
use Rattle.serde_json.specs.Data.{Data, array, item, depth, items_depth}
use Rattle.serde_json.specs.Read.{of_json, of_items}
use Rattle.serde_json.specs.View.{items_of as data_list}
use Rattle.serde_json.specs.Written.{outline, items_outline}
use Rattle.world_save_laws.specs.ListLaws.{IsFlatList}

-- a plain value that holds no other values but such as hold none
pub record IsFlat (d : Data) : Type 0 where
  pub reads : of_json (outline d) ≡ Some d
  pub numbers : HasNumbers (outline d)
  pub flat : depth d ≤ 1

items_read : (ds : List Data) → AllByRecursion IsFlat ds → of_items (items_outline (data_list ds)) ≡ Some (data_list ds)
items_read [] all = refl
items_read (d ∷ ds) all =
    ap (option_and_then (λ x. option_map (item x) (of_items (items_outline (data_list ds))))) (all.0).reads ∙ ap (option_map (item d)) (items_read ds all.1)

items_numbered : (ds : List Data) → AllByRecursion IsFlat ds → ItemsHaveNumbers (items_outline (data_list ds))
items_numbered [] all = tt
items_numbered (d ∷ ds) all = ((all.0).numbers, items_numbered ds all.1)

items_flat : (ds : List Data) → AllByRecursion IsFlat ds → items_depth (data_list ds) ≤ 1
items_flat [] all = omega arith
items_flat (d ∷ ds) all = let h = (all.0).flat in let k = items_flat ds all.1 in omega arith

pub flat_list : (ds : List Data) → AllByRecursion IsFlat ds → IsFlatList ds
flat_list ds all = record { plain = record { reads = ap (option_map array) (items_read ds all); numbers = items_numbered ds all }; flat = let h = items_flat ds all in omega arith }

-- ---- what holds of all elements

pub all_contained : {X : Type 0} (P : X → Type 0) (xs : List X) → ((x : X) → Contains xs x → P x) → AllByRecursion P xs
all_contained P [] h = tt
all_contained P (x ∷ xs) h = (h x (0, omega arith, refl), all_contained P xs (λ y c. h y (suc c.0, let l = c.1 in omega arith, c.2)))

pub all_listed : {X : Type 0} (P : X → Type 0) (xs : List X) → All P xs → AllByRecursion P xs
all_listed P [] h = tt
all_listed P (x ∷ xs) h = (h 0 x (omega arith), all_listed P xs (λ k d l. h (suc k) d (omega arith)))
