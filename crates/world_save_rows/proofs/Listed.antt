-- The lists that are made home by home.
use Rattle.std.proofs.Common.{◌≡◌, ◌≤◌, ◌<◌, ◌+◌, ℕ, List, [], ◌∷◌, ◌++◌, map, length, take, get_or, refl, sym, ap, ◌∙◌}
use Rattle.std.specs.Borrow.{Bor}
use Rattle.std.proofs.lemmas.List.{take_more, take_all, map-append}
use Rattle.flow_labels.specs.TwoLists.{Text}
use Rattle.lam_value.specs.Label.{Label}
use Rattle.lam_value_homes.specs.Homes.{listed_home}
use Rattle.world_save_terms.specs.Rows as terms
use Rattle.world_save_rows.specs.declared.home_list.HomeCount.{HomeCount}
use Rattle.world_save_rows.specs.declared.order.Row.{Row}
use Rattle.world_save_rows.specs.Seen.{home_seen, row_seen}

-- ---- homes

-- what a list in code has of each home: its maker's label, its own label, its counter
abbrev Entry : Type 0
Entry = Bor Label × Bor Label × ℕ

pub one_home_more : (i : ℕ) (listed : List Entry) (e : Entry) → i < length listed → e ≡ get_or listed i e → (old new : List HomeCount) (h : HomeCount) → new ≡ old ++ h ∷ [] → home_seen h ≡ listed_home e →
    map home_seen old ≡ map listed_home (take i listed) → map home_seen new ≡ map listed_home (take (i + 1) listed)
one_home_more i listed e less is old new h more same so_far =
    ap (map home_seen) more ∙ map-append home_seen old (h ∷ []) ∙ (λ j. so_far j ++ same j ∷ []) ∙ sym (map-append listed_home (take i listed) (e ∷ []))
    ∙ ap (map listed_home) (sym (take_more listed i e less ∙ ap (λ k. take i listed ++ k ∷ []) (sym is)))

pub all_homes : (i : ℕ) (listed : List Entry) → length listed ≤ i → (hs : List HomeCount) → map home_seen hs ≡ map listed_home (take i listed) → map home_seen hs ≡ map listed_home listed
all_homes i listed past hs e = e ∙ ap (map listed_home) (take_all i listed past)

-- ---- rows

module _ (names : List Text) (homes : List HomeCount) where
  abbrev rows_of : List HomeCount → List terms.Row
  rows_of hs = map (terms.row_of names) (map home_seen hs)

  rows_append : (xs : List HomeCount) (h : HomeCount) → rows_of (xs ++ h ∷ []) ≡ rows_of xs ++ terms.row_of names (home_seen h) ∷ []
  rows_append [] h = refl
  rows_append (x ∷ xs) h = ap (λ rs. terms.row_of names (home_seen x) ∷ rs) (rows_append xs h)

  pub one_row_more : (i : ℕ) (h : HomeCount) → i < length homes → h ≡ get_or homes i h → (old new : List Row) (r : Row) → new ≡ old ++ r ∷ [] → row_seen r ≡ terms.row_of names (home_seen h) →
      map row_seen old ≡ rows_of (take i homes) → map row_seen new ≡ rows_of (take (i + 1) homes)
  one_row_more i h less is old new r more e so_far =
      ap (map row_seen) more ∙ map-append row_seen old (r ∷ []) ∙ (λ j. so_far j ++ e j ∷ []) ∙ sym (rows_append (take i homes) h)
      ∙ ap rows_of (sym (take_more homes i h less ∙ ap (λ k. take i homes ++ k ∷ []) (sym is)))

  pub all_rows : (i : ℕ) → length homes ≤ i → (rows : List Row) → map row_seen rows ≡ rows_of (take i homes) → map row_seen rows ≡ rows_of homes
  all_rows i past rows e = e ∙ ap rows_of (take_all i homes past)
