-- The directories on the way down from the root in a forest differ, and so are no more than there are directories.
use Rattle.std.proofs.Common.{◌≡◌, ◌≤◌, ℕ, Bool, true, false, List, [], ◌∷◌, length, refl, sym, ◌∙◌, subst, arith}
use Rattle.std.specs.Prelude.{IsTrue, ◌||◌}
use Rattle.std.specs.List.{IsDistinct, AllByRecursion, list_any}
use Rattle.std.specs.FinMap.{len, len-entries, entries, keys, contains_key-keys}
use Rattle.std.specs.Ordering.{eq_by_cmp}
use Rattle.std.specs.Cmp.{Equal-is, eq_by_cmp_equiv}
use Rattle.std.proofs.lemmas.Map.Made.{length-le_from_is_member}
use Rattle.std.proofs.lemmas.List.{length-map}
use Rattle.lam_value.specs.declared.names.Name.{Name}
use Rattle.lam_value.specs.Names.{name_cmp}
use Rattle.lam_value.proofs.Keys.{name_total, name_exact}
use Rattle.labelled_files.specs.declared.directory.EntryKind.TheVariants.{Dir}
use Rattle.labelled_files.specs.Trees.{Tree, lives_as}
use Rattle.world_forest.specs.Forest.{LeadsTo, IsForest}

abbrev eq : Name → Name → Bool
eq = eq_by_cmp name_cmp

-- an entry of a directory leads to a directory
abbrev pub Holds : Tree → Name → Name → Type 0
Holds t dir below = (text : List ℕ) × LeadsTo t dir text (record { kind = Dir; name = below })

-- what stands above a directory: that which holds it, or nothing above the root
abbrev pub StandsIn : Tree → Name → List Name → Type 0
StandsIn t d [] = d ≡ t.root
StandsIn t d (e ∷ ds) = Holds t e d

-- directories from one up to the root
abbrev pub IsChain : Tree → List Name → Type 0
IsChain t [] = Unit {0}
IsChain t (d ∷ ds) = StandsIn t d ds × IsChain t ds

same : (a b : Name) → eq a b ≡ true → a ≡ b
same a b e = name_exact a b ((Equal-is (name_cmp a b)).0 e)

apart : (a b : Name) → (a ≡ b → ⊥) → eq a b ≡ false
apart a b never = by (eq a b) refl
  where
    by : (x : Bool) → eq a b ≡ x → x ≡ false
    by true e = absurd (never (same a b e))
    by false e = refl

different : (a b : Name) → a ≡ b → eq a b ≡ false → ⊥
different a b is never = let tied : eq a b ≡ true = subst (λ c. eq a c ≡ true) is ((eq_by_cmp_equiv name_total).refl a) in let both : true ≡ false = sym tied ∙ never in cc

module _ (t : Tree) (f : IsForest t) where
  -- one that stands in a directory which is none of those above is none of these
  new : (d e : Name) → Holds t e d → (ds : List Name) → IsChain t ds → AllByRecursion (λ y. eq e y ≡ false) ds → AllByRecursion (λ y. eq d y ≡ false) ds
  new d e h [] chain others = tt
  new d e h (x ∷ []) chain others = (apart d x (λ same. f.root e h.0 (record { kind = Dir; name = d }) h.1 (same ∙ chain.0)), tt)
  new d e h (x ∷ y ∷ ds) chain others = (
    apart d x (λ is.
        let p = f.once e y h.0 (chain.0).0 (record { kind = Dir; name = d }) (record { kind = Dir; name = x }) h.1 (chain.0).1 is in
        different e y p.0 (others.1).0),
    new d e h (y ∷ ds) chain.1 others.1,
  )

  -- a directory does not hold itself, nor does one above it
  below_new : (d e : Name) (ds : List Name) → Holds t e d → IsChain t (e ∷ ds) → IsDistinct eq (e ∷ ds) → AllByRecursion (λ y. eq d y ≡ false) (e ∷ ds)
  unfolding IsDistinct
  below_new d e [] h chain distinct = (apart d e (λ is. f.root e h.0 (record { kind = Dir; name = d }) h.1 (is ∙ chain.0)), tt)
  below_new d e (y ∷ ds) h chain distinct = (
    apart d e (λ is.
        let p = f.once e y h.0 (chain.0).0 (record { kind = Dir; name = d }) (record { kind = Dir; name = e }) h.1 (chain.0).1 is in
        different e y p.0 (distinct.0).0),
    new d e h (y ∷ ds) chain.1 distinct.0,
  )

  distinct : (ds : List Name) → IsChain t ds → IsDistinct eq ds
  unfolding IsDistinct
  distinct [] chain = tt
  distinct (d ∷ []) chain = (tt, tt)
  distinct (d ∷ e ∷ ds) chain = let rest = distinct (e ∷ ds) chain.1 in (below_new d e ds chain.0 chain.1 rest, rest)

  module _ (rooted : IsTrue (lives_as Dir t t.root)) where
    here : (d : Name) (xs : List Name) → StandsIn t d xs → IsTrue (lives_as Dir t d)
    here d [] is = subst (λ n. IsTrue (lives_as Dir t n)) (sym is) rooted
    here d (x ∷ xs) h = f.lives x h.0 (record { kind = Dir; name = d }) h.1

    one_of : (q d : Name) (ds : List Name) (b : Bool) → eq q d ≡ b → (b || list_any (eq q) ds) ≡ true → IsTrue (lives_as Dir t d) → (list_any (eq q) ds ≡ true → IsTrue (lives_as Dir t q)) → IsTrue (lives_as Dir t q)
    one_of q d ds true is h lives more = subst (λ n. IsTrue (lives_as Dir t n)) (sym (same q d is)) lives
    one_of q d ds false is h lives more = more h

    alive : (ds : List Name) → IsChain t ds → (q : Name) → list_any (eq q) ds ≡ true → IsTrue (lives_as Dir t q)
    alive [] chain q e = cc
    alive (d ∷ ds) chain q e = one_of q d ds (eq q d) refl e (here d ds chain.0) (alive ds chain.1 q)

    pub few : (ds : List Name) → IsChain t ds → length ds ≤ len t.dirs
    few ds chain =
        let le : length ds ≤ length (keys t.dirs) = length-le_from_is_member (eq_by_cmp_equiv name_total) ds (keys t.dirs) (distinct ds chain) (λ q h. sym (contains_key-keys t.dirs q) ∙ alive ds chain q h) in
        let n : length (keys t.dirs) ≡ length (entries t.dirs) = simp length-map in
        let m : len t.dirs ≡ length (entries t.dirs) = len-entries t.dirs in
        omega arith
