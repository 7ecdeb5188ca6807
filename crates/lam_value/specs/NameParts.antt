-- What a home and a name say. A home is a maker's label and an own label; a name is of a thing made at a home, and has its
-- number there.
use Rattle.std.specs.Prelude.{ℕ, ◌≡◌, List, ◌++◌, fold, refl}
use Rattle.std.specs.Coded.{Coded, code_by, coded×, coded_ℕ}
use Rattle.std.specs.Hash.{slice, u64}
use Rattle.std.specs.Hash.FoldHasher.{initial, write, finish}
use Rattle.lam_value_homes.specs.Tags.{tags_of}
use Rattle.lam_value_homes.specs.declared.Label.{Label}
pub use Rattle.lam_value_homes.specs.Labels.{coded_label}
pub use Rattle.lam_value_homes.specs.Homes.{Home, coded_home}

pub record NameParts : Type 0 where
  pub maker : Label
  pub own : Label
  pub n : ℕ

-- how names are stored, for what holds them
abbrev pub coded_parts : Coded NameParts
coded_parts = code_by (Label × (Label × ℕ)) (coded× coded_label (coded× coded_label coded_ℕ)) (λ n. (n.maker, (n.own, n.n))) (λ p. record { maker = p.0; own = p.1.0; n = p.1.1 }) (λ _. refl)

-- what is written of a home into a hasher: the tags of its four sets
abbrev pub home_writes : Home → List (List ℕ)
home_writes h = (slice u64 (tags_of h.maker.s) ++ slice u64 (tags_of h.maker.i)) ++ (slice u64 (tags_of h.own.s) ++ slice u64 (tags_of h.own.i))

-- the hash of some writes
unfoldable pub folded : List (List ℕ) → ℕ
folded ws = finish (fold write initial ws)

-- what a home writes where it is a key: its hash
abbrev pub home_input : Home → List (List ℕ)
home_input h = u64 (folded (home_writes h))

-- and a name: its home's, then its number
abbrev pub name_input : NameParts → List (List ℕ)
name_input m = home_input (record { maker = m.maker; own = m.own }) ++ u64 m.n

-- equal homes and numbers write the same
pub same_input : (h k : Home) (m n : ℕ) → home_writes h ≡ home_writes k → u64 m ≡ u64 n → home_input h ++ u64 m ≡ home_input k ++ u64 n
same_input h k m n e f = λ i. u64 (folded (e i)) ++ f i
