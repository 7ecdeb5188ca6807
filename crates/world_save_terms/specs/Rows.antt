-- The counters of a saved world: a row for each home that has made a file or directory, in the byte order of the labels'
-- texts.
--
-- The home of the maker `{a}/{}` and the own label `{a}/{}` stands before that of the maker `{}/{}`, since `a` is before
-- `}` among bytes.
use Rattle.std.specs.Prelude.{◌≡◌, ℕ, List, map, IsPermutation, IsSorted, codes, refl}
use Rattle.std.specs.Ordering.{nat_cmp, ordering_then}
use Rattle.std.specs.declared.cmp.Ordering.{Ordering}
use Rattle.std.specs.declared.cmp.Ordering.TheVariants.{Less}
use Rattle.std.specs.Cmp.Lexicographic.{slice_cmp}
use Rattle.flow_labels.specs.TwoLists.{Text}
use Rattle.flow_labels.specs.LabelText.{label_text}
use Rattle.labelled_files.specs.Homes.{Home, Counts, IsListing}

-- a home by the texts of its labels, and its counter
pub record Row : Type 0 where
  pub maker : Text
  pub own : Text
  pub next : ℕ

-- the maker's text, then the own text, each byte by byte; the counter tells apart rows with equal texts, which no two homes have
-- whose labels' tags all have names
abbrev pub row_cmp : Row → Row → Ordering
row_cmp a b = ordering_then (slice_cmp nat_cmp a.maker b.maker) (ordering_then (slice_cmp nat_cmp a.own b.own) (nat_cmp a.next b.next))

abbrev pub row_of : List Text → Home × ℕ → Row
row_of names e = record { maker = label_text names e.0.maker; own = label_text names e.0.own; next = e.1 }

-- the rows of all homes that are counted, each once, in order
pub record AreRows (names : List Text) (counts : Counts) (rows : List Row) : Type 0 where
  pub homes : List (Home × ℕ)
  pub listed : IsListing homes counts
  pub same : IsPermutation (map (row_of names) homes) rows
  pub ordered : IsSorted row_cmp rows

-- ---- worked examples
a_row : Text → Text → ℕ → Row
a_row maker own next = record { maker = maker; own = own; next = next }

by_makers : row_cmp (a_row (codes "{a}/{}") (codes "{}/{}") 1) (a_row (codes "{}/{}") (codes "{a}/{}") 7) ≡ Less
unfolding a_row
by_makers = refl

then_by_own : row_cmp (a_row (codes "{}/{}") (codes "{a}/{}") 9) (a_row (codes "{}/{}") (codes "{}/{}") 2) ≡ Less
unfolding a_row
then_by_own = refl
