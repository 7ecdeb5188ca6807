use Rattle.std.proofs.Common.{◌≡◌, ◌<◌, ℕ, Bor, Option, Some, None, IfSome, List, slice_get, sym}
use Rattle.std.specs.Option.{option_map}
use Rattle.lam_value.specs.Label.{Label}
use Rattle.lam_value.specs.Homes.{Home, home_of, Counts, IsAboveZero, IsListing}
use Rattle.lam_value.proofs.Listings.{listed_at}
use Rattle.labelled_files.proofs.files.Files.counter_at.Goals as goal

above : (hs : List (Home × ℕ)) (m : Counts) → IsListing hs m → IsAboveZero m → (i : ℕ) (o : Option (Bor Label × Bor Label × ℕ))
    → option_map (λ e. (home_of e.0.now e.1.now, e.2)) o ≡ slice_get hs i → IfSome o (λ e. 0 < e.2)
above hs m list high i None e = tt
above hs m list high i (Some x) e = high (home_of x.0.now x.1.now) x.2 (listed_at hs m list i (home_of x.0.now x.1.now) x.2 (sym e))

pub returns-clause-above : goal.returns-clause-above
returns-clause-above c = above c.counters.result _ c.counters.ensures.list c.counters.ensures.above c.args.i c.get.result c.get.ensures
