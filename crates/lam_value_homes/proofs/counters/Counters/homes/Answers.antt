use Rattle.lam_value_homes.proofs.Listings.{homes_once}
use Rattle.lam_value_homes.proofs.counters.Counters.homes.Goals as goal

pub returns : goal.returns
returns c = record {
  each = c.self.view_is;
  once = homes_once _ c.self.invariant.unique c.self.invariant.once;
}
