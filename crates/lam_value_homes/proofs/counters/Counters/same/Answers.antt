use Rattle.std.proofs.Common.{◌∙◌, refl, true, sym, ap}
use Rattle.std.specs.FinMap.{get, same_map}
use Rattle.lam_value_homes.proofs.Keys.{home_total, home_exact}
use Rattle.lam_value_homes.proofs.Rows.{home_seen, homes_alike, rows_alike}
use Rattle.lam_value_homes.proofs.counters.Counters.same.Goals as goal

pub returns : goal.returns
returns c =
    let a = c.self.inside.rows.entries in
    let b = c.other.inside.rows.entries in (
      λ t. same_map home_total home_exact c.args.self.now c.args.other.now (λ h.
          sym (home_seen a c.args.self.now c.self.invariant.unique c.self.view_is h)
          ∙ homes_alike (λ _. true) a b (c.same_maps.ensures.0 t) h refl
          ∙ home_seen b c.args.other.now c.other.invariant.unique c.other.view_is h),
      λ e. c.same_maps.ensures.1 (rows_alike (λ _. true) a b c.self.invariant.filled c.other.invariant.filled (λ h _.
          home_seen a c.args.self.now c.self.invariant.unique c.self.view_is h
          ∙ ap (λ m. get m h) e
          ∙ sym (home_seen b c.args.other.now c.other.invariant.unique c.other.view_is h))),
    )
