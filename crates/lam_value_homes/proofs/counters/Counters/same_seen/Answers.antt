use Rattle.std.proofs.Common.{◌∙◌, sym}
use Rattle.flow_labels.specs.Flow.{flows}
use Rattle.lam_value_homes.proofs.Rows.{home_seen, homes_alike, rows_alike}
use Rattle.lam_value_homes.proofs.counters.Counters.same_seen.Goals as goal

pub returns : goal.returns
returns c =
    let a = c.self.inside.rows.entries in
    let b = c.other.inside.rows.entries in (
      λ t h s.
          sym (home_seen a c.args.self.now c.self.invariant.unique c.self.view_is h)
          ∙ homes_alike (λ m. flows m c.args.observer.now) a b (c.same_maps.ensures.0 t) h s
          ∙ home_seen b c.args.other.now c.other.invariant.unique c.other.view_is h,
      λ same. c.same_maps.ensures.1 (rows_alike (λ m. flows m c.args.observer.now) a b c.self.invariant.filled c.other.invariant.filled (λ h s.
          home_seen a c.args.self.now c.self.invariant.unique c.self.view_is h
          ∙ same h s
          ∙ sym (home_seen b c.args.other.now c.other.invariant.unique c.other.view_is h))),
    )
