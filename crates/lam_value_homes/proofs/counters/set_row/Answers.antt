use Rattle.std.proofs.Common.{◌∙◌, cond, Some}
use Rattle.std.specs.HashMap.{get}
use Rattle.lam_value_homes.specs.Homes.{label_eq}
use Rattle.lam_value_homes.proofs.counters.set_row.Goals as goal

pub returns-in_ok-put_count-in-None-clause-ok : goal.returns-in_ok-put_count-in-None-clause-ok
returns-in_ok-put_count-in-None-clause-ok c q = c.in_ok-put_count-in-None.ensures.ok q ∙ (λ i. cond (label_eq c.args.own.now q) (Some c.args.count) (get label_eq (c.get_mut.follows.holds-at-none i) q))
