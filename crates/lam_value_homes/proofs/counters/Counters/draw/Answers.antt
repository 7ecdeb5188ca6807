use Rattle.std.proofs.Common.{◌+◌, ◌∙◌, ap}
use Rattle.std.specs.FinMap.{insert}
use Rattle.lam_value_homes.specs.Homes.{home_of}
use Rattle.lam_value_homes.proofs.Maps.{on_err}
use Rattle.lam_value_homes.proofs.Rows.{same_seen, set_seen}
use Rattle.lam_value_homes.proofs.counters.Counters.draw.Goals as goal

pub returns-in_err-set_count-clause-err : goal.returns-in_err-set_count-clause-err
returns-in_err-set_count-clause-err c = on_err _ c.from_residual.result (same_seen _ _ c.self.invariant.unique c.self.view_is _ c.in_err-set_count.ensures.homes.unique c.in_err-set_count.ensures.err)

pub returns-clause-ok : goal.returns-clause-ok
returns-clause-ok c =
    set_seen _ _ c.self.invariant.unique c.self.view_is _ c.in_ok-set_count.ensures.homes.unique _ _ c.in_ok-set_count.ensures.ok
    ∙ ap (λ n. insert c.args.self.now (home_of c.args.maker.now c.args.own.now) (n + 1)) c.requires.next
