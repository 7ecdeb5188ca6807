use Rattle.std.proofs.Common.{◌≡◌, ◌∙◌, sym, ap, cond, true, false, arith}
use Rattle.std.specs.Prelude.{nat_lt}
use Rattle.std.specs.FinMap.{insert}
use Rattle.std.proofs.lemmas.Bool.Decides.{nat_tests}
use Rattle.lam_value_homes.specs.Homes.{home_of, count_in}
use Rattle.lam_value_homes.proofs.Maps.{on_err}
use Rattle.lam_value_homes.proofs.Rows.{count_seen, same_seen, set_seen}
use Rattle.lam_value_homes.proofs.counters.Counters.raise.Goals as goal

pub returns-in_err-set_count-clause-err : goal.returns-in_err-set_count-clause-err
returns-in_err-set_count-clause-err c = on_err _ c.from_residual.result (same_seen _ _ c.self.invariant.unique c.self.view_is _ c.in_err-set_count.ensures.homes.unique c.in_err-set_count.ensures.err)

pub returns-in_ok-set_count-clause-ok : goal.returns-in_ok-set_count-clause-ok
returns-in_ok-set_count-clause-ok c =
    let home = home_of c.args.maker.now c.args.own.now in
    let is : c.count_of.result ≡ count_in c.args.self.now home = c.count_of.ensures ∙ count_seen _ _ c.self.invariant.unique c.self.view_is home in
    let less : nat_lt (count_in c.args.self.now home) c.args.count ≡ true = grind (arith, nat_tests, is, c.if-count_of-count.true) in
    set_seen _ _ c.self.invariant.unique c.self.view_is _ c.in_ok-set_count.ensures.homes.unique _ _ c.in_ok-set_count.ensures.ok
    ∙ sym (ap (λ b. cond b (insert c.args.self.now home c.args.count) c.args.self.now) less)

pub returns-else-count_of-count-clause-ok : goal.returns-else-count_of-count-clause-ok
returns-else-count_of-count-clause-ok c =
    let home = home_of c.args.maker.now c.args.own.now in
    let is : c.count_of.result ≡ count_in c.args.self.now home = c.count_of.ensures ∙ count_seen _ _ c.self.invariant.unique c.self.view_is home in
    let less : nat_lt (count_in c.args.self.now home) c.args.count ≡ false = grind (arith, nat_tests, is, c.if-count_of-count.false) in
    sym (ap (λ b. cond b (insert c.args.self.now home c.args.count) c.args.self.now) less)
