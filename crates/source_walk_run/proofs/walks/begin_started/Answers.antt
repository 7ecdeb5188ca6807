use Rattle.std.proofs.Common.{◌≡◌, ℕ, [], length, get_or, sym, ◌∙◌, subst, ap, arith}
use Rattle.lam_resolve_tree.specs.Tree.{resolved_tree}
use Rattle.source_walk_meets.specs.Births.{birth_of}
use Rattle.source_walk_run.specs.Walking.{IsMeeting}
use Rattle.source_walk_run.proofs.Placing.{none_begins, one_begins}
use Rattle.source_walk_run.proofs.walks.begin_started.Goals as goal

pub returns-in-None : goal.returns-in-None
returns-in-None c = none_begins (resolved_tree c.args.program.now) c.args.turns.now (birth_of c.args.what.now) c.args.walks.now.items (sym c.in-None.is ∙ c.in_ok-started.ensures)

pub returns-in_ok-push-in-Some : goal.returns-in_ok-push-in-Some
returns-in_ok-push-in-Some c =
    let len = c.len-thread.ensures in
    let many = c.args.walks.now.ok.0 in
    let same : c.len-thread.result ≡ length c.args.walks.now.items = omega (arith, len, many) in
    one_begins (resolved_tree c.args.program.now) c.args.turns.now (birth_of c.args.what.now) c.args.walks.now.items c.push.new.self.items c.in-Some.beginning c.in_ok-walk-in-Some.walk (sym c.in-Some.is ∙ c.in_ok-started.ensures) c.in_ok-push-in-Some.ensures.items
    (subst (λ (n : ℕ). IsMeeting (resolved_tree c.args.program.now) n c.in-Some.beginning [] c.in_ok-walk-in-Some.walk) (c.turns_at-units.ensures ∙ ap (λ n. get_or c.args.turns.now n 0) same) c.in_ok-walk-in-Some.ensures.meets) c.in_ok-walk-in-Some.ensures.asks
