use Rattle.std.proofs.Common.{Some, sym, ap, ◌∙◌}
use Rattle.lam_asks.specs.declared.ask.Ask.TheVariants as ask
use Rattle.lam_resolve_tree.specs.Tree.{resolved_tree}
use Rattle.source_walk_parts.specs.States.{state_of}
use Rattle.source_walk_follow.specs.Standing.{made_by}
use Rattle.source_walk_follow.proofs.Compared.{made_same}
use Rattle.source_walk_follow.proofs.compares.makes.Goals as goal

pub returns-in-Ask : goal.returns-in-Ask
returns-in-Ask c =
    made_same (resolved_tree c.args.program.now) (state_of c.args.w.now).own c.args.control.now c.in-Ask.made c.args.ask.now c.same_ask.result (ap (λ x. made_by (resolved_tree c.args.program.now) x (state_of c.args.w.now).own) c.in-Ask.is) c.same_ask.ensures

pub returns-in-Spawn : goal.returns-in-Spawn
returns-in-Spawn c =
    made_same (resolved_tree c.args.program.now) (state_of c.args.w.now).own c.args.control.now (ask.Spawn c.in-Spawn.function c.in-Spawn.args c.in-Spawn.caps) c.args.ask.now c.is_spawn.result (ap (λ x. made_by (resolved_tree c.args.program.now) x (state_of c.args.w.now).own) c.in-Spawn.is) c.is_spawn.ensures

pub returns-in-End : goal.returns-in-End
returns-in-End c = made_same (resolved_tree c.args.program.now) (state_of c.args.w.now).own c.args.control.now (ask.End c.in-End.outcome) c.args.ask.now c.is_end.result (ap (λ x. made_by (resolved_tree c.args.program.now) x (state_of c.args.w.now).own) c.in-End.is) c.is_end.ensures

pub returns-in_ok-args-in-Enter : goal.returns-in_ok-args-in-Enter
returns-in_ok-args-in-Enter c =
    made_same (resolved_tree c.args.program.now) (state_of c.args.w.now).own c.args.control.now (ask.Enter c.in-Enter.label c.in-Enter.caps c.in-Enter.region.number c.in_ok-args-in-Enter.args) c.args.ask.now c.is_enter.result
    (ap (λ x. made_by (resolved_tree c.args.program.now) x (state_of c.args.w.now).own) c.in-Enter.is ∙ ap (λ vs. Some (ask.Enter c.in-Enter.label c.in-Enter.caps c.in-Enter.region.number vs)) (sym c.in_ok-args-in-Enter.ensures)) c.is_enter.ensures
