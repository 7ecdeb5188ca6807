use Rattle.std.proofs.Common.{ap, ◌∙◌}
use Rattle.std.specs.Option.{option_map}
use Rattle.std.proofs.lemmas.Result.{IfOk-weaker}
use Rattle.lam_resolve_tree.specs.Tree.{function_tree, resolved_tree}
use Rattle.lam_meaning.specs.Means.{means}
use Rattle.source_walk_state.proofs.Programs.{function_at}
use Rattle.source_walk_parts.specs.States.{state_of, left_at}
use Rattle.source_walk_follow.proofs.Lists.{item_there, none_there}
use Rattle.source_walk_follow.proofs.Beginning.{begins_nowhere}
use Rattle.source_walk_follow.proofs.begins.begin_walk.Goals as goal

pub returns-in-None : goal.returns-in-None
returns-in-None c =
    (λ i. left_at (resolved_tree c.args.program.now) (c.walk_at.ensures.control i) (state_of c.walk_at.result.walk))
    ∙ begins_nowhere (resolved_tree c.args.program.now) c.args.units c.args.begin.now.function c.args.begin.now.args c.args.begin.now.caps (state_of c.walk_at.result.walk)
    (function_at c.args.program.now.functions.items c.args.begin.now.function ∙ ap (option_map function_tree) (none_there c.args.program.now.functions.items c.deref.result.now c.args.begin.now.function c.deref.ensures.value c.in-None.ensures.lookup.3))

pub returns-in-Some : goal.returns-in-Some
returns-in-Some c =
    IfOk-weaker c.body_of.result _ _
    (λ g h. h (resolved_tree c.args.program.now) c.args.begin.now.function
    (function_at c.args.program.now.functions.items c.args.begin.now.function
    ∙ ap (option_map function_tree) (item_there c.args.program.now.functions.items c.deref.result.now c.args.begin.now.function c.in-Some.callee.now c.deref.ensures.value c.in-Some.ensures.lookup.3.0 c.in-Some.ensures.lookup.1))
    ∙ (λ i. means (resolved_tree c.args.program.now) c.args.units c.args.begin.now.function (c.in_ok-args.ensures i) (c.in_ok-caps.ensures i)))
    c.body_of.ensures
