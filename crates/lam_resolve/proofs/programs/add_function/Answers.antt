use Rattle.std.proofs.Common.{ap, ◌∙◌}
use Rattle.lam_syntax.specs.Tree.{item_tree, function_tree, class_tree}
use Rattle.lam_resolve_tree.specs.Tree.{functions_tree, function_tree as resolved_function}
use Rattle.lam_resolve_tables.specs.Tables.{tables}
use Rattle.lam_resolve.proofs.ProgramSteps.{function_needs, class_added, function_added, functions_push}
use Rattle.lam_resolve.proofs.programs.add_function.Goals as goal

pub resolve_function-requires : goal.resolve_function-requires
resolve_function-requires c = function_needs (tables c.args.t.now) c.args.regions.now (item_tree c.args.item.now) (function_tree c.in-Function.f) (ap item_tree c.in-Function.is) c.requires

pub returns-in-Class : goal.returns-in-Class
returns-in-Class c = class_added (tables c.args.t.now) c.args.regions.now (item_tree c.args.item.now) (class_tree c.in-Class.field-0) (functions_tree c.args.functions.now.items) (ap item_tree c.in-Class.is)

pub returns-in_ok-push-in-Function : goal.returns-in_ok-push-in-Function
returns-in_ok-push-in-Function c =
    function_added (tables c.args.t.now) c.args.regions.now (item_tree c.args.item.now) (function_tree c.in-Function.f) c.resolve_function.new.regions (resolved_function c.in_ok-resolved-in-Function.resolved) (functions_tree c.args.functions.now.items) (functions_tree c.push.new.self.items) (ap item_tree c.in-Function.is)
    c.in_ok-resolved-in-Function.ensures (ap functions_tree c.in_ok-push-in-Function.ensures.items ∙ functions_push c.args.functions.now.items c.in_ok-resolved-in-Function.resolved)
