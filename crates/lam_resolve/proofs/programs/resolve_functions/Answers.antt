use Rattle.std.proofs.Common.{ap}
use Rattle.std.proofs.lemmas.List.{drop_all}
use Rattle.lam_syntax.specs.Tree.{items_tree}
use Rattle.lam_resolve_tree.specs.Tree.{functions_tree}
use Rattle.lam_resolve_laws.specs.Resolved.{resolve_functions}
use Rattle.lam_resolve_tables.specs.Tables.{tables}
use Rattle.lam_resolve_tables.proofs.Options.{collected_first, collected_last}
use Rattle.lam_resolve.proofs.ProgramSteps.{items_need, items_next}
use Rattle.lam_resolve.proofs.programs.resolve_functions.Goals as goal

pub loop-item-init : goal.loop-item-init
loop-item-init c = collected_first _ _ (ap functions_tree c.new-functions.ensures.items)

pub add_function-requires : goal.add_function-requires
add_function-requires c =
    items_need (tables c.args.t.now) c.loop-item.regions _ (functions_tree c.loop-item.functions.items) c.args.items.now c.loop-item.item-index c.item-item.result c.loop-item-test.true c.item-item.is c.loop-item.invariant c.requires

pub loop-item-preserved : goal.loop-item-preserved
loop-item-preserved c =
    items_next (tables c.args.t.now) c.loop-item.regions _ (functions_tree c.loop-item.functions.items) (functions_tree c.add_function.new.functions.items) c.add_function.new.regions c.args.items.now c.loop-item.item-index c.item-item.result c.loop-item-test.true c.item-item.is c.loop-item.invariant
    c.in_ok-add_function.ensures

pub returns : goal.returns
returns c = collected_last _ _ _ c.loop-item.invariant (ap (λ l. resolve_functions (tables c.args.t.now) c.loop-item.regions (items_tree l)) (drop_all c.loop-item.item-index c.args.items.now c.loop-item-test.false))
