use Rattle.std.proofs.Common.{Ok, Some, None, ap}
use Rattle.lam_value.specs.declared.values.Value.TheVariants.{Nothing}
use Rattle.lam_resolve_tree.specs.Tree.{return_value, expr_tree, option_expr_tree}
use Rattle.want_of_memory.specs.declared.NoMemory.{NoMemory}
use Rattle.source_walk_state.specs.declared.Control.TheVariants.{Leave}
use Rattle.source_walk_parts.proofs.Steps.{if_ok}
use Rattle.source_walk_parts.specs.States.{state_of}
use Rattle.source_walk_open.proofs.StmtForms.{of_form, none_returns, return_opens}
use Rattle.source_walk_open.proofs.stmts.give_back.Goals as goal

pub returns-in-None : goal.returns-in-None
returns-in-None c =
    of_form {E = NoMemory} (Ok (Leave Nothing)) c.args.depth (state_of c.args.w.now) (state_of c.args.w.now) (return_value (option_expr_tree c.args.value.now)) (return_value None) (ap (λ o. return_value (option_expr_tree o)) c.in-None.is) (none_returns (state_of c.args.w.now) c.args.depth)

pub returns-in-Some : goal.returns-in-Some
returns-in-Some c =
    of_form c.wait.result c.args.depth (state_of c.args.w.now) (state_of c.wait.new.w) (return_value (option_expr_tree c.args.value.now)) (return_value (Some (expr_tree c.in-Some.e))) (ap (λ o. return_value (option_expr_tree o)) c.in-Some.is)
    (if_ok c.wait.result _ _ c.wait.ensures (λ d w. return_opens (state_of c.args.w.now) c.args.depth _ w))
