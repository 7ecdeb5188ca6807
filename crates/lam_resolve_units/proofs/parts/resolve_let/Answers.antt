use Rattle.lam_syntax.specs.Tree.{expr_tree, var_tree}
use Rattle.lam_resolve_tables.specs.Kinds.{kind_type}
use Rattle.lam_resolve_tables.specs.Tables.{tables}
use Rattle.lam_resolve_exprs.specs.Values.{locals, value}
use Rattle.lam_resolve_units.specs.Seen.{state}
use Rattle.lam_resolve_units.proofs.PartSteps.{let_type, let_value, let_done}
use Rattle.lam_resolve_units.proofs.parts.resolve_let.Goals as goal

pub resolve_type-requires : goal.resolve_type-requires
resolve_type-requires c = let_type (tables c.args.t.now) (locals c.args.scope.now) (state c.args.st.now) (var_tree c.args.var.now) (expr_tree c.args.value.now) c.requires

pub resolve_expr-requires : goal.resolve_expr-requires
resolve_expr-requires c =
    let_value (tables c.args.t.now) (locals c.args.scope.now) (state c.args.st.now) (var_tree c.args.var.now) (expr_tree c.args.value.now) (kind_type c.in_ok-kind.kind) c.in_ok-kind.ensures c.requires

pub returns-clause-meets : goal.returns-clause-meets
returns-clause-meets c =
    let_done (tables c.args.t.now) (locals c.args.scope.now) (state c.args.st.now) (var_tree c.args.var.now) (expr_tree c.args.value.now) (kind_type c.in_ok-kind.kind) (value c.in_ok-value.value) c.in_ok-slot.slot c.as_str.result.now
    (locals c.declare.new.scope) (state c.declare.new.st) c.in_ok-kind.ensures c.in_ok-value.ensures c.in_ok-slot.ensures.slot c.as_str.ensures.value c.in_ok-slot.ensures.named c.in_ok-slot.ensures.added
