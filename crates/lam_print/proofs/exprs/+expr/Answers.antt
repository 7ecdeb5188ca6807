use Rattle.std.proofs.Common.{◌∙◌, ◌∷◌, List, false, sym, ap, arith}
use Rattle.lam_lexer.specs.declared.token.TokenKind.TheVariants as Kind
use Rattle.lam_syntax.specs.declared.Expr.{Expr}
use Rattle.lam_syntax.specs.declared.Id.{Id}
use Rattle.lam_syntax.specs.Tree.{ExprForm, call_expr, label_expr, spawn_expr, id_tree, expr_form, expr_tree, exprs_tree}
use Rattle.lam_syntax.proofs.Rows.{call_row, label_row, spawn_row}
use Rattle.lam_print.specs.Pieces.{Piece, token}
use Rattle.lam_print.specs.Canon as canon
use Rattle.lam_print.proofs.Steps.{said, arm_of, last_text, listed_more, listed_last}
use Rattle.lam_print.proofs.Views.{args-listed, tags-listed}
use Rattle.lam_print.proofs.exprs.+expr.Goals as goal

pub put_args-loop-i-preserved : goal.put_args-loop-i-preserved
put_args-loop-i-preserved t c = listed_more args-listed c.args.args.now c.loop-i.i c.index-args-i.result c.loop-i-test.true c.index-args-i.is c.in_ok-put_comma.ensures c.in_ok-put_expr.ensures c.loop-i.invariant

pub put_args-returns : goal.put_args-returns
put_args-returns t c = listed_last args-listed c.args.args.now c.loop-i.i (omega (arith, c.loop-i-test.false)) c.loop-i.invariant

pub put_tags-loop-i-preserved : goal.put_tags-loop-i-preserved
put_tags-loop-i-preserved t c = listed_more tags-listed c.args.tags.now c.loop-i.i c.index-tags-i.result c.loop-i-test.true c.index-tags-i.is c.in_ok-put_spaced.ensures c.in_ok-put_expr.ensures c.loop-i.invariant

pub put_tags-returns : goal.put_tags-returns
put_tags-returns t c = listed_last tags-listed c.args.tags.now c.loop-i.i (omega (arith, c.loop-i-test.false)) c.loop-i.invariant

pub put_kind-returns-in-Call : goal.put_kind-returns-in-Call
put_kind-returns-in-Call t c =
    arm_of (λ (k : ExprForm) (ps : List Piece). canon.lay_form k c.args.place ps) _ _ c.put_call.result (ap expr_form c.in-Call.is ∙ call_row c.in-Call.name c.in-Call.args ∙ ap (λ (xs : List Expr). call_expr (id_tree c.in-Call.name) (exprs_tree xs)) (sym c.deref-in-Call.ensures.value)) c.put_call.ensures

pub put_kind-returns-in-LabelOf : goal.put_kind-returns-in-LabelOf
put_kind-returns-in-LabelOf t c =
    arm_of (λ (k : ExprForm) (ps : List Piece). canon.lay_form k c.args.place ps) _ _ c.put_label.result (ap expr_form c.in-LabelOf.is ∙ label_row c.in-LabelOf.s c.in-LabelOf.i ∙ ap (λ (xs : List Expr). label_expr (exprs_tree xs) (exprs_tree c.in-LabelOf.i.items)) (sym c.deref-in-LabelOf.ensures.value) ∙ ap (λ (xs : List Expr). label_expr (exprs_tree c.deref-in-LabelOf.result.now) (exprs_tree xs)) (sym c.deref-in-LabelOf-2.ensures.value)) c.put_label.ensures

pub put_kind-returns-in-Spawn : goal.put_kind-returns-in-Spawn
put_kind-returns-in-Spawn t c =
    arm_of (λ (k : ExprForm) (ps : List Piece). canon.lay_form k c.args.place ps) _ _ c.put_spawn.result (ap expr_form c.in-Spawn.is ∙ spawn_row c.in-Spawn.caps c.in-Spawn.function c.in-Spawn.args ∙ ap (λ (e : Expr). spawn_expr (expr_tree e) (id_tree c.in-Spawn.function.value) (exprs_tree c.in-Spawn.args.items)) (sym c.deref-in-Spawn.ensures) ∙ ap (λ (f : Id). spawn_expr (expr_tree c.deref-in-Spawn.result.now) (id_tree f) (exprs_tree c.in-Spawn.args.items)) (sym c.deref-in-Spawn-2.ensures) ∙ ap (λ (xs : List Expr). spawn_expr (expr_tree c.deref-in-Spawn.result.now) (id_tree c.deref-in-Spawn-2.result.now) (exprs_tree xs)) (sym c.deref-in-Spawn-3.ensures.value)) c.put_spawn.ensures

pub put_call-returns : goal.put_call-returns
put_call-returns t c =
    last_text _ _ _ _ _ c.put-2.result (λ ps. c.in_ok-put_name.ensures.gives (token Kind.ParenOpen ∷ canon.lay_args false (exprs_tree c.args.args.now) (token Kind.ParenClose ∷ ps)) ∙ said _ _ c.in_ok-put.ensures _ ∙ c.in_ok-put_args.ensures.gives (token Kind.ParenClose ∷ ps)) c.put-2.ensures

pub put_new_array-returns : goal.put_new_array-returns
put_new_array-returns t c =
    last_text _ _ _ _ _ c.put-3.result (λ ps. said _ _ c.in_ok-put.ensures _ ∙ c.in_ok-put_type.ensures.gives (token Kind.BracketClose ∷ token Kind.ParenOpen ∷ canon.lay (expr_tree c.args.length.now) canon.whole (token Kind.ParenClose ∷ ps)) ∙ said _ _ c.in_ok-put-2.ensures _ ∙ c.in_ok-put_expr.ensures.gives (token Kind.ParenClose ∷ ps)) c.put-3.ensures
