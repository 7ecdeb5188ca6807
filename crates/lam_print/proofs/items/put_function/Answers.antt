use Rattle.std.proofs.Common.{◌∙◌, ◌∷◌, List, false, sym, refl}
use Rattle.lam_lexer.specs.declared.token.TokenKind.TheVariants as Kind
use Rattle.lam_syntax.specs.declared.Stmt.{Stmt}
use Rattle.lam_syntax.specs.Tree.{vars_tree, stmts_tree, option_type_tree, function_tree}
use Rattle.lam_print.specs.Pieces.{Piece, token, blank}
use Rattle.lam_print.specs.Canon as canon
use Rattle.lam_print.proofs.Steps.{said, arm_puts, puts_of, on_ok}
use Rattle.lam_syntax.specs.declared.Var.{Var}
use Rattle.lam_print.proofs.items.put_function.Goals as goal

pub returns : goal.returns
returns c =
    let f = c.args.function.now in
    let block = canon.lay_block (stmts_tree f.body.items) 0 in
    let result = canon.lay_result (option_type_tree f.result) in
    arm_puts canon.lay_function {a = function_tree f} {b = function_tree f} _ _ _ block c.put_block.result refl (λ ps.
    said _ _ c.in_ok-put.ensures _
    ∙ c.in_ok-put_name.ensures.gives (token Kind.ParenOpen ∷ canon.lay_vars false (vars_tree f.params.items) (token Kind.ParenClose ∷ result (blank ∷ block ps)))
    ∙ said _ _ c.in_ok-put-2.ensures _
    ∙ (puts_of (λ (vs : List Var) (ps : List Piece). canon.lay_vars false (vars_tree vs) ps) (sym c.deref.ensures.value) c.in_ok-put_vars.ensures).gives (token Kind.ParenClose ∷ result (blank ∷ block ps))
    ∙ said _ _ c.in_ok-put-3.ensures _
    ∙ c.in_ok-put_result.ensures.gives (blank ∷ block ps)
    ∙ said _ _ c.in_ok-put-4.ensures _) (on_ok c.put_block.result (puts_of (λ (b : List Stmt) (ps : List Piece). canon.lay_block (stmts_tree b) 0 ps) (sym c.deref-2.ensures.value)) c.put_block.ensures)
