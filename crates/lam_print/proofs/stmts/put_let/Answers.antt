use Rattle.std.proofs.Common.{◌∙◌, ◌∷◌}
use Rattle.lam_lexer.specs.declared.token.TokenKind.TheVariants as Kind
use Rattle.lam_syntax.specs.Tree.{expr_tree}
use Rattle.lam_print.specs.Pieces.{token, blank}
use Rattle.lam_print.specs.Canon as canon
use Rattle.lam_print.proofs.Steps.{said, last_text}
use Rattle.lam_print.proofs.stmts.put_let.Goals as goal

pub returns : goal.returns
returns c =
    last_text _ _ _ _ _ c.put-3.result (λ ps. said _ _ c.in_ok-put.ensures _ ∙ c.in_ok-put_var.ensures.gives (blank ∷ token Kind.Assign ∷ blank ∷ canon.lay (expr_tree c.args.value.now) canon.whole (token Kind.Semicolon ∷ ps)) ∙ said _ _ c.in_ok-put-2.ensures _ ∙ c.in_ok-put_expr.ensures.gives (token Kind.Semicolon ∷ ps)) c.put-3.ensures
