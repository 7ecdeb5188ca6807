use Rattle.std.proofs.Common.{◌∙◌, ◌∷◌}
use Rattle.lam_lexer.specs.declared.token.TokenKind.TheVariants as Kind
use Rattle.lam_syntax.specs.Tree.{expr_tree}
use Rattle.lam_print.specs.Pieces.{token, blank}
use Rattle.lam_print.specs.Canon as canon
use Rattle.lam_print.proofs.Steps.{said, last_text}
use Rattle.lam_print.proofs.stmts.put_assign.Goals as goal

pub returns : goal.returns
returns c =
    last_text _ _ _ _ _ c.put-2.result (λ ps. c.in_ok-put_expr.ensures.gives (blank ∷ token Kind.Assign ∷ blank ∷ canon.lay (expr_tree c.args.value.now) canon.whole (token Kind.Semicolon ∷ ps)) ∙ said _ _ c.in_ok-put.ensures _ ∙ c.in_ok-put_expr-2.ensures.gives (token Kind.Semicolon ∷ ps)) c.put-2.ensures
