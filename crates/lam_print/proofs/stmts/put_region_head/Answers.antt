use Rattle.std.proofs.Common.{◌∙◌, ◌∷◌, false}
use Rattle.lam_lexer.specs.declared.token.TokenKind.TheVariants as Kind
use Rattle.lam_syntax.specs.Tree.{ids_tree, expr_tree}
use Rattle.lam_print.specs.Pieces.{token, blank}
use Rattle.lam_print.specs.Canon as canon
use Rattle.lam_print.proofs.Steps.{said, last_text}
use Rattle.lam_print.proofs.stmts.put_region_head.Goals as goal

pub returns : goal.returns
returns c =
    last_text _ _ _ _ _ c.put-4.result (λ ps. said _ _ c.in_ok-put.ensures _ ∙ c.in_ok-put_expr.ensures.gives (token Kind.Comma ∷ blank ∷ canon.lay (expr_tree c.args.caps.now) canon.whole (token Kind.ParenClose ∷ blank ∷ token Kind.BracketOpen ∷ canon.lay_names false (ids_tree c.args.captures.now) (token Kind.BracketClose ∷ blank ∷ ps))) ∙ said _ _ c.in_ok-put-2.ensures _ ∙ c.in_ok-put_expr-2.ensures.gives (token Kind.ParenClose ∷ blank ∷ token Kind.BracketOpen ∷ canon.lay_names false (ids_tree c.args.captures.now) (token Kind.BracketClose ∷ blank ∷ ps)) ∙ said _ _ c.in_ok-put-3.ensures _ ∙ c.in_ok-put_names.ensures.gives (token Kind.BracketClose ∷ blank ∷ ps)) c.put-4.ensures
