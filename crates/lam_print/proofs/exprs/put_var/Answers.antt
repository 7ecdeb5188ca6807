use Rattle.std.proofs.Common.{◌∙◌, ◌∷◌, refl}
use Rattle.lam_lexer.specs.declared.token.TokenKind.TheVariants as Kind
use Rattle.lam_syntax.specs.Tree.{type_tree, var_tree}
use Rattle.lam_print.specs.Pieces.{token, blank}
use Rattle.lam_print.specs.Canon as canon
use Rattle.lam_print.proofs.Steps.{said, arm_puts}
use Rattle.lam_print.proofs.exprs.put_var.Goals as goal

pub returns : goal.returns
returns c =
    arm_puts canon.lay_var {a = var_tree c.args.var.now} {b = var_tree c.args.var.now} _ _ _ (canon.lay_type (type_tree c.args.var.now.ty)) c.put_type.result refl (λ ps. c.in_ok-put_name.ensures.gives (token Kind.Colon ∷ blank ∷ canon.lay_type (type_tree c.args.var.now.ty) ps) ∙ said _ _ c.in_ok-put.ensures _) c.put_type.ensures
