use Rattle.std.proofs.Common.{◌∙◌, ◌∷◌, List, sym, refl}
use Rattle.lam_lexer.specs.declared.token.TokenKind.TheVariants as Kind
use Rattle.lam_syntax.specs.Tree.{vars_tree, class_tree}
use Rattle.lam_print.specs.Pieces.{Piece, token, blank}
use Rattle.lam_print.specs.Canon as canon
use Rattle.lam_print.proofs.Steps.{said, arm_puts, puts_of, on_ok}
use Rattle.lam_syntax.specs.declared.Var.{Var}
use Rattle.lam_print.proofs.items.put_class.Goals as goal

pub returns : goal.returns
returns c =
    let body = canon.lay_class_body (vars_tree c.args.class.now.fields.items) in
    arm_puts canon.lay_class {a = class_tree c.args.class.now} {b = class_tree c.args.class.now} _ _ _ body c.put_class_body.result refl (λ ps. said _ _ c.in_ok-put.ensures _ ∙ c.in_ok-put_name.ensures.gives (blank ∷ token Kind.BraceOpen ∷ body ps) ∙ said _ _ c.in_ok-put-2.ensures _) (on_ok c.put_class_body.result (puts_of (λ (vs : List Var) (ps : List Piece). canon.lay_class_body (vars_tree vs) ps) (sym c.deref.ensures.value)) c.put_class_body.ensures)
