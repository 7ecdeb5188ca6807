use Rattle.std.proofs.Common.{◌∙◌, ◌∷◌, List, sym, ap}
use Rattle.lam_lexer.specs.declared.token.TokenKind.TheVariants as Kind
use Rattle.lam_syntax.specs.declared.TypeExpr.{TypeExpr}
use Rattle.lam_syntax.specs.Tree.{TypeForm, type_form}
use Rattle.lam_print.specs.Pieces.{Piece, token}
use Rattle.lam_print.specs.Canon as canon
use Rattle.lam_print.proofs.Steps.{said, arm_text, puts_of}
use Rattle.lam_print.proofs.exprs.+put_type_kind.Goals as goal

pub returns-in_ok-put_type_kind-in-Array : goal.returns-in_ok-put_type_kind-in-Array
returns-in_ok-put_type_kind-in-Array t c =
    arm_text (λ (k : TypeForm) (ps : List Piece). canon.lay_type_form k ps) _ _ _ _ c.put-in-Array-2.result (ap type_form c.in-Array.is) (λ ps. said _ _ c.in_ok-put-in-Array.ensures _ ∙ (puts_of (λ (t : TypeExpr) (ps : List Piece). canon.lay_type_form (type_form t.kind) ps) (sym c.deref.ensures) c.in_ok-put_type_kind-in-Array.ensures).gives (token Kind.BracketClose ∷ ps)) c.put-in-Array-2.ensures
