use Rattle.std.proofs.Common.{◌∙◌, ◌∷◌}
use Rattle.lam_lexer.specs.declared.token.TokenKind.TheVariants as Kind
use Rattle.lam_print.specs.Pieces.{token}
use Rattle.lam_print.proofs.Steps.{said, last_text}
use Rattle.lam_print.proofs.exprs.put_new_class.Goals as goal

pub returns : goal.returns
returns c = last_text _ _ _ _ _ c.put-2.result (λ ps. said _ _ c.in_ok-put.ensures _ ∙ c.in_ok-put_name.ensures.gives (token Kind.ParenOpen ∷ token Kind.ParenClose ∷ ps)) c.put-2.ensures
