use Rattle.std.proofs.Common.{◌∙◌, ◌∷◌, arith}
use Rattle.lam_lexer.specs.declared.token.TokenKind.TheVariants as Kind
use Rattle.lam_syntax.specs.Tree.{var_tree}
use Rattle.lam_print.specs.Pieces.{token}
use Rattle.lam_print.specs.Canon as canon
use Rattle.lam_print.proofs.Steps.{said, each_more, each_last}
use Rattle.lam_print.proofs.Views.{fields-each}
use Rattle.lam_print.proofs.items.put_fields.Goals as goal

pub loop-x-preserved : goal.loop-x-preserved
loop-x-preserved c = each_more fields-each c.args.fields.now c.loop-x.x-index c.x-item.result c.loop-x-test.true c.x-item.is (record { gives = λ ps. c.in_ok-put_line.ensures.gives (canon.lay_var (var_tree c.x-item.result) (token Kind.Semicolon ∷ ps)) ∙ c.in_ok-put_var.ensures.gives (token Kind.Semicolon ∷ ps) ∙ said _ _ c.in_ok-put.ensures _ }) c.loop-x.invariant

pub returns : goal.returns
returns c = each_last fields-each c.args.fields.now c.loop-x.x-index (omega (arith, c.loop-x-test.false)) c.loop-x.invariant
