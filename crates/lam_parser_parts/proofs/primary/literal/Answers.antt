use Rattle.std.proofs.Common.{refl, []}
use Rattle.lam_parser_tokens.proofs.Rules.{◌▹◌, broke, mark_taken, rule_read}
use Rattle.lam_parser_parts.specs.declared.primary.Form.TheVariants as form
use Rattle.lam_parser_parts.proofs.Forms.{prim_begun, prim_unread}
use Rattle.lam_parser_parts.proofs.primary.literal.Goals as goal

pub returns-in_err-token-clause-reads : goal.returns-in_err-token-clause-reads
returns-in_err-token-clause-reads c = rw (broke _ c.from_residual.ensures.1) (prim_unread c.args.tokens.now c.args.depth c.args.at form.Literal c.requires.begins refl _ (c.in_err-token.ensures.takes []))

pub returns-clause-reads : goal.returns-clause-reads
returns-clause-reads c = rw c.in_ok-expr.ensures (prim_begun c.args.tokens.now c.args.depth c.args.at form.Literal c.requires.begins ▹ mark_taken c.in_ok-token.ensures.takes refl ▹ rule_read)
