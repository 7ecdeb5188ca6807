use Rattle.std.proofs.Common.{refl}
use Rattle.lam_parser_tokens.proofs.Rules.{◌▹◌, broke, mark_taken, maybe_taken, mark_fails, rule_fails, rule_read}
use Rattle.lam_parser_parts.specs.declared.primary.Form.TheVariants as form
use Rattle.lam_parser_parts.proofs.Forms.{prim_begun, prim_unread}
use Rattle.lam_parser_parts.proofs.primary.caps_of.Goals as goal

pub returns-in_err-word-clause-reads : goal.returns-in_err-word-clause-reads
returns-in_err-word-clause-reads c = rw (broke _ c.from_residual.ensures.1) (prim_unread c.args.tokens.now c.args.depth c.args.at form.Caps c.requires.begins refl _ (c.in_err-word.ensures.takes _))

pub returns-in_err-_open-clause-reads : goal.returns-in_err-_open-clause-reads
returns-in_err-_open-clause-reads c = rw (broke _ c.from_residual-in_err-_open.ensures.1) (mark_fails (prim_begun c.args.tokens.now c.args.depth c.args.at form.Caps c.requires.begins ▹ mark_taken c.in_ok-word.ensures.takes refl) tt _ c.in_err-_open.ensures.takes)

pub returns-in_err-items-clause-reads : goal.returns-in_err-items-clause-reads
returns-in_err-items-clause-reads c = rw (broke _ c.from_residual-in_err-items.ensures.1) (rule_fails (prim_begun c.args.tokens.now c.args.depth c.args.at form.Caps c.requires.begins ▹ mark_taken c.in_ok-word.ensures.takes refl ▹ mark_taken c.in_ok-_open.ensures.takes refl) tt _ c.in_err-items.ensures.reads)

pub returns-in_err-_close-clause-reads : goal.returns-in_err-_close-clause-reads
returns-in_err-_close-clause-reads c = rw (broke _ c.from_residual-in_err-_close.ensures.1) (mark_fails (prim_begun c.args.tokens.now c.args.depth c.args.at form.Caps c.requires.begins ▹ mark_taken c.in_ok-word.ensures.takes refl ▹ mark_taken c.in_ok-_open.ensures.takes refl ▹ maybe_taken c.in_ok-items.ensures.reads c.in_ok-items.ensures.goes_on.0) (tt, refl) _ c.in_err-_close.ensures.takes)

pub returns-clause-reads : goal.returns-clause-reads
returns-clause-reads c = rw c.in_ok-expr.ensures (prim_begun c.args.tokens.now c.args.depth c.args.at form.Caps c.requires.begins ▹ mark_taken c.in_ok-word.ensures.takes refl ▹ mark_taken c.in_ok-_open.ensures.takes refl ▹ maybe_taken c.in_ok-items.ensures.reads c.in_ok-items.ensures.goes_on.0 ▹ mark_taken c.in_ok-_close.ensures.takes refl ▹ rule_read)
