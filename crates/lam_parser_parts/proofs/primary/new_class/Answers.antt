use Rattle.std.proofs.Common.{slice_get, refl}
use Rattle.lam_grammar.specs.Table.{new_part}
use Rattle.lam_parser_tokens.proofs.Rules.{◌▹◌, broke, begun, mark_taken, mark_fails, rule_read}
use Rattle.lam_parser_parts.proofs.Forms.{class_body}
use Rattle.lam_parser_parts.proofs.primary.new_class.Goals as goal

pub returns-in_err-name-clause-reads : goal.returns-in_err-name-clause-reads
returns-in_err-name-clause-reads c = rw (broke _ c.from_residual.ensures.1) (mark_fails (begun (slice_get c.args.tokens.now) new_part c.args.depth c.args.at refl (class_body (slice_get c.args.tokens.now c.args.at) c.requires.begins)) refl _ c.in_err-name.ensures.takes)

pub returns-in_err-_open-clause-reads : goal.returns-in_err-_open-clause-reads
returns-in_err-_open-clause-reads c = rw (broke _ c.from_residual-in_err-_open.ensures.1) (mark_fails (begun (slice_get c.args.tokens.now) new_part c.args.depth c.args.at refl (class_body (slice_get c.args.tokens.now c.args.at) c.requires.begins) ▹ mark_taken c.in_ok-name.ensures.takes refl) tt _ c.in_err-_open.ensures.takes)

pub returns-in_err-_close-clause-reads : goal.returns-in_err-_close-clause-reads
returns-in_err-_close-clause-reads c = rw (broke _ c.from_residual-in_err-_close.ensures.1) (mark_fails (begun (slice_get c.args.tokens.now) new_part c.args.depth c.args.at refl (class_body (slice_get c.args.tokens.now c.args.at) c.requires.begins) ▹ mark_taken c.in_ok-name.ensures.takes refl ▹ mark_taken c.in_ok-_open.ensures.takes refl) tt _ c.in_err-_close.ensures.takes)

pub returns-clause-reads : goal.returns-clause-reads
returns-clause-reads c = rw c.in_ok-class.ensures (begun (slice_get c.args.tokens.now) new_part c.args.depth c.args.at refl (class_body (slice_get c.args.tokens.now c.args.at) c.requires.begins) ▹ mark_taken c.in_ok-name.ensures.takes refl ▹ mark_taken c.in_ok-_open.ensures.takes refl ▹ mark_taken c.in_ok-_close.ensures.takes refl ▹ rule_read)
