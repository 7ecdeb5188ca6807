use Rattle.std.proofs.Common.{slice_get, refl}
use Rattle.lam_grammar.specs.Table.{cap_item}
use Rattle.lam_parser_tokens.proofs.Rules.{◌▹◌, broke, begun, mark_taken, mark_fails, rule_read}
use Rattle.lam_parser_parts.proofs.primary.cap_item.Goals as goal

pub returns-in_err-name-clause-reads : goal.returns-in_err-name-clause-reads
returns-in_err-name-clause-reads c = rw (broke _ c.from_residual.ensures.1) (mark_fails (begun (slice_get c.args.tokens.now) cap_item c.args.depth c.args.at refl (λ before. refl)) refl _ c.in_err-name.ensures.takes)

pub returns-in_err-sign-clause-reads : goal.returns-in_err-sign-clause-reads
returns-in_err-sign-clause-reads c = rw (broke _ c.from_residual-in_err-sign.ensures.1) (mark_fails (begun (slice_get c.args.tokens.now) cap_item c.args.depth c.args.at refl (λ before. refl) ▹ mark_taken c.in_ok-name.ensures.takes refl) tt _ c.in_err-sign.ensures.takes)

pub returns-clause-reads : goal.returns-clause-reads
returns-clause-reads c = rw c.in_ok-item.ensures (begun (slice_get c.args.tokens.now) cap_item c.args.depth c.args.at refl (λ before. refl) ▹ mark_taken c.in_ok-name.ensures.takes refl ▹ mark_taken c.in_ok-sign.ensures.takes refl ▹ rule_read)
