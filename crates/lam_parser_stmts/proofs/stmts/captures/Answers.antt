use Rattle.std.proofs.Common.{slice_get, refl}
use Rattle.lam_grammar.specs.Table.{captures}
use Rattle.lam_parser_tokens.proofs.Rules.{◌▹◌, broke, begun, mark_taken, maybe_taken, rule_read, mark_fails, rule_fails}
use Rattle.lam_parser_stmts.proofs.stmts.captures.Goals as goal

pub returns-in_err-take-clause-reads : goal.returns-in_err-take-clause-reads
returns-in_err-take-clause-reads c = rw (broke _ c.from_residual.ensures.1) (mark_fails (begun (slice_get c.args.tokens.now) captures c.args.depth c.args.at refl (λ b. refl)) refl _ c.in_err-take.ensures.takes)

pub returns-in_err-all-clause-reads : goal.returns-in_err-all-clause-reads
returns-in_err-all-clause-reads c = rw (broke _ c.from_residual-in_err-all.ensures.1) (rule_fails (begun (slice_get c.args.tokens.now) captures c.args.depth c.args.at refl (λ b. refl) ▹ mark_taken c.in_ok-take.ensures.takes refl) tt _ c.in_err-all.ensures.reads)

pub returns-in_err-take-2-clause-reads : goal.returns-in_err-take-2-clause-reads
returns-in_err-take-2-clause-reads c = rw (broke _ c.from_residual-in_err-take-2.ensures.1) (mark_fails (begun (slice_get c.args.tokens.now) captures c.args.depth c.args.at refl (λ b. refl) ▹ mark_taken c.in_ok-take.ensures.takes refl ▹ maybe_taken c.in_ok-all.ensures.reads c.in_ok-all.ensures.goes_on.0) (tt, refl) _ c.in_err-take-2.ensures.takes)

pub returns-clause-reads : goal.returns-clause-reads
returns-clause-reads c = begun (slice_get c.args.tokens.now) captures c.args.depth c.args.at refl (λ b. refl) ▹ mark_taken c.in_ok-take.ensures.takes refl ▹ maybe_taken c.in_ok-all.ensures.reads c.in_ok-all.ensures.goes_on.0 ▹ mark_taken c.in_ok-take-2.ensures.takes refl ▹ rule_read
