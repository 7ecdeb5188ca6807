use Rattle.std.proofs.Common.{slice_get, refl}
use Rattle.lam_grammar.specs.Table.{region_head}
use Rattle.lam_parser_tokens.proofs.Rules.{◌▹◌, broke, begun, mark_taken, rule_taken, rule_read, mark_fails, rule_fails}
use Rattle.lam_parser_parts.proofs.Sums.{with_sum}
use Rattle.lam_parser_stmts.proofs.stmts.region_head.Goals as goal

pub returns-in_err-take-clause-reads : goal.returns-in_err-take-clause-reads
returns-in_err-take-clause-reads c = rw (broke _ c.from_residual.ensures.1) (mark_fails (begun (slice_get c.args.tokens.now) region_head c.args.depth c.args.at refl (λ b. refl)) refl _ c.in_err-take.ensures.takes)

pub returns-in_err-label-clause-reads : goal.returns-in_err-label-clause-reads
returns-in_err-label-clause-reads c = rw (broke _ c.from_residual-in_err-label.ensures.1) (rule_fails (begun (slice_get c.args.tokens.now) region_head c.args.depth c.args.at refl (λ b. refl) ▹ mark_taken c.in_ok-take.ensures.takes refl) tt _ c.in_err-label.ensures.reads)

pub returns-in_err-take-2-clause-reads : goal.returns-in_err-take-2-clause-reads
returns-in_err-take-2-clause-reads c = rw (broke _ c.from_residual-in_err-take-2.ensures.1) (mark_fails (begun (slice_get c.args.tokens.now) region_head c.args.depth c.args.at refl (λ b. refl) ▹ mark_taken c.in_ok-take.ensures.takes refl ▹ rule_taken (with_sum c.in_ok-label.ensures.depth c.in_ok-label.ensures.reads) c.in_ok-label.ensures.goes_on.0) refl _ c.in_err-take-2.ensures.takes)

pub returns-in_err-caps-clause-reads : goal.returns-in_err-caps-clause-reads
returns-in_err-caps-clause-reads c = rw (broke _ c.from_residual-in_err-caps.ensures.1) (rule_fails (begun (slice_get c.args.tokens.now) region_head c.args.depth c.args.at refl (λ b. refl) ▹ mark_taken c.in_ok-take.ensures.takes refl ▹ rule_taken (with_sum c.in_ok-label.ensures.depth c.in_ok-label.ensures.reads) c.in_ok-label.ensures.goes_on.0 ▹ mark_taken c.in_ok-take-2.ensures.takes refl) tt _ c.in_err-caps.ensures.reads)

pub returns-in_err-take-3-clause-reads : goal.returns-in_err-take-3-clause-reads
returns-in_err-take-3-clause-reads c = rw (broke _ c.from_residual-in_err-take-3.ensures.1) (mark_fails (begun (slice_get c.args.tokens.now) region_head c.args.depth c.args.at refl (λ b. refl) ▹ mark_taken c.in_ok-take.ensures.takes refl ▹ rule_taken (with_sum c.in_ok-label.ensures.depth c.in_ok-label.ensures.reads) c.in_ok-label.ensures.goes_on.0 ▹ mark_taken c.in_ok-take-2.ensures.takes refl ▹ rule_taken (with_sum c.in_ok-caps.ensures.depth c.in_ok-caps.ensures.reads) c.in_ok-caps.ensures.goes_on.0) refl _ c.in_err-take-3.ensures.takes)

pub returns-clause-reads : goal.returns-clause-reads
returns-clause-reads c = begun (slice_get c.args.tokens.now) region_head c.args.depth c.args.at refl (λ b. refl) ▹ mark_taken c.in_ok-take.ensures.takes refl ▹ rule_taken (with_sum c.in_ok-label.ensures.depth c.in_ok-label.ensures.reads) c.in_ok-label.ensures.goes_on.0 ▹ mark_taken c.in_ok-take-2.ensures.takes refl ▹ rule_taken (with_sum c.in_ok-caps.ensures.depth c.in_ok-caps.ensures.reads) c.in_ok-caps.ensures.goes_on.0 ▹ mark_taken c.in_ok-take-3.ensures.takes refl ▹ rule_read
