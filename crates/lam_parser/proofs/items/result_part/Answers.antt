use Rattle.std.proofs.Common.{slice_get, refl}
use Rattle.lam_grammar.specs.Table.{result_part}
use Rattle.lam_parser_tokens.proofs.Rules.{◌▹◌, broke, rule_taken, rule_read, rule_fails, present, body_of, no_body_of, opened, left_out}
use Rattle.lam_parser.proofs.items.result_part.Goals as goal

pub returns-in_default-clause-reads : goal.returns-in_default-clause-reads
returns-in_default-clause-reads c =
    let none = rw c.in_default.is at c.in_ok-take_if.ensures.takes in
    left_out (slice_get c.args.tokens.now) result_part 0 c.args.at refl (no_body_of result_part none refl (λ b. refl))

pub returns-in_err-ty-clause-reads : goal.returns-in_err-ty-clause-reads
returns-in_err-ty-clause-reads c =
    let starts = rw c.in-Some.is at c.in_ok-take_if.ensures.takes in
    rw (broke _ c.from_residual-in_err-ty.ensures.1) (rule_fails (opened result_part starts refl refl (body_of result_part (present starts) refl (λ b. refl))) tt _ c.in_err-ty.ensures.reads)

pub returns-clause-reads : goal.returns-clause-reads
returns-clause-reads c =
    let starts = rw c.in-Some.is at c.in_ok-take_if.ensures.takes in
    opened result_part starts refl refl (body_of result_part (present starts) refl (λ b. refl)) ▹ rule_taken c.in_ok-ty.ensures.reads c.in_ok-ty.ensures.goes_on.0 ▹ rule_read
