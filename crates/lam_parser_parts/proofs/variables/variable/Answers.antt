use Rattle.std.proofs.Common.{sym, subst, slice_get, refl}
use Rattle.lam_syntax.specs.Tree.{type_tree}
use Rattle.lam_grammar.specs.Table.{variable}
use Rattle.lam_grammar.specs.Meaning.{variable_value}
use Rattle.lam_parser_tokens.specs.Reading.{Gives}
use Rattle.lam_parser_tokens.proofs.Rules.{◌▹◌, broke, begun, mark_taken, rule_taken, rule_read, mark_fails, rule_fails}
use Rattle.lam_parser_parts.proofs.variables.variable.Goals as goal

pub returns-in_err-name-clause-reads : goal.returns-in_err-name-clause-reads
returns-in_err-name-clause-reads c = rw (broke _ c.from_residual.ensures.1) (mark_fails (begun (slice_get c.args.tokens.now) variable c.args.depth c.args.at refl (λ b. refl)) refl _ c.in_err-name.ensures.takes)

pub returns-in_err-take-clause-reads : goal.returns-in_err-take-clause-reads
returns-in_err-take-clause-reads c = rw (broke _ c.from_residual-in_err-take.ensures.1) (mark_fails (begun (slice_get c.args.tokens.now) variable c.args.depth c.args.at refl (λ b. refl) ▹ mark_taken c.in_ok-name.ensures.takes.1 refl) tt _ c.in_err-take.ensures.takes)

pub returns-in_err-ty-clause-reads : goal.returns-in_err-ty-clause-reads
returns-in_err-ty-clause-reads c = rw (broke _ c.from_residual-in_err-ty.ensures.1) (rule_fails (begun (slice_get c.args.tokens.now) variable c.args.depth c.args.at refl (λ b. refl) ▹ mark_taken c.in_ok-name.ensures.takes.1 refl ▹ mark_taken c.in_ok-take.ensures.takes refl) tt _ c.in_err-ty.ensures.reads)

pub returns-clause-reads : goal.returns-clause-reads
returns-clause-reads c =
    let look = slice_get c.args.tokens.now in
    let start = begun look variable c.args.depth c.args.at refl (λ b. refl) in
    let named = mark_taken c.in_ok-name.ensures.takes.1 refl start in
    let parted = mark_taken c.in_ok-take.ensures.takes refl named in
    let typed = rule_taken c.in_ok-ty.ensures.reads c.in_ok-ty.ensures.goes_on.0 parted in
    subst (λ x. Gives look variable c.args.depth c.args.at (variable_value (record { name = x; ty = type_tree c.in_ok-ty.ty })) c.in_ok-ty.next c.args.depth) (sym c.in_ok-name.ensures.takes.2) (rule_read typed)
