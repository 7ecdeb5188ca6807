use Rattle.std.proofs.Common.{refl, slice_get}
use Rattle.lam_grammar.specs.Table.{typ}
use Rattle.lam_parser_tokens.proofs.Rules.{◌▹◌, broke, begun, mark_taken, rule_taken, rule_read, mark_fails, rule_fails, rule_unwanted, token_deep_fails, present, deep_present, body_of, second_body_of, last_of_three}
use Rattle.lam_parser_tokens.specs.declared.breaks.Wanted.TheVariants.{TypeName}
use Rattle.lam_parser_parts.proofs.types.+typ.Goals as goal

-- a word
pub returns-in_err-word-clause-reads : goal.returns-in_err-word-clause-reads
returns-in_err-word-clause-reads t c =
    let d = c.in_err-word.ensures.takes in
    rw (broke _ c.from_residual.ensures.1) (token_deep_fails (begun (slice_get c.args.tokens.now) typ c.args.depth c.args.at refl (body_of typ (deep_present d) refl (λ b. refl))) _ d)

pub returns-in-Some-clause-reads : goal.returns-in-Some-clause-reads
returns-in-Some-clause-reads t c =
    let w = rw c.in-Some.is at c.in_ok-word.ensures.takes in
    rw c.in_ok-named_type.ensures (begun (slice_get c.args.tokens.now) typ c.args.depth c.args.at refl (body_of typ (present w) refl (λ b. refl)) ▹ mark_taken w refl ▹ rule_read)

-- a name
pub returns-in_err-name-clause-reads : goal.returns-in_err-name-clause-reads
returns-in_err-name-clause-reads t c =
    let a = rw c.in_default.is at c.in_ok-word.ensures.takes in
    let d = c.in_err-name.ensures.takes in
    rw (broke _ c.from_residual-in_err-name.ensures.1) (token_deep_fails (begun (slice_get c.args.tokens.now) typ c.args.depth c.args.at refl (second_body_of typ a (deep_present d) refl (λ b. refl))) _ d)

pub returns-in-Some-2-clause-reads : goal.returns-in-Some-2-clause-reads
returns-in-Some-2-clause-reads t c =
    let a = rw c.in_default.is at c.in_ok-word.ensures.takes in
    let w = rw c.in-Some-2.is at c.in_ok-name.ensures.takes in
    rw c.in_ok-named_type-2.ensures (begun (slice_get c.args.tokens.now) typ c.args.depth c.args.at refl (second_body_of typ a (present w) refl (λ b. refl)) ▹ mark_taken w refl ▹ rule_read)

-- an array
pub returns-in_err-bracket-clause-reads : goal.returns-in_err-bracket-clause-reads
returns-in_err-bracket-clause-reads t c =
    let a = rw c.in_default.is at c.in_ok-word.ensures.takes in
    let b = rw c.in_default-2.is at c.in_ok-name.ensures.takes in
    let d = c.in_err-bracket.ensures.takes in
    rw (broke _ c.from_residual-in_err-bracket.ensures.1) (token_deep_fails (begun (slice_get c.args.tokens.now) typ c.args.depth c.args.at refl (last_of_three typ a b refl (λ b. refl))) _ d)

pub returns-in_default-3-clause-reads : goal.returns-in_default-3-clause-reads
returns-in_default-3-clause-reads t c =
    let a = rw c.in_default.is at c.in_ok-word.ensures.takes in
    let b = rw c.in_default-2.is at c.in_ok-name.ensures.takes in
    let d = rw c.in_default-3.is at c.in_ok-bracket.ensures.takes in
    rule_unwanted (slice_get c.args.tokens.now) typ c.args.depth c.args.at _ _ TypeName refl refl refl (last_of_three typ a b refl (λ b. refl)) d.no

pub returns-in_err-element-clause-reads : goal.returns-in_err-element-clause-reads
returns-in_err-element-clause-reads t c =
    let a = rw c.in_default.is at c.in_ok-word.ensures.takes in
    let b = rw c.in_default-2.is at c.in_ok-name.ensures.takes in
    let w = rw c.in-Some-3.is at c.in_ok-bracket.ensures.takes in
    rw (broke _ c.from_residual-in_err-element.ensures.1) (rule_fails (begun (slice_get c.args.tokens.now) typ c.args.depth c.args.at refl (last_of_three typ a b refl (λ b. refl)) ▹ mark_taken w refl) tt _ c.in_err-element.ensures.reads)

pub returns-in_err-_close-clause-reads : goal.returns-in_err-_close-clause-reads
returns-in_err-_close-clause-reads t c =
    let a = rw c.in_default.is at c.in_ok-word.ensures.takes in
    let b = rw c.in_default-2.is at c.in_ok-name.ensures.takes in
    let w = rw c.in-Some-3.is at c.in_ok-bracket.ensures.takes in
    rw (broke _ c.from_residual-in_err-_close.ensures.1) (mark_fails (begun (slice_get c.args.tokens.now) typ c.args.depth c.args.at refl (last_of_three typ a b refl (λ b. refl)) ▹ mark_taken w refl ▹ rule_taken c.in_ok-element.ensures.reads c.in_ok-element.ensures.goes_on.0) refl _ c.in_err-_close.ensures.takes)

pub returns-clause-reads : goal.returns-clause-reads
returns-clause-reads t c =
    let a = rw c.in_default.is at c.in_ok-word.ensures.takes in
    let b = rw c.in_default-2.is at c.in_ok-name.ensures.takes in
    let w = rw c.in-Some-3.is at c.in_ok-bracket.ensures.takes in
    rw c.in_ok-array_of.ensures (begun (slice_get c.args.tokens.now) typ c.args.depth c.args.at refl (last_of_three typ a b refl (λ b. refl)) ▹ mark_taken w refl ▹ rule_taken c.in_ok-element.ensures.reads c.in_ok-element.ensures.goes_on.0 ▹ mark_taken c.in_ok-_close.ensures.takes refl ▹ rule_read)
