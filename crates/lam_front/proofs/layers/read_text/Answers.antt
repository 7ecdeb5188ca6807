use Rattle.std.proofs.Common.{ℕ, List, chars, subst}
use Rattle.std.proofs.lemmas.Result.{err_from_is_err_and}
use Rattle.lam_lexer.specs.Lexed.{Lexed}
use Rattle.lam_lexer.specs.Reading.{IsFault}
use Rattle.lam_front.proofs.Found.{not_lexed, not_parsed}
use Rattle.lam_front.proofs.layers.read_text.Goals as goal

pub returns-in_err-tokens : goal.returns-in_err-tokens
returns-in_err-tokens c =
    let p = err_from_is_err_and c.from_residual.result c.from_residual.ensures.1 in
    let k = c.in-Ok.ensures.cases in
    let f = c.in_err-tokens.field-0.0 in
    rw p.1 (not_lexed c.args.bytes.now k.1 f (subst (λ (t : List ℕ). IsFault (chars t) f) k.0 c.in_err-tokens.ensures.exact) p.0 p.2)

pub returns-in_err-parse : goal.returns-in_err-parse
returns-in_err-parse c =
    let p = err_from_is_err_and c.from_residual-in_err-parse.result c.from_residual-in_err-parse.ensures.1 in
    let k = c.in-Ok.ensures.cases in
    let f = c.in_err-parse.field-0.0 in
    let ts = c.in_ok-tokens.tokens.items in
    rw p.1
    (not_parsed c.args.bytes.now ts (record { utf8 = k.1; lexed = subst (λ (t : List ℕ). Lexed (chars t) ts) k.0 c.in_ok-tokens.ensures.exact }) f c.in_err-parse.ensures p.0 p.2)
