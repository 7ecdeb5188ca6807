use Rattle.std.proofs.Common.{sym, subst, slice_get, refl}
use Rattle.lam_syntax.specs.Tree.{vars_tree, stmts_tree, option_type_tree, function_item}
use Rattle.lam_grammar.specs.Table.{item}
use Rattle.lam_grammar.specs.Meaning.{id_of, item_value}
use Rattle.lam_parser_tokens.specs.Reading.{Gives}
use Rattle.lam_parser_tokens.proofs.Rules.{◌▹◌, broke, begun, mark_taken, rule_taken, maybe_taken, rule_read, mark_fails, rule_fails}
use Rattle.lam_parser.proofs.ItemBodies.{function_body, no_class, result_type}
use Rattle.lam_parser.proofs.items.function.Goals as goal

pub returns-in_err-name-clause-reads : goal.returns-in_err-name-clause-reads
returns-in_err-name-clause-reads c = rw (broke _ c.from_residual.ensures.1) (mark_fails (begun (slice_get c.args.tokens.now) item 0 c.args.at refl (function_body (no_class c.requires.begun)) ▹ mark_taken c.requires.begun refl) tt _ c.in_err-name.ensures.takes)

pub returns-in_err-take-clause-reads : goal.returns-in_err-take-clause-reads
returns-in_err-take-clause-reads c = rw (broke _ c.from_residual-in_err-take.ensures.1) (mark_fails (begun (slice_get c.args.tokens.now) item 0 c.args.at refl (function_body (no_class c.requires.begun)) ▹ mark_taken c.requires.begun refl ▹ mark_taken c.in_ok-name.ensures.takes.1 refl) tt _ c.in_err-take.ensures.takes)

pub returns-in_err-params-clause-reads : goal.returns-in_err-params-clause-reads
returns-in_err-params-clause-reads c = rw (broke _ c.from_residual-in_err-params.ensures.1) (rule_fails (begun (slice_get c.args.tokens.now) item 0 c.args.at refl (function_body (no_class c.requires.begun)) ▹ mark_taken c.requires.begun refl ▹ mark_taken c.in_ok-name.ensures.takes.1 refl ▹ mark_taken c.in_ok-take.ensures.takes refl) tt _ c.in_err-params.ensures.reads)

pub returns-in_err-take-2-clause-reads : goal.returns-in_err-take-2-clause-reads
returns-in_err-take-2-clause-reads c = rw (broke _ c.from_residual-in_err-take-2.ensures.1) (mark_fails (begun (slice_get c.args.tokens.now) item 0 c.args.at refl (function_body (no_class c.requires.begun)) ▹ mark_taken c.requires.begun refl ▹ mark_taken c.in_ok-name.ensures.takes.1 refl ▹ mark_taken c.in_ok-take.ensures.takes refl ▹ maybe_taken c.in_ok-params.ensures.reads c.in_ok-params.ensures.goes_on.0) (tt, refl) _ c.in_err-take-2.ensures.takes)

pub returns-in_err-result-clause-reads : goal.returns-in_err-result-clause-reads
returns-in_err-result-clause-reads c = rw (broke _ c.from_residual-in_err-result.ensures.1) (rule_fails (begun (slice_get c.args.tokens.now) item 0 c.args.at refl (function_body (no_class c.requires.begun)) ▹ mark_taken c.requires.begun refl ▹ mark_taken c.in_ok-name.ensures.takes.1 refl ▹ mark_taken c.in_ok-take.ensures.takes refl ▹ maybe_taken c.in_ok-params.ensures.reads c.in_ok-params.ensures.goes_on.0 ▹ mark_taken c.in_ok-take-2.ensures.takes refl) tt _ c.in_err-result.ensures.reads)

pub returns-in_err-body-clause-reads : goal.returns-in_err-body-clause-reads
returns-in_err-body-clause-reads c = rw (broke _ c.from_residual-in_err-body.ensures.1) (rule_fails (begun (slice_get c.args.tokens.now) item 0 c.args.at refl (function_body (no_class c.requires.begun)) ▹ mark_taken c.requires.begun refl ▹ mark_taken c.in_ok-name.ensures.takes.1 refl ▹ mark_taken c.in_ok-take.ensures.takes refl ▹ maybe_taken c.in_ok-params.ensures.reads c.in_ok-params.ensures.goes_on.0 ▹ mark_taken c.in_ok-take-2.ensures.takes refl ▹ maybe_taken c.in_ok-result.ensures.reads c.in_ok-result.ensures.goes_on.0) (tt, refl) _ c.in_err-body.ensures.reads)

pub returns-clause-reads : goal.returns-clause-reads
returns-clause-reads c =
    subst (λ x. Gives (slice_get c.args.tokens.now) item 0 c.args.at (item_value (function_item (record { at = c.args.word.now.at; name = x; params = vars_tree c.in_ok-params.params.items; result = option_type_tree c.in_ok-result.result; body = stmts_tree c.in_ok-body.body.items }))) c.in_ok-body.end 0) (sym c.in_ok-name.ensures.takes.2) (
    subst (λ r. Gives (slice_get c.args.tokens.now) item 0 c.args.at (item_value (function_item (record { at = c.args.word.now.at; name = id_of c.in_ok-name.ensures.takes.0; params = vars_tree c.in_ok-params.params.items; result = r; body = stmts_tree c.in_ok-body.body.items }))) c.in_ok-body.end 0) (result_type c.in_ok-result.result) (begun (slice_get c.args.tokens.now) item 0 c.args.at refl (function_body (no_class c.requires.begun)) ▹ mark_taken c.requires.begun refl ▹ mark_taken c.in_ok-name.ensures.takes.1 refl ▹ mark_taken c.in_ok-take.ensures.takes refl ▹ maybe_taken c.in_ok-params.ensures.reads c.in_ok-params.ensures.goes_on.0 ▹ mark_taken c.in_ok-take-2.ensures.takes refl ▹ maybe_taken c.in_ok-result.ensures.reads c.in_ok-result.ensures.goes_on.0 ▹ rule_taken c.in_ok-body.ensures.reads c.in_ok-body.ensures.goes_on.0 ▹ rule_read)
    )
