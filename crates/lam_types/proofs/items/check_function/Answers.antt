use Rattle.std.proofs.Common.{◌≤◌, length, refl, arith}
use Rattle.std.proofs.lemmas.Result.{err_from_is_err_and}
use Rattle.lam_syntax.specs.Tree.{function_tree}
use Rattle.lam_types_kinds.specs.Values.{decls, names, option_type}
use Rattle.lam_types.proofs.FunctionLemmas.{few, head_stop, body_stop, body_fine}
use Rattle.lam_types.proofs.items.check_function.Goals as goal

pub returns-in_err-check_returns : goal.returns-in_err-check_returns
returns-in_err-check_returns c =
    let p = err_from_is_err_and c.from_residual.result c.from_residual.ensures.1 in
    rw (p.1, p.2) (head_stop (decls c.args.known.now) c.args.regions (function_tree c.args.f.now) c.in_err-check_returns.field-0.0 c.in_err-check_returns.ensures)

pub overflow_cast-head : goal.overflow_cast-head
overflow_cast-head c =
    let n : (length c.as_slice-params.result.now) ≤ 64 = few (decls c.args.known.now) c.new-env.result.entries c.as_slice-params.result.now (names c.known_vars.new.all.entries) (length c.as_slice-params.result.now) c.new-env.ensures.empty c.in_ok-known_vars.ensures refl in
    omega arith

pub returns-in_err-last : goal.returns-in_err-last
returns-in_err-last c =
    let p = err_from_is_err_and c.from_residual-in_err-last.result c.from_residual-in_err-last.ensures.1 in
    rw (p.1, p.2)
    (body_stop (decls c.args.known.now) c.args.regions (function_tree c.args.f.now) c.in_err-last.field-0.0 c.new-env.result.entries c.as_slice-params.result.now c.args.f.now.params.items (names c.known_vars.new.all.entries) (length c.as_slice-params.result.now) (option_type c.result_ref.result)
    c.in_ok-check_returns.ensures c.new-env.ensures.empty c.as_slice-params.ensures.value refl c.in_ok-known_vars.ensures c.in_ok-check_result.ensures refl c.result_ref.ensures c.in_err-last.ensures.meets)

pub returns : goal.returns
returns c =
    body_fine (decls c.args.known.now) c.args.regions (function_tree c.args.f.now) c.new-env.result.entries c.as_slice-params.result.now c.args.f.now.params.items (names c.known_vars.new.all.entries) (length c.as_slice-params.result.now) (option_type c.result_ref.result) c.in_ok-last.last
    c.in_ok-check_returns.ensures c.new-env.ensures.empty c.as_slice-params.ensures.value refl c.in_ok-known_vars.ensures c.in_ok-check_result.ensures refl c.result_ref.ensures c.in_ok-last.ensures.meets
