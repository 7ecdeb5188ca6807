use Rattle.std.proofs.Common.{ap, ◌∙◌, ◌++◌, ◌∷◌, []}
use Rattle.std.proofs.lemmas.Result.{err_from_is_err_and}
use Rattle.lam_builtins.specs.Limits.{most_functions}
use Rattle.lam_syntax.specs.Tree.{function_tree}
use Rattle.lam_operators.specs.Words.{Word}
use Rattle.lam_types_kinds.specs.Verdicts.{Fine, then_on}
use Rattle.lam_types_kinds.specs.Breaks.{Verdict}
use Rattle.lam_types_kinds.specs.Tables.{with_function, function_name, signature_of, find}
use Rattle.lam_types_kinds.specs.Values.{signature, function_entries, keyed}
use Rattle.lam_types_kinds.proofs.Adding.{added, to_leaves, new_function}
use Rattle.lam_types_kinds.proofs.Steps.{stops}
use Rattle.lam_types_kinds.proofs.TableLemmas.{new_none}
use Rattle.lam_types_kinds.proofs.tables.add_function.Goals as goal

pub returns-in_err-function_name : goal.returns-in_err-function_name
unfolding with_function
returns-in_err-function_name c =
    let p = err_from_is_err_and c.from_residual.result c.from_residual.ensures.1 in
    rw (p.1, p.2) (stops _ (function_name (function_entries c.args.functions.now.entries) (function_tree c.args.f.now).name) _ c.in_err-function_name.ensures)

pub add_name-requires : goal.add_name-requires
add_name-requires c =
    ap (λ (w : Word). find w (keyed c.args.functions.now.entries)) c.as_str.ensures.value ∙
    new_none most_functions c.args.functions.now.entries (function_tree c.args.f.now).name (new_function c.args.functions.now.entries (function_tree c.args.f.now).name c.in_ok-function_name.ensures)

pub returns : goal.returns
unfolding with_function
returns c =
    to_leaves c.add_name.result _ _ _
    (ap (λ (v : Verdict (Unit {0})). then_on v (λ _. Fine (function_entries c.args.functions.now.entries ++ ((function_tree c.args.f.now).name.word, signature_of (function_tree c.args.f.now)) ∷ []))) c.in_ok-function_name.ensures)
    (added signature c.add_name.result c.add_name.new.all.entries c.args.functions.now.entries c.as_str.result c.in_ok-call.call _ _ c.add_name.ensures.ok c.add_name.ensures.err c.as_str.ensures.value c.in_ok-call.ensures.ok)
