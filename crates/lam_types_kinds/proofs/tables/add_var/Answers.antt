use Rattle.std.proofs.Common.{ap, ◌∙◌, ◌++◌, ◌∷◌, []}
use Rattle.std.proofs.lemmas.Result.{err_from_is_err_and}
use Rattle.lam_syntax.specs.Tree.{var_tree}
use Rattle.lam_types_kinds.specs.Verdicts.{Fine, then_on}
use Rattle.lam_types_kinds.specs.Breaks.{Verdict}
use Rattle.lam_types_kinds.specs.Tables.{with_var, type_known, typed_name}
use Rattle.lam_types_kinds.specs.Values.{names, decls, value_type}
use Rattle.lam_types_kinds.proofs.Adding.{stops_seen, fine_seen, added, to_leaves}
use Rattle.lam_types_kinds.proofs.Steps.{stops, goes_on}
use Rattle.lam_types_kinds.proofs.TableLemmas.{new_name_see}
use Rattle.lam_types_kinds.proofs.tables.add_var.Goals as goal

pub returns-in_err-new_name : goal.returns-in_err-new_name
unfolding with_var
returns-in_err-new_name c =
    let p = err_from_is_err_and c.from_residual.result c.from_residual.ensures.1 in
    rw (p.1, p.2) (stops_seen value_type _ c.args.limit c.args.all.now.entries (var_tree c.args.v.now).name _ c.in_err-new_name.ensures)

pub returns-in_err-known_type : goal.returns-in_err-known_type
unfolding with_var
returns-in_err-known_type c =
    let p = err_from_is_err_and c.from_residual-in_err-known_type.result c.from_residual-in_err-known_type.ensures.1 in
    rw (p.1, p.2) (goes_on _ _ tt _ (new_name_see value_type c.args.limit c.args.all.now.entries (var_tree c.args.v.now).name ∙ c.in_ok-new_name.ensures) (stops _ (type_known (decls c.args.known.now) (var_tree c.args.v.now).ty) _ c.in_err-known_type.ensures))

pub returns : goal.returns
unfolding with_var
returns c =
    to_leaves c.add_name.result _ _ _
    (fine_seen value_type c.args.limit c.args.all.now.entries (var_tree c.args.v.now).name (λ _. then_on (type_known (decls c.args.known.now) (var_tree c.args.v.now).ty) (λ _. Fine (names c.args.all.now.entries ++ typed_name (var_tree c.args.v.now) ∷ []))) c.in_ok-new_name.ensures ∙
    ap (λ (v : Verdict (Unit {0})). then_on v (λ _. Fine (names c.args.all.now.entries ++ typed_name (var_tree c.args.v.now) ∷ []))) c.in_ok-known_type.ensures)
    (added value_type c.add_name.result c.add_name.new.all.entries c.args.all.now.entries c.as_str.result c.type_ref.result _ _ c.add_name.ensures.ok c.add_name.ensures.err c.as_str.ensures.value c.type_ref.ensures)
