use Rattle.std.proofs.Common.{◌≡◌, ap, ◌∙◌, ◌++◌, ◌∷◌, [], List}
use Rattle.std.proofs.lemmas.Result.{err_from_is_err_and}
use Rattle.lam_builtins.specs.Limits.{most_classes}
use Rattle.lam_syntax.specs.declared.Var.{Var}
use Rattle.lam_syntax.specs.Tree.{class_tree, vars_tree}
use Rattle.lam_types_kinds.specs.Verdicts.{Fine}
use Rattle.lam_types_kinds.specs.Tables.{Names, with_class, with_fields, fields_of}
use Rattle.lam_types_kinds.specs.Values.{fields, class_entries}
use Rattle.lam_types_kinds.proofs.Adding.{stops_seen, fine_seen, added, to_leaves}
use Rattle.lam_types_kinds.proofs.tables.add_class.Goals as goal

pub returns-in_err-new_name : goal.returns-in_err-new_name
unfolding with_class
returns-in_err-new_name c =
    let p = err_from_is_err_and c.from_residual.result c.from_residual.ensures.1 in
    rw (p.1, p.2) (stops_seen fields _ most_classes c.args.classes.now.entries (class_tree c.args.c.now).name _ c.in_err-new_name.ensures)

same_fields : (f : Names) (vs ws : List Var) → vs ≡ ws → f ≡ with_fields [] (vars_tree vs) → f ≡ with_fields [] (vars_tree ws)
same_fields f vs ws e h = h ∙ ap (λ (l : List Var). with_fields [] (vars_tree l)) e

pub returns : goal.returns
unfolding with_class
returns c =
    to_leaves c.add_name.result _ _ _
    (fine_seen fields most_classes c.args.classes.now.entries (class_tree c.args.c.now).name (λ _. Fine (class_entries c.args.classes.now.entries ++ ((class_tree c.args.c.now).name.word, fields_of (class_tree c.args.c.now)) ∷ [])) c.in_ok-new_name.ensures)
    (added fields c.add_name.result c.add_name.new.all.entries c.args.classes.now.entries c.as_str.result c.in_ok-fields.fields _ _ c.add_name.ensures.ok c.add_name.ensures.err c.as_str.ensures.value
    (same_fields (fields c.in_ok-fields.fields) c.as_slice.result.now c.args.c.now.fields.items c.as_slice.ensures.value c.in_ok-fields.ensures.ok))
