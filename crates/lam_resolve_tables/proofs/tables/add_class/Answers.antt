use Rattle.std.proofs.Common.{ap, ◌∙◌, ◌++◌, ◌∷◌, [], is_some}
use Rattle.lam_syntax.specs.Tree.{vars_tree, item_tree, class_tree, function_tree}
use Rattle.lam_resolve_laws.specs.Resolved.{resolve_vars}
use Rattle.lam_resolve_tables.specs.Entries.{entries_of}
use Rattle.lam_resolve_tables.specs.Tables.{vars, fields, all_fields}
use Rattle.lam_resolve_tables.proofs.Options.{map_push}
use Rattle.lam_resolve_tables.proofs.TableSteps.{class_needs, class_joined, class_apart}
use Rattle.lam_resolve_tables.proofs.tables.add_class.Goals as goal

pub resolve_vars-requires : goal.resolve_vars-requires
resolve_vars-requires c =
    ap (λ l. is_some (resolve_vars (entries_of c.args.names.now) (vars_tree l))) c.as_slice.ensures.value ∙
    class_needs (entries_of c.args.names.now) (item_tree c.args.item.now) (class_tree c.in-Class.class) (ap item_tree c.in-Class.is) c.requires

pub returns-in_ok-push-in-Class : goal.returns-in_ok-push-in-Class
returns-in_ok-push-in-Class c =
    class_joined (entries_of c.args.names.now) (item_tree c.args.item.now) (class_tree c.in-Class.class) _ _ (vars c.in_ok-vars-in-Class.vars.items) (ap item_tree c.in-Class.is)
    (c.in_ok-vars-in-Class.ensures ∙ ap (λ l. resolve_vars (entries_of c.args.names.now) (vars_tree l)) c.as_slice.ensures.value)
    (ap all_fields c.in_ok-push-in-Class.ensures.items ∙ map_push fields c.args.classes.now.items c.in_ok-fields-in-Class.fields ∙
    ap (λ fs. all_fields c.args.classes.now.items ++ fs ∷ []) (c.in_ok-fields-in-Class.ensures ∙ ap vars c.as_slice-in-Class.ensures.value))

pub returns-in-Function : goal.returns-in-Function
returns-in-Function c = class_apart (entries_of c.args.names.now) (item_tree c.args.item.now) (function_tree c.in-Function.field-0) _ (ap item_tree c.in-Function.is)
