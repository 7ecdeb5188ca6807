use Rattle.std.proofs.Common.{ap, ◌∙◌, ◌++◌, ◌∷◌, [], map}
use Rattle.lam_syntax.specs.Tree.{item_tree, class_tree, function_tree}
use Rattle.lam_resolve_tables.specs.Entries.{entries_of}
use Rattle.lam_resolve_tables.specs.Tables.{head, heads}
use Rattle.lam_resolve_tables.proofs.Options.{on_ok, map_push}
use Rattle.lam_resolve_tables.proofs.TableSteps.{head_needs, head_joined, head_apart}
use Rattle.lam_resolve_tables.proofs.tables.add_function.Goals as goal

pub resolve_head-requires : goal.resolve_head-requires
resolve_head-requires c = head_needs (entries_of c.args.names.now) (item_tree c.args.item.now) (function_tree c.in-Function.f) (ap item_tree c.in-Function.is) c.requires

pub returns-in-Class : goal.returns-in-Class
returns-in-Class c = head_apart (entries_of c.args.names.now) (item_tree c.args.item.now) (class_tree c.in-Class.field-0) _ (ap item_tree c.in-Class.is)

pub returns-in_ok-head-in-Function : goal.returns-in_ok-head-in-Function
returns-in_ok-head-in-Function c =
    on_ok c.push.result c.push.ensures (λ e.
    head_joined (entries_of c.args.names.now) (item_tree c.args.item.now) (function_tree c.in-Function.f) _ _ (head c.in_ok-head-in-Function.head) (ap item_tree c.in-Function.is) c.in_ok-head-in-Function.ensures
    (ap (map _) e ∙ map_push (λ e. (e.0, head e.1)) (entries_of c.args.functions.now) (c.as_str.result.now, c.in_ok-head-in-Function.head) ∙
    ap (λ w. heads c.args.functions.now ++ (w, head c.in_ok-head-in-Function.head) ∷ []) c.as_str.ensures.value))
