use Rattle.std.proofs.Common.{List, map, sym, ap, ◌∙◌}
use Rattle.std.specs.Option.{option_map}
use Rattle.std.proofs.lemmas.Result.{IfOk-weaker}
use Rattle.lam_value.specs.Shapes.{zero_of}
use Rattle.lam_resolve_tree.specs.declared.ValueType.{ValueType}
use Rattle.lam_resolve_tree.specs.Tree.{types_tree, class_tree}
use Rattle.lam_meaning.specs.Means.{kind_of, class_fields}
use Rattle.source_walk_follow.proofs.Lists.{item_there, none_there}
use Rattle.source_walk_follow.proofs.Beginning.{class_at}
use Rattle.source_walk_follow.proofs.compares.fields_of.Goals as goal

pub returns-in-None : goal.returns-in-None
returns-in-None c =
    c.new.ensures ∙ ap class_fields (sym (class_at c.args.program.now.classes.items c.args.class ∙ ap (option_map class_tree) (none_there c.args.program.now.classes.items c.deref.result.now c.args.class c.deref.ensures.value c.in-None.ensures.lookup.3)))

pub returns-in-Some : goal.returns-in-Some
returns-in-Some c =
    IfOk-weaker c.zeros.result _ _
    (λ vs e.
    e
    ∙ (ap (λ (ts : List ValueType). map (λ t. zero_of (kind_of t)) (types_tree ts)) c.as_slice.ensures.value
    ∙ ap class_fields
    (sym
    (class_at c.args.program.now.classes.items c.args.class ∙ ap (option_map class_tree) (item_there c.args.program.now.classes.items c.deref.result.now c.args.class c.in-Some.it.now c.deref.ensures.value c.in-Some.ensures.lookup.3.0 c.in-Some.ensures.lookup.1)))))
    c.zeros.ensures
