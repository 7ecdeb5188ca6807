use Rattle.std.proofs.Common.{rules, ◌<◌, IsSome, sym, ap, ◌∙◌}
use Rattle.lam_syntax.specs.Tree.{type_form, type_tree}
use Rattle.lam_resolve_laws.specs.Resolved.{resolve_type}
use Rattle.lam_resolve_tables.specs.Entries.{entries_of}
use Rattle.lam_resolve_tables.specs.Kinds.{kind_type}
use Rattle.lam_resolve_tables.specs.Named.{seen_found}
use Rattle.lam_resolve_tables.proofs.Sizes.{type_size}
use Rattle.lam_resolve_tables.proofs.Options.{some_not_none, if_ok}
use Rattle.lam_resolve_tables.proofs.Types.{class_some, class_done, array_some, array_smaller, array_done}
use Rattle.lam_resolve_tables.proofs.kinds.+resolve_type.Goals as goal

pub unreachable-requires : goal.unreachable-requires
unreachable-requires t c =
    some_not_none _ (class_some (entries_of c.args.names.now) (type_form c.args.t.now.kind) _ c.as_str.result.now (ap type_form c.in-Class.is) c.as_str.ensures.value c.requires)
    (sym c.find.ensures ∙ ap seen_found c.in_default.is)

pub resolve_type-requires : goal.resolve_type-requires
resolve_type-requires t c =
    let known : IsSome (resolve_type (entries_of c.args.names.now) (type_tree c.deref.result.now)) =
    array_some (entries_of c.args.names.now) (type_form c.args.t.now.kind) c.deref.result.now c.in-Array.element.value (ap type_form c.in-Array.is) c.deref.ensures c.requires in
    let smaller : type_size (type_tree c.deref.result.now) < type_size (type_tree c.args.t.now) =
    array_smaller (entries_of c.args.names.now) (type_form c.args.t.now.kind) c.deref.result.now c.in-Array.element.value (ap type_form c.in-Array.is) c.deref.ensures in
    search rules

pub returns-in-Some : goal.returns-in-Some
returns-in-Some t c =
    class_done (entries_of c.args.names.now) (type_form c.args.t.now.kind) _ c.as_str.result.now _ (kind_type c.plain-in-Class.result) (ap type_form c.in-Class.is) c.as_str.ensures.value
    (sym (ap seen_found c.in-Some.is) ∙ c.find.ensures) c.plain-in-Class.ensures

pub returns-in_ok-resolve_type-in-Array : goal.returns-in_ok-resolve_type-in-Array
returns-in_ok-resolve_type-in-Array t c =
    if_ok c.array_of.result _ _ c.array_of.ensures
    (λ k e. array_done (entries_of c.args.names.now) (type_form c.args.t.now.kind) c.deref.result.now c.in-Array.element.value (kind_type c.in_ok-resolve_type-in-Array.field-0) (kind_type k) (ap type_form c.in-Array.is) c.deref.ensures c.in_ok-resolve_type-in-Array.ensures e)
