use Rattle.std.proofs.Common.{Ok, List, ap, sym, ◌∙◌}
use Rattle.lam_value.specs.declared.values.Value.TheVariants as value
use Rattle.lam_resolve_tree.specs.declared.Expr.{Expr}
use Rattle.lam_resolve_tree.specs.Tree.{number_value, text_value, bool_value, null_value, local_value, unary_of, binary_of, field_of, element_of, call_of, builtin_of, new_object, new_array, label_of, caps_of, spawn_of, type_tree, option_type_tree, caps_tree, expr_tree, exprs_tree}
use Rattle.lam_resolve_tree.specs.declared.CapItem.{CapItem}
use Rattle.lam_resolve_tree.proofs.Rows.{call_row, builtin_row, label_row, spawn_row}
use Rattle.want_of_memory.specs.declared.NoMemory.{NoMemory}
use Rattle.source_walk_state.specs.declared.Control.TheVariants as control
use Rattle.source_walk_parts.proofs.Steps.{if_ok}
use Rattle.source_walk_parts.specs.States.{state_of}
use Rattle.source_walk_open.proofs.ExprForms.{of_form, number_opens, bool_opens, null_opens, object_opens}
use Rattle.source_walk_open.proofs.exprs.eval.Goals as goal

pub returns-in-Number : goal.returns-in-Number
returns-in-Number c =
    of_form {E = NoMemory} (Ok c.number.result) c.args.depth (state_of c.args.w.now) (state_of c.args.w.now) (expr_tree c.args.e.now) (number_value c.in-Number.n) (ap expr_tree c.in-Number.is) (rw c.number.ensures (number_opens (state_of c.args.w.now) c.args.depth c.in-Number.n))

pub returns-in-Text : goal.returns-in-Text
returns-in-Text c =
    of_form c.text.result c.args.depth (state_of c.args.w.now) (state_of c.args.w.now) (expr_tree c.args.e.now) (text_value c.deref.result.now) (ap expr_tree c.in-Text.is ∙ ap text_value (sym c.deref.ensures.value))
    (if_ok c.text.result _ _ c.text.ensures (λ d h. h c.args.depth (state_of c.args.w.now)))

pub returns-in-Bool : goal.returns-in-Bool
returns-in-Bool c =
    of_form {E = NoMemory} (Ok (control.Give (value.Bool c.in-Bool.b))) c.args.depth (state_of c.args.w.now) (state_of c.args.w.now) (expr_tree c.args.e.now) (bool_value c.in-Bool.b) (ap expr_tree c.in-Bool.is) (bool_opens (state_of c.args.w.now) c.args.depth c.in-Bool.b)

pub returns-in-Null : goal.returns-in-Null
returns-in-Null c =
    of_form {E = NoMemory} (Ok (control.Give value.Nothing)) c.args.depth (state_of c.args.w.now) (state_of c.args.w.now) (expr_tree c.args.e.now) null_value (ap expr_tree c.in-Null.is) (null_opens (state_of c.args.w.now) c.args.depth)

pub returns-in-Local : goal.returns-in-Local
returns-in-Local c =
    of_form c.local.result c.args.depth (state_of c.args.w.now) (state_of c.args.w.now) (expr_tree c.args.e.now) (local_value c.in-Local.slot) (ap expr_tree c.in-Local.is)
    (if_ok c.local.result _ _ c.local.ensures (λ d h. h c.args.depth))

pub returns-in-Unary : goal.returns-in-Unary
returns-in-Unary c =
    of_form c.unary.result c.args.depth (state_of c.args.w.now) (state_of c.unary.new.w) (expr_tree c.args.e.now) (unary_of c.in-Unary.op (expr_tree c.deref-in-Unary.result.now)) (ap expr_tree c.in-Unary.is ∙ ap (λ (x : Expr). unary_of c.in-Unary.op (expr_tree x)) (sym c.deref-in-Unary.ensures)) c.unary.ensures

pub returns-in-Binary : goal.returns-in-Binary
returns-in-Binary c =
    of_form c.binary.result c.args.depth (state_of c.args.w.now) (state_of c.binary.new.w) (expr_tree c.args.e.now) (binary_of c.in-Binary.op (expr_tree c.deref-in-Binary.result.now) (expr_tree c.deref-in-Binary-2.result.now))
    (ap expr_tree c.in-Binary.is ∙ ap (λ (x : Expr). binary_of c.in-Binary.op (expr_tree x) (expr_tree c.in-Binary.right.value)) (sym c.deref-in-Binary.ensures) ∙ ap (λ (x : Expr). binary_of c.in-Binary.op (expr_tree c.deref-in-Binary.result.now) (expr_tree x)) (sym c.deref-in-Binary-2.ensures)) c.binary.ensures

pub returns-in-Field : goal.returns-in-Field
returns-in-Field c =
    of_form c.field.result c.args.depth (state_of c.args.w.now) (state_of c.field.new.w) (expr_tree c.args.e.now) (field_of (expr_tree c.deref-in-Field.result.now) c.in-Field.class c.in-Field.at (type_tree c.in-Field.ty))
    (ap expr_tree c.in-Field.is ∙ ap (λ (x : Expr). field_of (expr_tree x) c.in-Field.class c.in-Field.at (type_tree c.in-Field.ty)) (sym c.deref-in-Field.ensures))
    (if_ok c.field.result _ _ c.field.ensures (λ d h. h c.in-Field.class))

pub returns-in-Element : goal.returns-in-Element
returns-in-Element c =
    of_form c.element.result c.args.depth (state_of c.args.w.now) (state_of c.element.new.w) (expr_tree c.args.e.now) (element_of (expr_tree c.deref-in-Element.result.now) (expr_tree c.deref-in-Element-2.result.now) (type_tree c.in-Element.ty))
    (ap expr_tree c.in-Element.is ∙ ap (λ (x : Expr). element_of (expr_tree x) (expr_tree c.in-Element.index.value) (type_tree c.in-Element.ty)) (sym c.deref-in-Element.ensures) ∙ ap (λ (x : Expr). element_of (expr_tree c.deref-in-Element.result.now) (expr_tree x) (type_tree c.in-Element.ty)) (sym c.deref-in-Element-2.ensures)) c.element.ensures

pub returns-in-Call : goal.returns-in-Call
returns-in-Call c =
    of_form {E = NoMemory} (Ok c.call.result) c.args.depth (state_of c.args.w.now) (state_of c.args.w.now) (expr_tree c.args.e.now) (call_of c.in-Call.function (exprs_tree c.deref-in-Call.result.now))
    (ap expr_tree c.in-Call.is ∙ call_row c.in-Call.function c.in-Call.args ∙ ap (λ (xs : List Expr). call_of c.in-Call.function (exprs_tree xs)) (sym c.deref-in-Call.ensures.value)) (c.call.ensures (state_of c.args.w.now))

pub returns-in-BuiltinCall : goal.returns-in-BuiltinCall
returns-in-BuiltinCall c =
    of_form {E = NoMemory} (Ok c.builtin_call.result) c.args.depth (state_of c.args.w.now) (state_of c.args.w.now) (expr_tree c.args.e.now) (builtin_of c.in-BuiltinCall.call (exprs_tree c.deref-in-BuiltinCall.result.now) (option_type_tree c.in-BuiltinCall.ty))
    (ap expr_tree c.in-BuiltinCall.is ∙ builtin_row c.in-BuiltinCall.call c.in-BuiltinCall.args c.in-BuiltinCall.ty ∙ ap (λ (xs : List Expr). builtin_of c.in-BuiltinCall.call (exprs_tree xs) (option_type_tree c.in-BuiltinCall.ty)) (sym c.deref-in-BuiltinCall.ensures.value)) (c.builtin_call.ensures (state_of c.args.w.now))

pub returns-in-NewClass : goal.returns-in-NewClass
returns-in-NewClass c =
    of_form {E = NoMemory} (Ok (control.New c.in-NewClass.class)) c.args.depth (state_of c.args.w.now) (state_of c.args.w.now) (expr_tree c.args.e.now) (new_object c.in-NewClass.class) (ap expr_tree c.in-NewClass.is) (object_opens (state_of c.args.w.now) c.args.depth c.in-NewClass.class)

pub returns-in-NewArray : goal.returns-in-NewArray
returns-in-NewArray c =
    of_form c.new_array.result c.args.depth (state_of c.args.w.now) (state_of c.new_array.new.w) (expr_tree c.args.e.now) (new_array (type_tree c.in-NewArray.element) (expr_tree c.deref-in-NewArray.result.now))
    (ap expr_tree c.in-NewArray.is ∙ ap (λ (x : Expr). new_array (type_tree c.in-NewArray.element) (expr_tree x)) (sym c.deref-in-NewArray.ensures)) c.new_array.ensures

pub returns-in-LabelOf : goal.returns-in-LabelOf
returns-in-LabelOf c =
    of_form {E = NoMemory} (Ok c.label.result) c.args.depth (state_of c.args.w.now) (state_of c.args.w.now) (expr_tree c.args.e.now) (label_of (exprs_tree c.deref-in-LabelOf.result.now) (exprs_tree c.deref-in-LabelOf-2.result.now))
    (ap expr_tree c.in-LabelOf.is ∙ label_row c.in-LabelOf.s c.in-LabelOf.i ∙ ap (λ (xs : List Expr). label_of (exprs_tree xs) (exprs_tree c.in-LabelOf.i.items)) (sym c.deref-in-LabelOf.ensures.value) ∙ ap (λ (xs : List Expr). label_of (exprs_tree c.deref-in-LabelOf.result.now) (exprs_tree xs)) (sym c.deref-in-LabelOf-2.ensures.value)) (c.label.ensures (state_of c.args.w.now))

pub returns-in-CapsOf : goal.returns-in-CapsOf
returns-in-CapsOf c =
    of_form c.caps.result c.args.depth (state_of c.args.w.now) (state_of c.args.w.now) (expr_tree c.args.e.now) (caps_of (caps_tree c.deref-in-CapsOf.result.now))
    (ap expr_tree c.in-CapsOf.is ∙ ap (λ (xs : List CapItem). caps_of (caps_tree xs)) (sym c.deref-in-CapsOf.ensures.value)) (if_ok c.caps.result _ _ c.caps.ensures (λ d h. h c.args.depth))

pub returns-in-Spawn : goal.returns-in-Spawn
returns-in-Spawn c =
    of_form c.spawn.result c.args.depth (state_of c.args.w.now) (state_of c.spawn.new.w) (expr_tree c.args.e.now) (spawn_of (expr_tree c.deref-in-Spawn.result.now) c.in-Spawn.function (exprs_tree c.deref-in-Spawn-2.result.now))
    (ap expr_tree c.in-Spawn.is ∙ spawn_row c.in-Spawn.caps c.in-Spawn.function c.in-Spawn.args ∙ ap (λ (x : Expr). spawn_of (expr_tree x) c.in-Spawn.function (exprs_tree c.in-Spawn.args.items)) (sym c.deref-in-Spawn.ensures) ∙ ap (λ (xs : List Expr). spawn_of (expr_tree c.deref-in-Spawn.result.now) c.in-Spawn.function (exprs_tree xs)) (sym c.deref-in-Spawn-2.ensures.value)) c.spawn.ensures
