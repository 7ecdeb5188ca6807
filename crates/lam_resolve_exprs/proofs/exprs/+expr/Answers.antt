use Rattle.std.proofs.Common.{◌≡◌, rules, arith, refl, sym, get_or, ap, ◌∙◌, Box, Vec, Global}
use Rattle.std.proofs.lemmas.List.{drop_all}
use Rattle.lam_syntax.specs.Tree.{expr_form, expr_tree, new_array_expr, label_expr, spawn_expr, exprs_tree, id_tree, type_tree, caps_tree}
use Rattle.lam_syntax.specs.declared.Expr.{Expr}
use Rattle.lam_syntax.specs.declared.ExprKind.{ExprKind}
use Rattle.lam_syntax.specs.declared.ExprKind.TheVariants.{Spawn}
use Rattle.lam_syntax.specs.declared.Id.{Id}
use Rattle.lam_syntax.proofs.Rows.{call_row, label_row, spawn_row}
use Rattle.lam_resolve_tables.specs.Resolved.{resolve_args}
use Rattle.lam_resolve_tables.specs.Kinds.{kind_type, given}
use Rattle.lam_resolve_tables.specs.Tables.{tables}
use Rattle.lam_resolve_exprs.specs.Values.{locals, value, args as seen_args}
use Rattle.lam_resolve_tables.proofs.Options.{if_ok}
use Rattle.lam_resolve_exprs.proofs.Arms
use Rattle.lam_resolve_exprs.proofs.Arguments.{args_first, args_needs, args_next, args_last}
use Rattle.lam_resolve_exprs.proofs.exprs.+expr.Goals as goal

pub resolve_expr-resolve_expr-requires : goal.resolve_expr-resolve_expr-requires
resolve_expr-resolve_expr-requires t c =
    let h = Arms.binary_left (tables c.args.t.now) (locals c.args.scope.now) (expr_form c.args.e.now.kind) c.in-Binary.op c.deref.result.now c.in-Binary.left.value c.in-Binary.right.value (ap expr_form c.in-Binary.is) c.deref.ensures c.requires in
    search rules

pub resolve_expr-resolve_expr-requires-in-Binary : goal.resolve_expr-resolve_expr-requires-in-Binary
resolve_expr-resolve_expr-requires-in-Binary t c =
    let h = Arms.binary_right (tables c.args.t.now) (locals c.args.scope.now) (expr_form c.args.e.now.kind) c.in-Binary.op c.deref.result.now c.in-Binary.left.value c.deref-in-Binary.result.now c.in-Binary.right.value (value c.in_ok-first-in-Binary.first) (ap expr_form c.in-Binary.is) c.deref.ensures c.deref-in-Binary.ensures c.in_ok-first-in-Binary.ensures c.requires in
    search rules

pub resolve_expr-returns-in_ok-second-in-Binary : goal.resolve_expr-returns-in_ok-second-in-Binary
resolve_expr-returns-in_ok-second-in-Binary t c =
    if_ok c.binary.result _ _ c.binary.ensures (λ v e.
    Arms.binary_done (tables c.args.t.now) (locals c.args.scope.now) (expr_form c.args.e.now.kind) c.in-Binary.op c.deref.result.now c.in-Binary.left.value c.deref-in-Binary.result.now c.in-Binary.right.value (value c.in_ok-first-in-Binary.first) (value c.in_ok-second-in-Binary.second) (value v) (ap expr_form c.in-Binary.is) c.deref.ensures c.deref-in-Binary.ensures c.in_ok-first-in-Binary.ensures c.in_ok-second-in-Binary.ensures e)

pub resolve_expr-resolve_expr-requires-in-Unary : goal.resolve_expr-resolve_expr-requires-in-Unary
resolve_expr-resolve_expr-requires-in-Unary t c =
    let h = Arms.unary_first (tables c.args.t.now) (locals c.args.scope.now) (expr_form c.args.e.now.kind) c.in-Unary.op c.deref-in-Unary.result.now c.in-Unary.of.value (ap expr_form c.in-Unary.is) c.deref-in-Unary.ensures c.requires in
    search rules

pub resolve_expr-returns-in_ok-operand-in-Unary : goal.resolve_expr-returns-in_ok-operand-in-Unary
resolve_expr-returns-in_ok-operand-in-Unary t c =
    if_ok c.unary.result _ _ c.unary.ensures (λ v e.
    Arms.unary_done (tables c.args.t.now) (locals c.args.scope.now) (expr_form c.args.e.now.kind) c.in-Unary.op c.deref-in-Unary.result.now c.in-Unary.of.value (value c.in_ok-operand-in-Unary.operand) (value v) (ap expr_form c.in-Unary.is) c.deref-in-Unary.ensures c.in_ok-operand-in-Unary.ensures e)

pub resolve_expr-resolve_expr-requires-in-Field : goal.resolve_expr-resolve_expr-requires-in-Field
resolve_expr-resolve_expr-requires-in-Field t c =
    let h = Arms.field_first (tables c.args.t.now) (locals c.args.scope.now) (expr_form c.args.e.now.kind) (id_tree c.in-Field.field) (id_tree c.in-Field.field).word c.deref-in-Field.result.now c.in-Field.of.value (ap expr_form c.in-Field.is) c.deref-in-Field.ensures c.requires in
    search rules

pub resolve_expr-field_read-requires : goal.resolve_expr-field_read-requires
resolve_expr-field_read-requires t c =
    Arms.field_needs (tables c.args.t.now) (locals c.args.scope.now) (expr_form c.args.e.now.kind) (id_tree c.in-Field.field) c.as_str.result.now c.deref-in-Field.result.now c.in-Field.of.value (ap expr_form c.in-Field.is) c.deref-in-Field.ensures (value c.in_ok-object-in-Field.object) c.as_str.ensures.value c.in_ok-object-in-Field.ensures c.requires

pub resolve_expr-returns-in_ok-object-in-Field : goal.resolve_expr-returns-in_ok-object-in-Field
resolve_expr-returns-in_ok-object-in-Field t c =
    if_ok c.field_read.result _ _ c.field_read.ensures (λ v e.
    Arms.field_done (tables c.args.t.now) (locals c.args.scope.now) (expr_form c.args.e.now.kind) (id_tree c.in-Field.field) c.as_str.result.now c.deref-in-Field.result.now c.in-Field.of.value (ap expr_form c.in-Field.is) c.deref-in-Field.ensures (value c.in_ok-object-in-Field.object) (value v) c.as_str.ensures.value c.in_ok-object-in-Field.ensures e)

pub resolve_expr-resolve_expr-requires-in-Element : goal.resolve_expr-resolve_expr-requires-in-Element
resolve_expr-resolve_expr-requires-in-Element t c =
    let h = Arms.element_first (tables c.args.t.now) (locals c.args.scope.now) (expr_form c.args.e.now.kind) c.deref-in-Element.result.now c.in-Element.of.value c.in-Element.index.value c.in-Element.index.value (ap expr_form c.in-Element.is) c.deref-in-Element.ensures c.requires in
    search rules

pub resolve_expr-resolve_expr-requires-in-Element-2 : goal.resolve_expr-resolve_expr-requires-in-Element-2
resolve_expr-resolve_expr-requires-in-Element-2 t c =
    let h = Arms.element_second (tables c.args.t.now) (locals c.args.scope.now) (expr_form c.args.e.now.kind) c.deref-in-Element.result.now c.in-Element.of.value c.deref-in-Element-2.result.now c.in-Element.index.value (ap expr_form c.in-Element.is) c.deref-in-Element.ensures (value c.in_ok-array-in-Element.array) c.deref-in-Element-2.ensures c.in_ok-array-in-Element.ensures c.requires in
    search rules

pub resolve_expr-element_read-requires : goal.resolve_expr-element_read-requires
resolve_expr-element_read-requires t c =
    Arms.element_needs (tables c.args.t.now) (locals c.args.scope.now) (expr_form c.args.e.now.kind) c.deref-in-Element.result.now c.in-Element.of.value c.deref-in-Element-2.result.now c.in-Element.index.value (ap expr_form c.in-Element.is) c.deref-in-Element.ensures (value c.in_ok-array-in-Element.array) (value c.in_ok-place-in-Element.place) c.deref-in-Element-2.ensures c.in_ok-array-in-Element.ensures c.in_ok-place-in-Element.ensures c.requires

pub resolve_expr-returns-in_ok-place-in-Element : goal.resolve_expr-returns-in_ok-place-in-Element
resolve_expr-returns-in_ok-place-in-Element t c =
    if_ok c.element_read.result _ _ c.element_read.ensures (λ v e.
    Arms.element_done (tables c.args.t.now) (locals c.args.scope.now) (expr_form c.args.e.now.kind) c.deref-in-Element.result.now c.in-Element.of.value c.deref-in-Element-2.result.now c.in-Element.index.value (ap expr_form c.in-Element.is) c.deref-in-Element.ensures (value c.in_ok-array-in-Element.array) (value c.in_ok-place-in-Element.place) (value v) c.deref-in-Element-2.ensures c.in_ok-array-in-Element.ensures c.in_ok-place-in-Element.ensures e)

pub resolve_expr-local_value-requires : goal.resolve_expr-local_value-requires
resolve_expr-local_value-requires t c =
    Arms.name_needs (tables c.args.t.now) (locals c.args.scope.now) (expr_form c.args.e.now.kind) _ c.as_str-in-Name.result.now (ap expr_form c.in-Name.is) c.as_str-in-Name.ensures.value c.requires

pub resolve_expr-resolve_args-requires : goal.resolve_expr-resolve_args-requires
resolve_expr-resolve_args-requires t c =
    let h = Arms.call_args (tables c.args.t.now) (locals c.args.scope.now) (expr_form c.args.e.now.kind) (id_tree c.in-Call.name) (id_tree c.in-Call.name).word (exprs_tree c.in-Call.args.items) (ap expr_form c.in-Call.is ∙ call_row c.in-Call.name c.in-Call.args) c.requires in
    search rules

pub resolve_expr-called-requires : goal.resolve_expr-called-requires
resolve_expr-called-requires t c =
    Arms.call_needs (tables c.args.t.now) (locals c.args.scope.now) (expr_form c.args.e.now.kind) (id_tree c.in-Call.name) c.as_str-in-Call.result.now (exprs_tree c.in-Call.args.items) (ap expr_form c.in-Call.is ∙ call_row c.in-Call.name c.in-Call.args) (seen_args c.in_ok-given-in-Call.given) c.as_str-in-Call.ensures.value c.in_ok-given-in-Call.ensures c.requires

pub resolve_expr-returns-in_ok-given-in-Call : goal.resolve_expr-returns-in_ok-given-in-Call
resolve_expr-returns-in_ok-given-in-Call t c =
    if_ok c.called.result _ _ c.called.ensures (λ v e.
    Arms.call_done (tables c.args.t.now) (locals c.args.scope.now) (expr_form c.args.e.now.kind) (id_tree c.in-Call.name) c.as_str-in-Call.result.now (exprs_tree c.in-Call.args.items) (ap expr_form c.in-Call.is ∙ call_row c.in-Call.name c.in-Call.args) (seen_args c.in_ok-given-in-Call.given) (value v) c.as_str-in-Call.ensures.value c.in_ok-given-in-Call.ensures e)

pub resolve_expr-new_object-requires : goal.resolve_expr-new_object-requires
resolve_expr-new_object-requires t c =
    Arms.class_needs (tables c.args.t.now) (locals c.args.scope.now) (expr_form c.args.e.now.kind) (id_tree c.in-NewClass.class) c.as_str-in-NewClass.result.now (ap expr_form c.in-NewClass.is) c.as_str-in-NewClass.ensures.value c.requires

pub resolve_expr-caps_of-requires : goal.resolve_expr-caps_of-requires
resolve_expr-caps_of-requires t c =
    Arms.caps_needs (tables c.args.t.now) (locals c.args.scope.now) (expr_form c.args.e.now.kind) (caps_tree c.as_slice.result.now) (caps_tree c.in-CapsOf.items.items) (ap expr_form c.in-CapsOf.is) (ap caps_tree c.as_slice.ensures.value) c.requires

pub resolve_expr-resolve_array-requires : goal.resolve_expr-resolve_array-requires
resolve_expr-resolve_array-requires t c =
    let h = Arms.form_needs (tables c.args.t.now) (locals c.args.scope.now) (expr_form c.args.e.now.kind) (new_array_expr (type_tree c.in-NewArray.element) (expr_tree c.deref-in-NewArray.result.now)) (ap expr_form c.in-NewArray.is ∙ ap (λ (x : Expr). new_array_expr (type_tree c.in-NewArray.element) (expr_tree x)) (sym c.deref-in-NewArray.ensures)) c.requires in
    search rules

pub resolve_expr-returns-in-NewArray : goal.resolve_expr-returns-in-NewArray
resolve_expr-returns-in-NewArray t c = if_ok c.resolve_array.result _ _ c.resolve_array.ensures (λ v h. Arms.form_done (tables c.args.t.now) (locals c.args.scope.now) (expr_form c.args.e.now.kind) (new_array_expr (type_tree c.in-NewArray.element) (expr_tree c.deref-in-NewArray.result.now)) (value v) (ap expr_form c.in-NewArray.is ∙ ap (λ (x : Expr). new_array_expr (type_tree c.in-NewArray.element) (expr_tree x)) (sym c.deref-in-NewArray.ensures)) h)

pub resolve_expr-resolve_label-requires : goal.resolve_expr-resolve_label-requires
resolve_expr-resolve_label-requires t c =
    let h = Arms.form_needs (tables c.args.t.now) (locals c.args.scope.now) (expr_form c.args.e.now.kind) (label_expr (exprs_tree c.in-LabelOf.s.items) (exprs_tree c.in-LabelOf.i.items)) (ap expr_form c.in-LabelOf.is ∙ label_row c.in-LabelOf.s c.in-LabelOf.i) c.requires in
    search rules

pub resolve_expr-returns-in-LabelOf : goal.resolve_expr-returns-in-LabelOf
resolve_expr-returns-in-LabelOf t c = if_ok c.resolve_label.result _ _ c.resolve_label.ensures (λ v h. Arms.form_done (tables c.args.t.now) (locals c.args.scope.now) (expr_form c.args.e.now.kind) (label_expr (exprs_tree c.in-LabelOf.s.items) (exprs_tree c.in-LabelOf.i.items)) (value v) (ap expr_form c.in-LabelOf.is ∙ label_row c.in-LabelOf.s c.in-LabelOf.i) h)

-- a spawn, whose capabilities and name were reached as x and f
spawned : {k : ExprKind} {x : Expr} {f : Id} (c : Box Expr Global) (g : Box Id Global) (args : Vec Expr Global) → k ≡ Spawn c g args → x ≡ c.value → f ≡ g.value → expr_form k ≡ spawn_expr (expr_tree x) (id_tree f) (exprs_tree args.items)
spawned {k} {x} {f} c g args e p q =
    ap expr_form e ∙ spawn_row c g args ∙ ap (λ (x : Expr). spawn_expr (expr_tree x) (id_tree g.value) (exprs_tree args.items)) (sym p) ∙
    ap (λ (f : Id). spawn_expr (expr_tree x) (id_tree f) (exprs_tree args.items)) (sym q)

pub resolve_expr-resolve_spawn-requires : goal.resolve_expr-resolve_spawn-requires
resolve_expr-resolve_spawn-requires t c =
    let h = Arms.form_needs (tables c.args.t.now) (locals c.args.scope.now) (expr_form c.args.e.now.kind) (spawn_expr (expr_tree c.deref-in-Spawn.result.now) (id_tree c.deref-in-Spawn-2.result.now) (exprs_tree c.in-Spawn.args.items)) (spawned c.in-Spawn.caps c.in-Spawn.function c.in-Spawn.args c.in-Spawn.is c.deref-in-Spawn.ensures c.deref-in-Spawn-2.ensures) c.requires in
    search rules

pub resolve_expr-returns-in-Spawn : goal.resolve_expr-returns-in-Spawn
resolve_expr-returns-in-Spawn t c = if_ok c.resolve_spawn.result _ _ c.resolve_spawn.ensures (λ v h. Arms.form_done (tables c.args.t.now) (locals c.args.scope.now) (expr_form c.args.e.now.kind) (spawn_expr (expr_tree c.deref-in-Spawn.result.now) (id_tree c.deref-in-Spawn-2.result.now) (exprs_tree c.in-Spawn.args.items)) (value v) (spawned c.in-Spawn.caps c.in-Spawn.function c.in-Spawn.args c.in-Spawn.is c.deref-in-Spawn.ensures c.deref-in-Spawn-2.ensures) h)

pub resolve_array-resolve_type-requires : goal.resolve_array-resolve_type-requires
resolve_array-resolve_type-requires t c =
    Arms.array_type (tables c.args.t.now) (locals c.args.scope.now) _ (type_tree c.args.element.now) c.args.length.now c.args.length.now refl c.requires

pub resolve_array-resolve_expr-requires : goal.resolve_array-resolve_expr-requires
resolve_array-resolve_expr-requires t c =
    let h = Arms.array_length (tables c.args.t.now) (locals c.args.scope.now) _ (type_tree c.args.element.now) c.args.length.now c.args.length.now refl (kind_type c.in_ok-kind.kind) refl c.in_ok-kind.ensures c.requires in
    search rules

pub resolve_array-returns : goal.resolve_array-returns
resolve_array-returns t c =
    if_ok c.new_array.result _ _ c.new_array.ensures (λ v e.
    Arms.array_done (tables c.args.t.now) (locals c.args.scope.now) _ (type_tree c.args.element.now) c.args.length.now c.args.length.now refl (kind_type c.in_ok-kind.kind) (value c.in_ok-size.size) (value v) refl c.in_ok-kind.ensures c.in_ok-size.ensures e)

pub resolve_label-resolve_args-requires : goal.resolve_label-resolve_args-requires
resolve_label-resolve_args-requires t c =
    let h = Arms.label_first (tables c.args.t.now) (locals c.args.scope.now) _ (exprs_tree c.args.s.now.items) (exprs_tree c.args.i.now.items) refl c.requires in
    search rules

pub resolve_label-resolve_args-requires-2 : goal.resolve_label-resolve_args-requires-2
resolve_label-resolve_args-requires-2 t c =
    let h = Arms.label_second (tables c.args.t.now) (locals c.args.scope.now) _ (exprs_tree c.args.s.now.items) (exprs_tree c.args.i.now.items) refl (seen_args c.in_ok-secrecy.secrecy) c.in_ok-secrecy.ensures c.requires in
    search rules

pub resolve_label-returns : goal.resolve_label-returns
resolve_label-returns t c =
    Arms.label_done (tables c.args.t.now) (locals c.args.scope.now) _ (exprs_tree c.args.s.now.items) (exprs_tree c.args.i.now.items) refl (seen_args c.in_ok-secrecy.secrecy) (seen_args c.in_ok-integrity.integrity) (value c.label_of.result) c.in_ok-secrecy.ensures c.in_ok-integrity.ensures c.label_of.ensures

pub resolve_spawn-resolve_expr-requires : goal.resolve_spawn-resolve_expr-requires
resolve_spawn-resolve_expr-requires t c =
    let h = Arms.spawn_caps (tables c.args.t.now) (locals c.args.scope.now) _ (id_tree c.args.function.now) (id_tree c.args.function.now).word (exprs_tree c.args.args.now.items) c.args.caps.now c.args.caps.now refl refl c.requires in
    search rules

pub resolve_spawn-function_number-number-requires : goal.resolve_spawn-function_number-number-requires
resolve_spawn-function_number-number-requires t c =
    Arms.spawn_function (tables c.args.t.now) (locals c.args.scope.now) _ (id_tree c.args.function.now) c.as_str.result.now (exprs_tree c.args.args.now.items) c.args.caps.now c.args.caps.now refl refl (value c.in_ok-held.held) c.as_str.ensures.value c.in_ok-held.ensures c.requires

pub resolve_spawn-resolve_args-requires : goal.resolve_spawn-resolve_args-requires
resolve_spawn-resolve_args-requires t c =
    let h = Arms.spawn_args (tables c.args.t.now) (locals c.args.scope.now) _ (id_tree c.args.function.now) c.as_str.result.now (exprs_tree c.args.args.now.items) c.args.caps.now c.args.caps.now refl refl (value c.in_ok-held.held) c.function_number-number.result c.as_str.ensures.value c.in_ok-held.ensures c.function_number-number.ensures c.requires in
    search rules

pub resolve_spawn-returns : goal.resolve_spawn-returns
resolve_spawn-returns t c =
    if_ok c.spawn.result _ _ c.spawn.ensures (λ v e.
    Arms.spawn_done (tables c.args.t.now) (locals c.args.scope.now) _ (id_tree c.args.function.now) c.as_str.result.now (exprs_tree c.args.args.now.items) c.args.caps.now c.args.caps.now refl refl (value c.in_ok-held.held) (value v) c.function_number-number.result (seen_args c.in_ok-given.given) c.as_str.ensures.value c.in_ok-held.ensures c.function_number-number.ensures c.in_ok-given.ensures e)

pub resolve_args-loop-i-init : goal.resolve_args-loop-i-init
resolve_args-loop-i-init t c =
    args_first _ _ _ c.in_ok-it.ensures.items refl

pub resolve_args-resolve_expr-requires : goal.resolve_args-resolve_expr-requires
resolve_args-resolve_expr-requires t c =
    let h = args_needs (tables c.args.t.now) (locals c.args.scope.now) c.args.args.now.items c.loop-i.i c.x-item.result (omega arith) (c.x-item.is ∙ ap (λ l. get_or l c.loop-i.i c.x-item.result) c.deref-x-items.ensures.value) (resolve_args (tables c.args.t.now) (locals c.args.scope.now) (exprs_tree c.args.args.now.items)) c.loop-i.it.items (given c.loop-i.first) c.loop-i.invariant c.requires in
    search rules

pub resolve_args-loop-i-preserved : goal.resolve_args-loop-i-preserved
resolve_args-loop-i-preserved t c =
    args_next (tables c.args.t.now) (locals c.args.scope.now) c.args.args.now.items c.loop-i.i c.x-item.result (omega arith) (c.x-item.is ∙ ap (λ l. get_or l c.loop-i.i c.x-item.result) c.deref-x-items.ensures.value) _ c.loop-i.it.items _ (given c.loop-i.first) _ c.in_ok-v.v.it (given c.in_ok-v.v.gives) c.loop-i.invariant c.in_ok-v.ensures c.in_ok-push.ensures.items c.first_given-first.ensures

pub resolve_args-returns : goal.resolve_args-returns
resolve_args-returns t c =
    args_last _ _ _ c.loop-i.i _ c.loop-i.invariant (ap (λ l. resolve_args (tables c.args.t.now) (locals c.args.scope.now) (exprs_tree l)) (drop_all c.loop-i.i c.args.args.now.items (omega arith)))
