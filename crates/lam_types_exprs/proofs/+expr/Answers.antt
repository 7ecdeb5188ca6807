use Rattle.std.proofs.Common.{◌≡◌, ℕ, List, length, get_or, refl, sym, ap, ◌∙◌, arith, Box, Vec, Global, Option, Result, subst}
use Rattle.std.proofs.lemmas.Result.{err_from_is_err_and}
use Rattle.lam_syntax.proofs.Rows.{call_row, label_row, spawn_row}
use Rattle.lam_syntax.specs.Tree.{ExprTree, ExprList, unary_expr, field_expr, new_array_expr, spawn_expr, expr_form, expr_tree, exprs_tree, type_tree, id_tree}
use Rattle.lam_builtins.specs.Builtins.{Signature}
use Rattle.lam_types_kinds.specs.Verdicts.{Fine}
use Rattle.lam_types_kinds.specs.Tables.{Names, Decls, find}
use Rattle.lam_types_kinds.specs.Values.{Gives, decls, names, places, given, value_type, option_signature, answer}
use Rattle.lam_types_kinds.specs.declared.types.Got.{Got}
use Rattle.lam_types_kinds.specs.declared.fault.TypeFault.{TypeFault}
use Rattle.lam_types_kinds.proofs.Steps.{stops}
use Rattle.lam_types_exprs.specs.Exprs.{given_of, args_given, placed, spawnable, started}
use Rattle.lam_types_exprs.proofs.Arms
use Rattle.lam_types_exprs.proofs.Loops.{args_stop, args_next, tags_stop, count_exprs, called_count, called_args, called_fine}
use Rattle.lam_syntax.specs.declared.Expr.{Expr}
use Rattle.lam_syntax.specs.declared.Id.{Id}
use Rattle.lam_syntax.specs.declared.ExprKind.{ExprKind}
use Rattle.lam_syntax.specs.declared.ExprKind.TheVariants.{Spawn}
use Rattle.lam_types_exprs.proofs.+expr.Goals as goal

through : (xs ys : List Expr) (i : ℕ) (x : Expr) → xs ≡ ys → x ≡ get_or xs i x → x ≡ get_or ys i x
through xs ys i x e h = h ∙ ap (λ (l : List Expr). get_or l i x) e

-- the name in a spawn was reached as x
spawned : (k : ExprKind) (c : Box Expr Global) (f : Box Id Global) (args : Vec Expr Global) (x : Id) → k ≡ Spawn c f args → x ≡ f.value → expr_form k ≡ spawn_expr (expr_tree c.value) (id_tree x) (exprs_tree args.items)
spawned k c f args x e h = ap expr_form e ∙ spawn_row c f args ∙ ap (λ (x : Id). spawn_expr (expr_tree c.value) (id_tree x) (exprs_tree args.items)) (sym h)

spawned_head : (d : Decls) (at : ℕ) (x y : Id) (n : ℕ) (o : Option Signature) → x ≡ y → spawnable at (find (id_tree x).word d.functions) n ≡ Fine o → spawnable at (find (id_tree y).word d.functions) n ≡ Fine o
spawned_head d at x y n o e h = ap (λ (x : Id). spawnable at (find (id_tree x).word d.functions) n) (sym e) ∙ h

spawned_rest : (d : Decls) (env : Names) (x y : Id) (args : ExprList) (o : Option Signature) (r : Result Got TypeFault) → x ≡ y → Gives r (started x.at o (λ ps. args_given d env ps args)) → Gives r (started y.at o (λ ps. args_given d env ps args))
spawned_rest d env x y args o r e h = subst (λ (x : Id). Gives r (started x.at o (λ ps. args_given d env ps args))) e h

pub check_expr-returns-in_err-first-in-Binary : goal.check_expr-returns-in_err-first-in-Binary
check_expr-returns-in_err-first-in-Binary t c =
    let p = err_from_is_err_and c.from_residual.result c.from_residual.ensures.1 in
    rw (p.1, p.2) (Arms.binary_first (decls c.args.known.now) (names c.args.env.now.entries) c.args.e.now.at (expr_form c.args.e.now.kind) c.in_err-first-in-Binary.field-0.0 c.in-Binary.op c.deref.result.now c.in-Binary.left.value c.in-Binary.right.value (ap expr_form c.in-Binary.is) c.deref.ensures c.in_err-first-in-Binary.ensures)

pub check_expr-returns-in_err-second-in-Binary : goal.check_expr-returns-in_err-second-in-Binary
check_expr-returns-in_err-second-in-Binary t c =
    let p = err_from_is_err_and c.from_residual-in_err-second-in-Binary.result c.from_residual-in_err-second-in-Binary.ensures.1 in
    rw (p.1, p.2) (Arms.binary_second (decls c.args.known.now) (names c.args.env.now.entries) c.args.e.now.at (expr_form c.args.e.now.kind) c.in_err-second-in-Binary.field-0.0 c.in-Binary.op (given c.in_ok-first-in-Binary.first) c.deref.result.now c.in-Binary.left.value c.deref-in-Binary.result.now c.in-Binary.right.value (ap expr_form c.in-Binary.is) c.deref.ensures c.in_ok-first-in-Binary.ensures c.deref-in-Binary.ensures c.in_err-second-in-Binary.ensures)

pub check_expr-returns-in_err-got-in-Element : goal.check_expr-returns-in_err-got-in-Element
check_expr-returns-in_err-got-in-Element t c =
    let p = err_from_is_err_and c.from_residual-in_err-got-in-Element.result c.from_residual-in_err-got-in-Element.ensures.1 in
    rw (p.1, p.2) (Arms.element_first (decls c.args.known.now) (names c.args.env.now.entries) c.args.e.now.at (expr_form c.args.e.now.kind) c.in_err-got-in-Element.field-0.0 c.deref-in-Element.result.now c.in-Element.of.value c.in-Element.index.value (ap expr_form c.in-Element.is) c.deref-in-Element.ensures c.in_err-got-in-Element.ensures)

pub check_expr-returns-in_err-check_at-in-Element : goal.check_expr-returns-in_err-check_at-in-Element
check_expr-returns-in_err-check_at-in-Element t c =
    let p = err_from_is_err_and c.from_residual-in_err-check_at-in-Element.result c.from_residual-in_err-check_at-in-Element.ensures.1 in
    rw (p.1, p.2) (Arms.element_second (decls c.args.known.now) (names c.args.env.now.entries) c.args.e.now.at (expr_form c.args.e.now.kind) c.in_err-check_at-in-Element.field-0.0 (given c.in_ok-got-in-Element.got) c.deref-in-Element.result.now c.in-Element.of.value c.deref-in-Element-2.result.now c.in-Element.index.value (ap expr_form c.in-Element.is) c.deref-in-Element.ensures c.in_ok-got-in-Element.ensures c.deref-in-Element-2.ensures c.in_err-check_at-in-Element.ensures)

pub check_expr-returns-in_err-check_tags-in-LabelOf : goal.check_expr-returns-in_err-check_tags-in-LabelOf
check_expr-returns-in_err-check_tags-in-LabelOf t c =
    let p = err_from_is_err_and c.from_residual-in_err-check_tags-in-LabelOf.result c.from_residual-in_err-check_tags-in-LabelOf.ensures.1 in
    rw (p.1, p.2) (Arms.label_first (decls c.args.known.now) (names c.args.env.now.entries) c.args.e.now.at (expr_form c.args.e.now.kind) c.in_err-check_tags-in-LabelOf.field-0.0 (exprs_tree c.in-LabelOf.s.items) (exprs_tree c.in-LabelOf.i.items) (ap expr_form c.in-LabelOf.is ∙ label_row c.in-LabelOf.s c.in-LabelOf.i) c.in_err-check_tags-in-LabelOf.ensures)

pub check_expr-returns-in_err-check_tags-in-LabelOf-2 : goal.check_expr-returns-in_err-check_tags-in-LabelOf-2
check_expr-returns-in_err-check_tags-in-LabelOf-2 t c =
    let p = err_from_is_err_and c.from_residual-in_err-check_tags-in-LabelOf-2.result c.from_residual-in_err-check_tags-in-LabelOf-2.ensures.1 in
    rw (p.1, p.2) (Arms.label_second (decls c.args.known.now) (names c.args.env.now.entries) c.args.e.now.at (expr_form c.args.e.now.kind) c.in_err-check_tags-in-LabelOf-2.field-0.0 (exprs_tree c.in-LabelOf.s.items) (exprs_tree c.in-LabelOf.i.items) (ap expr_form c.in-LabelOf.is ∙ label_row c.in-LabelOf.s c.in-LabelOf.i) c.in_ok-check_tags-in-LabelOf.ensures c.in_err-check_tags-in-LabelOf-2.ensures)

pub check_expr-returns-in_err-call-in-Spawn : goal.check_expr-returns-in_err-call-in-Spawn
check_expr-returns-in_err-call-in-Spawn t c =
    let p = err_from_is_err_and c.from_residual-in_err-call-in-Spawn.result c.from_residual-in_err-call-in-Spawn.ensures.1 in
    rw (p.1, p.2) (Arms.spawn_head (decls c.args.known.now) (names c.args.env.now.entries) c.args.e.now.at (expr_form c.args.e.now.kind) c.in_err-call-in-Spawn.field-0.0 (expr_tree c.in-Spawn.caps.value) (id_tree c.deref-in-Spawn.result.now) (exprs_tree c.in-Spawn.args.items) (length c.in-Spawn.args.items) (spawned c.args.e.now.kind c.in-Spawn.caps c.in-Spawn.function c.in-Spawn.args c.deref-in-Spawn.result.now c.in-Spawn.is c.deref-in-Spawn.ensures) (sym (count_exprs c.in-Spawn.args.items)) c.in_err-call-in-Spawn.ensures.meets)

pub check_expr-returns-in_err-check_at-in-Spawn : goal.check_expr-returns-in_err-check_at-in-Spawn
check_expr-returns-in_err-check_at-in-Spawn t c =
    let p = err_from_is_err_and c.from_residual-in_err-check_at-in-Spawn.result c.from_residual-in_err-check_at-in-Spawn.ensures.1 in
    rw (p.1, p.2) (Arms.spawn_caps (decls c.args.known.now) (names c.args.env.now.entries) c.args.e.now.at (expr_form c.args.e.now.kind) c.in_err-check_at-in-Spawn.field-0.0 (option_signature c.in_ok-call-in-Spawn.call) c.deref-in-Spawn-2.result.now c.in-Spawn.caps.value (id_tree c.deref-in-Spawn.result.now) (exprs_tree c.in-Spawn.args.items) (length c.in-Spawn.args.items) (spawned c.args.e.now.kind c.in-Spawn.caps c.in-Spawn.function c.in-Spawn.args c.deref-in-Spawn.result.now c.in-Spawn.is c.deref-in-Spawn.ensures) (sym (count_exprs c.in-Spawn.args.items)) c.in_ok-call-in-Spawn.ensures.meets c.deref-in-Spawn-2.ensures c.in_err-check_at-in-Spawn.ensures)

pub check_expr-returns-in-Unary : goal.check_expr-returns-in-Unary
check_expr-returns-in-Unary t c = Arms.gives_through (decls c.args.known.now) (names c.args.env.now.entries) c.args.e.now.at (expr_form c.args.e.now.kind) c.check_prefix.result (unary_expr c.in-Unary.op) c.deref-in-Unary.result.now c.in-Unary.of.value (ap expr_form c.in-Unary.is) c.deref-in-Unary.ensures c.check_prefix.ensures

pub check_expr-returns-in-Field : goal.check_expr-returns-in-Field
check_expr-returns-in-Field t c = Arms.gives_through (decls c.args.known.now) (names c.args.env.now.entries) c.args.e.now.at (expr_form c.args.e.now.kind) c.check_access.result (λ (e : ExprTree). field_expr e (id_tree c.in-Field.field)) c.deref-in-Field.result.now c.in-Field.of.value (ap expr_form c.in-Field.is) c.deref-in-Field.ensures c.check_access.ensures

pub check_expr-returns-in-NewArray : goal.check_expr-returns-in-NewArray
check_expr-returns-in-NewArray t c = Arms.gives_through (decls c.args.known.now) (names c.args.env.now.entries) c.args.e.now.at (expr_form c.args.e.now.kind) c.check_array.result (new_array_expr (type_tree c.in-NewArray.element)) c.deref-in-NewArray.result.now c.in-NewArray.length.value (ap expr_form c.in-NewArray.is) c.deref-in-NewArray.ensures c.check_array.ensures

pub check_expr-returns-in-Call : goal.check_expr-returns-in-Call
check_expr-returns-in-Call t c = Arms.gives_form (decls c.args.known.now) (names c.args.env.now.entries) c.args.e.now.at (expr_form c.args.e.now.kind) c.check_call.result _ (ap expr_form c.in-Call.is ∙ call_row c.in-Call.name c.in-Call.args) c.check_call.ensures

pub check_expr-returns-in_ok-check_tags-in-LabelOf-2 : goal.check_expr-returns-in_ok-check_tags-in-LabelOf-2
check_expr-returns-in_ok-check_tags-in-LabelOf-2 t c = Arms.label_fine (decls c.args.known.now) (names c.args.env.now.entries) c.args.e.now.at (expr_form c.args.e.now.kind) (exprs_tree c.in-LabelOf.s.items) (exprs_tree c.in-LabelOf.i.items) (ap expr_form c.in-LabelOf.is ∙ label_row c.in-LabelOf.s c.in-LabelOf.i) c.in_ok-check_tags-in-LabelOf.ensures c.in_ok-check_tags-in-LabelOf-2.ensures

pub check_expr-returns-in_ok-check_at-in-Spawn : goal.check_expr-returns-in_ok-check_at-in-Spawn
check_expr-returns-in_ok-check_at-in-Spawn t c =
    Arms.spawn_rest (decls c.args.known.now) (names c.args.env.now.entries) c.args.e.now.at (expr_form c.args.e.now.kind) c.check_started.result (option_signature c.in_ok-call-in-Spawn.call) (given c.in_ok-check_at-in-Spawn.field-0) c.deref-in-Spawn-2.result.now c.in-Spawn.caps.value (id_tree c.in-Spawn.function.value) (exprs_tree c.in-Spawn.args.items) (length c.in-Spawn.args.items) (ap expr_form c.in-Spawn.is ∙ spawn_row c.in-Spawn.caps c.in-Spawn.function c.in-Spawn.args) (sym (count_exprs c.in-Spawn.args.items)) (spawned_head (decls c.args.known.now) c.args.e.now.at c.deref-in-Spawn.result.now c.in-Spawn.function.value (length c.in-Spawn.args.items) (option_signature c.in_ok-call-in-Spawn.call) c.deref-in-Spawn.ensures c.in_ok-call-in-Spawn.ensures.meets) c.deref-in-Spawn-2.ensures c.in_ok-check_at-in-Spawn.ensures
    (spawned_rest (decls c.args.known.now) (names c.args.env.now.entries) c.deref-in-Spawn-3.result.now c.in-Spawn.function.value (exprs_tree c.in-Spawn.args.items) (option_signature c.in_ok-call-in-Spawn.call) c.check_started.result c.deref-in-Spawn-3.ensures c.check_started.ensures)

pub check_prefix-returns-in_err-check_at : goal.check_prefix-returns-in_err-check_at
check_prefix-returns-in_err-check_at t c =
    let p = err_from_is_err_and c.from_residual.result c.from_residual.ensures.1 in
    rw (p.1, p.2) (Arms.unary_stop (decls c.args.known.now) (names c.args.env.now.entries) 0 _ c.in_err-check_at.field-0.0 c.args.op (value_type c.prefix_ref.result) c.args.of.now c.args.of.now refl c.prefix_ref.ensures refl c.in_err-check_at.ensures)

pub check_access-returns-in_err-got : goal.check_access-returns-in_err-got
check_access-returns-in_err-got t c =
    let p = err_from_is_err_and c.from_residual.result c.from_residual.ensures.1 in
    rw (p.1, p.2) (Arms.field_stop (decls c.args.known.now) (names c.args.env.now.entries) 0 _ c.in_err-got.field-0.0 (id_tree c.args.field.now) c.args.of.now c.args.of.now refl refl c.in_err-got.ensures)

pub check_array-returns-in_err-known_type : goal.check_array-returns-in_err-known_type
check_array-returns-in_err-known_type t c =
    let p = err_from_is_err_and c.from_residual.result c.from_residual.ensures.1 in
    rw (p.1, p.2) (Arms.array_first (decls c.args.known.now) (names c.args.env.now.entries) 0 _ c.in_err-known_type.field-0.0 (type_tree c.args.element.now) (expr_tree c.args.length.now) refl c.in_err-known_type.ensures)

pub check_array-returns-in_err-check_at : goal.check_array-returns-in_err-check_at
check_array-returns-in_err-check_at t c =
    let p = err_from_is_err_and c.from_residual-in_err-check_at.result c.from_residual-in_err-check_at.ensures.1 in
    rw (p.1, p.2) (Arms.array_second (decls c.args.known.now) (names c.args.env.now.entries) 0 _ c.in_err-check_at.field-0.0 (type_tree c.args.element.now) c.args.length.now c.args.length.now refl c.in_ok-known_type.ensures refl c.in_err-check_at.ensures)

pub check_at-returns-in_err-got : goal.check_at-returns-in_err-got
unfolding placed
check_at-returns-in_err-got t c =
    let p = err_from_is_err_and c.from_residual.result c.from_residual.ensures.1 in
    rw (p.1, p.2) (stops c.in_err-got.field-0.0 (given_of (decls c.args.known.now) (names c.args.env.now.entries) (expr_tree c.args.e.now)) _ c.in_err-got.ensures)

pub check_args-returns-in_err-got : goal.check_args-returns-in_err-got
check_args-returns-in_err-got t c =
    let p = err_from_is_err_and c.from_residual.result c.from_residual.ensures.1 in
    rw (p.1, p.2) (args_stop c.in_err-got.field-0.0 (decls c.args.known.now) (names c.args.env.now.entries) c.args.wants.now c.args.args.now c.loop-i.i (given c.loop-i.first) c.index-wants-i.result c.index-args-i.result _ (omega arith) c.requires c.index-wants-i.is c.index-args-i.is c.loop-i.invariant c.in_err-got.ensures)

pub check_args-loop-i-preserved : goal.check_args-loop-i-preserved
check_args-loop-i-preserved t c =
    args_next (decls c.args.known.now) (names c.args.env.now.entries) c.args.wants.now c.args.args.now c.loop-i.i (given c.loop-i.first) (given c.in_ok-got.got) (given c.first_got-first.result) c.index-wants-i.result c.index-args-i.result _ (omega arith) c.requires c.index-wants-i.is c.index-args-i.is c.loop-i.invariant c.in_ok-got.ensures c.first_got-first.ensures

pub check_tags-returns-in_err-check_at : goal.check_tags-returns-in_err-check_at
check_tags-returns-in_err-check_at t c =
    let p = err_from_is_err_and c.from_residual.result c.from_residual.ensures.1 in
    rw (p.1, p.2) (tags_stop c.in_err-check_at.field-0.0 (decls c.args.known.now) (names c.args.env.now.entries) c.args.tags.now.items c.loop-x.x-index c.x-item.result _ (omega (arith, c.deref-x-items.ensures.value)) (through c.deref-x-items.result.now c.args.tags.now.items c.loop-x.x-index c.x-item.result c.deref-x-items.ensures.value c.x-item.is) c.loop-x.invariant c.in_err-check_at.ensures)

pub check_called-returns-in_err-check_count : goal.check_called-returns-in_err-check_count
check_called-returns-in_err-check_count t c =
    let p = err_from_is_err_and c.from_residual.result c.from_residual.ensures.1 in
    rw (p.1, p.2) (called_count c.in_err-check_count.field-0.0 (decls c.args.known.now) (names c.args.env.now.entries) c.args.at (places c.args.takes.now) (answer c.args.returns) c.as_slice.result.now c.args.args.now.items c.as_slice.ensures.value c.in_err-check_count.ensures.meets)

pub check_called-returns-in_err-first : goal.check_called-returns-in_err-first
check_called-returns-in_err-first t c =
    let p = err_from_is_err_and c.from_residual-in_err-first.result c.from_residual-in_err-first.ensures.1 in
    rw (p.1, p.2) (called_args c.in_err-first.field-0.0 (decls c.args.known.now) (names c.args.env.now.entries) c.args.at (places c.args.takes.now) (answer c.args.returns) c.as_slice.result.now c.as_slice-2.result.now c.args.args.now.items c.as_slice.ensures.value c.as_slice-2.ensures.value c.in_ok-check_count.ensures.meets c.in_err-first.ensures)

pub check_called-returns : goal.check_called-returns
check_called-returns t c =
    called_fine (decls c.args.known.now) (names c.args.env.now.entries) c.args.at (places c.args.takes.now) (answer c.args.returns) c.as_slice.result.now c.as_slice-2.result.now c.args.args.now.items (given c.in_ok-first.first) (given c.answered.result) c.as_slice.ensures.value c.as_slice-2.ensures.value c.in_ok-check_count.ensures.meets c.in_ok-first.ensures c.answered.ensures
