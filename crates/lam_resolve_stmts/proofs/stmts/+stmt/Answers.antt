use Rattle.std.proofs.Common.{◌≡◌, rules, refl, ap, sym, ◌∙◌, Box, Vec, Global}
use Rattle.std.specs.Option.{option_map}
use Rattle.std.proofs.lemmas.List.{drop_all}
use Rattle.lam_syntax.specs.declared.Expr.{Expr}
use Rattle.lam_syntax.specs.declared.Id.{Id}
use Rattle.lam_syntax.specs.declared.Stmt.{Stmt}
use Rattle.lam_syntax.specs.declared.StmtKind.{StmtKind}
use Rattle.lam_syntax.specs.declared.StmtKind.TheVariants.{Region}
use Rattle.lam_syntax.specs.Tree.{if_stmt, while_stmt, sync_stmt, region_stmt, expr_tree, option_expr_tree, stmt_form, stmts_tree, else_tree, ids_tree, id_tree}
use Rattle.lam_syntax.proofs.Rows.{if_row, while_row, sync_row, region_row}
use Rattle.lam_resolve_tree.specs.Tree.{stmt_tree as resolved_stmt, stmts_tree as resolved_stmts, else_tree as resolved_other, option_expr_tree as resolved_option}
use Rattle.lam_resolve_laws.specs.Resolved.{closed_as, resolve_stmt_form, resolve_stmts}
use Rattle.lam_resolve_tables.specs.Kinds.{kind_type}
use Rattle.lam_resolve_tables.specs.Tables.{tables}
use Rattle.lam_resolve_exprs.specs.Values.{locals, value}
use Rattle.lam_resolve_tables.proofs.Options.{if_ok, some_not_none}
use Rattle.lam_resolve_units.specs.Seen.{state}
use Rattle.lam_resolve_stmts.specs.Regions.{opened, bodies}
use Rattle.lam_resolve_stmts.proofs.StmtArms
use Rattle.lam_resolve_stmts.proofs.RegionArms
use Rattle.lam_resolve_stmts.proofs.Blocks.{block_first, block_needs, block_next, block_last, extends_first, extends_more}
use Rattle.lam_resolve_stmts.proofs.stmts.+stmt.Goals as goal

pub resolve_stmt-resolve_if-requires : goal.resolve_stmt-resolve_if-requires
resolve_stmt-resolve_if-requires t c =
    let h = StmtArms.form_enter (tables c.args.t.now) (locals c.args.scope.now) (state c.args.st.now) (stmt_form c.args.s.now.kind) (if_stmt (expr_tree c.in-If.test) (stmts_tree c.in-If.yes.items) (else_tree c.in-If.no)) (ap stmt_form c.in-If.is ∙ if_row c.in-If.test c.in-If.yes c.in-If.no) c.requires in
    search rules

pub resolve_stmt-returns-in-If-clause-meets : goal.resolve_stmt-returns-in-If-clause-meets
resolve_stmt-returns-in-If-clause-meets t c =
    if_ok c.resolve_if.result _ _ c.resolve_if.ensures.meets (λ r e. e ∙ sym (ap (resolve_stmt_form (tables c.args.t.now) (locals c.args.scope.now) (state c.args.st.now)) (ap stmt_form c.in-If.is ∙ if_row c.in-If.test c.in-If.yes c.in-If.no)))

pub resolve_stmt-resolve_while-requires : goal.resolve_stmt-resolve_while-requires
resolve_stmt-resolve_while-requires t c =
    let h = StmtArms.form_enter (tables c.args.t.now) (locals c.args.scope.now) (state c.args.st.now) (stmt_form c.args.s.now.kind) (while_stmt (expr_tree c.in-While.test) (stmts_tree c.in-While.body.items)) (ap stmt_form c.in-While.is ∙ while_row c.in-While.test c.in-While.body) c.requires in
    search rules

pub resolve_stmt-returns-in-While-clause-meets : goal.resolve_stmt-returns-in-While-clause-meets
resolve_stmt-returns-in-While-clause-meets t c =
    if_ok c.resolve_while.result _ _ c.resolve_while.ensures.meets (λ r e. e ∙ sym (ap (resolve_stmt_form (tables c.args.t.now) (locals c.args.scope.now) (state c.args.st.now)) (ap stmt_form c.in-While.is ∙ while_row c.in-While.test c.in-While.body)))

pub resolve_stmt-resolve_sync-requires : goal.resolve_stmt-resolve_sync-requires
resolve_stmt-resolve_sync-requires t c =
    let h = StmtArms.form_enter (tables c.args.t.now) (locals c.args.scope.now) (state c.args.st.now) (stmt_form c.args.s.now.kind) (sync_stmt (expr_tree c.in-Sync.thing) (stmts_tree c.in-Sync.body.items)) (ap stmt_form c.in-Sync.is ∙ sync_row c.in-Sync.thing c.in-Sync.body) c.requires in
    search rules

pub resolve_stmt-returns-in-Sync-clause-meets : goal.resolve_stmt-returns-in-Sync-clause-meets
resolve_stmt-returns-in-Sync-clause-meets t c =
    if_ok c.resolve_sync.result _ _ c.resolve_sync.ensures.meets (λ r e. e ∙ sym (ap (resolve_stmt_form (tables c.args.t.now) (locals c.args.scope.now) (state c.args.st.now)) (ap stmt_form c.in-Sync.is ∙ sync_row c.in-Sync.thing c.in-Sync.body)))

pub resolve_stmt-resolve_value-requires : goal.resolve_stmt-resolve_value-requires
resolve_stmt-resolve_value-requires t c =
    StmtArms.return_needs (tables c.args.t.now) (locals c.args.scope.now) (state c.args.st.now) (stmt_form c.args.s.now.kind) (option_expr_tree c.in-Return.value) (ap stmt_form c.in-Return.is) c.requires

pub resolve_stmt-returns-in_ok-v-in-Return-clause-meets : goal.resolve_stmt-returns-in_ok-v-in-Return-clause-meets
resolve_stmt-returns-in_ok-v-in-Return-clause-meets t c =
    StmtArms.return_done (tables c.args.t.now) (locals c.args.scope.now) (state c.args.st.now) (stmt_form c.args.s.now.kind) (option_expr_tree c.in-Return.value) (resolved_option c.in_ok-v-in-Return.v) (ap stmt_form c.in-Return.is) c.in_ok-v-in-Return.ensures

pub resolve_stmt-resolve_expr-requires : goal.resolve_stmt-resolve_expr-requires
resolve_stmt-resolve_expr-requires t c =
    StmtArms.throw_needs (tables c.args.t.now) (locals c.args.scope.now) (state c.args.st.now) (stmt_form c.args.s.now.kind) (expr_tree c.in-Throw.value) (ap stmt_form c.in-Throw.is) c.requires

pub resolve_stmt-returns-in_ok-v-in-Throw-clause-meets : goal.resolve_stmt-returns-in_ok-v-in-Throw-clause-meets
resolve_stmt-returns-in_ok-v-in-Throw-clause-meets t c =
    StmtArms.throw_done (tables c.args.t.now) (locals c.args.scope.now) (state c.args.st.now) (stmt_form c.args.s.now.kind) (expr_tree c.in-Throw.value) (value c.in_ok-v-in-Throw.v) (ap stmt_form c.in-Throw.is) c.in_ok-v-in-Throw.ensures

pub resolve_stmt-resolve_expr-requires-in-Do : goal.resolve_stmt-resolve_expr-requires-in-Do
resolve_stmt-resolve_expr-requires-in-Do t c =
    StmtArms.do_needs (tables c.args.t.now) (locals c.args.scope.now) (state c.args.st.now) (stmt_form c.args.s.now.kind) (expr_tree c.in-Do.value) (ap stmt_form c.in-Do.is) c.requires

pub resolve_stmt-returns-in_ok-v-in-Do-clause-meets : goal.resolve_stmt-returns-in_ok-v-in-Do-clause-meets
resolve_stmt-returns-in_ok-v-in-Do-clause-meets t c =
    StmtArms.do_done (tables c.args.t.now) (locals c.args.scope.now) (state c.args.st.now) (stmt_form c.args.s.now.kind) (expr_tree c.in-Do.value) (value c.in_ok-v-in-Do.v) (ap stmt_form c.in-Do.is) c.in_ok-v-in-Do.ensures

-- a region, the expressions of whose head were reached as a and b
headed : {k : StmtKind} {a b : Expr} (l m : Box Expr Global) (xs : Vec Id Global) (body : Vec Stmt Global) (x : Id) (handler : Vec Stmt Global) → k ≡ Region l m xs body x handler → a ≡ l.value → b ≡ m.value →
    stmt_form k ≡ region_stmt (expr_tree a) (expr_tree b) (ids_tree xs.items) (stmts_tree body.items) (id_tree x) (stmts_tree handler.items)
headed {k} {a} {b} l m xs body x handler e p q =
    ap stmt_form e ∙ region_row l m xs body x handler ∙
    ap (λ (a : Expr). region_stmt (expr_tree a) (expr_tree m.value) (ids_tree xs.items) (stmts_tree body.items) (id_tree x) (stmts_tree handler.items)) (sym p) ∙
    ap (λ (b : Expr). region_stmt (expr_tree a) (expr_tree b) (ids_tree xs.items) (stmts_tree body.items) (id_tree x) (stmts_tree handler.items)) (sym q)

pub resolve_stmt-resolve_region-requires : goal.resolve_stmt-resolve_region-requires
resolve_stmt-resolve_region-requires t c =
    let h = StmtArms.region_enter (tables c.args.t.now) (locals c.args.scope.now) (state c.args.st.now) (stmt_form c.args.s.now.kind) (expr_tree c.deref.result.now) (expr_tree c.deref-in-Region.result.now) (ids_tree c.in-Region.captures.items) (stmts_tree c.in-Region.body.items) (id_tree c.in-Region.catch_name) (stmts_tree c.in-Region.catch_body.items) (headed c.in-Region.label c.in-Region.caps c.in-Region.captures c.in-Region.body c.in-Region.catch_name c.in-Region.catch_body c.in-Region.is c.deref.ensures c.deref-in-Region.ensures) c.requires in
    search rules

pub resolve_stmt-returns-in-Region-clause-meets : goal.resolve_stmt-returns-in-Region-clause-meets
resolve_stmt-returns-in-Region-clause-meets t c =
    if_ok c.resolve_region.result _ _ c.resolve_region.ensures (λ r e. e ∙ sym (ap (resolve_stmt_form (tables c.args.t.now) (locals c.args.scope.now) (state c.args.st.now)) (headed c.in-Region.label c.in-Region.caps c.in-Region.captures c.in-Region.body c.in-Region.catch_name c.in-Region.catch_body c.in-Region.is c.deref.ensures c.deref-in-Region.ensures)))

pub resolve_stmt-resolve_assign-requires : goal.resolve_stmt-resolve_assign-requires
resolve_stmt-resolve_assign-requires t c =
    StmtArms.assign_needs (tables c.args.t.now) (locals c.args.scope.now) (state c.args.st.now) (stmt_form c.args.s.now.kind) (expr_tree c.in-Assign.place) (expr_tree c.in-Assign.value) (ap stmt_form c.in-Assign.is) c.requires

pub resolve_stmt-returns-in-Assign-clause-meets : goal.resolve_stmt-returns-in-Assign-clause-meets
resolve_stmt-returns-in-Assign-clause-meets t c =
    if_ok c.resolve_assign.result _ _ c.resolve_assign.ensures (λ s e. StmtArms.assign_done (tables c.args.t.now) (locals c.args.scope.now) (state c.args.st.now) (stmt_form c.args.s.now.kind) (expr_tree c.in-Assign.place) (expr_tree c.in-Assign.value) (ap stmt_form c.in-Assign.is) (resolved_stmt s) e)

pub resolve_if-resolve_expr-requires : goal.resolve_if-resolve_expr-requires
resolve_if-resolve_expr-requires t c =
    StmtArms.if_test (tables c.args.t.now) (locals c.args.scope.now) (state c.args.st.now) (if_stmt (expr_tree c.args.test.now) (stmts_tree c.args.yes.now.items) (else_tree c.args.no.now)) (expr_tree c.args.test.now) (stmts_tree c.args.yes.now.items) (else_tree c.args.no.now) refl c.requires

pub resolve_if-resolve_block-requires : goal.resolve_if-resolve_block-requires
resolve_if-resolve_block-requires t c =
    let h = StmtArms.if_first (tables c.args.t.now) (locals c.args.scope.now) (state c.args.st.now) (if_stmt (expr_tree c.args.test.now) (stmts_tree c.args.yes.now.items) (else_tree c.args.no.now)) (expr_tree c.args.test.now) (stmts_tree c.args.yes.now.items) (else_tree c.args.no.now) refl (value c.in_ok-v.v) c.in_ok-v.ensures c.requires in
    search rules

pub resolve_if-resolve_else-requires : goal.resolve_if-resolve_else-requires
resolve_if-resolve_else-requires t c =
    let h = StmtArms.if_other (tables c.args.t.now) (locals c.args.scope.now) (state c.args.st.now) (if_stmt (expr_tree c.args.test.now) (stmts_tree c.args.yes.now.items) (else_tree c.args.no.now)) (expr_tree c.args.test.now) (stmts_tree c.args.yes.now.items) (else_tree c.args.no.now) refl (value c.in_ok-v.v) (closed_as (resolved_stmts c.in_ok-first.first.items) (state c.resolve_block.new.st)) (locals c.resolve_block.new.scope) c.in_ok-v.ensures c.in_ok-first.ensures.meets c.in_ok-first.ensures.keeps c.requires in
    search rules

pub resolve_if-returns-clause-meets : goal.resolve_if-returns-clause-meets
resolve_if-returns-clause-meets t c =
    StmtArms.if_done (tables c.args.t.now) (locals c.args.scope.now) (state c.args.st.now) (if_stmt (expr_tree c.args.test.now) (stmts_tree c.args.yes.now.items) (else_tree c.args.no.now)) (expr_tree c.args.test.now) (stmts_tree c.args.yes.now.items) (else_tree c.args.no.now) refl (value c.in_ok-v.v) (closed_as (resolved_stmts c.in_ok-first.first.items) (state c.resolve_block.new.st)) (closed_as (resolved_other c.in_ok-other.other) (state c.resolve_else.new.st)) (locals c.resolve_block.new.scope) (locals c.resolve_else.new.scope) (resolved_stmt c.if_stmt.result)
    c.in_ok-v.ensures c.in_ok-first.ensures.meets c.in_ok-first.ensures.keeps c.in_ok-other.ensures.meets c.in_ok-other.ensures.keeps c.if_stmt.ensures

pub resolve_while-resolve_expr-requires : goal.resolve_while-resolve_expr-requires
resolve_while-resolve_expr-requires t c =
    StmtArms.while_test (tables c.args.t.now) (locals c.args.scope.now) (state c.args.st.now) (while_stmt (expr_tree c.args.test.now) (stmts_tree c.args.body.now.items)) (expr_tree c.args.test.now) (stmts_tree c.args.body.now.items) refl c.requires

pub resolve_while-resolve_block-requires : goal.resolve_while-resolve_block-requires
resolve_while-resolve_block-requires t c =
    let h = StmtArms.while_body (tables c.args.t.now) (locals c.args.scope.now) (state c.args.st.now) (while_stmt (expr_tree c.args.test.now) (stmts_tree c.args.body.now.items)) (expr_tree c.args.test.now) (stmts_tree c.args.body.now.items) refl (value c.in_ok-v.v) c.in_ok-v.ensures c.requires in
    search rules

pub resolve_while-returns-clause-meets : goal.resolve_while-returns-clause-meets
resolve_while-returns-clause-meets t c =
    StmtArms.while_done (tables c.args.t.now) (locals c.args.scope.now) (state c.args.st.now) (while_stmt (expr_tree c.args.test.now) (stmts_tree c.args.body.now.items)) (expr_tree c.args.test.now) (stmts_tree c.args.body.now.items) refl (value c.in_ok-v.v) (closed_as (resolved_stmts c.in_ok-block.block.items) (state c.resolve_block.new.st)) (locals c.resolve_block.new.scope) (resolved_stmt c.while_stmt.result)
    c.in_ok-v.ensures c.in_ok-block.ensures.meets c.in_ok-block.ensures.keeps c.while_stmt.ensures

pub resolve_sync-resolve_expr-requires : goal.resolve_sync-resolve_expr-requires
resolve_sync-resolve_expr-requires t c =
    StmtArms.sync_thing (tables c.args.t.now) (locals c.args.scope.now) (state c.args.st.now) (sync_stmt (expr_tree c.args.thing.now) (stmts_tree c.args.body.now.items)) (expr_tree c.args.thing.now) (stmts_tree c.args.body.now.items) refl c.requires

pub resolve_sync-unreachable-requires : goal.resolve_sync-unreachable-requires
resolve_sync-unreachable-requires t c =
    some_not_none _ (StmtArms.sync_type (tables c.args.t.now) (locals c.args.scope.now) (state c.args.st.now) (sync_stmt (expr_tree c.args.thing.now) (stmts_tree c.args.body.now.items)) (expr_tree c.args.thing.now) (stmts_tree c.args.body.now.items) refl (value c.in_ok-v.v) c.in_ok-v.ensures c.requires) (sym c.given_kind.ensures ∙ ap (option_map kind_type) c.in_default.is)

pub resolve_sync-resolve_block-requires : goal.resolve_sync-resolve_block-requires
resolve_sync-resolve_block-requires t c =
    let h = StmtArms.sync_body (tables c.args.t.now) (locals c.args.scope.now) (state c.args.st.now) (sync_stmt (expr_tree c.args.thing.now) (stmts_tree c.args.body.now.items)) (expr_tree c.args.thing.now) (stmts_tree c.args.body.now.items) refl (value c.in_ok-v.v) (kind_type c.in-Some.kind) (state c.new_slot.new.st) c.in_ok-v.ensures (sym (ap (option_map kind_type) c.in-Some.is) ∙ c.given_kind.ensures) c.in_ok-slot.ensures.added c.requires in
    search rules

pub resolve_sync-returns-clause-meets : goal.resolve_sync-returns-clause-meets
resolve_sync-returns-clause-meets t c =
    StmtArms.sync_done (tables c.args.t.now) (locals c.args.scope.now) (state c.args.st.now) (sync_stmt (expr_tree c.args.thing.now) (stmts_tree c.args.body.now.items)) (expr_tree c.args.thing.now) (stmts_tree c.args.body.now.items) refl (value c.in_ok-v.v) (kind_type c.in-Some.kind) (state c.new_slot.new.st) (closed_as (resolved_stmts c.in_ok-block.block.items) (state c.resolve_block.new.st)) c.in_ok-slot.slot (locals c.resolve_block.new.scope) (resolved_stmt c.sync_stmt.result)
    c.in_ok-v.ensures (sym (ap (option_map kind_type) c.in-Some.is) ∙ c.given_kind.ensures) c.in_ok-slot.ensures.added c.in_ok-block.ensures.meets c.in_ok-slot.ensures.slot c.in_ok-block.ensures.keeps c.sync_stmt.ensures

pub resolve_else-resolve_block-requires : goal.resolve_else-resolve_block-requires
resolve_else-resolve_block-requires t c =
    let h = StmtArms.else_needs (tables c.args.t.now) (locals c.args.scope.now) (state c.args.st.now) (else_tree c.args.no.now) (stmts_tree c.in-Some.body.items) (ap else_tree c.in-Some.is) c.requires in
    search rules

pub resolve_else-returns-in_ok-block-in-Some-clause-meets : goal.resolve_else-returns-in_ok-block-in-Some-clause-meets
resolve_else-returns-in_ok-block-in-Some-clause-meets t c =
    StmtArms.else_done (tables c.args.t.now) (locals c.args.scope.now) (state c.args.st.now) (else_tree c.args.no.now) (stmts_tree c.in-Some.body.items) (ap else_tree c.in-Some.is) (closed_as (resolved_stmts c.in_ok-block-in-Some.block.items) (state c.resolve_block.new.st)) c.in_ok-block-in-Some.ensures.meets

pub resolve_region-open_region-requires : goal.resolve_region-open_region-requires
resolve_region-open_region-requires t c = RegionArms.region_opens (tables c.args.t.now) (locals c.args.scope.now) (state c.args.st.now) (expr_tree c.args.written.label.now) (expr_tree c.args.written.caps.now) (ids_tree c.args.written.captures.now.items) (stmts_tree c.args.written.body.now.items) (id_tree c.args.written.catch_name.now) (stmts_tree c.args.written.catch_body.now.items) c.requires

pub resolve_region-resolve_bodies-requires : goal.resolve_region-resolve_bodies-requires
resolve_region-resolve_bodies-requires t c =
    let h = RegionArms.region_goes (tables c.args.t.now) (locals c.args.scope.now) (state c.args.st.now) (expr_tree c.args.written.label.now) (expr_tree c.args.written.caps.now) (ids_tree c.args.written.captures.now.items) (stmts_tree c.args.written.body.now.items) (id_tree c.args.written.catch_name.now) (stmts_tree c.args.written.catch_body.now.items) (opened c.in_ok-opened.opened) c.in_ok-opened.ensures c.requires in
    search rules

pub resolve_region-returns : goal.resolve_region-returns
resolve_region-returns t c =
    RegionArms.region_done (tables c.args.t.now) (locals c.args.scope.now) (state c.args.st.now) (expr_tree c.args.written.label.now) (expr_tree c.args.written.caps.now) (ids_tree c.args.written.captures.now.items) (stmts_tree c.args.written.body.now.items) (id_tree c.args.written.catch_name.now) (stmts_tree c.args.written.catch_body.now.items) (opened c.in_ok-opened.opened) (bodies c.in_ok-blocks.blocks) (resolved_stmt c.close_region.result) (state c.close_region.new.st) c.in_ok-opened.ensures c.in_ok-blocks.ensures c.close_region.ensures.node c.close_region.ensures.goes_on

pub resolve_bodies-resolve_block-requires : goal.resolve_bodies-resolve_block-requires
resolve_bodies-resolve_block-requires t c =
    let h = RegionArms.bodies_first (tables c.args.t.now) (locals c.args.unit.scope) (state c.args.unit.state) (stmts_tree c.args.body.now.items) (id_tree c.args.name.now) (stmts_tree c.args.handler.now.items) c.requires in
    search rules

pub resolve_bodies-resolve_block-requires-2 : goal.resolve_bodies-resolve_block-requires-2
resolve_bodies-resolve_block-requires-2 t c =
    let h = RegionArms.bodies_handler (tables c.args.t.now) (locals c.args.unit.scope) (state c.args.unit.state) (stmts_tree c.args.body.now.items) (id_tree c.args.name.now) (stmts_tree c.args.handler.now.items) (closed_as (resolved_stmts c.in_ok-first.first.items) (state c.resolve_block.new.st)) (kind_type c.plain.result) c.as_str.result.now (locals c.resolve_block.new.scope) (locals c.declare.new.scope) (state c.declare.new.st) c.in_ok-first.ensures.meets c.plain.ensures c.as_str.ensures.value c.in_ok-first.ensures.keeps c.in_ok-slot.ensures.named c.in_ok-slot.ensures.added c.requires in
    search rules

pub resolve_bodies-returns : goal.resolve_bodies-returns
resolve_bodies-returns t c =
    RegionArms.bodies_done (tables c.args.t.now) (locals c.args.unit.scope) (state c.args.unit.state) (stmts_tree c.args.body.now.items) (id_tree c.args.name.now) (stmts_tree c.args.handler.now.items) (closed_as (resolved_stmts c.in_ok-first.first.items) (state c.resolve_block.new.st)) (kind_type c.plain.result) c.as_str.result.now (locals c.resolve_block.new.scope) (locals c.declare.new.scope) (state c.declare.new.st) c.in_ok-first.ensures.meets c.plain.ensures c.as_str.ensures.value c.in_ok-first.ensures.keeps c.in_ok-slot.ensures.named c.in_ok-slot.ensures.added (closed_as (resolved_stmts c.in_ok-last.last.items) (state c.resolve_block-2.new.st)) c.in_ok-slot.slot c.in_ok-last.ensures.meets c.in_ok-slot.ensures.slot

pub resolve_stmts-loop-s-init : goal.resolve_stmts-loop-s-init
resolve_stmts-loop-s-init t c =
    record { sofar = block_first _ _ c.in_ok-out.ensures.items; extends = extends_first (locals c.args.scope.now) }

pub resolve_stmts-resolve_stmt-requires : goal.resolve_stmts-resolve_stmt-requires
resolve_stmts-resolve_stmt-requires t c =
    let h = block_needs (tables c.args.t.now) (locals c.loop-s.scope) (state c.loop-s.st) c.args.body.now c.loop-s.s-index c.s-item.result c.loop-s-test.true c.s-item.is (resolve_stmts (tables c.args.t.now) (locals c.args.scope.now) (state c.args.st.now) (stmts_tree c.args.body.now)) c.loop-s.out.items c.loop-s.invariant.sofar c.requires in
    search rules

pub resolve_stmts-loop-s-preserved : goal.resolve_stmts-loop-s-preserved
resolve_stmts-loop-s-preserved t c =
    record {
      sofar = block_next (tables c.args.t.now) (locals c.loop-s.scope) (state c.loop-s.st) c.args.body.now c.loop-s.s-index c.s-item.result c.loop-s-test.true c.s-item.is (resolve_stmts (tables c.args.t.now) (locals c.args.scope.now) (state c.args.st.now) (stmts_tree c.args.body.now)) c.loop-s.out.items c.push.new.self.items c.in_ok-r.r (locals c.resolve_stmt.new.scope) (state c.resolve_stmt.new.st) c.loop-s.invariant.sofar c.in_ok-r.ensures.meets c.in_ok-push.ensures.items;
      extends = extends_more (locals c.args.scope.now) (locals c.loop-s.scope) (locals c.resolve_stmt.new.scope) c.loop-s.invariant.extends c.in_ok-r.ensures.keeps;
    }

pub resolve_stmts-returns-clause-meets : goal.resolve_stmts-returns-clause-meets
resolve_stmts-returns-clause-meets t c =
    block_last _ _ c.loop-s.out.items (state c.loop-s.st) c.loop-s.invariant.sofar (ap (λ l. resolve_stmts (tables c.args.t.now) (locals c.loop-s.scope) (state c.loop-s.st) (stmts_tree l)) (drop_all c.loop-s.s-index c.args.body.now c.loop-s-test.false))

pub resolve_stmts-returns-clause-keeps : goal.resolve_stmts-returns-clause-keeps
resolve_stmts-returns-clause-keeps t c =
    c.loop-s.invariant.extends
