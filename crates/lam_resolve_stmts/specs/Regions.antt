-- A region, as it is written, and its parts: what stands before its blocks, the blocks, and the node made of both.
use Rattle.std.specs.Prelude.{ℕ, List, length, Option, Some}
use Rattle.lam_syntax.specs.Tree.{IdTree, ExprTree, StmtForm, StmtList, region_stmt, expr_tree, ids_tree, id_tree, stmts_tree}
use Rattle.lam_builtins.specs.Types.{int}
use Rattle.lam_resolve_tree.specs.Tree.{Expression, Statement, Block, region_block, expr_tree as resolved_expr, stmts_tree as resolved_stmts}
use Rattle.lam_resolve_laws.specs.Resolved.{then_some, Tables, Locals, State, with_local, next_slot, resolve, enter_region, resolve_stmts}
use Rattle.lam_resolve_exprs.specs.Values.{locals}
use Rattle.lam_resolve_units.specs.declared.parts.RegionHead.{RegionHead}
use Rattle.lam_resolve_units.specs.Seen.{Inside, entered_by, state}
use Rattle.lam_resolve_stmts.specs.declared.regions.Written.{Written}
use Rattle.lam_resolve_stmts.specs.declared.regions.Opened.{Opened}
use Rattle.lam_resolve_stmts.specs.declared.regions.Bodies.{Bodies as Blocks}

abbrev pub region_form : Written → StmtForm
region_form w = region_stmt (expr_tree w.label.now) (expr_tree w.caps.now) (ids_tree w.captures.now.items) (stmts_tree w.body.now.items) (id_tree w.catch_name.now) (stmts_tree w.catch_body.now.items)

-- ---- before the blocks

abbrev pub expr_of : Tables → Locals → ExprTree → Option Expression
expr_of t ls e = then_some (resolve t ls e) (λ v. Some v.it)

-- the number, the label and the capabilities of a region, and its unit
pub record Opening : Type 0 where
  pub number : ℕ
  pub label : Expression
  pub caps : Expression
  pub inside : Inside

abbrev pub opening_as : ℕ → Expression → Expression → Inside → Opening
opening_as n l k i = record { number = n; label = l; caps = k; inside = i }

abbrev pub opening : Tables → Locals → ℕ → ExprTree → ExprTree → List IdTree → Option Opening
opening t ls n l k xs = then_some (resolve t ls l) (λ l. then_some (resolve t ls k) (λ k. then_some (enter_region n ls xs) (λ cs. Some (opening_as n l.it k.it (entered_by cs n)))))

abbrev pub opening_of : Tables → Locals → ℕ → Written → Option Opening
opening_of t ls n w = opening t ls n (expr_tree w.label.now) (expr_tree w.caps.now) (ids_tree w.captures.now.items)

abbrev pub opened : Opened → Opening
opened o = opening_as o.head.number (resolved_expr o.head.label.value) (resolved_expr o.head.caps.value) (record { captures = o.head.captures.items; names = locals o.unit.scope; state = state o.unit.state })

-- ---- the blocks

-- both blocks, the slot of the catch name, and the state after them
pub record Bodies : Type 0 where
  pub body : Block
  pub slot : ℕ
  pub handler : Block
  pub state : State

abbrev pub bodies_as : Block → ℕ → Block → State → Bodies
bodies_as a n b st = record { body = a; slot = n; handler = b; state = st }

abbrev pub bodies_of : Tables → Locals → State → StmtList → IdTree → StmtList → Option Bodies
bodies_of t ls st body x handler =
    then_some (resolve_stmts t ls st body) (λ a. then_some (resolve_stmts t (with_local ls x.word (length a.state.slots) int) (next_slot a.state int) handler) (λ b. Some (bodies_as a.it (length a.state.slots) b.it b.state)))

abbrev pub bodies : Blocks → Bodies
bodies b = bodies_as (resolved_stmts b.body.items) b.slot (resolved_stmts b.handler.items) (state b.state)

-- ---- the node

abbrev pub node_as : Opening → Bodies → Statement
node_as o b = region_block o.number o.label o.caps o.inside.captures b.state.slots b.body b.slot b.handler

abbrev pub node_of : RegionHead → Bodies → Statement
node_of h b = region_block h.number (resolved_expr h.label.value) (resolved_expr h.caps.value) h.captures.items b.state.slots b.body b.slot b.handler
