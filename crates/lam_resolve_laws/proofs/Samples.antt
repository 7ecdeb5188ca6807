-- What a small program resolves to, computed.
use Rattle.std.proofs.Common.{◌≡◌, ℕ, pos, [], ◌∷◌, Some, refl}
use Rattle.std.specs.Prelude.{codes}
use Rattle.lam_operators.specs.declared.BinaryOp.TheVariants.{Lt}
use Rattle.lam_syntax.specs.Tree.{IdTree, VarTree, TypeTree, type_node, TypeForm, int_type, class_type, array_type, ItemTree, class_item, function_item, ProgramTree, ExprTree, expr_node, ExprForm, binary_expr, field_expr, element_expr, number_expr, name_expr, call_expr, new_class_expr, new_array_expr, label_expr, caps_expr, no_exprs, exprs, stmt_node, StmtForm, let_stmt, while_stmt, return_stmt, sync_stmt, region_stmt, assign_stmt, StmtList, no_stmts, stmts}
use Rattle.lam_operators.specs.Words.{Word}
use Rattle.lam_builtins.specs.declared.Builtin.TheVariants.{Len}
use Rattle.lam_builtins.specs.Types.{int, object, array}
use Rattle.lam_builtins.specs.Builtins.{builtin_named}
use Rattle.lam_resolve_tree.specs.Tree.{number_value, local_value, binary_of, field_of, call_of, builtin_of, new_object, new_array, label_of, caps_of, args_end, args_more, Block, let_slot, while_block, return_value, sync_block, region_block, set_local, set_field, set_element, block_end, block_more, ResolvedTree}
use Rattle.lam_resolve_tree.specs.Regions.{AreNumbered}
use Rattle.lam_resolve_laws.specs.Resolved.{then_some, resolved}
use Rattle.lam_resolve_laws.specs.Names.{names_of, program_named}

-- ---- trees, whose positions are all 0

id : Word → IdTree
id x = record { at = 0; word = x }

ty : TypeForm → TypeTree
ty form = type_node 0 form

ex : ExprForm → ExprTree
ex form = expr_node 0 form

var : Word → TypeForm → VarTree
var x form = record { name = id x; ty = ty form }

name : Word → ExprTree
name x = ex (name_expr x)

number : ℕ → ExprTree
number n = ex (number_expr (pos n))

then : StmtForm → StmtList → StmtList
then form rest = stmts (stmt_node 0 form) rest

-- class point { x: int; next: point; }
point : ItemTree
point = class_item (record { at = 0; name = id (codes "point"); fields = var (codes "x") int_type ∷ var (codes "next") (class_type (codes "point")) ∷ [] })

-- fn last(p: point, n: int): int { while (n < 9) { let m: int = n; n = m; } return n; }
last : ItemTree
last =
    function_item
    (record {
      at = 0;
      name = id (codes "last");
      params = var (codes "p") (class_type (codes "point")) ∷ var (codes "n") int_type ∷ [];
      result = Some (ty int_type);
      body =
          then (while_stmt (ex (binary_expr Lt (name (codes "n")) (number 9))) (then (let_stmt (var (codes "m") int_type) (name (codes "n"))) (then (assign_stmt (name (codes "n")) (name (codes "m"))) no_stmts)))
          (then (return_stmt (Some (name (codes "n")))) no_stmts);
    })

-- fn main(): int {
--   let p: point = new point();
--   let k: int = 2;
--   sync (p) { p.next.x = last(p, k); }
--   region (label{;}, caps{}) [k, p] {
--     region (label{;}, caps{}) [p] { } catch (d) { }
--     let a: [point] = new [point](k);
--     a[0] = p;
--   } catch (e) { let n: int = len(k); k = e; }
--   return k;
-- }
main : ItemTree
main =
    function_item
    (record {
      at = 0;
      name = id (codes "main");
      params = [];
      result = Some (ty int_type);
      body =
          then (let_stmt (var (codes "p") (class_type (codes "point"))) (ex (new_class_expr (id (codes "point")))))
          (then (let_stmt (var (codes "k") int_type) (number 2))
          (then
          (sync_stmt (name (codes "p"))
          (then (assign_stmt (ex (field_expr (ex (field_expr (name (codes "p")) (id (codes "next")))) (id (codes "x")))) (ex (call_expr (id (codes "last")) (exprs (name (codes "p")) (exprs (name (codes "k")) no_exprs))))) no_stmts))
          (then
          (region_stmt (ex (label_expr no_exprs no_exprs)) (ex (caps_expr [])) (id (codes "k") ∷ id (codes "p") ∷ [])
          (then (region_stmt (ex (label_expr no_exprs no_exprs)) (ex (caps_expr [])) (id (codes "p") ∷ []) no_stmts (id (codes "d")) no_stmts)
          (then (let_stmt (var (codes "a") (array_type (ty (class_type (codes "point"))))) (ex (new_array_expr (ty (class_type (codes "point"))) (name (codes "k")))))
          (then (assign_stmt (ex (element_expr (name (codes "a")) (number 0))) (name (codes "p"))) no_stmts)))
          (id (codes "e"))
          (then (let_stmt (var (codes "n") int_type) (ex (call_expr (id (codes "len")) (exprs (name (codes "p")) no_exprs)))) (then (assign_stmt (name (codes "k")) (name (codes "e"))) no_stmts)))
          (then (return_stmt (Some (name (codes "k")))) no_stmts))));
    })

pub sample : ProgramTree
sample = point ∷ last ∷ main ∷ []

-- ---- the resolved tree

last_block : Block
last_block =
    block_more (while_block (binary_of Lt (local_value 1) (number_value (pos 9))) (block_more (let_slot 2 (local_value 1)) (block_more (set_local 1 (local_value 2)) block_end)))
    (block_more (return_value (Some (local_value 1))) block_end)

-- the `sync` has slot 2 of its unit
sync_part : Block → Block
sync_part rest =
    block_more (sync_block 2 (local_value 0) (block_more (set_field (field_of (local_value 0) 0 1 (object 0)) 0 0 int (call_of 0 (args_more (local_value 0) (args_more (local_value 1) args_end)))) block_end)) rest

-- the inner region is number 1; it captures slot 1 of the outer one, which captures slots 1 and 0 of the function
region_part : Block → Block
region_part rest =
    block_more
    (region_block 0 (label_of args_end args_end) (caps_of []) (1 ∷ 0 ∷ []) (int ∷ object 0 ∷ array (object 0) ∷ int ∷ int ∷ [])
    (block_more (region_block 1 (label_of args_end args_end) (caps_of []) (1 ∷ []) (object 0 ∷ int ∷ []) block_end 1 block_end)
    (block_more (let_slot 2 (new_array (object 0) (local_value 0)))
    (block_more (set_element (local_value 2) (number_value (pos 0)) (object 0) (local_value 1)) block_end)))
    3
    (block_more (let_slot 4 (builtin_of Len (args_more (local_value 1) args_end) (Some int))) (block_more (set_local 0 (local_value 3)) block_end)))
    rest

main_block : Block
main_block =
    block_more (let_slot 0 (new_object 0)) (block_more (let_slot 1 (number_value (pos 2))) (sync_part (region_part (block_more (return_value (Some (local_value 1))) block_end))))

pub resolved_sample : ResolvedTree
resolved_sample =
    record {
      classes = (int ∷ object 0 ∷ []) ∷ [];
      functions =
          record { name = codes "last"; params = object 0 ∷ int ∷ []; result = Some int; slots = object 0 ∷ int ∷ int ∷ []; body = last_block } ∷
          record { name = codes "main"; params = []; result = Some int; slots = object 0 ∷ int ∷ object 0 ∷ []; body = main_block } ∷ [];
    }

pub sample_resolves : resolved sample ≡ Some resolved_sample
unfolding then_some resolved builtin_named sample point last main id ty ex var name number then resolved_sample last_block main_block sync_part region_part
sample_resolves = refl

-- with its names put back, it is the program

pub sample_named : program_named (names_of sample) resolved_sample ≡ sample
unfolding sample point last main id ty ex var name number then resolved_sample last_block main_block sync_part region_part
sample_named = refl

-- the outer region is number 0, the inner one number 1

pub sample_numbered : AreNumbered resolved_sample
unfolding resolved_sample last_block main_block sync_part region_part
sample_numbered = refl
