-- A label's tags are not more than the operations that put them.
use Rattle.std.proofs.Common.{◌≡◌, ℕ, ◌+◌, ◌<◌, ◌≤◌, ◌&&◌, List, [], ◌∷◌, length, Ok, Err, refl, sym, ap, ◌∙◌, subst, arith, length-append}
use Rattle.lam_resolve_tree.specs.declared.Expr.{Expr}
use Rattle.lam_resolve_tree.specs.Tree.{Expression, unary_of, binary_of, field_of, element_of, call_of, builtin_of, new_array, label_of, spawn_of, Expressions, args_end, args_more, exprs_tree}
use Rattle.lam_bytecode.specs.declared.op.Op.{Op}
use Rattle.lam_bytecode.specs.declared.op.Op.TheVariants.{MakeLabel}
use Rattle.lam_meaning.specs.Pieces.{Pieces, joined, op, size, Flat, flat}
use Rattle.lam_meaning.specs.Scheme.{expression, expressions, count}
use Rattle.barrier_compiler_ops.specs.declared.buffer.Stop.{Stop}
use Rattle.barrier_compiler_ops.specs.declared.buffer.Stop.TheVariants.{TooLong, Wide, NoMemory}
use Rattle.barrier_compiler_ops.specs.Emits.{State, are_narrow, EmitsBy, Emits, IsCount}
use Rattle.barrier_compiler_ops.proofs.Flat.{length-flat, size-joined, narrow-joined}
use Rattle.barrier_compiler_ops.proofs.Joins.{joins}
use Rattle.barrier_compiler_ops.specs.Labels.{MakesLabel}

first_part : (ps qs : Pieces) → 0 < size ps → 0 < size (joined ps qs)
first_part ps qs h = omega (arith, h, size-joined ps qs)

last_part : (ps qs : Pieces) → 0 < size qs → 0 < size (joined ps qs)
last_part ps qs h = omega (arith, h, size-joined ps qs)

-- an expression takes an operation at least
takes_some : (e : Expression) → 0 < size (expression e)
takes_some (unary_of o e) = first_part (expression e) _ (takes_some e)
takes_some (binary_of o a b) = first_part (expression a) _ (takes_some a)
takes_some (field_of e c f t) = first_part (expression e) _ (takes_some e)
takes_some (element_of e i t) = first_part (expression e) _ (takes_some e)
takes_some (call_of f args) = last_part (expressions args) _ (omega arith)
takes_some (builtin_of b args t) = last_part (expressions args) _ (omega arith)
takes_some (new_array t n) = first_part (expression n) _ (takes_some n)
takes_some (label_of s i) = last_part (expressions s) _ (last_part (expressions i) _ (omega arith))
takes_some (spawn_of c f args) = first_part (expression c) _ (takes_some c)
takes_some e = omega arith

at_most : (es : Expressions) → count es ≤ size (expressions es)
at_most args_end = omega arith
at_most (args_more e rest) = omega (arith, at_most rest, takes_some e, size-joined (expression e) (expressions rest))

counted : (es : List Expr) → length es ≡ count (exprs_tree es)
counted [] = refl
counted (e ∷ es) = omega (arith, counted es)

abbrev label_pieces : Pieces → Pieces → Op → Pieces
label_pieces s i o = joined s (joined i (op o))

module _ (S I : Pieces) (n m k l : ℕ) where
  same_size : size (label_pieces S I (MakeLabel n m)) ≡ size (label_pieces S I (MakeLabel k l))
  same_size =
      omega (arith, size-joined S (joined I (op (MakeLabel n m))), size-joined I (op (MakeLabel n m)), size-joined S (joined I (op (MakeLabel k l))), size-joined I (op (MakeLabel k l)))

  same_width : are_narrow (label_pieces S I (MakeLabel n m)) ≡ are_narrow (label_pieces S I (MakeLabel k l))
  same_width =
      narrow-joined S (joined I (op (MakeLabel n m))) ∙ ap (λ b. are_narrow S && b) (narrow-joined I (op (MakeLabel n m)))
      ∙ sym (narrow-joined S (joined I (op (MakeLabel k l))) ∙ ap (λ b. are_narrow S && b) (narrow-joined I (op (MakeLabel k l))))

  -- where it is given up, the operands are not looked at
  stopped_alike : (x : List Flat) (f : Stop) → EmitsBy (Ok x) (Err f) (label_pieces S I (MakeLabel n m)) → EmitsBy (Ok x) (Err f) (label_pieces S I (MakeLabel k l))
  stopped_alike x TooLong e = omega (arith, e, same_size)
  stopped_alike x Wide e = sym same_width ∙ e
  stopped_alike x NoMemory e = tt

module _ (s i : List Expr) (n m : ℕ) where
  abbrev S : Pieces
  S = expressions (exprs_tree s)

  abbrev I : Pieces
  I = expressions (exprs_tree i)

  label_by : (a b c d : State) → EmitsBy a b S → EmitsBy b c I → IsCount c n (length s) → IsCount c m (length i) → EmitsBy a d (label_pieces S I (MakeLabel n m)) → EmitsBy c d (op (MakeLabel n m)) → EmitsBy a d (expression (label_of (exprs_tree s) (exprs_tree i)))
  label_by (Err f) b c d e1 e2 k1 k2 e e3 = e
  label_by (Ok x) b (Err f) d e1 e2 k1 k2 e e3 =
      subst (λ (t : State). EmitsBy (Ok x) t (expression (label_of (exprs_tree s) (exprs_tree i)))) (sym e3)
      (stopped_alike S I n m (count (exprs_tree s)) (count (exprs_tree i)) x f (subst (λ (t : State). EmitsBy (Ok x) t (label_pieces S I (MakeLabel n m))) e3 e))
  label_by (Ok x) (Err f) (Ok z) d e1 e2 k1 k2 e e3 = cc
  label_by (Ok x) (Ok y) (Ok z) d e1 e2 k1 k2 e e3 =
      let ly : length y ≡ length x + size S = omega (arith, ap length e1, length-append x (flat (length x) S), length-flat (length x) S) in
      let lz : length z ≡ length y + size I = omega (arith, ap length e2, length-append y (flat (length y) I), length-flat (length y) I) in
      let ns : n ≡ count (exprs_tree s) = k1.by (omega (arith, ly, lz, at_most (exprs_tree s), counted s)) ∙ counted s in
      let ms : m ≡ count (exprs_tree i) = k2.by (omega (arith, ly, lz, at_most (exprs_tree i), counted i)) ∙ counted i in
      subst (λ j. EmitsBy (Ok x) d (label_pieces S I (MakeLabel (count (exprs_tree s)) j))) ms (subst (λ j. EmitsBy (Ok x) d (label_pieces S I (MakeLabel j m))) ns e)

pub label_emits : {a b c d : State} {n m : ℕ} (s i : List Expr) → n ≡ length s → m ≡ length i → Emits a b (expressions (exprs_tree s)) → Emits b c (expressions (exprs_tree i)) → MakesLabel c d n m → Emits a d (expression (label_of (exprs_tree s) (exprs_tree i)))
label_emits {a = a} {b = b} {c = c} {d = d} s i es ei e1 e2 k =
    record {
      by = label_by s i k.secrecy k.integrity a b c d e1.by e2.by (subst (λ n. IsCount c k.secrecy n) es k.s) (subst (λ n. IsCount c k.integrity n) ei k.i) (joins e1 (joins e2 k.emits)).by k.emits.by;
    }
