-- What is added for an expression, reached as a node or as a child of one.
use Rattle.std.proofs.Common.{◌≡◌, ℕ, suc, ◌+◌, ◌<◌, ◌≤◌, List, ◌∷◌, length, drop, get_or, subst, sym, ap, ◌∙◌, add-one, drop-cons, drop_of_length-le}
use Rattle.lam_resolve_tree.specs.declared.Expr.{Expr}
use Rattle.lam_resolve_tree.specs.declared.CapItem.{CapItem}
use Rattle.lam_resolve_tree.specs.Tree.{Expression, expr_tree, exprs_tree, caps_tree}
use Rattle.lam_bytecode.specs.declared.op.Op.TheVariants.{Load, GetField, GetElement, ReadBarrier}
use Rattle.lam_meaning.specs.Pieces.{Pieces, joined, op}
use Rattle.lam_operators.specs.declared.BinaryOp.{BinaryOp}
use Rattle.lam_meaning.specs.Scheme.{between, expression, expressions, signs, sign_op}
use Rattle.barrier_compiler_ops.specs.Emits.{State, Emits, Goes}
use Rattle.barrier_compiler_ops.proofs.Joins.{goes_on, all_done}

-- a node of this form
pub of_form : {a b : State} {e f : Expression} → e ≡ f → Emits a b (expression f) → Emits a b (expression e)
of_form {a = a} {b = b} e h = subst (λ (x : Expression). Emits a b (expression x)) (sym e) h

-- a child behind a reference
pub child : {a b : State} {x y : Expr} → x ≡ y → Emits a b (expression (expr_tree x)) → Emits a b (expression (expr_tree y))
child {a = a} {b = b} e h = subst (λ (x : Expr). Emits a b (expression (expr_tree x))) e h

-- the right child of an operator
pub right_child : {a b : State} (o : BinaryOp) {x y : Expr} → x ≡ y → Emits a b (between o (expr_tree x)) → Emits a b (between o (expr_tree y))
right_child {a = a} {b = b} o e h = subst (λ (x : Expr). Emits a b (between o (expr_tree x))) e h

-- the object whose field is read
pub field_child : {a b : State} (n : ℕ) {x y : Expr} → x ≡ y → Emits a b (joined (expression (expr_tree x)) (joined (op (ReadBarrier 0)) (op (GetField n)))) → Emits a b (joined (expression (expr_tree y)) (joined (op (ReadBarrier 0)) (op (GetField n))))
field_child {a = a} {b = b} n e h = subst (λ (x : Expr). Emits a b (joined (expression (expr_tree x)) (joined (op (ReadBarrier 0)) (op (GetField n))))) e h

-- the index of an element that is read
pub index_child : {a b : State} {x y : Expr} → x ≡ y → Emits a b (joined (expression (expr_tree x)) (joined (op (ReadBarrier 1)) (op GetElement))) → Emits a b (joined (expression (expr_tree y)) (joined (op (ReadBarrier 1)) (op GetElement)))
index_child {a = a} {b = b} e h = subst (λ (x : Expr). Emits a b (joined (expression (expr_tree x)) (joined (op (ReadBarrier 1)) (op GetElement)))) e h

-- an item of a list, read from another that is equal
pub at_item : {A : Type 0} (xs ys : List A) (i : ℕ) (x : A) → xs ≡ ys → x ≡ get_or xs i x → x ≡ get_or ys i x
at_item xs ys i x e h = h ∙ ap (λ l. get_or l i x) e

pub item_first : {A : Type 0} (xs : List A) (i : ℕ) (x : A) → i < length xs → x ≡ get_or xs i x → drop i xs ≡ x ∷ drop (i + 1) xs
item_first xs i x h e = rw (add-one) (drop-cons xs i x h ∙ ap (λ y. y ∷ drop (suc i) xs) (sym e))

pub expr_added : {a b c : State} (all : Pieces) (xs : List Expr) (i : ℕ) (x : Expr) → i < length xs → x ≡ get_or xs i x → Goes a b all (expressions (exprs_tree (drop i xs))) → Emits b c (expression (expr_tree x)) → Goes a c all (expressions (exprs_tree (drop (i + 1) xs)))
expr_added all xs i x h e g m = goes_on g (ap (λ l. expressions (exprs_tree l)) (item_first xs i x h e)) m

pub exprs_done : {a b : State} (all : Pieces) (xs : List Expr) (i : ℕ) → length xs ≤ i → Goes a b all (expressions (exprs_tree (drop i xs))) → Emits a b all
exprs_done all xs i h g = all_done g (ap (λ l. expressions (exprs_tree l)) (drop_of_length-le xs h))

pub sign_added : {a b c : State} (all : Pieces) (xs : List CapItem) (i : ℕ) (d : CapItem) → i < length xs → Goes a b all (signs (caps_tree (drop i xs))) → Emits b c (joined (op (Load (get_or xs i d).slot)) (op (sign_op (get_or xs i d).plus))) →
    Goes a c all (signs (caps_tree (drop (i + 1) xs)))
sign_added all xs i d h g m = let e : drop i xs ≡ get_or xs i d ∷ drop (i + 1) xs = rw (add-one) (drop-cons xs i d h) in goes_on g (ap (λ l. signs (caps_tree l)) e) m

pub signs_done : {a b : State} (all : Pieces) (xs : List CapItem) (i : ℕ) → length xs ≤ i → Goes a b all (signs (caps_tree (drop i xs))) → Emits a b all
signs_done all xs i h g = all_done g (ap (λ l. signs (caps_tree l)) (drop_of_length-le xs h))
