-- What is added for a statement, and the slots of the open `sync`s.
use Rattle.std.proofs.Common.{◌≡◌, ℕ, ◌+◌, ◌-◌, ◌<◌, ◌≤◌, List, [], ◌∷◌, ◌++◌, length, drop, take, reverse, get_or, subst, sym, ap, ◌∙◌, add-one, drop-cons, drop_of_length-le, take_all, arith}
use Rattle.std.proofs.lemmas.List.{reverse-append}
use Rattle.std.proofs.Math.Seq.{take-suc}
use Rattle.lam_resolve_tree.specs.declared.Stmt.{Stmt}
use Rattle.lam_resolve_tree.specs.Tree.{Expression, Statement, Block, stmt_tree, stmts_tree, sync_block}
use Rattle.lam_bytecode.specs.declared.op.Op.TheVariants.{Load, Store, EnterMonitor, LeaveMonitor}
use Rattle.lam_meaning.specs.Pieces.{Pieces, joined, op, one, either}
use Rattle.lam_meaning.specs.Scheme.{expression, loads, gives_back, statement, block}
use Rattle.barrier_compiler_ops.specs.Emits.{State, Emits, Goes}
use Rattle.barrier_compiler_ops.proofs.ExprArms.{item_first}
use Rattle.barrier_compiler_ops.proofs.Joins.{joins, starts, joined-assoc, as_pieces, goes_on, all_done}

-- a statement of this form
pub of_form : {a b : State} (os : List ℕ) {s t : Statement} → s ≡ t → Emits a b (statement os t) → Emits a b (statement os s)
of_form {a = a} {b = b} os e h = subst (λ (x : Statement). Emits a b (statement os x)) (sym e) h

-- with equal slots of the open `sync`s, which stand the inmost last in code
pub stmt_held : {a b : State} (xs ys : List ℕ) (s : Statement) → xs ≡ ys → Emits a b (statement (reverse xs) s) → Emits a b (statement (reverse ys) s)
stmt_held {a = a} {b = b} xs ys s e h = subst (λ (l : List ℕ). Emits a b (statement (reverse l) s)) e h

pub either_held : {a b : State} (xs ys : List ℕ) (ps : Pieces) (body : Block) → xs ≡ ys → Emits a b (one (either ps (block (reverse xs) body))) → Emits a b (one (either ps (block (reverse ys) body)))
either_held {a = a} {b = b} xs ys ps body e h = subst (λ (l : List ℕ). Emits a b (one (either ps (block (reverse l) body)))) e h

reverse_push : (xs : List ℕ) (n : ℕ) → reverse (xs ++ n ∷ []) ≡ n ∷ reverse xs
reverse_push xs n = reverse-append xs (n ∷ [])

-- inside one more open `sync`
pub inside : {a b : State} (xs ys : List ℕ) (n : ℕ) (body : Block) → ys ≡ xs ++ n ∷ [] → Emits a b (block (reverse ys) body) → Emits a b (block (n ∷ reverse xs) body)
inside {a = a} {b = b} xs ys n body e h = subst (λ (l : List ℕ). Emits a b (block l body)) (ap reverse e ∙ reverse_push xs n) h

-- the thing's monitor, the body, and the monitor given back
pub sync_emits : {a b c d : State} (os : List ℕ) (n : ℕ) (e : Expression) (body : Block) → Emits a b (joined (expression e) (joined (op (Store n)) (joined (op (Load n)) (op EnterMonitor)))) → Emits b c (block (n ∷ os) body) → Emits c d (joined (op (Load n)) (op LeaveMonitor)) →
    Emits a d (statement os (sync_block n e body))
sync_emits os n e body h g k =
    as_pieces (joined-assoc (expression e) (joined (op (Store n)) (joined (op (Load n)) (op EnterMonitor))) (joined (block (n ∷ os) body) (joined (op (Load n)) (op LeaveMonitor)))) (joins h (joins g k))

-- ---- items of a list

pub stmt_added : {a b c : State} (os : List ℕ) (all : Pieces) (xs : List Stmt) (i : ℕ) (x : Stmt) → i < length xs → x ≡ get_or xs i x → Goes a b all (block os (stmts_tree (drop i xs))) → Emits b c (statement os (stmt_tree x)) → Goes a c all (block os (stmts_tree (drop (i + 1) xs)))
stmt_added os all xs i x h e g m = goes_on g (ap (λ l. block os (stmts_tree l)) (item_first xs i x h e)) m

pub stmts_done : {a b : State} (os : List ℕ) (all : Pieces) (xs : List Stmt) (i : ℕ) → length xs ≤ i → Goes a b all (block os (stmts_tree (drop i xs))) → Emits a b all
stmts_done os all xs i h g = all_done g (ap (λ l. block os (stmts_tree l)) (drop_of_length-le xs h))

pub load_added : {a b c : State} (all : Pieces) (xs : List ℕ) (i d : ℕ) → i < length xs → Goes a b all (loads (drop i xs)) → Emits b c (op (Load (get_or xs i d))) → Goes a c all (loads (drop (i + 1) xs))
load_added all xs i d h g m = let e : drop i xs ≡ get_or xs i d ∷ drop (i + 1) xs = rw (add-one) (drop-cons xs i d h) in goes_on g (ap loads e) m

pub at_load : {a b : State} (xs ys : List ℕ) (i : ℕ) → xs ≡ ys → Emits a b (op (Load (get_or xs i 0))) → Emits a b (op (Load (get_or ys i 0)))
at_load {a = a} {b = b} xs ys i e h = subst (λ (l : List ℕ). Emits a b (op (Load (get_or l i 0)))) e h

pub loads_done : {a b : State} (all : Pieces) (xs : List ℕ) (i : ℕ) → length xs ≤ i → Goes a b all (loads (drop i xs)) → Emits a b all
loads_done all xs i h g = all_done g (ap loads (drop_of_length-le xs h))

-- from the last open slot on down
pub given_back : {a b c d : State} (all : Pieces) (xs : List ℕ) (n x : ℕ) → n < length xs → x ≡ get_or xs n x → Goes a b all (gives_back (reverse (take (n + 1) xs))) → Emits b c (op (Load x)) → Emits c d (op LeaveMonitor) → Goes a d all (gives_back (reverse (take n xs)))
given_back all xs n x h e g m k =
    let t : take (n + 1) xs ≡ take n xs ++ x ∷ [] = rw (add-one) (take-suc xs n x h ∙ ap (λ y. take n xs ++ y ∷ []) (sym e)) in
    goes_on g (ap (λ l. gives_back (reverse l)) t ∙ ap gives_back (reverse_push (take n xs) x)) (joins m k)

pub none_left : {a b : State} (all : Pieces) (xs : List ℕ) (n : ℕ) → n ≡ 0 → Goes a b all (gives_back (reverse (take n xs))) → Emits a b all
none_left all xs n e g = all_done g (ap (λ k. gives_back (reverse (take k xs))) e)

pub all_left : (a : State) (xs : List ℕ) (n : ℕ) → n ≡ length xs → Goes a a (gives_back (reverse xs)) (gives_back (reverse (take n xs)))
all_left a xs n e =
    subst (λ (l : List ℕ). Goes a a (gives_back (reverse xs)) (gives_back (reverse l))) (sym (take_all n xs (omega (arith, e)))) (starts a (gives_back (reverse xs)))

pub one_less : {a b : State} {all : Pieces} (xs : List ℕ) (n : ℕ) → 0 < n → Goes a b all (gives_back (reverse (take n xs))) → Goes a b all (gives_back (reverse (take (n - 1 + 1) xs)))
one_less {a = a} {b = b} {all = all} xs n h g =
    let e : n ≡ n - 1 + 1 = omega (arith, h) in subst (λ k. Goes a b all (gives_back (reverse (take k xs)))) e g
