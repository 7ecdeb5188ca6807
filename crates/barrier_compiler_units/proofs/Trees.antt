-- The regions and functions of a program, item by item.
use Rattle.std.proofs.Common.{◌≡◌, ℕ, ◌+◌, ◌<◌, ◌≤◌, List, [], ◌∷◌, length, map, drop, get_or, subst, sym, ap, ◌∙◌, drop_of_length-le}
use Rattle.lam_resolve_tree.specs.declared.Stmt.{Stmt}
use Rattle.lam_resolve_tree.specs.declared.Function.{Function}
use Rattle.lam_resolve_tree.specs.Tree.{Statement, stmt_tree, stmts_tree, function_tree, functions_tree}
use Rattle.lam_meaning.specs.Scheme.{Draft, function_draft, regions_of, regions_in, all_regions}
use Rattle.barrier_compiler_ops.proofs.ExprArms.{item_first}
use Rattle.barrier_compiler_units.specs.Adds.{Stage, Adds, Goes}
use Rattle.barrier_compiler_units.proofs.Joins.{goes_on, all_done}

-- a statement of this form
pub of_form : {a b : Stage} {s t : Statement} → s ≡ t → Adds a b (regions_of t) → Adds a b (regions_of s)
of_form {a = a} {b = b} e h = subst (λ (x : Statement). Adds a b (regions_of x)) (sym e) h

pub as_drafts : {a b : Stage} {ds es : List Draft} → ds ≡ es → Adds a b ds → Adds a b es
as_drafts {a = a} {b = b} e h = subst (λ (x : List Draft). Adds a b x) e h

pub stmt_added : {a b c : Stage} (all : List Draft) (xs : List Stmt) (i : ℕ) (x : Stmt) → i < length xs → x ≡ get_or xs i x → Goes a b all (regions_in (stmts_tree (drop i xs))) → Adds b c (regions_of (stmt_tree x)) → Goes a c all (regions_in (stmts_tree (drop (i + 1) xs)))
stmt_added all xs i x h e g m = goes_on g (ap (λ l. regions_in (stmts_tree l)) (item_first xs i x h e)) m

pub stmts_done : {a b : Stage} (all : List Draft) (xs : List Stmt) (i : ℕ) → length xs ≤ i → Goes a b all (regions_in (stmts_tree (drop i xs))) → Adds a b all
stmts_done all xs i h g = all_done g (ap (λ l. regions_in (stmts_tree l)) (drop_of_length-le xs h))

pub function_added : {a b c : Stage} (all : List Draft) (xs : List Function) (i : ℕ) (x : Function) → i < length xs → x ≡ get_or xs i x → Goes a b all (map function_draft (functions_tree (drop i xs))) → Adds b c (function_draft (function_tree x) ∷ []) →
    Goes a c all (map function_draft (functions_tree (drop (i + 1) xs)))
function_added all xs i x h e g m = goes_on g (ap (λ l. map function_draft (functions_tree l)) (item_first xs i x h e)) m

pub functions_done : {a b : Stage} (all : List Draft) (xs : List Function) (i : ℕ) → length xs ≤ i → Goes a b all (map function_draft (functions_tree (drop i xs))) → Adds a b all
functions_done all xs i h g = all_done g (ap (λ l. map function_draft (functions_tree l)) (drop_of_length-le xs h))

pub regions_added : {a b c : Stage} (all : List Draft) (xs : List Function) (i : ℕ) (x : Function) → i < length xs → x ≡ get_or xs i x → Goes a b all (all_regions (functions_tree (drop i xs))) → Adds b c (regions_in (stmts_tree x.body.items)) →
    Goes a c all (all_regions (functions_tree (drop (i + 1) xs)))
regions_added all xs i x h e g m = goes_on g (ap (λ l. all_regions (functions_tree l)) (item_first xs i x h e)) m

pub regions_done : {a b : Stage} (all : List Draft) (xs : List Function) (i : ℕ) → length xs ≤ i → Goes a b all (all_regions (functions_tree (drop i xs))) → Adds a b all
regions_done all xs i h g = all_done g (ap (λ l. all_regions (functions_tree l)) (drop_of_length-le xs h))
