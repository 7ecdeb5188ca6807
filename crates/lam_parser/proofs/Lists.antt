-- Lists that were read in part: what was read stands before what is left.
use Rattle.std.proofs.Common.{◌≡◌, List, [], ◌∷◌, ◌++◌, refl, sym, ap, ◌∙◌}
use Rattle.lam_syntax.specs.declared.Stmt.{Stmt}
use Rattle.lam_syntax.specs.declared.Item.{Item}
use Rattle.lam_syntax.specs.Tree.{StmtList, ItemTree, no_stmts, stmts, stmt_tree, stmts_tree, item_tree, items_tree}

abbrev pub stmts_before : List Stmt → StmtList → StmtList
stmts_before [] rest = rest
stmts_before (x ∷ xs) rest = stmts (stmt_tree x) (stmts_before xs rest)

pub stmts_pushed : (xs : List Stmt) (x : Stmt) (rest : StmtList) → stmts_before xs (stmts (stmt_tree x) rest) ≡ stmts_before (xs ++ x ∷ []) rest
stmts_pushed [] x rest = refl
stmts_pushed (y ∷ xs) x rest = ap (stmts (stmt_tree y)) (stmts_pushed xs x rest)

pub stmts_more : (xs ys : List Stmt) (x : Stmt) (rest : StmtList) → ys ≡ xs ++ x ∷ [] → stmts_before xs (stmts (stmt_tree x) (rest)) ≡ stmts_before ys rest
stmts_more xs ys x rest e = stmts_pushed xs x rest ∙ ap (λ zs. stmts_before zs rest) (sym e)

pub stmts_whole : (xs : List Stmt) → stmts_before xs no_stmts ≡ stmts_tree xs
stmts_whole [] = refl
stmts_whole (x ∷ xs) = ap (stmts (stmt_tree x)) (stmts_whole xs)

abbrev pub items_before : List Item → List ItemTree → List ItemTree
items_before [] rest = rest
items_before (x ∷ xs) rest = item_tree x ∷ items_before xs rest

pub items_pushed : (xs : List Item) (x : Item) (rest : List ItemTree) → items_before xs (item_tree x ∷ rest) ≡ items_before (xs ++ x ∷ []) rest
items_pushed [] x rest = refl
items_pushed (y ∷ xs) x rest = ap (λ ys. item_tree y ∷ ys) (items_pushed xs x rest)

pub items_more : (xs ys : List Item) (x : Item) (rest : List ItemTree) → ys ≡ xs ++ x ∷ [] → items_before xs (item_tree x ∷ rest) ≡ items_before ys rest
items_more xs ys x rest e = items_pushed xs x rest ∙ ap (λ zs. items_before zs rest) (sym e)

pub items_whole : (xs : List Item) → items_before xs [] ≡ items_tree xs
items_whole [] = refl
items_whole (x ∷ xs) = ap (λ ys. item_tree x ∷ ys) (items_whole xs)
