-- The lists of the layout, item by item.
use Rattle.std.proofs.Common.{ℕ, Bool, List, ◌∷◌, refl}
use Rattle.lam_syntax.specs.declared.Id.{Id}
use Rattle.lam_syntax.specs.declared.Var.{Var}
use Rattle.lam_syntax.specs.declared.CapItem.{CapItem}
use Rattle.lam_syntax.specs.declared.Expr.{Expr}
use Rattle.lam_syntax.specs.declared.Stmt.{Stmt}
use Rattle.lam_syntax.specs.declared.Item.{Item}
use Rattle.lam_syntax.specs.Tree.{id_tree, ids_tree, var_tree, vars_tree, cap_tree, caps_tree, expr_tree, exprs_tree, stmt_tree, stmts_tree, item_tree, items_tree}
use Rattle.lam_lexer.specs.declared.token.TokenKind.TheVariants as Kind
use Rattle.lam_print.specs.Pieces.{Piece, token, line}
use Rattle.lam_print.specs.Canon.{name, comma, spaced, gap, whole, lay_names, lay_var, lay_vars, lay_cap, lay_caps, lay, lay_args, lay_tags, lay_stmt, lay_stmts, lay_fields, lay_item, lay_items}
use Rattle.lam_print.proofs.Steps.{IsListed, IsEach}

abbrev pub one_of_names : Id → List Piece → List Piece
one_of_names x ps = name (id_tree x) ps

abbrev pub all_of_names : Bool → List Id → List Piece → List Piece
all_of_names later xs ps = lay_names later (ids_tree xs) ps

pub names-listed : IsListed comma one_of_names all_of_names
names-listed = record { nothing = λ later ps. refl; more = λ later x xs ps. refl }

abbrev pub one_of_vars : Var → List Piece → List Piece
one_of_vars x ps = lay_var (var_tree x) ps

abbrev pub all_of_vars : Bool → List Var → List Piece → List Piece
all_of_vars later xs ps = lay_vars later (vars_tree xs) ps

pub vars-listed : IsListed comma one_of_vars all_of_vars
vars-listed = record { nothing = λ later ps. refl; more = λ later x xs ps. refl }

abbrev pub one_of_caps : CapItem → List Piece → List Piece
one_of_caps x ps = lay_cap (cap_tree x) ps

abbrev pub all_of_caps : Bool → List CapItem → List Piece → List Piece
all_of_caps later xs ps = lay_caps later (caps_tree xs) ps

pub caps-listed : IsListed comma one_of_caps all_of_caps
caps-listed = record { nothing = λ later ps. refl; more = λ later x xs ps. refl }

abbrev pub one_of_args : Expr → List Piece → List Piece
one_of_args x ps = lay (expr_tree x) whole ps

abbrev pub all_of_args : Bool → List Expr → List Piece → List Piece
all_of_args later xs ps = lay_args later (exprs_tree xs) ps

pub args-listed : IsListed comma one_of_args all_of_args
args-listed = record { nothing = λ later ps. refl; more = λ later x xs ps. refl }

abbrev pub one_of_tags : Expr → List Piece → List Piece
one_of_tags x ps = lay (expr_tree x) whole ps

abbrev pub all_of_tags : Bool → List Expr → List Piece → List Piece
all_of_tags later xs ps = lay_tags later (exprs_tree xs) ps

pub tags-listed : IsListed spaced one_of_tags all_of_tags
tags-listed = record { nothing = λ later ps. refl; more = λ later x xs ps. refl }

abbrev pub one_of_items : Item → List Piece → List Piece
one_of_items x ps = lay_item (item_tree x) (line 0 ∷ ps)

abbrev pub all_of_items : Bool → List Item → List Piece → List Piece
all_of_items later xs ps = lay_items later (items_tree xs) ps

pub items-listed : IsListed gap one_of_items all_of_items
items-listed = record { nothing = λ later ps. refl; more = λ later x xs ps. refl }

abbrev pub one_field : Var → List Piece → List Piece
one_field x ps = line 1 ∷ lay_var (var_tree x) (token Kind.Semicolon ∷ ps)

abbrev pub all_fields : List Var → List Piece → List Piece
all_fields xs ps = lay_fields (vars_tree xs) ps

pub fields-each : IsEach one_field all_fields
fields-each = record { nothing = λ ps. refl; more = λ x xs ps. refl }

abbrev pub one_stmt : ℕ → Stmt → List Piece → List Piece
one_stmt n x ps = line n ∷ lay_stmt (stmt_tree x) n ps

abbrev pub all_stmts : ℕ → List Stmt → List Piece → List Piece
all_stmts n xs ps = lay_stmts (stmts_tree xs) n ps

pub stmts-each : (n : ℕ) → IsEach (one_stmt n) (all_stmts n)
stmts-each n = record { nothing = λ ps. refl; more = λ x xs ps. refl }
