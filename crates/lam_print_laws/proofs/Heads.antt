-- What the canonical tokens of an expression, and of a statement, begin with.
use Rattle.std.proofs.Common.{◌≡◌, ℕ, nat_lt, true, false, Bool, List, [], ◌∷◌, refl}
use Rattle.lam_lexer.specs.declared.token.TokenKind.{TokenKind}
use Rattle.lam_lexer.specs.declared.token.TokenKind.TheVariants as Kind
use Rattle.lam_operators.specs.declared.UnaryOp.{UnaryOp}
use Rattle.lam_operators.specs.declared.UnaryOp.TheVariants as Sign
use Rattle.lam_syntax.specs.Tree.{ExprTree, ExprForm, expr_node, binary_expr, unary_expr, field_expr, element_expr, bool_expr, StmtTree, stmt_node, StmtForm, do_stmt, assign_stmt}
use Rattle.lam_grammar.specs.Table.{begins_expr, begins_stmt}
use Rattle.lam_grammar.specs.Examples.{no_else_word, admits}
use Rattle.lam_print.specs.Pieces.{Piece, token as piece, blank}
use Rattle.lam_print_laws.proofs.Marks.{ended}
use Rattle.lam_print.specs.Canon.{operator, sign, weight, left_place, right_place, prefixed, opened, closed, truth, lay, lay_form, lay_stmt, lay_stmt_form}

-- the first kind passes the test
abbrev pub StartsWith : (TokenKind → Bool) → List TokenKind → Type 0
StartsWith f [] = ⊥
StartsWith f (k ∷ ks) = f k ≡ true

opened_head : (b : Bool) (ps : List Piece) → StartsWith begins_expr (ended ps) → StartsWith begins_expr (ended (opened b ps))
opened_head true ps h = refl
opened_head false ps h = h

sign_head : (o : UnaryOp) (ps : List Piece) → StartsWith begins_expr (ended (piece (sign o) ∷ ps))
sign_head Sign.Not ps = refl
sign_head Sign.Neg ps = refl

truth_head : (b : Bool) (ps : List Piece) → StartsWith begins_expr (ended (piece (truth b) ∷ ps))
truth_head true ps = refl
truth_head false ps = refl

mutual
  form_head : (form : ExprForm) (place : ℕ) (ps : List Piece) → StartsWith begins_expr (ended (lay_form form place ps))
  form_head (binary_expr o l r) place ps =
      let b : Bool = nat_lt place (weight o) in
      let right : List Piece = blank ∷ piece (operator o) ∷ blank ∷ lay r (right_place o) (closed b ps) in
      opened_head b (lay l (left_place o) right) (expr_head l (left_place o) right)
  form_head (unary_expr o e) place ps =
      let b : Bool = nat_lt place prefixed in
      opened_head b (piece (sign o) ∷ lay e prefixed (closed b ps)) (sign_head o (lay e prefixed (closed b ps)))
  form_head (field_expr e x) place ps = expr_head e 0 _
  form_head (element_expr e n) place ps = expr_head e 0 _
  form_head (bool_expr b) place ps = truth_head b ps
  form_head _ place ps = refl

  expr_head : (e : ExprTree) (place : ℕ) (ps : List Piece) → StartsWith begins_expr (ended (lay e place ps))
  expr_head (expr_node at form) place ps = form_head form place ps

pub expr_stmt : (k : TokenKind) → begins_expr k ≡ true → begins_stmt k ≡ true
expr_stmt Kind.Let h = refl
expr_stmt _ h = cc

loosened : (ks : List TokenKind) → StartsWith begins_expr ks → StartsWith begins_stmt ks
loosened [] h = h
loosened (k ∷ ks) h = expr_stmt k h

stmt_form_head : (form : StmtForm) (n : ℕ) (ps : List Piece) → StartsWith begins_stmt (ended (lay_stmt_form form n ps))
stmt_form_head (do_stmt e) n ps = loosened (ended (lay e 6 (piece Kind.Semicolon ∷ ps))) (expr_head e 6 (piece Kind.Semicolon ∷ ps))
stmt_form_head (assign_stmt p e) n ps =
    let rest : List Piece = blank ∷ piece Kind.Assign ∷ blank ∷ lay e 6 (piece Kind.Semicolon ∷ ps) in
    loosened (ended (lay p 6 rest)) (expr_head p 6 rest)
stmt_form_head _ n ps = refl

pub stmt_head : (s : StmtTree) (n : ℕ) (ps : List Piece) → StartsWith begins_stmt (ended (lay_stmt s n ps))
stmt_head (stmt_node at form) n ps = stmt_form_head form n ps

-- what begins a statement is not `else`
no_else_begins : (k : TokenKind) → begins_stmt k ≡ true → admits no_else_word k ≡ true
no_else_begins Kind.Else h = cc
no_else_begins _ h = refl

pub no_else_stmt : (ks : List TokenKind) → StartsWith begins_stmt ks → StartsWith (admits no_else_word) ks
no_else_stmt [] h = h
no_else_stmt (k ∷ ks) h = no_else_begins k h
