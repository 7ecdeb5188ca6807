-- Positions are no part of the canonical text.
use Rattle.std.proofs.Common.{◌≡◌, ℕ, ◌+◌, nat_lt, Bool, true, false, Option, Some, None, List, [], ◌∷◌, refl, sym, ap, ◌∙◌}
use Rattle.lam_lexer.specs.declared.token.TokenKind.TheVariants as Kind
use Rattle.lam_syntax.specs.Tree.{IdTree, TypeTree, type_node, TypeForm, array_type, VarTree, CapTree, ExprTree, expr_node, ExprForm, binary_expr, unary_expr, field_expr, element_expr, call_expr, new_array_expr, label_expr, caps_expr, spawn_expr, ExprList, no_exprs, exprs, StmtTree, stmt_node, StmtForm, let_stmt, if_stmt, while_stmt, return_stmt, throw_stmt, sync_stmt, region_stmt, do_stmt, assign_stmt, StmtList, no_stmts, stmts, ElseTree, no_else, else_block, ItemTree, class_item, function_item, ProgramTree}
use Rattle.lam_syntax.specs.Unplaced.{unplaced_ids, unplaced_type, unplaced_type_form, unplaced_option_type, unplaced_var, unplaced_vars, unplaced_caps, unplaced_expr, unplaced_expr_form, unplaced_exprs, unplaced_option_expr, unplaced_stmt, unplaced_stmt_form, unplaced_stmts, unplaced_else, unplaced_item, unplaced}
use Rattle.lam_print.specs.Pieces.{Piece, token, blank, line, written}
use Rattle.lam_print.specs.Canon.{name, operator, sign, weight, left_place, right_place, prefixed, opened, closed, comma, spaced, lay_type_form, lay_type, lay_var, lay_names, lay_vars, lay_cap, lay_caps, gap, lay_form, lay, lay_args, lay_tags, lay_value, lay_stmt_form, lay_stmt, lay_block, lay_stmts, lay_else, lay_fields, lay_class_body, lay_result, lay_item, lay_items}
use Rattle.lam_print_laws.specs.Law.{Steady}

-- two layouts that put the same pieces before any others
abbrev Same : (List Piece → List Piece) → (List Piece → List Piece) → Type 0
Same f g = (ps : List Piece) → f ps ≡ g ps

same_type : (form : TypeForm) → Same (lay_type_form (unplaced_type_form form)) (lay_type_form form)
same_type (array_type (type_node at form)) ps = ap (λ (qs : List Piece). token Kind.BracketOpen ∷ qs) (same_type form (token Kind.BracketClose ∷ ps))
same_type _ ps = refl

same_of_type : (t : TypeTree) → Same (lay_type (unplaced_type t)) (lay_type t)
same_of_type (type_node at form) ps = same_type form ps

same_var : (v : VarTree) → Same (lay_var (unplaced_var v)) (lay_var v)
same_var v ps = ap (λ (qs : List Piece). name v.name (token Kind.Colon ∷ blank ∷ qs)) (same_of_type v.ty ps)

same_names : (xs : List IdTree) (later : Bool) → Same (lay_names later (unplaced_ids xs)) (lay_names later xs)
same_names [] later ps = refl
same_names (x ∷ xs) later ps = ap (λ (qs : List Piece). comma later (name x qs)) (same_names xs true ps)

same_vars : (vs : List VarTree) (later : Bool) → Same (lay_vars later (unplaced_vars vs)) (lay_vars later vs)
same_vars [] later ps = refl
same_vars (v ∷ vs) later ps = ap (comma later) (same_var v (lay_vars true (unplaced_vars vs) ps) ∙ ap (lay_var v) (same_vars vs true ps))

same_caps : (cs : List CapTree) (later : Bool) → Same (lay_caps later (unplaced_caps cs)) (lay_caps later cs)
same_caps [] later ps = refl
same_caps (c ∷ cs) later ps = ap (λ (qs : List Piece). comma later (lay_cap c qs)) (same_caps cs true ps)

-- ---- expressions

mutual
  same_form : (form : ExprForm) (place : ℕ) → Same (lay_form (unplaced_expr_form form) place) (lay_form form place)
  same_form (binary_expr o l r) place ps =
      let b : Bool = nat_lt place (weight o) in
      let right : List Piece = blank ∷ token (operator o) ∷ blank ∷ lay (unplaced_expr r) (right_place o) (closed b ps) in
      ap (opened b) (same_expr l (left_place o) right ∙ ap (λ (qs : List Piece). lay l (left_place o) (blank ∷ token (operator o) ∷ blank ∷ qs)) (same_expr r (right_place o) (closed b ps)))
  same_form (unary_expr o e) place ps =
      let b : Bool = nat_lt place prefixed in
      ap (λ (qs : List Piece). opened b (token (sign o) ∷ qs)) (same_expr e prefixed (closed b ps))
  same_form (field_expr e x) place ps = same_expr e 0 (token Kind.Dot ∷ name x ps)
  same_form (element_expr e n) place ps = same_expr e 0 (token Kind.BracketOpen ∷ lay (unplaced_expr n) 6 (token Kind.BracketClose ∷ ps)) ∙ ap (λ (qs : List Piece). lay e 0 (token Kind.BracketOpen ∷ qs)) (same_expr n 6 (token Kind.BracketClose ∷ ps))
  same_form (call_expr f es) place ps = ap (λ (qs : List Piece). name f (token Kind.ParenOpen ∷ qs)) (same_args es false (token Kind.ParenClose ∷ ps))
  same_form (new_array_expr t e) place ps = ap (λ (qs : List Piece). token Kind.New ∷ blank ∷ token Kind.BracketOpen ∷ qs) (same_of_type t (token Kind.BracketClose ∷ token Kind.ParenOpen ∷ lay (unplaced_expr e) 6 (token Kind.ParenClose ∷ ps)) ∙ ap (λ (qs : List Piece). lay_type t (token Kind.BracketClose ∷ token Kind.ParenOpen ∷ qs)) (same_expr e 6 (token Kind.ParenClose ∷ ps)))
  same_form (label_expr s n) place ps = ap (λ (qs : List Piece). token Kind.Label ∷ token Kind.BraceOpen ∷ qs) (same_args s false (token Kind.Semicolon ∷ lay_tags false (unplaced_exprs n) (token Kind.BraceClose ∷ ps)) ∙ ap (λ (qs : List Piece). lay_args false s (token Kind.Semicolon ∷ qs)) (same_tags n false (token Kind.BraceClose ∷ ps)))
  same_form (caps_expr cs) place ps = ap (λ (qs : List Piece). token Kind.Caps ∷ token Kind.BraceOpen ∷ qs) (same_caps cs false (token Kind.BraceClose ∷ ps))
  same_form (spawn_expr e f es) place ps = ap (λ (qs : List Piece). token Kind.Spawn ∷ token Kind.ParenOpen ∷ qs) (same_expr e 6 (token Kind.ParenClose ∷ blank ∷ name f (token Kind.ParenOpen ∷ lay_args false (unplaced_exprs es) (token Kind.ParenClose ∷ ps))) ∙ ap (λ (qs : List Piece). lay e 6 (token Kind.ParenClose ∷ blank ∷ name f (token Kind.ParenOpen ∷ qs))) (same_args es false (token Kind.ParenClose ∷ ps)))
  same_form _ place ps = refl

  same_expr : (e : ExprTree) (place : ℕ) → Same (lay (unplaced_expr e) place) (lay e place)
  same_expr (expr_node at form) place ps = same_form form place ps

  same_args : (es : ExprList) (later : Bool) → Same (lay_args later (unplaced_exprs es)) (lay_args later es)
  same_args no_exprs later ps = refl
  same_args (exprs e es) later ps = ap (comma later) (same_expr e 6 (lay_args true (unplaced_exprs es) ps) ∙ ap (lay e 6) (same_args es true ps))

  same_tags : (es : ExprList) (later : Bool) → Same (lay_tags later (unplaced_exprs es)) (lay_tags later es)
  same_tags no_exprs later ps = refl
  same_tags (exprs e es) later ps = ap (spaced later) (same_expr e 6 (lay_tags true (unplaced_exprs es) ps) ∙ ap (lay e 6) (same_tags es true ps))

same_value : (e : Option ExprTree) → Same (lay_value (unplaced_option_expr e)) (lay_value e)
same_value None ps = refl
same_value (Some e) ps = same_expr e 6 ps

-- ---- statements

-- an expression in parentheses, whatever follows
guarded : (e : ExprTree) (qs rs : List Piece) → qs ≡ rs → lay (unplaced_expr e) 6 (token Kind.ParenClose ∷ blank ∷ qs) ≡ lay e 6 (token Kind.ParenClose ∷ blank ∷ rs)
guarded e qs rs h = same_expr e 6 (token Kind.ParenClose ∷ blank ∷ qs) ∙ ap (λ (x : List Piece). lay e 6 (token Kind.ParenClose ∷ blank ∷ x)) h

-- the front of a region, whatever follows
same_region : (l c : ExprTree) (xs : List IdTree) (x : IdTree) (qs rs : List Piece) → qs ≡ rs → ◌≡◌ {A = List Piece}
    (token Kind.Region ∷ blank ∷ token Kind.ParenOpen ∷ lay (unplaced_expr l) 6 (token Kind.Comma ∷ blank ∷ lay (unplaced_expr c) 6 (token Kind.ParenClose ∷ blank ∷ token Kind.BracketOpen ∷ lay_names false (unplaced_ids xs) (token Kind.BracketClose ∷ blank ∷ qs))))
    (token Kind.Region ∷ blank ∷ token Kind.ParenOpen ∷ lay l 6 (token Kind.Comma ∷ blank ∷ lay c 6 (token Kind.ParenClose ∷ blank ∷ token Kind.BracketOpen ∷ lay_names false xs (token Kind.BracketClose ∷ blank ∷ rs))))
same_region l c xs x qs rs h =
    let names : lay_names false (unplaced_ids xs) (token Kind.BracketClose ∷ blank ∷ qs) ≡ lay_names false xs (token Kind.BracketClose ∷ blank ∷ rs) = same_names xs false (token Kind.BracketClose ∷ blank ∷ qs) ∙ ap (λ (y : List Piece). lay_names false xs (token Kind.BracketClose ∷ blank ∷ y)) h in
    let caps : lay (unplaced_expr c) 6 (token Kind.ParenClose ∷ blank ∷ token Kind.BracketOpen ∷ lay_names false (unplaced_ids xs) (token Kind.BracketClose ∷ blank ∷ qs)) ≡ lay c 6 (token Kind.ParenClose ∷ blank ∷ token Kind.BracketOpen ∷ lay_names false xs (token Kind.BracketClose ∷ blank ∷ rs)) = guarded c (token Kind.BracketOpen ∷ lay_names false (unplaced_ids xs) (token Kind.BracketClose ∷ blank ∷ qs)) (token Kind.BracketOpen ∷ lay_names false xs (token Kind.BracketClose ∷ blank ∷ rs)) (ap (λ (y : List Piece). token Kind.BracketOpen ∷ y) names) in
    ap (λ (y : List Piece). token Kind.Region ∷ blank ∷ token Kind.ParenOpen ∷ y) (same_expr l 6 (token Kind.Comma ∷ blank ∷ lay (unplaced_expr c) 6 (token Kind.ParenClose ∷ blank ∷ token Kind.BracketOpen ∷ lay_names false (unplaced_ids xs) (token Kind.BracketClose ∷ blank ∷ qs))) ∙ ap (λ (y : List Piece). lay l 6 (token Kind.Comma ∷ blank ∷ y)) caps)

mutual
  same_stmt_form : (form : StmtForm) (n : ℕ) → Same (lay_stmt_form (unplaced_stmt_form form) n) (lay_stmt_form form n)
  same_stmt_form (let_stmt v e) n ps = ap (λ (qs : List Piece). token Kind.Let ∷ blank ∷ qs) (same_var v (blank ∷ token Kind.Assign ∷ blank ∷ lay (unplaced_expr e) 6 (token Kind.Semicolon ∷ ps)) ∙ ap (λ (qs : List Piece). lay_var v (blank ∷ token Kind.Assign ∷ blank ∷ qs)) (same_expr e 6 (token Kind.Semicolon ∷ ps)))
  same_stmt_form (if_stmt e body other) n ps = ap (λ (qs : List Piece). token Kind.If ∷ blank ∷ token Kind.ParenOpen ∷ qs) (guarded e (lay_block (unplaced_stmts body) n (lay_else (unplaced_else other) n ps)) (lay_block body n (lay_else other n ps)) (same_block body n (lay_else (unplaced_else other) n ps) ∙ ap (lay_block body n) (same_else other n ps)))
  same_stmt_form (while_stmt e body) n ps = ap (λ (qs : List Piece). token Kind.While ∷ blank ∷ token Kind.ParenOpen ∷ qs) (guarded e (lay_block (unplaced_stmts body) n ps) (lay_block body n ps) (same_block body n ps))
  same_stmt_form (return_stmt e) n ps = ap (λ (qs : List Piece). token Kind.Return ∷ blank ∷ qs) (same_value e (token Kind.Semicolon ∷ ps))
  same_stmt_form (throw_stmt e) n ps = ap (λ (qs : List Piece). token Kind.Throw ∷ blank ∷ qs) (same_expr e 6 (token Kind.Semicolon ∷ ps))
  same_stmt_form (sync_stmt e body) n ps = ap (λ (qs : List Piece). token Kind.Sync ∷ blank ∷ token Kind.ParenOpen ∷ qs) (guarded e (lay_block (unplaced_stmts body) n ps) (lay_block body n ps) (same_block body n ps))
  same_stmt_form (region_stmt l c xs body x caught) n ps =
      let handled : List Piece → List Piece = λ qs. blank ∷ token Kind.Catch ∷ blank ∷ token Kind.ParenOpen ∷ name x (token Kind.ParenClose ∷ blank ∷ qs) in
      same_region l c xs x (lay_block (unplaced_stmts body) n (handled (lay_block (unplaced_stmts caught) n ps))) (lay_block body n (handled (lay_block caught n ps))) (same_block body n (handled (lay_block (unplaced_stmts caught) n ps)) ∙ ap (λ (qs : List Piece). lay_block body n (handled qs)) (same_block caught n ps))
  same_stmt_form (do_stmt e) n ps = same_expr e 6 (token Kind.Semicolon ∷ ps)
  same_stmt_form (assign_stmt p e) n ps = same_expr p 6 (blank ∷ token Kind.Assign ∷ blank ∷ lay (unplaced_expr e) 6 (token Kind.Semicolon ∷ ps)) ∙ ap (λ (qs : List Piece). lay p 6 (blank ∷ token Kind.Assign ∷ blank ∷ qs)) (same_expr e 6 (token Kind.Semicolon ∷ ps))

  same_stmt : (s : StmtTree) (n : ℕ) → Same (lay_stmt (unplaced_stmt s) n) (lay_stmt s n)
  same_stmt (stmt_node at form) n ps = same_stmt_form form n ps

  same_block : (ss : StmtList) (n : ℕ) → Same (lay_block (unplaced_stmts ss) n) (lay_block ss n)
  same_block no_stmts n ps = refl
  same_block (stmts s ss) n ps = ap (λ (qs : List Piece). token Kind.BraceOpen ∷ line (n + 1) ∷ qs) (same_stmt s (n + 1) (lay_stmts (unplaced_stmts ss) (n + 1) (line n ∷ token Kind.BraceClose ∷ ps)) ∙ ap (lay_stmt s (n + 1)) (same_stmts ss (n + 1) (line n ∷ token Kind.BraceClose ∷ ps)))

  same_stmts : (ss : StmtList) (n : ℕ) → Same (lay_stmts (unplaced_stmts ss) n) (lay_stmts ss n)
  same_stmts no_stmts n ps = refl
  same_stmts (stmts s ss) n ps = ap (λ (qs : List Piece). line n ∷ qs) (same_stmt s n (lay_stmts (unplaced_stmts ss) n ps) ∙ ap (lay_stmt s n) (same_stmts ss n ps))

  same_else : (other : ElseTree) (n : ℕ) → Same (lay_else (unplaced_else other) n) (lay_else other n)
  same_else no_else n ps = refl
  same_else (else_block body) n ps = ap (λ (qs : List Piece). blank ∷ token Kind.Else ∷ blank ∷ qs) (same_block body n ps)

-- ---- items

same_fields : (vs : List VarTree) → Same (lay_fields (unplaced_vars vs)) (lay_fields vs)
same_fields [] ps = refl
same_fields (v ∷ vs) ps = ap (λ (qs : List Piece). line 1 ∷ qs) (same_var v (token Kind.Semicolon ∷ lay_fields (unplaced_vars vs) ps) ∙ ap (λ (qs : List Piece). lay_var v (token Kind.Semicolon ∷ qs)) (same_fields vs ps))

same_class_body : (vs : List VarTree) → Same (lay_class_body (unplaced_vars vs)) (lay_class_body vs)
same_class_body [] ps = refl
same_class_body (v ∷ vs) ps = same_fields (v ∷ vs) (line 0 ∷ token Kind.BraceClose ∷ ps)

same_result : (t : Option TypeTree) → Same (lay_result (unplaced_option_type t)) (lay_result t)
same_result None ps = refl
same_result (Some t) ps = ap (λ (qs : List Piece). token Kind.Colon ∷ blank ∷ qs) (same_of_type t ps)

same_item : (i : ItemTree) → Same (lay_item (unplaced_item i)) (lay_item i)
same_item (class_item c) ps = ap (λ (qs : List Piece). token Kind.Class ∷ blank ∷ name c.name (blank ∷ token Kind.BraceOpen ∷ qs)) (same_class_body c.fields ps)
same_item (function_item f) ps =
    let braces : List Piece = blank ∷ lay_block (unplaced_stmts f.body) 0 ps in
    ap (λ (qs : List Piece). token Kind.Fn ∷ blank ∷ name f.name (token Kind.ParenOpen ∷ qs)) (same_vars f.params false (token Kind.ParenClose ∷ lay_result (unplaced_option_type f.result) braces) ∙ ap (λ (qs : List Piece). lay_vars false f.params (token Kind.ParenClose ∷ qs)) (same_result f.result braces ∙ ap (λ (qs : List Piece). lay_result f.result (blank ∷ qs)) (same_block f.body 0 ps)))

same_items : (p : ProgramTree) (later : Bool) → Same (lay_items later (unplaced p)) (lay_items later p)
same_items [] later ps = refl
same_items (i ∷ is) later ps = ap (gap later) (same_item i (line 0 ∷ lay_items true (unplaced is) ps) ∙ ap (λ (qs : List Piece). lay_item i (line 0 ∷ qs)) (same_items is true ps))

pub steady : Steady
steady p q e = ap written (sym (same_items q false []) ∙ ap (λ (x : ProgramTree). lay_items false x []) e ∙ same_items p false [])
