-- Statements are read back from their canonical tokens.
use Rattle.std.proofs.Common.{◌≡◌, ℕ, ◌+◌, true, false, cond, Bool, Option, Some, None, List, [], ◌∷◌, refl, sym, ap, ap₂, ◌∙◌, lit<}
use Rattle.lam_grammar_laws.specs.Grammar.{rule, production}
use Rattle.lam_lexer.specs.declared.token.Token.{Token}
use Rattle.lam_lexer.specs.declared.token.TokenKind.{TokenKind}
use Rattle.lam_lexer.specs.declared.token.TokenKind.TheVariants as Kind
use Rattle.lam_syntax.specs.Tree.{IdTree, VarTree, ExprTree, ExprForm, expr_node, binary_expr, StmtTree, stmt_node, StmtForm, let_stmt, if_stmt, while_stmt, return_stmt, throw_stmt, sync_stmt, region_stmt, do_stmt, assign_stmt, StmtList, no_stmts, ElseTree, no_else, else_block}
use Rattle.lam_syntax.specs.Tree.{stmts as stmts_node}
use Rattle.lam_syntax.specs.Unplaced.{unplaced_id, unplaced_ids, unplaced_expr, unplaced_expr_form, unplaced_stmt, unplaced_stmts, unplaced_else}
use Rattle.lam_grammar.specs.Table.{Rule, begins_expr, begins_stmt, expr, variable, parens, block, stmts, stmt, else_part, value_part, assign_part, region_head, captures, names, handler, paren_open, paren_close, brace_open, brace_close, bracket_open, bracket_close, comma as comma_mark, semicolon, equals, ID, let_word, if_word, while_word, return_word, throw_word, sync_word, region_word, catch_word, else_word}
use Rattle.lam_grammar.specs.Meaning.{Value, word, expr_value, ids_value, variable_value, two_exprs, stmt_value, stmts_value, else_value, handler_value, is_place, is_place_form, id_of}
use Rattle.lam_grammar.specs.Meaning as mean
use Rattle.lam_grammar.specs.Program.{lam}
use Rattle.lam_grammar.specs.Examples.{no_else_word, admits}
use Rattle.lam_grammar.proofs.Passes.{sound}
use Rattle.lam_print.specs.Pieces.{Piece, token as piece, blank, line}
use Rattle.lam_print.specs.Canon.{name, lay, lay_names, lay_stmt_form, lay_stmt, lay_block, lay_stmts, lay_else}
use Rattle.lam_print_laws.proofs.Spans.{nothing, token, joins}
use Rattle.lam_print_laws.proofs.Marks.{tok, ended, Here, Stands, Gives, made, Back, Closing, Closed, brace, bracket, nil}
use Rattle.lam_print_laws.proofs.Marks as m
use Rattle.lam_print_laws.proofs.Heads.{expr_stmt, StartsWith, stmt_head, no_else_stmt}
use Rattle.lam_print_laws.proofs.Parts.{Named, a_var, Idents, some_names}
use Rattle.lam_print_laws.proofs.Levels.{Read, in_parens}
use Rattle.lam_print_laws.proofs.Expressions.{an_expression}

-- ---- trees that a text can have

-- each assignment is to a place
abbrev mutual
  pub ReadyForm : StmtForm → Type 0
  ReadyForm (let_stmt v e) = Unit {0}
  ReadyForm (if_stmt e body other) = ReadyAll body × ReadyElse other
  ReadyForm (while_stmt e body) = ReadyAll body
  ReadyForm (return_stmt e) = Unit {0}
  ReadyForm (throw_stmt e) = Unit {0}
  ReadyForm (sync_stmt e body) = ReadyAll body
  ReadyForm (region_stmt l c xs body x caught) = ReadyAll body × ReadyAll caught
  ReadyForm (do_stmt e) = Unit {0}
  ReadyForm (assign_stmt p e) = is_place p ≡ true

  pub Ready : StmtTree → Type 0
  Ready (stmt_node at form) = ReadyForm form

  pub ReadyAll : StmtList → Type 0
  ReadyAll no_stmts = Unit {0}
  ReadyAll (stmts_node s ss) = Ready s × ReadyAll ss

  pub ReadyElse : ElseTree → Type 0
  ReadyElse no_else = Unit {0}
  ReadyElse (else_block body) = ReadyAll body

-- a place is one wherever it stands
place_form : (f : ExprForm) → is_place_form (unplaced_expr_form f) ≡ is_place_form f
place_form (binary_expr o l r) = refl
place_form _ = refl

place_of : (e : ExprTree) → is_place (unplaced_expr e) ≡ is_place e
place_of (expr_node at f) = place_form f

place_kept : (a b : ExprTree) → unplaced_expr a ≡ unplaced_expr b → is_place b ≡ true → is_place a ≡ true
place_kept a b e h = sym (place_of a) ∙ ap is_place e ∙ place_of b ∙ h

-- the last body of a statement
picks_expr : (before : Value) (at : ℕ) (k : TokenKind) → begins_expr k ≡ true → production lam stmt before (Some (tok at k)) ≡ Some (rule expr ∷ rule assign_part ∷ semicolon ∷ [])
picks_expr before at Kind.Let h = cc
picks_expr before at _ h = cc

no_else_closed : (ks : List TokenKind) → Closed ks → StartsWith (admits no_else_word) ks
no_else_closed [] c = c
no_else_closed (k ∷ ks) c = go c
  where
    go : {k : TokenKind} → Closing k → admits no_else_word k ≡ true
    go m.paren = refl
    go _ = refl

module _ (look : ℕ → Option Token) where
  -- The statement is read back from i on, and then come the kinds ks.
  pub record Told (s : StmtTree) (i : ℕ) (ks : List TokenKind) : Type 0 where
    pub tree : StmtTree
    pub end : ℕ
    pub gives : (before : Value) → Gives look stmt before i (stmt_value tree) end
    pub rest : Here look end ks
    pub same : unplaced_stmt tree ≡ unplaced_stmt s
    pub first : Token
    pub there : look i ≡ Some first
    pub opens : begins_stmt first.kind ≡ true

  abbrev pub Body : Rule → StmtList → ℕ → List TokenKind → Type 0
  Body r ss i ks = Back look StmtList stmts_value unplaced_stmts r ss i ks

  -- what is read at a level of nesting, whatever follows a block, and whatever but `else` follows a statement
  abbrev Blocks : StmtList → Type 0
  Blocks ss = (n i : ℕ) (ps : List Piece) → Here look i (ended (lay_block ss n ps)) → Body block ss i (ended ps)

  abbrev NoElse : List TokenKind → Type 0
  NoElse ks = StartsWith (admits no_else_word) ks

  abbrev Tells : StmtForm → Type 0
  Tells f = (at n i : ℕ) (ps : List Piece) → Here look i (ended (lay_stmt_form f n ps)) → NoElse (ended ps) → Told (stmt_node at f) i (ended ps)

  between_parens : (e : ExprTree) (i : ℕ) (ps : List Piece) → Here look i (Kind.ParenOpen ∷ ended (lay e 6 (piece Kind.ParenClose ∷ ps))) → Read look parens e i (ended ps)
  between_parens e i ps h = in_parens look e (λ qs. lay e 6 qs) (an_expression look e) i ps h

  a_let : (v : VarTree) (e : ExprTree) → Tells (let_stmt v e)
  a_let v e at n i ps h q =
      let x : Named look v (i + 1) (Kind.Assign ∷ ended (lay e 6 (piece Kind.Semicolon ∷ ps))) = a_var look v (i + 1) (blank ∷ piece Kind.Assign ∷ blank ∷ lay e 6 (piece Kind.Semicolon ∷ ps)) h.2 in
      let r : Read look expr e (x.end + 1) (Kind.Semicolon ∷ ended ps) = an_expression look e (x.end + 1) (piece Kind.Semicolon ∷ ps) x.rest.2 (lit< tt) in
      let w : Token = tok h.0 Kind.Let in
      let o : Token = tok x.rest.0 Kind.Assign in
      record {
        tree = stmt_node h.0 (let_stmt x.tree r.tree);
        end = r.end + 1;
        gives = λ before. made stmt before (let_word ∷ rule variable ∷ equals ∷ rule expr ∷ semicolon ∷ []) (word w ∷ variable_value x.tree ∷ word o ∷ expr_value r.begin r.tree ∷ word (tok r.rest.0 Kind.Semicolon) ∷ []) h.1 refl (token h.1 refl (joins (x.gives (word w)) (token x.rest.1 refl (joins (r.gives (word o)) (token r.rest.1 refl nothing)))));
        rest = r.rest.2;
        same = ap₂ (λ (y : VarTree) (z : ExprTree). stmt_node 0 (let_stmt y z)) x.same r.same;
        first = w;
        there = h.1;
        opens = refl;
      }

  -- the end of a conditional
  abbrev Elses : ElseTree → Type 0
  Elses other = (n i : ℕ) (ps : List Piece) → Here look i (ended (lay_else other n ps)) → NoElse (ended ps) → Back look ElseTree else_value unplaced_else else_part other i (ended ps)

  no_more_else : (i : ℕ) (ks : List TokenKind) → Here look i ks → NoElse ks → Back look ElseTree else_value unplaced_else else_part no_else i ks
  no_more_else i [] h q = absurd q
  no_more_else i (k ∷ ks) h q = record {
    tree = no_else;
    end = i;
    gives = λ before. made else_part before [] [] h.1 (sound.empties else_part before (Some (tok h.0 k)) refl q) nothing;
    rest = h;
    same = refl;
  }

  else_back : (body : StmtList) → Blocks body → Elses (else_block body)
  else_back body blocks n i ps h q =
      let r : Body block body (i + 1) (ended ps) = blocks n (i + 1) ps h.2 in
      let w : Token = tok h.0 Kind.Else in
      record {
        tree = else_block r.tree;
        end = r.end;
        gives = λ before. made else_part before (else_word ∷ rule block ∷ []) (word w ∷ stmts_value r.tree ∷ []) h.1 refl (token h.1 refl (r.gives (word w)));
        rest = r.rest;
        same = ap else_block r.same;
      }

  an_if : (e : ExprTree) (body : StmtList) (other : ElseTree) → Blocks body → Elses other → Tells (if_stmt e body other)
  an_if e body other blocks elses at n i ps h q =
      let r : Read look parens e (i + 1) (ended (lay_block body n (lay_else other n ps))) = between_parens e (i + 1) (blank ∷ lay_block body n (lay_else other n ps)) h.2 in
      let b : Body block body r.end (ended (lay_else other n ps)) = blocks n r.end (lay_else other n ps) r.rest in
      let o : Back look ElseTree else_value unplaced_else else_part other b.end (ended ps) = elses n b.end ps b.rest q in
      let w : Token = tok h.0 Kind.If in
      record {
        tree = stmt_node h.0 (if_stmt r.tree b.tree o.tree);
        end = o.end;
        gives = λ before. made stmt before (if_word ∷ rule parens ∷ rule block ∷ rule else_part ∷ []) (word w ∷ expr_value r.begin r.tree ∷ stmts_value b.tree ∷ else_value o.tree ∷ []) h.1 refl (token h.1 refl (joins (r.gives (word w)) (joins (b.gives (expr_value r.begin r.tree)) (o.gives (stmts_value b.tree)))));
        rest = o.rest;
        same = ap₂ (λ (x : ExprTree) (y : StmtList). stmt_node 0 (if_stmt x y (unplaced_else o.tree))) r.same b.same ∙ ap (λ (z : ElseTree). stmt_node 0 (if_stmt (unplaced_expr e) (unplaced_stmts body) z)) o.same;
        first = w;
        there = h.1;
        opens = refl;
      }

  a_while : (e : ExprTree) (body : StmtList) → Blocks body → Tells (while_stmt e body)
  a_while e body blocks at n i ps h q =
      let r : Read look parens e (i + 1) (ended (lay_block body n ps)) = between_parens e (i + 1) (blank ∷ lay_block body n ps) h.2 in
      let b : Body block body r.end (ended ps) = blocks n r.end ps r.rest in
      let w : Token = tok h.0 Kind.While in
      record {
        tree = stmt_node h.0 (while_stmt r.tree b.tree);
        end = b.end;
        gives = λ before. made stmt before (while_word ∷ rule parens ∷ rule block ∷ []) (word w ∷ expr_value r.begin r.tree ∷ stmts_value b.tree ∷ []) h.1 refl (token h.1 refl (joins (r.gives (word w)) (b.gives (expr_value r.begin r.tree))));
        rest = b.rest;
        same = ap₂ (λ (x : ExprTree) (y : StmtList). stmt_node 0 (while_stmt x y)) r.same b.same;
        first = w;
        there = h.1;
        opens = refl;
      }

  a_sync : (e : ExprTree) (body : StmtList) → Blocks body → Tells (sync_stmt e body)
  a_sync e body blocks at n i ps h q =
      let r : Read look parens e (i + 1) (ended (lay_block body n ps)) = between_parens e (i + 1) (blank ∷ lay_block body n ps) h.2 in
      let b : Body block body r.end (ended ps) = blocks n r.end ps r.rest in
      let w : Token = tok h.0 Kind.Sync in
      record {
        tree = stmt_node h.0 (sync_stmt r.tree b.tree);
        end = b.end;
        gives = λ before. made stmt before (sync_word ∷ rule parens ∷ rule block ∷ []) (word w ∷ expr_value r.begin r.tree ∷ stmts_value b.tree ∷ []) h.1 refl (token h.1 refl (joins (r.gives (word w)) (b.gives (expr_value r.begin r.tree))));
        rest = b.rest;
        same = ap₂ (λ (x : ExprTree) (y : StmtList). stmt_node 0 (sync_stmt x y)) r.same b.same;
        first = w;
        there = h.1;
        opens = refl;
      }

  a_return : (e : Option ExprTree) → Tells (return_stmt e)
  a_return None at n i ps h q =
      let w : Token = tok h.0 Kind.Return in
      record {
        tree = stmt_node h.0 (return_stmt None);
        end = i + 1 + 1;
        gives = λ before. made stmt before (return_word ∷ rule value_part ∷ semicolon ∷ []) (word w ∷ mean.nothing ∷ word (tok h.2.0 Kind.Semicolon) ∷ []) h.1 refl (token h.1 refl (joins (made value_part (word w) [] [] h.2.1 refl nothing) (token h.2.1 refl nothing)));
        rest = h.2.2;
        same = refl;
        first = w;
        there = h.1;
        opens = refl;
      }
  a_return (Some e) at n i ps h q =
      let r : Read look expr e (i + 1) (Kind.Semicolon ∷ ended ps) = an_expression look e (i + 1) (piece Kind.Semicolon ∷ ps) h.2 (lit< tt) in
      let w : Token = tok h.0 Kind.Return in
      record {
        tree = stmt_node h.0 (return_stmt (Some r.tree));
        end = r.end + 1;
        gives = λ before. made stmt before (return_word ∷ rule value_part ∷ semicolon ∷ []) (word w ∷ expr_value r.begin r.tree ∷ word (tok r.rest.0 Kind.Semicolon) ∷ []) h.1 refl (token h.1 refl (joins (made value_part (word w) (rule expr ∷ []) (expr_value r.begin r.tree ∷ []) r.there (ap (λ (x : Bool). Some (cond x (rule expr ∷ []) [])) r.opens) (r.gives (word w))) (token r.rest.1 refl nothing)));
        rest = r.rest.2;
        same = ap (λ (x : ExprTree). stmt_node 0 (return_stmt (Some x))) r.same;
        first = w;
        there = h.1;
        opens = refl;
      }

  a_throw : (e : ExprTree) → Tells (throw_stmt e)
  a_throw e at n i ps h q =
      let r : Read look expr e (i + 1) (Kind.Semicolon ∷ ended ps) = an_expression look e (i + 1) (piece Kind.Semicolon ∷ ps) h.2 (lit< tt) in
      let w : Token = tok h.0 Kind.Throw in
      record {
        tree = stmt_node h.0 (throw_stmt r.tree);
        end = r.end + 1;
        gives = λ before. made stmt before (throw_word ∷ rule expr ∷ semicolon ∷ []) (word w ∷ expr_value r.begin r.tree ∷ word (tok r.rest.0 Kind.Semicolon) ∷ []) h.1 refl (token h.1 refl (joins (r.gives (word w)) (token r.rest.1 refl nothing)));
        rest = r.rest.2;
        same = ap (λ (x : ExprTree). stmt_node 0 (throw_stmt x)) r.same;
        first = w;
        there = h.1;
        opens = refl;
      }

  a_do : (e : ExprTree) → Tells (do_stmt e)
  a_do e at n i ps h q =
      let r : Read look expr e i (Kind.Semicolon ∷ ended ps) = an_expression look e i (piece Kind.Semicolon ∷ ps) h (lit< tt) in
      let v : Value = expr_value r.begin r.tree in
      record {
        tree = stmt_node r.begin (do_stmt r.tree);
        end = r.end + 1;
        gives = λ before. made stmt before (rule expr ∷ rule assign_part ∷ semicolon ∷ []) (expr_value r.begin r.tree ∷ mean.nothing ∷ word (tok r.rest.0 Kind.Semicolon) ∷ []) r.there (picks_expr before r.first.at r.first.kind r.opens) (joins (r.gives before) (joins (made assign_part v [] [] r.rest.1 (sound.empties assign_part v (Some (tok r.rest.0 Kind.Semicolon)) refl refl) nothing) (token r.rest.1 refl nothing)));
        rest = r.rest.2;
        same = ap (λ (x : ExprTree). stmt_node 0 (do_stmt x)) r.same;
        first = r.first;
        there = r.there;
        opens = expr_stmt r.first.kind r.opens;
      }

  an_assign : (p e : ExprTree) → is_place p ≡ true → Tells (assign_stmt p e)
  an_assign p e place at n i ps h q =
      let r : Read look expr p i (Kind.Assign ∷ ended (lay e 6 (piece Kind.Semicolon ∷ ps))) = an_expression look p i (blank ∷ piece Kind.Assign ∷ blank ∷ lay e 6 (piece Kind.Semicolon ∷ ps)) h (lit< tt) in
      let t : Read look expr e (r.end + 1) (Kind.Semicolon ∷ ended ps) = an_expression look e (r.end + 1) (piece Kind.Semicolon ∷ ps) r.rest.2 (lit< tt) in
      let o : Token = tok r.rest.0 Kind.Assign in
      record {
        tree = stmt_node r.begin (assign_stmt r.tree t.tree);
        end = t.end + 1;
        gives = λ before. made stmt before (rule expr ∷ rule assign_part ∷ semicolon ∷ []) (expr_value r.begin r.tree ∷ expr_value t.begin t.tree ∷ word (tok t.rest.0 Kind.Semicolon) ∷ []) r.there (picks_expr before r.first.at r.first.kind r.opens) (joins (r.gives before) (joins (made assign_part (expr_value r.begin r.tree) (equals ∷ rule expr ∷ []) (word o ∷ expr_value t.begin t.tree ∷ []) r.rest.1 (ap (λ (x : Bool). cond x (Some (equals ∷ rule expr ∷ [])) None) (place_kept r.tree p r.same place)) (token r.rest.1 refl (t.gives (word o)))) (token t.rest.1 refl nothing)));
        rest = t.rest.2;
        same = ap₂ (λ (x y : ExprTree). stmt_node 0 (assign_stmt x y)) r.same t.same;
        first = r.first;
        there = r.there;
        opens = expr_stmt r.first.kind r.opens;
      }

  -- ---- regions

  -- the two expressions in the parentheses of a region
  abbrev Pair : Type 0
  Pair = ExprTree × ExprTree

  abbrev HeadBack : ExprTree → ExprTree → ℕ → List TokenKind → Type 0
  HeadBack l c i ks = Back look Pair (λ x. two_exprs x.0 x.1) (λ x. (unplaced_expr x.0, unplaced_expr x.1)) region_head (l, c) i ks

  head_back : (l c : ExprTree) (i : ℕ) (ps : List Piece) → Here look i (Kind.ParenOpen ∷ ended (lay l 6 (piece Kind.Comma ∷ blank ∷ lay c 6 (piece Kind.ParenClose ∷ ps)))) → HeadBack l c i (ended ps)
  head_back l c i ps h =
      let a : Read look expr l (i + 1) (Kind.Comma ∷ ended (lay c 6 (piece Kind.ParenClose ∷ ps))) = an_expression look l (i + 1) (piece Kind.Comma ∷ blank ∷ lay c 6 (piece Kind.ParenClose ∷ ps)) h.2 (lit< tt) in
      let b : Read look expr c (a.end + 1) (Kind.ParenClose ∷ ended ps) = an_expression look c (a.end + 1) (piece Kind.ParenClose ∷ ps) a.rest.2 (lit< tt) in
      let w : Token = tok h.0 Kind.ParenOpen in
      let q : Token = tok a.rest.0 Kind.Comma in
      record {
        tree = (a.tree, b.tree);
        end = b.end + 1;
        gives = λ before. made region_head before (paren_open ∷ rule expr ∷ comma_mark ∷ rule expr ∷ paren_close ∷ []) (word w ∷ expr_value a.begin a.tree ∷ word q ∷ expr_value b.begin b.tree ∷ word (tok b.rest.0 Kind.ParenClose) ∷ []) h.1 refl (token h.1 refl (joins (a.gives (word w)) (token a.rest.1 refl (joins (b.gives (word q)) (token b.rest.1 refl nothing)))));
        rest = b.rest.2;
        same = ap₂ (λ (x y : ExprTree). (x, y)) a.same b.same;
      }

  captures_back : (xs : List IdTree) (i : ℕ) (ps : List Piece) → Here look i (Kind.BracketOpen ∷ ended (lay_names false xs (piece Kind.BracketClose ∷ ps))) → Back look (List IdTree) ids_value unplaced_ids captures xs i (ended ps)
  captures_back xs i ps h =
      let r : Idents look names xs (i + 1) (Kind.BracketClose ∷ ended ps) = some_names look xs (i + 1) (piece Kind.BracketClose ∷ ps) h.2 bracket in
      let w : Token = tok h.0 Kind.BracketOpen in
      record {
        tree = r.tree;
        end = r.end + 1;
        gives = λ before. made captures before (bracket_open ∷ rule names ∷ bracket_close ∷ []) (word w ∷ ids_value r.tree ∷ word (tok r.rest.0 Kind.BracketClose) ∷ []) h.1 refl (token h.1 refl (joins (r.gives (word w)) (token r.rest.1 refl nothing)));
        rest = r.rest.2;
        same = r.same;
      }

  abbrev HandlerBack : IdTree → StmtList → ℕ → List TokenKind → Type 0
  HandlerBack x caught i ks = Back look (IdTree × StmtList) (λ y. handler_value y.0 y.1) (λ y. (unplaced_id y.0, unplaced_stmts y.1)) handler (x, caught) i ks

  handler_back : (x : IdTree) (caught : StmtList) → Blocks caught → (n i : ℕ) (ps : List Piece) → Here look i (Kind.Catch ∷ Kind.ParenOpen ∷ Kind.Id x.word ∷ Kind.ParenClose ∷ ended (lay_block caught n ps)) → HandlerBack x caught i (ended ps)
  handler_back x caught blocks n i ps h =
      let b : Body block caught (i + 1 + 1 + 1 + 1) (ended ps) = blocks n (i + 1 + 1 + 1 + 1) ps h.2.2.2.2 in
      let y : Token = tok h.2.2.0 (Kind.Id x.word) in
      let c : Token = tok h.2.2.2.0 Kind.ParenClose in
      record {
        tree = (id_of y, b.tree);
        end = b.end;
        gives = λ before. made handler before (catch_word ∷ paren_open ∷ ID ∷ paren_close ∷ rule block ∷ []) (word (tok h.0 Kind.Catch) ∷ word (tok h.2.0 Kind.ParenOpen) ∷ word y ∷ word c ∷ stmts_value b.tree ∷ []) h.1 refl (token h.1 refl (token h.2.1 refl (token h.2.2.1 refl (token h.2.2.2.1 refl (b.gives (word c))))));
        rest = b.rest;
        same = ap (λ (z : StmtList). (unplaced_id x, z)) b.same;
      }

  region_same : (l l' c c' : ExprTree) (xs xs' : List IdTree) (b b' : StmtList) (x x' : IdTree) (d d' : StmtList) → ◌≡◌ {A = Pair} (unplaced_expr l', unplaced_expr c') (unplaced_expr l, unplaced_expr c) → unplaced_ids xs' ≡ unplaced_ids xs → unplaced_stmts b' ≡ unplaced_stmts b → ◌≡◌ {A = IdTree × StmtList} (unplaced_id x', unplaced_stmts d') (unplaced_id x, unplaced_stmts d) → unplaced_stmt (stmt_node 0 (region_stmt l' c' xs' b' x' d')) ≡ unplaced_stmt (stmt_node 0 (region_stmt l c xs b x d))
  region_same l l' c c' xs xs' b b' x x' d d' e f g k =
      let e0 : unplaced_expr l' ≡ unplaced_expr l = ap (λ (y : Pair). y.0) e in
      let e1 : unplaced_expr c' ≡ unplaced_expr c = ap (λ (y : Pair). y.1) e in
      let k0 : unplaced_id x' ≡ unplaced_id x = ap (λ (y : IdTree × StmtList). y.0) k in
      let k1 : unplaced_stmts d' ≡ unplaced_stmts d = ap (λ (y : IdTree × StmtList). y.1) k in
      cc (e0, e1, k0, k1)

  region_gives : (before : Value) (at : ℕ) (l c : ExprTree) (xs : List IdTree) (b : StmtList) (x : IdTree) (d : StmtList) (i j k m n : ℕ) → look i ≡ Some (tok at Kind.Region) → Gives look region_head (word (tok at Kind.Region)) (i + 1) (two_exprs l c) j → Gives look captures (two_exprs l c) j (ids_value xs) k → Gives look block (ids_value xs) k (stmts_value b) m → Gives look handler (stmts_value b) m (handler_value x d) n → Gives look stmt before i (stmt_value (stmt_node at (region_stmt l c xs b x d))) n
  region_gives before at l c xs b x d i j k m n e a s g h = made stmt before (region_word ∷ rule region_head ∷ rule captures ∷ rule block ∷ rule handler ∷ []) (word (tok at Kind.Region) ∷ two_exprs l c ∷ ids_value xs ∷ stmts_value b ∷ handler_value x d ∷ []) e refl (token e refl (joins a (joins s (joins g h))))

  a_region : (l c : ExprTree) (xs : List IdTree) (body : StmtList) (x : IdTree) (caught : StmtList) → Blocks body → Blocks caught → Tells (region_stmt l c xs body x caught)
  a_region l c xs body x caught blocks catches at n i ps h q =
      let behind : List Piece = blank ∷ piece Kind.Catch ∷ blank ∷ piece Kind.ParenOpen ∷ name x (piece Kind.ParenClose ∷ blank ∷ lay_block caught n ps) in
      let inner : List Piece = blank ∷ lay_block body n behind in
      let list : List Piece = blank ∷ piece Kind.BracketOpen ∷ lay_names false xs (piece Kind.BracketClose ∷ inner) in
      let a : HeadBack l c (i + 1) (ended list) = head_back l c (i + 1) list h.2 in
      let s : Back look (List IdTree) ids_value unplaced_ids captures xs a.end (ended inner) = captures_back xs a.end inner a.rest in
      let b : Body block body s.end (ended behind) = blocks n s.end behind s.rest in
      let d : HandlerBack x caught b.end (ended ps) = handler_back x caught catches n b.end ps b.rest in
      let w : Token = tok h.0 Kind.Region in
      record {
        tree = stmt_node h.0 (region_stmt a.tree.0 a.tree.1 s.tree b.tree d.tree.0 d.tree.1);
        end = d.end;
        gives = λ before. region_gives before h.0 a.tree.0 a.tree.1 s.tree b.tree d.tree.0 d.tree.1 i a.end s.end b.end d.end h.1 (a.gives (word w)) (s.gives (two_exprs a.tree.0 a.tree.1)) (b.gives (ids_value s.tree)) (d.gives (stmts_value b.tree));
        rest = d.rest;
        same = region_same l a.tree.0 c a.tree.1 xs s.tree body b.tree x d.tree.0 caught d.tree.1 a.same s.same b.same d.same;
        first = w;
        there = h.1;
        opens = refl;
      }

  -- ---- lists of statements

  follow_stmts : (ss : StmtList) (n : ℕ) (ps : List Piece) → Closed (ended ps) → NoElse (ended (lay_stmts ss n ps))
  follow_stmts no_stmts n ps c = no_else_closed (ended ps) c
  follow_stmts (stmts_node s ss) n ps c = no_else_stmt (ended (lay_stmt s n (lay_stmts ss n ps))) (stmt_head s n (lay_stmts ss n ps))

  one_more : (s : StmtTree) (ss : StmtList) (i : ℕ) (kr ks : List TokenKind) (r : Told s i kr) → Body stmts ss r.end ks → Body stmts (stmts_node s ss) i ks
  one_more s ss i kr ks r t = record {
    tree = stmts_node r.tree t.tree;
    end = t.end;
    gives = λ before. made stmts before (rule stmt ∷ rule stmts ∷ []) (stmt_value r.tree ∷ stmts_value t.tree ∷ []) r.there (ap (λ (x : Bool). Some (cond x (rule stmt ∷ rule stmts ∷ []) [])) r.opens) (joins (r.gives before) (t.gives (stmt_value r.tree)));
    rest = t.rest;
    same = ap₂ (λ (x : StmtTree) (y : StmtList). stmts_node x y) r.same t.same;
  }

  in_braces : (ss : StmtList) (i : ℕ) (ks : List TokenKind) (h : Stands look i Kind.BraceOpen) → Body stmts ss (i + 1) (Kind.BraceClose ∷ ks) → Body block ss i ks
  in_braces ss i ks h r =
      let w : Token = tok h.0 Kind.BraceOpen in
      record {
        tree = r.tree;
        end = r.end + 1;
        gives = λ before. made block before (brace_open ∷ rule stmts ∷ brace_close ∷ []) (word w ∷ stmts_value r.tree ∷ word (tok r.rest.0 Kind.BraceClose) ∷ []) h.1 refl (token h.1 refl (joins (r.gives (word w)) (token r.rest.1 refl nothing)));
        rest = r.rest.2;
        same = r.same;
      }

  mutual
    form_told : (form : StmtForm) → ReadyForm form → Tells form
    form_told (let_stmt v e) q = a_let v e
    form_told (if_stmt e body other) q = an_if e body other (λ n i ps h. block_back body q.0 n i ps h) (λ n i ps h f. end_back other q.1 n i ps h f)
    form_told (while_stmt e body) q = a_while e body (λ n i ps h. block_back body q n i ps h)
    form_told (return_stmt e) q = a_return e
    form_told (throw_stmt e) q = a_throw e
    form_told (sync_stmt e body) q = a_sync e body (λ n i ps h. block_back body q n i ps h)
    form_told (region_stmt l c xs body x caught) q = a_region l c xs body x caught (λ n i ps h. block_back body q.0 n i ps h) (λ n i ps h. block_back caught q.1 n i ps h)
    form_told (do_stmt e) q = a_do e
    form_told (assign_stmt p e) q = an_assign p e q

    end_back : (other : ElseTree) → ReadyElse other → Elses other
    end_back no_else q n i ps h f = no_more_else i (ended ps) h f
    end_back (else_block body) q n i ps h f = else_back body (λ m j qs g. block_back body q m j qs g) n i ps h f

    told : (s : StmtTree) → Ready s → (n i : ℕ) (ps : List Piece) → Here look i (ended (lay_stmt s n ps)) → NoElse (ended ps) → Told s i (ended ps)
    told (stmt_node at form) q n i ps h f = form_told form q at n i ps h f

    -- each on a line
    list_back : (ss : StmtList) → ReadyAll ss → (n i : ℕ) (ps : List Piece) → Here look i (ended (lay_stmts ss n ps)) → Closed (ended ps) → Body stmts ss i (ended ps)
    list_back no_stmts q n i ps h c = nil look StmtList stmts_value unplaced_stmts stmts no_stmts i (ended ps) refl refl refl h c
    list_back (stmts_node s ss) q n i ps h c =
        let r : Told s i (ended (lay_stmts ss n ps)) = told s q.0 n i (lay_stmts ss n ps) h (follow_stmts ss n ps c) in
        one_more s ss i (ended (lay_stmts ss n ps)) (ended ps) r (list_back ss q.1 n r.end ps r.rest c)

    block_back : (ss : StmtList) → ReadyAll ss → (n i : ℕ) (ps : List Piece) → Here look i (ended (lay_block ss n ps)) → Body block ss i (ended ps)
    block_back no_stmts q n i ps h = in_braces no_stmts i (ended ps) (h.0, h.1) (nil look StmtList stmts_value unplaced_stmts stmts no_stmts (i + 1) (Kind.BraceClose ∷ ended ps) refl refl refl h.2 brace)
    block_back (stmts_node s ss) q n i ps h =
        let ends : List Piece = line n ∷ piece Kind.BraceClose ∷ ps in
        let r : Told s (i + 1) (ended (lay_stmts ss (n + 1) ends)) = told s q.0 (n + 1) (i + 1) (lay_stmts ss (n + 1) ends) h.2 (follow_stmts ss (n + 1) ends brace) in
        in_braces (stmts_node s ss) i (ended ps) (h.0, h.1) (one_more s ss (i + 1) (ended (lay_stmts ss (n + 1) ends)) (Kind.BraceClose ∷ ended ps) r (list_back ss q.1 (n + 1) r.end ends r.rest brace))

  pub a_block : (ss : StmtList) → ReadyAll ss → (n i : ℕ) (ps : List Piece) → Here look i (ended (lay_block ss n ps)) → Body block ss i (ended ps)
  a_block ss q n i ps h = block_back ss q n i ps h
