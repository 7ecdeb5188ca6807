-- Expressions are read level by level: from what is read at one, what is read at the weaker ones, and in parentheses.
use Rattle.std.proofs.Common.{◌≡◌, ℕ, ◌+◌, true, cond, Bool, Option, Some, List, [], ◌∷◌, refl, ap, ap₂, subst, lit<, lit≤}
use Rattle.lam_grammar_laws.specs.Grammar.{rule}
use Rattle.lam_lexer.specs.declared.token.Token.{Token}
use Rattle.lam_lexer.specs.declared.token.TokenKind.{TokenKind}
use Rattle.lam_lexer.specs.declared.token.TokenKind.TheVariants as Kind
use Rattle.lam_syntax.specs.Tree.{ExprTree, expr_node, binary_expr}
use Rattle.lam_syntax.specs.Unplaced.{unplaced_expr}
use Rattle.lam_grammar.specs.declared.Level.{Level}
use Rattle.lam_grammar.specs.declared.Level.TheVariants.{Or as or_level, And as and_level, Sum as sum_level, Term as term_level}
use Rattle.lam_grammar.specs.Table.{Rule, expr, comparison, comparison_tail, unary, post, post_tail, prim, chain, chain_tail, parens, operand_rule, operator, operates, comparing, compares, prefix, paren_open, paren_close, begins, begins_prim, begins_expr}
use Rattle.lam_grammar.specs.Meaning.{Value, word, expr_value, operations_value, postfixes_value, Operations, no_more, operation, Postfixes, no_postfix, combine, extend, binary_op}
use Rattle.lam_print.specs.Pieces.{Piece, token as piece}
use Rattle.lam_print.specs.Canon.{grouped}
use Rattle.lam_print_laws.proofs.Spans.{nothing, token, joins}
use Rattle.lam_print_laws.proofs.Marks.{tok, ended, Here, Gives, made, Follow, looser, stage, no_operator, comparison_ends, post_ends, prim_expr, no_sign}

prim_parens : (k : TokenKind) → begins parens k ≡ true → begins prim k ≡ true
prim_parens Kind.ParenOpen h = refl
prim_parens _ h = cc

module _ (look : ℕ → Option Token) where
  -- The rule reads e from i on, and then come the kinds ks.
  pub record Read (r : Rule) (e : ExprTree) (i : ℕ) (ks : List TokenKind) : Type 0 where
    pub begin : ℕ
    pub tree : ExprTree
    pub end : ℕ
    pub gives : (before : Value) → Gives look r before i (expr_value begin tree) end
    pub rest : Here look end ks
    pub same : unplaced_expr tree ≡ unplaced_expr e
    pub first : Token
    pub there : look i ≡ Some first
    pub opens : begins r first.kind ≡ true

  -- e is read from i on as the left end of a chain, and then come the kinds ks: the first operand of the chain, and
  -- what puts the operations of e before those that are read behind it.
  pub record Left (l : Level) (e : ExprTree) (i : ℕ) (ks : List TokenKind) : Type 0 where
    pub begin : ℕ
    pub head : ExprTree
    pub middle : ℕ
    pub gives : (before : Value) → Gives look (operand_rule l) before i (expr_value begin head) middle
    pub end : ℕ
    pub rest : Here look end ks
    pub grow : Operations → Operations
    pub tail : (more : Operations) (k : ℕ) → ((before : Value) → Gives look (chain_tail l) before end (operations_value more) k) → (before : Value) → Gives look (chain_tail l) before middle (operations_value (grow more)) k
    pub tree : ExprTree
    pub whole : (more : Operations) → combine begin head (grow more) ≡ combine begin tree more
    pub same : unplaced_expr tree ≡ unplaced_expr e
    pub first : Token
    pub there : look i ≡ Some first
    pub opens : begins_expr first.kind ≡ true

  -- the same of an operand with its postfix parts
  pub record Core (e : ExprTree) (i : ℕ) (ks : List TokenKind) : Type 0 where
    pub begin : ℕ
    pub head : ExprTree
    pub middle : ℕ
    pub gives : (before : Value) → Gives look prim before i (expr_value begin head) middle
    pub end : ℕ
    pub rest : Here look end ks
    pub grow : Postfixes → Postfixes
    pub tail : (more : Postfixes) (k : ℕ) → ((before : Value) → Gives look post_tail before end (postfixes_value more) k) → (before : Value) → Gives look post_tail before middle (postfixes_value (grow more)) k
    pub tree : ExprTree
    pub whole : (more : Postfixes) → extend begin head (grow more) ≡ extend begin tree more
    pub same : unplaced_expr tree ≡ unplaced_expr e
    pub first : Token
    pub there : look i ≡ Some first
    pub opens : begins_prim first.kind ≡ true

  -- ---- from one level to the next

  -- the same, read by another rule
  moved : (q r : Rule) (e : ExprTree) (i : ℕ) (ks : List TokenKind) → (x : Read q e i ks) → ((before : Value) → Gives look r before i (expr_value x.begin x.tree) x.end) → begins r x.first.kind ≡ true → Read r e i ks
  moved q r e i ks x gives opens = record { begin = x.begin; tree = x.tree; end = x.end; gives = gives; rest = x.rest; same = x.same; first = x.first; there = x.there; opens = opens }

  pub core : (e : ExprTree) (i : ℕ) (ks : List TokenKind) → Read prim e i ks → Core e i ks
  core e i ks r = record {
    begin = r.begin;
    head = r.tree;
    middle = r.end;
    gives = r.gives;
    end = r.end;
    rest = r.rest;
    grow = λ more. more;
    tail = λ more k t. t;
    tree = r.tree;
    whole = λ more. refl;
    same = r.same;
    first = r.first;
    there = r.there;
    opens = r.opens;
  }

  pub posted : (e : ExprTree) (i : ℕ) (ks : List TokenKind) → Core e i ks → Follow 1 ks → Read post e i ks
  posted e i [] c f = absurd f
  posted e i (k ∷ ks) c f =
      let t : (before : Value) → Gives look post_tail before c.middle (postfixes_value (c.grow no_postfix)) c.end = c.tail no_postfix c.end (λ before. made post_tail before [] [] c.rest.1 (post_ends before c.rest.0 k f) nothing) in
      record {
        begin = c.begin;
        tree = c.tree;
        end = c.end;
        gives = λ before. subst (λ (x : ExprTree). Gives look post before i (expr_value c.begin x) c.end) (c.whole no_postfix) (made post before (rule prim ∷ rule post_tail ∷ []) (expr_value c.begin c.head ∷ postfixes_value (c.grow no_postfix) ∷ []) c.there refl (joins (c.gives before) (t (expr_value c.begin c.head))));
        rest = c.rest;
        same = c.same;
        first = c.first;
        there = c.there;
        opens = c.opens;
      }

  pub plain : (e : ExprTree) (i : ℕ) (ks : List TokenKind) → Read post e i ks → Read unary e i ks
  plain e i ks r = moved post unary e i ks r (λ before. made unary before (rule post ∷ []) (expr_value r.begin r.tree ∷ []) r.there (ap (λ (b : Bool). Some (cond b (prefix ∷ rule unary ∷ []) (rule post ∷ []))) (no_sign r.first.kind r.opens)) (r.gives before)) (prim_expr r.first.kind r.opens)

  pub left : (l : Level) (e : ExprTree) (i : ℕ) (ks : List TokenKind) → (r : Read (operand_rule l) e i ks) → begins_expr r.first.kind ≡ true → Left l e i ks
  left l e i ks r o = record {
    begin = r.begin;
    head = r.tree;
    middle = r.end;
    gives = r.gives;
    end = r.end;
    rest = r.rest;
    grow = λ more. more;
    tail = λ more k t. t;
    tree = r.tree;
    whole = λ more. refl;
    same = r.same;
    first = r.first;
    there = r.there;
    opens = o;
  }

  -- nothing of the chain follows
  pub chained : (l : Level) (e : ExprTree) (i : ℕ) (ks : List TokenKind) → Left l e i ks → Follow (stage l) ks → Read (chain l) e i ks
  chained l e i [] c f = absurd f
  chained l e i (k ∷ ks) c f =
      let t : (before : Value) → Gives look (chain_tail l) before c.middle (operations_value (c.grow no_more)) c.end = c.tail no_more c.end (λ before. made (chain_tail l) before [] [] c.rest.1 (ap (λ (b : Bool). Some (cond b (operator l ∷ rule (operand_rule l) ∷ rule (chain_tail l) ∷ []) [])) (no_operator l k f)) nothing) in
      record {
        begin = c.begin;
        tree = c.tree;
        end = c.end;
        gives = λ before. subst (λ (x : ExprTree). Gives look (chain l) before i (expr_value c.begin x) c.end) (c.whole no_more) (made (chain l) before (rule (operand_rule l) ∷ rule (chain_tail l) ∷ []) (expr_value c.begin c.head ∷ operations_value (c.grow no_more) ∷ []) c.there refl (joins (c.gives before) (t (expr_value c.begin c.head))));
        rest = c.rest;
        same = c.same;
        first = c.first;
        there = c.there;
        opens = c.opens;
      }

  -- one more operation
  pub operated : (l : Level) (k : TokenKind) (at : ℕ) (a b : ExprTree) (i : ℕ) (kr ks : List TokenKind) → operates l k ≡ true → (c : Left l a i (k ∷ kr)) → Read (operand_rule l) b (c.end + 1) ks → Left l (expr_node at (binary_expr (binary_op k) a b)) i ks
  operated l k at a b i kr ks o c r =
      let w : Token = tok c.rest.0 k in
      record {
        begin = c.begin;
        head = c.head;
        middle = c.middle;
        gives = c.gives;
        end = r.end;
        rest = r.rest;
        grow = λ more. c.grow (operation (binary_op k) r.tree more);
        tail = λ more j t. c.tail (operation (binary_op k) r.tree more) j (λ before. made (chain_tail l) before (operator l ∷ rule (operand_rule l) ∷ rule (chain_tail l) ∷ []) (word w ∷ expr_value r.begin r.tree ∷ operations_value more ∷ []) c.rest.1 (ap (λ (x : Bool). Some (cond x (operator l ∷ rule (operand_rule l) ∷ rule (chain_tail l) ∷ []) [])) o) (token c.rest.1 o (joins (r.gives (word w)) (t (expr_value r.begin r.tree)))));
        tree = expr_node c.begin (binary_expr (binary_op k) c.tree r.tree);
        whole = λ more. c.whole (operation (binary_op k) r.tree more);
        same = ap₂ (λ (x y : ExprTree). expr_node 0 (binary_expr (binary_op k) x y)) c.same r.same;
        first = c.first;
        there = c.there;
        opens = c.opens;
      }

  -- no comparison
  pub compared : (e : ExprTree) (i : ℕ) (ks : List TokenKind) → Read (chain sum_level) e i ks → Follow 5 ks → Read comparison e i ks
  compared e i [] r f = absurd f
  compared e i (k ∷ ks) r f = moved (chain sum_level) comparison e i (k ∷ ks) r (λ before. made comparison before (rule (chain sum_level) ∷ rule comparison_tail ∷ []) (expr_value r.begin r.tree ∷ operations_value no_more ∷ []) r.there refl (joins (r.gives before) (made comparison_tail (expr_value r.begin r.tree) [] [] r.rest.1 (comparison_ends (expr_value r.begin r.tree) r.rest.0 k f) nothing))) r.opens

  -- a comparison
  pub comparing_two : (k : TokenKind) (at : ℕ) (a b : ExprTree) (i : ℕ) (kr ks : List TokenKind) → compares k ≡ true → (c : Read (chain sum_level) a i (k ∷ kr)) → Read (chain sum_level) b (c.end + 1) ks → Read comparison (expr_node at (binary_expr (binary_op k) a b)) i ks
  comparing_two k at a b i kr ks o c r =
      let w : Token = tok c.rest.0 k in
      record {
        begin = c.begin;
        tree = expr_node c.begin (binary_expr (binary_op k) c.tree r.tree);
        end = r.end;
        gives = λ before. made comparison before (rule (chain sum_level) ∷ rule comparison_tail ∷ []) (expr_value c.begin c.tree ∷ operations_value (operation (binary_op k) r.tree no_more) ∷ []) c.there refl (joins (c.gives before) (made comparison_tail (expr_value c.begin c.tree) (comparing ∷ rule (chain sum_level) ∷ []) (word w ∷ expr_value r.begin r.tree ∷ []) c.rest.1 (ap (λ (x : Bool). Some (cond x (comparing ∷ rule (chain sum_level) ∷ []) [])) o) (token c.rest.1 o (r.gives (word w)))));
        rest = r.rest;
        same = ap₂ (λ (x y : ExprTree). expr_node 0 (binary_expr (binary_op k) x y)) c.same r.same;
        first = c.first;
        there = c.there;
        opens = c.opens;
      }

  pub any : (e : ExprTree) (i : ℕ) (ks : List TokenKind) → Read (chain or_level) e i ks → Read expr e i ks
  any e i ks r = moved (chain or_level) expr e i ks r (λ before. made expr before (rule (chain or_level) ∷ []) (expr_value r.begin r.tree ∷ []) r.there refl (r.gives before)) r.opens

  -- ---- the ways up, from where an expression is read

  pub up1 : (e : ExprTree) (i : ℕ) (ks : List TokenKind) → Follow 2 ks → Core e i ks → Read unary e i ks
  up1 e i ks f c = plain e i ks (posted e i ks c (looser 1 2 ks (lit≤ tt) f))

  pub up2 : (e : ExprTree) (i : ℕ) (ks : List TokenKind) → Read unary e i ks → Left term_level e i ks
  up2 e i ks r = left term_level e i ks r r.opens

  pub up3 : (e : ExprTree) (i : ℕ) (ks : List TokenKind) → Follow 3 ks → Left term_level e i ks → Left sum_level e i ks
  up3 e i ks f c =
      let r : Read (chain term_level) e i ks = chained term_level e i ks c f in
      left sum_level e i ks r r.opens

  pub up4 : (e : ExprTree) (i : ℕ) (ks : List TokenKind) → Follow 5 ks → Left sum_level e i ks → Read comparison e i ks
  up4 e i ks f c = compared e i ks (chained sum_level e i ks c (looser 4 5 ks (lit≤ tt) f)) f

  pub up5 : (e : ExprTree) (i : ℕ) (ks : List TokenKind) → Read comparison e i ks → Left and_level e i ks
  up5 e i ks r = left and_level e i ks r r.opens

  pub up6 : (e : ExprTree) (i : ℕ) (ks : List TokenKind) → Follow 6 ks → Left and_level e i ks → Left or_level e i ks
  up6 e i ks f c =
      let r : Read (chain and_level) e i ks = chained and_level e i ks c f in
      left or_level e i ks r r.opens

  pub up7 : (e : ExprTree) (i : ℕ) (ks : List TokenKind) → Follow 7 ks → Left or_level e i ks → Read expr e i ks
  up7 e i ks f c = any e i ks (chained or_level e i ks c f)

  -- ---- expressions that are laid at any place

  -- What is laid is read, where what follows binds less strongly.
  abbrev pub Own : (ℕ → List TokenKind → Type 0) → ℕ → (List Piece → List Piece) → Type 0
  Own X q inside = (i : ℕ) (ps : List Piece) → Here look i (ended (inside ps)) → Follow q (ended ps) → X i (ended ps)

  -- e is read wherever it is laid: f puts it at a place.
  pub record All (e : ExprTree) (f : ℕ → List Piece → List Piece) : Type 0 where
    pub at0 : Own (Core e) 0 (f 0)
    pub at1 : Own (Read unary e) 2 (f 1)
    pub at2 : Own (Left term_level e) 2 (f 2)
    pub at3 : Own (Left sum_level e) 3 (f 3)
    pub at4 : Own (Read comparison e) 5 (f 4)
    pub at5 : Own (Left and_level e) 5 (f 5)
    pub at6 : Own (Left or_level e) 6 (f 6)

  -- in parentheses
  pub in_parens : (e : ExprTree) (inside : List Piece → List Piece) → Own (Read expr e) 7 inside → (i : ℕ) (ps : List Piece) → Here look i (Kind.ParenOpen ∷ ended (inside (piece Kind.ParenClose ∷ ps))) → Read parens e i (ended ps)
  in_parens e inside own i ps h =
      let r : Read expr e (i + 1) (Kind.ParenClose ∷ ended ps) = own (i + 1) (piece Kind.ParenClose ∷ ps) h.2 (lit< tt) in
      let w : Token = tok h.0 Kind.ParenOpen in
      record {
        begin = h.0;
        tree = r.tree;
        end = r.end + 1;
        gives = λ before. made parens before (paren_open ∷ rule expr ∷ paren_close ∷ []) (word w ∷ expr_value r.begin r.tree ∷ word (tok r.rest.0 Kind.ParenClose) ∷ []) h.1 refl (token h.1 refl (joins (r.gives (word w)) (token r.rest.1 refl nothing)));
        rest = r.rest.2;
        same = r.same;
        first = w;
        there = h.1;
        opens = refl;
      }

  module _ (e : ExprTree) (inside : List Piece → List Piece) where
    step1 : Own (Core e) 0 inside → Own (Read unary e) 2 inside
    step1 own i ps h f = up1 e i (ended ps) f (own i ps h (looser 0 2 (ended ps) (lit≤ tt) f))

    step2 : Own (Read unary e) 2 inside → Own (Left term_level e) 2 inside
    step2 own i ps h f = up2 e i (ended ps) (own i ps h f)

    step3 : Own (Left term_level e) 2 inside → Own (Left sum_level e) 3 inside
    step3 own i ps h f = up3 e i (ended ps) f (own i ps h (looser 2 3 (ended ps) (lit≤ tt) f))

    step4 : Own (Left sum_level e) 3 inside → Own (Read comparison e) 5 inside
    step4 own i ps h f = up4 e i (ended ps) f (own i ps h (looser 3 5 (ended ps) (lit≤ tt) f))

    step5 : Own (Read comparison e) 5 inside → Own (Left and_level e) 5 inside
    step5 own i ps h f = up5 e i (ended ps) (own i ps h f)

    step6 : Own (Left and_level e) 5 inside → Own (Left or_level e) 6 inside
    step6 own i ps h f = up6 e i (ended ps) f (own i ps h (looser 5 6 (ended ps) (lit≤ tt) f))

    pub step7 : Own (Left or_level e) 6 inside → Own (Read expr e) 7 inside
    step7 own i ps h f = up7 e i (ended ps) f (own i ps h (looser 6 7 (ended ps) (lit≤ tt) f))

    down : Own (Read expr e) 7 inside → Own (Core e) 0 (λ ps. piece Kind.ParenOpen ∷ inside (piece Kind.ParenClose ∷ ps))
    down own i ps h f =
        let r : Read parens e i (ended ps) = in_parens e inside own i ps h in
        core e i (ended ps) (moved parens prim e i (ended ps) r (λ before. made prim before (rule parens ∷ []) (expr_value r.begin r.tree ∷ []) h.1 refl (r.gives before)) (prim_parens r.first.kind r.opens))

  abbrev between : (List Piece → List Piece) → List Piece → List Piece
  between inside ps = piece Kind.ParenOpen ∷ inside (piece Kind.ParenClose ∷ ps)

  module _ (e : ExprTree) (inside : List Piece → List Piece) where
    pub all6 : Own (Left or_level e) 6 inside → All e (λ place ps. grouped 6 place inside ps)
    all6 o6 =
        let d0 : Own (Core e) 0 (between inside) = down e inside (step7 e inside o6) in
        let d1 : Own (Read unary e) 2 (between inside) = step1 e (between inside) d0 in
        let d2 : Own (Left term_level e) 2 (between inside) = step2 e (between inside) d1 in
        let d3 : Own (Left sum_level e) 3 (between inside) = step3 e (between inside) d2 in
        let d4 : Own (Read comparison e) 5 (between inside) = step4 e (between inside) d3 in
        record { at0 = d0; at1 = d1; at2 = d2; at3 = d3; at4 = d4; at5 = step5 e (between inside) d4; at6 = o6 }

    pub all5 : Own (Left and_level e) 5 inside → All e (λ place ps. grouped 5 place inside ps)
    all5 o5 =
        let d = all6 (step6 e inside o5) in
        record { at0 = d.at0; at1 = d.at1; at2 = d.at2; at3 = d.at3; at4 = d.at4; at5 = o5; at6 = d.at6 }

    pub all4 : Own (Read comparison e) 5 inside → All e (λ place ps. grouped 4 place inside ps)
    all4 o4 =
        let d = all5 (step5 e inside o4) in
        record { at0 = d.at0; at1 = d.at1; at2 = d.at2; at3 = d.at3; at4 = o4; at5 = d.at5; at6 = d.at6 }

    pub all3 : Own (Left sum_level e) 3 inside → All e (λ place ps. grouped 3 place inside ps)
    all3 o3 =
        let d = all4 (step4 e inside o3) in
        record { at0 = d.at0; at1 = d.at1; at2 = d.at2; at3 = o3; at4 = d.at4; at5 = d.at5; at6 = d.at6 }

    pub all2 : Own (Left term_level e) 2 inside → All e (λ place ps. grouped 2 place inside ps)
    all2 o2 =
        let d = all3 (step3 e inside o2) in
        record { at0 = d.at0; at1 = d.at1; at2 = o2; at3 = d.at3; at4 = d.at4; at5 = d.at5; at6 = d.at6 }

    -- with a prefix
    pub all1 : Own (Read unary e) 2 inside → All e (λ place ps. grouped 1 place inside ps)
    all1 o1 =
        let d = all2 (step2 e inside o1) in
        record { at0 = d.at0; at1 = o1; at2 = d.at2; at3 = d.at3; at4 = d.at4; at5 = d.at5; at6 = d.at6 }

    -- an operand
    pub all0 : Own (Core e) 0 inside → All e (λ place ps. inside ps)
    all0 o0 =
        let d = all1 (step1 e inside o0) in
        record { at0 = o0; at1 = d.at1; at2 = d.at2; at3 = d.at3; at4 = d.at4; at5 = d.at5; at6 = d.at6 }
