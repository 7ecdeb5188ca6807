-- Expressions are read back from their canonical tokens, at whichever place they are laid.
use Rattle.std.proofs.Common.{◌≡◌, ℕ, ◌+◌, ◌<◌, true, false, cond, Bool, Option, Some, List, [], ◌∷◌, refl, ap, ap₂, subst, lit<, lit≤, arith}
use Rattle.lam_grammar_laws.specs.Grammar.{rule, production}
use Rattle.lam_lexer.specs.declared.token.Token.{Token}
use Rattle.lam_lexer.specs.declared.token.TokenKind.{TokenKind}
use Rattle.lam_lexer.specs.declared.token.TokenKind.TheVariants as Kind
use Rattle.lam_operators.specs.declared.BinaryOp.{BinaryOp}
use Rattle.lam_operators.specs.declared.BinaryOp.TheVariants as Op
use Rattle.lam_operators.specs.declared.UnaryOp.{UnaryOp}
use Rattle.lam_operators.specs.declared.UnaryOp.TheVariants as Sign
use Rattle.lam_syntax.specs.Tree.{IdTree, TypeTree, CapTree, ExprTree, ExprForm, ExprList, expr_node, binary_expr, unary_expr, field_expr, element_expr, number_expr, text_expr, bool_expr, null_expr, name_expr, call_expr, new_class_expr, new_array_expr, label_expr, caps_expr, spawn_expr, no_exprs, exprs}
use Rattle.lam_syntax.specs.Unplaced.{unplaced_id, unplaced_expr, unplaced_expr_form, unplaced_exprs}
use Rattle.lam_grammar.specs.declared.Level.TheVariants.{Or as or_level, And as and_level, Sum as sum_level, Term as term_level}
use Rattle.lam_grammar.specs.Table.{Rule, begins_expr, begins_prim, expr, comparison, unary, post, post_tail, prim, chain, parens, call_part, arguments, args, args_tail, new_part, cap_items, typ, operates, compares, prefix, negates, dot, member_name, bracket_open, bracket_close, index_close, paren_open, paren_close, brace_open, brace_close, comma as comma_mark, semicolon, ID, literal, is_literal, new_word, label_word, caps_word, spawn_word}
use Rattle.lam_grammar.specs.Meaning.{Value, word, expr_value, exprs_value, form_value, caps_value, type_value, postfixes_value, member, index, literal_form, id_of}
use Rattle.lam_grammar.specs.Meaning as mean
use Rattle.lam_grammar.specs.Program.{lam}
use Rattle.lam_print.specs.Pieces.{Piece, token as piece, blank}
use Rattle.lam_print.specs.Canon.{name, truth, lay, lay_form, lay_args, lay_tags, lay_type, lay_caps}
use Rattle.lam_print_laws.proofs.Spans.{nothing, token, joins}
use Rattle.lam_print_laws.proofs.Marks.{tok, ended, Here, Stands, Gives, made, Back, strength, Follow, looser, Closed, paren, brace, follow_closed, call_ends, nil}
use Rattle.lam_print_laws.proofs.Marks as m
use Rattle.lam_print_laws.proofs.Parts.{Typed, a_type, Capabilities, some_caps}
use Rattle.lam_print_laws.proofs.Levels.{Read, Left, Core, core, chained, operated, comparing_two, Own, All, in_parens, step7, all0, all1, all2, all3, all4, all5, all6}

module _ (look : ℕ → Option Token) where
  abbrev Good : ExprTree → Type 0
  Good e = All look e (λ place ps. lay e place ps)

  whole : (e : ExprTree) → Good e → Own look (Read look expr e) 7 (λ ps. lay e 6 ps)
  whole e a = step7 look e (λ ps. lay e 6 ps) a.at6

  -- ---- operators

  module _ (k : TokenKind) (at : ℕ) (l r : ExprTree) (a : Good l) (b : Good r) where
    term_two : operates term_level k ≡ true → 2 < strength k → Own look (Left look term_level (expr_node at (binary_expr (mean.binary_op k) l r))) 2 (λ ps. lay l 2 (blank ∷ piece k ∷ blank ∷ lay r 1 ps))
    term_two o s i ps h f =
        let c : Left look term_level l i (k ∷ ended (lay r 1 ps)) = a.at2 i (blank ∷ piece k ∷ blank ∷ lay r 1 ps) h s in
        operated look term_level k at l r i (ended (lay r 1 ps)) (ended ps) o c (b.at1 (c.end + 1) ps c.rest.2 f)

    sum_two : operates sum_level k ≡ true → 3 < strength k → Own look (Left look sum_level (expr_node at (binary_expr (mean.binary_op k) l r))) 3 (λ ps. lay l 3 (blank ∷ piece k ∷ blank ∷ lay r 2 ps))
    sum_two o s i ps h f =
        let c : Left look sum_level l i (k ∷ ended (lay r 2 ps)) = a.at3 i (blank ∷ piece k ∷ blank ∷ lay r 2 ps) h s in
        operated look sum_level k at l r i (ended (lay r 2 ps)) (ended ps) o c (chained look term_level r (c.end + 1) (ended ps) (b.at2 (c.end + 1) ps c.rest.2 (looser 2 3 (ended ps) (lit≤ tt) f)) f)

    compare_two : compares k ≡ true → 4 < strength k → Own look (Read look comparison (expr_node at (binary_expr (mean.binary_op k) l r))) 5 (λ ps. lay l 3 (blank ∷ piece k ∷ blank ∷ lay r 3 ps))
    compare_two o s i ps h f =
        let c : Read look (chain sum_level) l i (k ∷ ended (lay r 3 ps)) = chained look sum_level l i (k ∷ ended (lay r 3 ps)) (a.at3 i (blank ∷ piece k ∷ blank ∷ lay r 3 ps) h (omega arith)) s in
        comparing_two look k at l r i (ended (lay r 3 ps)) (ended ps) o c (chained look sum_level r (c.end + 1) (ended ps) (b.at3 (c.end + 1) ps c.rest.2 (looser 3 5 (ended ps) (lit≤ tt) f)) (looser 4 5 (ended ps) (lit≤ tt) f))

    and_two : operates and_level k ≡ true → 5 < strength k → Own look (Left look and_level (expr_node at (binary_expr (mean.binary_op k) l r))) 5 (λ ps. lay l 5 (blank ∷ piece k ∷ blank ∷ lay r 4 ps))
    and_two o s i ps h f =
        let c : Left look and_level l i (k ∷ ended (lay r 4 ps)) = a.at5 i (blank ∷ piece k ∷ blank ∷ lay r 4 ps) h s in
        operated look and_level k at l r i (ended (lay r 4 ps)) (ended ps) o c (b.at4 (c.end + 1) ps c.rest.2 f)

    or_two : operates or_level k ≡ true → 6 < strength k → Own look (Left look or_level (expr_node at (binary_expr (mean.binary_op k) l r))) 6 (λ ps. lay l 6 (blank ∷ piece k ∷ blank ∷ lay r 5 ps))
    or_two o s i ps h f =
        let c : Left look or_level l i (k ∷ ended (lay r 5 ps)) = a.at6 i (blank ∷ piece k ∷ blank ∷ lay r 5 ps) h s in
        operated look or_level k at l r i (ended (lay r 5 ps)) (ended ps) o c (chained look and_level r (c.end + 1) (ended ps) (b.at5 (c.end + 1) ps c.rest.2 (looser 5 6 (ended ps) (lit≤ tt) f)) f)

  two : (o : BinaryOp) (at : ℕ) (l r : ExprTree) → Good l → Good r → Good (expr_node at (binary_expr o l r))
  two Op.Mul at l r a b = all2 look (expr_node at (binary_expr Op.Mul l r)) (λ ps. lay l 2 (blank ∷ piece Kind.Star ∷ blank ∷ lay r 1 ps)) (term_two Kind.Star at l r a b refl (lit< tt))
  two Op.Div at l r a b = all2 look (expr_node at (binary_expr Op.Div l r)) (λ ps. lay l 2 (blank ∷ piece Kind.Slash ∷ blank ∷ lay r 1 ps)) (term_two Kind.Slash at l r a b refl (lit< tt))
  two Op.Rem at l r a b = all2 look (expr_node at (binary_expr Op.Rem l r)) (λ ps. lay l 2 (blank ∷ piece Kind.Percent ∷ blank ∷ lay r 1 ps)) (term_two Kind.Percent at l r a b refl (lit< tt))
  two Op.Add at l r a b = all3 look (expr_node at (binary_expr Op.Add l r)) (λ ps. lay l 3 (blank ∷ piece Kind.Plus ∷ blank ∷ lay r 2 ps)) (sum_two Kind.Plus at l r a b refl (lit< tt))
  two Op.Sub at l r a b = all3 look (expr_node at (binary_expr Op.Sub l r)) (λ ps. lay l 3 (blank ∷ piece Kind.Minus ∷ blank ∷ lay r 2 ps)) (sum_two Kind.Minus at l r a b refl (lit< tt))
  two Op.Eq at l r a b = all4 look (expr_node at (binary_expr Op.Eq l r)) (λ ps. lay l 3 (blank ∷ piece Kind.Equal ∷ blank ∷ lay r 3 ps)) (compare_two Kind.Equal at l r a b refl (lit< tt))
  two Op.Ne at l r a b = all4 look (expr_node at (binary_expr Op.Ne l r)) (λ ps. lay l 3 (blank ∷ piece Kind.NotEqual ∷ blank ∷ lay r 3 ps)) (compare_two Kind.NotEqual at l r a b refl (lit< tt))
  two Op.Lt at l r a b = all4 look (expr_node at (binary_expr Op.Lt l r)) (λ ps. lay l 3 (blank ∷ piece Kind.Less ∷ blank ∷ lay r 3 ps)) (compare_two Kind.Less at l r a b refl (lit< tt))
  two Op.Le at l r a b = all4 look (expr_node at (binary_expr Op.Le l r)) (λ ps. lay l 3 (blank ∷ piece Kind.LessEqual ∷ blank ∷ lay r 3 ps)) (compare_two Kind.LessEqual at l r a b refl (lit< tt))
  two Op.Gt at l r a b = all4 look (expr_node at (binary_expr Op.Gt l r)) (λ ps. lay l 3 (blank ∷ piece Kind.Greater ∷ blank ∷ lay r 3 ps)) (compare_two Kind.Greater at l r a b refl (lit< tt))
  two Op.Ge at l r a b = all4 look (expr_node at (binary_expr Op.Ge l r)) (λ ps. lay l 3 (blank ∷ piece Kind.GreaterEqual ∷ blank ∷ lay r 3 ps)) (compare_two Kind.GreaterEqual at l r a b refl (lit< tt))
  two Op.And at l r a b = all5 look (expr_node at (binary_expr Op.And l r)) (λ ps. lay l 5 (blank ∷ piece Kind.And ∷ blank ∷ lay r 4 ps)) (and_two Kind.And at l r a b refl (lit< tt))
  two Op.Or at l r a b = all6 look (expr_node at (binary_expr Op.Or l r)) (λ ps. lay l 6 (blank ∷ piece Kind.Or ∷ blank ∷ lay r 5 ps)) (or_two Kind.Or at l r a b refl (lit< tt))

  signed_by : (k : TokenKind) (at : ℕ) (e : ExprTree) → Good e → negates k ≡ true → begins_expr k ≡ true → Own look (Read look unary (expr_node at (unary_expr (mean.unary_op k) e))) 2 (λ ps. piece k ∷ lay e 1 ps)
  signed_by k at e a n o i ps h f =
      let r : Read look unary e (i + 1) (ended ps) = a.at1 (i + 1) ps h.2 f in
      let w : Token = tok h.0 k in
      record {
        begin = h.0;
        tree = expr_node h.0 (unary_expr (mean.unary_op k) r.tree);
        end = r.end;
        gives = λ before. made unary before (prefix ∷ rule unary ∷ []) (word w ∷ expr_value r.begin r.tree ∷ []) h.1 (ap (λ (x : Bool). Some (cond x (prefix ∷ rule unary ∷ []) (rule post ∷ []))) n) (token h.1 n (r.gives (word w)));
        rest = r.rest;
        same = ap (λ (x : ExprTree). expr_node 0 (unary_expr (mean.unary_op k) x)) r.same;
        first = w;
        there = h.1;
        opens = o;
      }

  one : (o : UnaryOp) (at : ℕ) (e : ExprTree) → Good e → Good (expr_node at (unary_expr o e))
  one Sign.Not at e a = all1 look (expr_node at (unary_expr Sign.Not e)) (λ ps. piece Kind.Not ∷ lay e 1 ps) (signed_by Kind.Not at e a refl refl)
  one Sign.Neg at e a = all1 look (expr_node at (unary_expr Sign.Neg e)) (λ ps. piece Kind.Minus ∷ lay e 1 ps) (signed_by Kind.Minus at e a refl refl)

  -- ---- postfix parts

  a_field : (at : ℕ) (e : ExprTree) (x : IdTree) → Good e → Good (expr_node at (field_expr e x))
  a_field at e x a = all0 look (expr_node at (field_expr e x)) (λ ps. lay e 0 (piece Kind.Dot ∷ name x ps)) (λ i ps h f.
      let c : Core look e i (Kind.Dot ∷ Kind.Id x.word ∷ ended ps) = a.at0 i (piece Kind.Dot ∷ name x ps) h (lit< tt) in
      let w : Token = tok c.rest.2.0 (Kind.Id x.word) in
      record {
        begin = c.begin;
        head = c.head;
        middle = c.middle;
        gives = c.gives;
        end = c.end + 1 + 1;
        rest = c.rest.2.2;
        grow = λ more. c.grow (member (id_of w) more);
        tail = λ more k t. c.tail (member (id_of w) more) k (λ before. made post_tail before (dot ∷ member_name ∷ rule post_tail ∷ []) (word (tok c.rest.0 Kind.Dot) ∷ word w ∷ postfixes_value more ∷ []) c.rest.1 refl (token c.rest.1 refl (token c.rest.2.1 refl (t (word w)))));
        tree = expr_node c.begin (field_expr c.tree (id_of w));
        whole = λ more. c.whole (member (id_of w) more);
        same = ap (λ (y : ExprTree). expr_node 0 (field_expr y (unplaced_id x))) c.same;
        first = c.first;
        there = c.there;
        opens = c.opens;
      })

  an_element : (at : ℕ) (e n : ExprTree) → Good e → Good n → Good (expr_node at (element_expr e n))
  an_element at e n a b = all0 look (expr_node at (element_expr e n)) (λ ps. lay e 0 (piece Kind.BracketOpen ∷ lay n 6 (piece Kind.BracketClose ∷ ps))) (λ i ps h f.
      let c : Core look e i (Kind.BracketOpen ∷ ended (lay n 6 (piece Kind.BracketClose ∷ ps))) = a.at0 i (piece Kind.BracketOpen ∷ lay n 6 (piece Kind.BracketClose ∷ ps)) h (lit< tt) in
      let r : Read look expr n (c.end + 1) (Kind.BracketClose ∷ ended ps) = whole n b (c.end + 1) (piece Kind.BracketClose ∷ ps) c.rest.2 (lit< tt) in
      let w : Token = tok c.rest.0 Kind.BracketOpen in
      let q : Token = tok r.rest.0 Kind.BracketClose in
      record {
        begin = c.begin;
        head = c.head;
        middle = c.middle;
        gives = c.gives;
        end = r.end + 1;
        rest = r.rest.2;
        grow = λ more. c.grow (index r.tree more);
        tail = λ more k t. c.tail (index r.tree more) k (λ before. made post_tail before (bracket_open ∷ rule expr ∷ index_close ∷ rule post_tail ∷ []) (word w ∷ expr_value r.begin r.tree ∷ word q ∷ postfixes_value more ∷ []) c.rest.1 refl (token c.rest.1 refl (joins (r.gives (word w)) (token r.rest.1 refl (t (word q))))));
        tree = expr_node c.begin (element_expr c.tree r.tree);
        whole = λ more. c.whole (index r.tree more);
        same = ap₂ (λ (x y : ExprTree). expr_node 0 (element_expr x y)) c.same r.same;
        first = c.first;
        there = c.there;
        opens = c.opens;
      })

  -- ---- operands

  an_operand : (e : ExprTree) (inside : List Piece → List Piece) → Own look (Read look prim e) 0 inside → All look e (λ place ps. inside ps)
  an_operand e inside own = all0 look e inside (λ i ps h f. core look e i (ended ps) (own i ps h f))

  a_literal : (k : TokenKind) (at : ℕ) (form : ExprForm) → is_literal k ≡ true → begins_prim k ≡ true → ((before : Value) (x : ℕ) → production lam prim before (Some (tok x k)) ≡ Some (literal ∷ [])) → literal_form k ≡ form → unplaced_expr_form form ≡ form → All look (expr_node at form) (λ place ps. piece k ∷ ps)
  a_literal k at form l o p e u = an_operand (expr_node at form) (λ ps. piece k ∷ ps) (λ i ps h f. record {
    begin = h.0;
    tree = expr_node h.0 form;
    end = i + 1;
    gives = λ before. subst (λ (x : ExprForm). Gives look prim before i (expr_value h.0 (expr_node h.0 x)) (i + 1)) e (made prim before (literal ∷ []) (word (tok h.0 k) ∷ []) h.1 (p before h.0) (token h.1 l nothing));
    rest = h.2;
    same = refl;
    first = tok h.0 k;
    there = h.1;
    opens = o;
  })

  a_name : (at : ℕ) (x : List ℕ) → All look (expr_node at (name_expr x)) (λ place ps. piece (Kind.Id x) ∷ ps)
  a_name at x = an_operand (expr_node at (name_expr x)) (λ ps. piece (Kind.Id x) ∷ ps) (λ i ps h f. named i (ended ps) h f)
    where
      named : (i : ℕ) (ks : List TokenKind) → Here look i (Kind.Id x ∷ ks) → Follow 0 ks → Read look prim (expr_node at (name_expr x)) i ks
      named i [] h f = absurd f
      named i (k ∷ ks) h f =
          let w : Token = tok h.0 (Kind.Id x) in
          record {
            begin = h.0;
            tree = expr_node h.0 (name_expr x);
            end = i + 1;
            gives = λ before. made prim before (ID ∷ rule call_part ∷ []) (word w ∷ mean.nothing ∷ []) h.1 refl (token h.1 refl (made call_part (word w) [] [] h.2.1 (call_ends (word w) h.2.0 k f) nothing));
            rest = h.2;
            same = refl;
            first = w;
            there = h.1;
            opens = refl;
          }

  -- ---- arguments

  abbrev Arguments : Rule → ExprList → ℕ → List TokenKind → Type 0
  Arguments r es i ks = Back look ExprList exprs_value unplaced_exprs r es i ks

  args_same : (x y : ExprTree) (xs ys : ExprList) → unplaced_expr x ≡ unplaced_expr y → unplaced_exprs xs ≡ unplaced_exprs ys → unplaced_exprs (exprs x xs) ≡ unplaced_exprs (exprs y ys)
  args_same x y xs ys e f = ap₂ (λ (a : ExprTree) (rest : ExprList). exprs a rest) e f

  -- an expression, and the arguments behind it
  first_arg : (e : ExprTree) (es : ExprList) (i : ℕ) (kr ks : List TokenKind) (r : Read look expr e i kr) → Arguments args_tail es r.end ks → Arguments args (exprs e es) i ks
  first_arg e es i kr ks r t = record {
    tree = exprs r.tree t.tree;
    end = t.end;
    gives = λ before. made args before (rule expr ∷ rule args_tail ∷ []) (expr_value r.begin r.tree ∷ exprs_value t.tree ∷ []) r.there (ap (λ (x : Bool). Some (cond x (rule expr ∷ rule args_tail ∷ []) [])) r.opens) (joins (r.gives before) (t.gives (expr_value r.begin r.tree)));
    rest = t.rest;
    same = args_same r.tree e t.tree es r.same t.same;
  }

  later_arg : (e : ExprTree) (es : ExprList) (i : ℕ) (kr ks : List TokenKind) (h : Stands look i Kind.Comma) (r : Read look expr e (i + 1) kr) → Arguments args_tail es r.end ks → Arguments args_tail (exprs e es) i ks
  later_arg e es i kr ks h r t = record {
    tree = exprs r.tree t.tree;
    end = t.end;
    gives = λ before. made args_tail before (comma_mark ∷ rule expr ∷ rule args_tail ∷ []) (word (tok h.0 Kind.Comma) ∷ expr_value r.begin r.tree ∷ exprs_value t.tree ∷ []) h.1 refl (token h.1 refl (joins (r.gives (word (tok h.0 Kind.Comma))) (t.gives (expr_value r.begin r.tree))));
    rest = t.rest;
    same = args_same r.tree e t.tree es r.same t.same;
  }

  follow_args : (es : ExprList) (ps : List Piece) → Closed (ended ps) → Follow 7 (ended (lay_args true es ps))
  follow_args no_exprs ps c = follow_closed (ended ps) c
  follow_args (exprs e es) ps c = lit< tt

  follow_tags : (es : ExprList) (ps : List Piece) → Closed (ended ps) → Follow 7 (ended (lay_tags true es ps))
  follow_tags no_exprs ps c = follow_closed (ended ps) c
  follow_tags (exprs e es) ps c = lit< tt

  -- ---- calls and the other operands

  -- what a form means that follows its first token
  a_call : (at : ℕ) (f : IdTree) (es : ExprList) → ((i : ℕ) (ps : List Piece) → Here look i (ended (lay_args false es ps)) → Closed (ended ps) → Arguments args es i (ended ps)) → All look (expr_node at (call_expr f es)) (λ place ps. name f (piece Kind.ParenOpen ∷ lay_args false es (piece Kind.ParenClose ∷ ps)))
  a_call at f es back = an_operand (expr_node at (call_expr f es)) (λ ps. name f (piece Kind.ParenOpen ∷ lay_args false es (piece Kind.ParenClose ∷ ps))) (λ i ps h q.
      let r : Arguments args es (i + 1 + 1) (Kind.ParenClose ∷ ended ps) = back (i + 1 + 1) (piece Kind.ParenClose ∷ ps) h.2.2 paren in
      let w : Token = tok h.0 (Kind.Id f.word) in
      let o : Token = tok h.2.0 Kind.ParenOpen in
      record {
        begin = h.0;
        tree = expr_node h.0 (call_expr (id_of w) r.tree);
        end = r.end + 1;
        gives = λ before. made prim before (ID ∷ rule call_part ∷ []) (word w ∷ exprs_value r.tree ∷ []) h.1 refl (token h.1 refl (made call_part (word w) (rule arguments ∷ []) (exprs_value r.tree ∷ []) h.2.1 refl (made arguments (word w) (paren_open ∷ rule args ∷ paren_close ∷ []) (word o ∷ exprs_value r.tree ∷ word (tok r.rest.0 Kind.ParenClose) ∷ []) h.2.1 refl (token h.2.1 refl (joins (r.gives (word o)) (token r.rest.1 refl nothing))))));
        rest = r.rest.2;
        same = ap (λ (xs : ExprList). expr_node 0 (call_expr (unplaced_id f) xs)) r.same;
        first = w;
        there = h.1;
        opens = refl;
      })

  a_new_class : (at : ℕ) (c : IdTree) → All look (expr_node at (new_class_expr c)) (λ place ps. piece Kind.New ∷ blank ∷ name c (piece Kind.ParenOpen ∷ piece Kind.ParenClose ∷ ps))
  a_new_class at c = an_operand (expr_node at (new_class_expr c)) (λ ps. piece Kind.New ∷ blank ∷ name c (piece Kind.ParenOpen ∷ piece Kind.ParenClose ∷ ps)) (λ i ps h q.
      let w : Token = tok h.0 Kind.New in
      let x : Token = tok h.2.0 (Kind.Id c.word) in
      record {
        begin = h.0;
        tree = expr_node h.0 (new_class_expr (id_of x));
        end = i + 1 + 1 + 1 + 1;
        gives = λ before. made prim before (new_word ∷ rule new_part ∷ []) (word w ∷ form_value (new_class_expr (id_of x)) ∷ []) h.1 refl (token h.1 refl (made new_part (word w) (ID ∷ paren_open ∷ paren_close ∷ []) (word x ∷ word (tok h.2.2.0 Kind.ParenOpen) ∷ word (tok h.2.2.2.0 Kind.ParenClose) ∷ []) h.2.1 refl (token h.2.1 refl (token h.2.2.1 refl (token h.2.2.2.1 refl nothing)))));
        rest = h.2.2.2.2;
        same = refl;
        first = w;
        there = h.1;
        opens = refl;
      })

  a_new_array : (at : ℕ) (t : TypeTree) (e : ExprTree) → Good e → All look (expr_node at (new_array_expr t e)) (λ place ps. piece Kind.New ∷ blank ∷ piece Kind.BracketOpen ∷ lay_type t (piece Kind.BracketClose ∷ piece Kind.ParenOpen ∷ lay e 6 (piece Kind.ParenClose ∷ ps)))
  a_new_array at t e a = an_operand (expr_node at (new_array_expr t e)) (λ ps. piece Kind.New ∷ blank ∷ piece Kind.BracketOpen ∷ lay_type t (piece Kind.BracketClose ∷ piece Kind.ParenOpen ∷ lay e 6 (piece Kind.ParenClose ∷ ps))) (λ i ps h q.
      let y : Typed look t (i + 1 + 1) (Kind.BracketClose ∷ Kind.ParenOpen ∷ ended (lay e 6 (piece Kind.ParenClose ∷ ps))) = a_type look t (i + 1 + 1) (piece Kind.BracketClose ∷ piece Kind.ParenOpen ∷ lay e 6 (piece Kind.ParenClose ∷ ps)) h.2.2 in
      let r : Read look parens e (y.end + 1) (ended ps) = in_parens look e (λ qs. lay e 6 qs) (whole e a) (y.end + 1) ps y.rest.2 in
      let w : Token = tok h.0 Kind.New in
      let o : Token = tok h.2.0 Kind.BracketOpen in
      let c : Token = tok y.rest.0 Kind.BracketClose in
      record {
        begin = h.0;
        tree = expr_node h.0 (new_array_expr y.tree r.tree);
        end = r.end;
        gives = λ before. made prim before (new_word ∷ rule new_part ∷ []) (word w ∷ form_value (new_array_expr y.tree r.tree) ∷ []) h.1 refl (token h.1 refl (made new_part (word w) (bracket_open ∷ rule typ ∷ bracket_close ∷ rule parens ∷ []) (word o ∷ type_value y.tree ∷ word c ∷ expr_value r.begin r.tree ∷ []) h.2.1 refl (token h.2.1 refl (joins (y.gives (word o)) (token y.rest.1 refl (r.gives (word c)))))));
        rest = r.rest;
        same = ap₂ (λ (x : TypeTree) (z : ExprTree). expr_node 0 (new_array_expr x z)) y.same r.same;
        first = w;
        there = h.1;
        opens = refl;
      })

  a_label : (at : ℕ) (s n : ExprList) → ((i : ℕ) (ps : List Piece) → Here look i (ended (lay_args false s ps)) → Closed (ended ps) → Arguments args s i (ended ps)) → ((i : ℕ) (ps : List Piece) → Here look i (ended (lay_tags false n ps)) → Closed (ended ps) → Arguments args n i (ended ps)) → All look (expr_node at (label_expr s n)) (λ place ps. piece Kind.Label ∷ piece Kind.BraceOpen ∷ lay_args false s (piece Kind.Semicolon ∷ lay_tags false n (piece Kind.BraceClose ∷ ps)))
  a_label at s n back back' = an_operand (expr_node at (label_expr s n)) (λ ps. piece Kind.Label ∷ piece Kind.BraceOpen ∷ lay_args false s (piece Kind.Semicolon ∷ lay_tags false n (piece Kind.BraceClose ∷ ps))) (λ i ps h q.
      let a : Arguments args s (i + 1 + 1) (Kind.Semicolon ∷ ended (lay_tags false n (piece Kind.BraceClose ∷ ps))) = back (i + 1 + 1) (piece Kind.Semicolon ∷ lay_tags false n (piece Kind.BraceClose ∷ ps)) h.2.2 m.semicolon in
      let b : Arguments args n (a.end + 1) (Kind.BraceClose ∷ ended ps) = back' (a.end + 1) (piece Kind.BraceClose ∷ ps) a.rest.2 brace in
      let w : Token = tok h.0 Kind.Label in
      let o : Token = tok h.2.0 Kind.BraceOpen in
      let c : Token = tok a.rest.0 Kind.Semicolon in
      record {
        begin = h.0;
        tree = expr_node h.0 (label_expr a.tree b.tree);
        end = b.end + 1;
        gives = λ before. made prim before (label_word ∷ brace_open ∷ rule args ∷ semicolon ∷ rule args ∷ brace_close ∷ []) (word w ∷ word o ∷ exprs_value a.tree ∷ word c ∷ exprs_value b.tree ∷ word (tok b.rest.0 Kind.BraceClose) ∷ []) h.1 refl (token h.1 refl (token h.2.1 refl (joins (a.gives (word o)) (token a.rest.1 refl (joins (b.gives (word c)) (token b.rest.1 refl nothing))))));
        rest = b.rest.2;
        same = ap₂ (λ (x y : ExprList). expr_node 0 (label_expr x y)) a.same b.same;
        first = w;
        there = h.1;
        opens = refl;
      })

  a_caps : (at : ℕ) (cs : List CapTree) → All look (expr_node at (caps_expr cs)) (λ place ps. piece Kind.Caps ∷ piece Kind.BraceOpen ∷ lay_caps false cs (piece Kind.BraceClose ∷ ps))
  a_caps at cs = an_operand (expr_node at (caps_expr cs)) (λ ps. piece Kind.Caps ∷ piece Kind.BraceOpen ∷ lay_caps false cs (piece Kind.BraceClose ∷ ps)) (λ i ps h q.
      let r : Capabilities look cap_items cs (i + 1 + 1) (Kind.BraceClose ∷ ended ps) = some_caps look cs (i + 1 + 1) (piece Kind.BraceClose ∷ ps) h.2.2 brace in
      let w : Token = tok h.0 Kind.Caps in
      let o : Token = tok h.2.0 Kind.BraceOpen in
      record {
        begin = h.0;
        tree = expr_node h.0 (caps_expr r.tree);
        end = r.end + 1;
        gives = λ before. made prim before (caps_word ∷ brace_open ∷ rule cap_items ∷ brace_close ∷ []) (word w ∷ word o ∷ caps_value r.tree ∷ word (tok r.rest.0 Kind.BraceClose) ∷ []) h.1 refl (token h.1 refl (token h.2.1 refl (joins (r.gives (word o)) (token r.rest.1 refl nothing))));
        rest = r.rest.2;
        same = ap (λ (xs : List CapTree). expr_node 0 (caps_expr xs)) r.same;
        first = w;
        there = h.1;
        opens = refl;
      })

  a_spawn : (at : ℕ) (e : ExprTree) (f : IdTree) (es : ExprList) → Good e → ((i : ℕ) (ps : List Piece) → Here look i (ended (lay_args false es ps)) → Closed (ended ps) → Arguments args es i (ended ps)) → All look (expr_node at (spawn_expr e f es)) (λ place ps. piece Kind.Spawn ∷ piece Kind.ParenOpen ∷ lay e 6 (piece Kind.ParenClose ∷ blank ∷ name f (piece Kind.ParenOpen ∷ lay_args false es (piece Kind.ParenClose ∷ ps))))
  a_spawn at e f es a back = an_operand (expr_node at (spawn_expr e f es)) (λ ps. piece Kind.Spawn ∷ piece Kind.ParenOpen ∷ lay e 6 (piece Kind.ParenClose ∷ blank ∷ name f (piece Kind.ParenOpen ∷ lay_args false es (piece Kind.ParenClose ∷ ps)))) (λ i ps h q.
      let b : Read look parens e (i + 1) (Kind.Id f.word ∷ Kind.ParenOpen ∷ ended (lay_args false es (piece Kind.ParenClose ∷ ps))) = in_parens look e (λ qs. lay e 6 qs) (whole e a) (i + 1) (blank ∷ name f (piece Kind.ParenOpen ∷ lay_args false es (piece Kind.ParenClose ∷ ps))) h.2 in
      let r : Arguments args es (b.end + 1 + 1) (Kind.ParenClose ∷ ended ps) = back (b.end + 1 + 1) (piece Kind.ParenClose ∷ ps) b.rest.2.2 paren in
      let w : Token = tok h.0 Kind.Spawn in
      let x : Token = tok b.rest.0 (Kind.Id f.word) in
      let o : Token = tok b.rest.2.0 Kind.ParenOpen in
      record {
        begin = h.0;
        tree = expr_node h.0 (spawn_expr b.tree (id_of x) r.tree);
        end = r.end + 1;
        gives = λ before. made prim before (spawn_word ∷ rule parens ∷ ID ∷ rule arguments ∷ []) (word w ∷ expr_value b.begin b.tree ∷ word x ∷ exprs_value r.tree ∷ []) h.1 refl (token h.1 refl (joins (b.gives (word w)) (token b.rest.1 refl (made arguments (word x) (paren_open ∷ rule args ∷ paren_close ∷ []) (word o ∷ exprs_value r.tree ∷ word (tok r.rest.0 Kind.ParenClose) ∷ []) b.rest.2.1 refl (token b.rest.2.1 refl (joins (r.gives (word o)) (token r.rest.1 refl nothing)))))));
        rest = r.rest.2;
        same = ap₂ (λ (y : ExprTree) (xs : ExprList). expr_node 0 (spawn_expr y (unplaced_id f) xs)) b.same r.same;
        first = w;
        there = h.1;
        opens = refl;
      })

  a_bool : (at : ℕ) (b : Bool) → All look (expr_node at (bool_expr b)) (λ place ps. piece (truth b) ∷ ps)
  a_bool at true = a_literal Kind.True at (bool_expr true) refl refl (λ b x. refl) refl refl
  a_bool at false = a_literal Kind.False at (bool_expr false) refl refl (λ b x. refl) refl refl

  -- ---- each expression

  mutual
    good_form : (form : ExprForm) (at : ℕ) → All look (expr_node at form) (λ place ps. lay_form form place ps)
    good_form (binary_expr o l r) at = two o at l r (good l) (good r)
    good_form (unary_expr o e) at = one o at e (good e)
    good_form (field_expr e x) at = a_field at e x (good e)
    good_form (element_expr e n) at = an_element at e n (good e) (good n)
    good_form (number_expr n) at = a_literal (Kind.Number n) at (number_expr n) refl refl (λ b x. refl) refl refl
    good_form (text_expr bytes) at = a_literal (Kind.Text bytes) at (text_expr bytes) refl refl (λ b x. refl) refl refl
    good_form (bool_expr b) at = a_bool at b
    good_form null_expr at = a_literal Kind.Null at null_expr refl refl (λ b x. refl) refl refl
    good_form (name_expr x) at = a_name at x
    good_form (call_expr f es) at = a_call at f es (λ i ps h c. good_args es i ps h c)
    good_form (new_class_expr c) at = a_new_class at c
    good_form (new_array_expr t e) at = a_new_array at t e (good e)
    good_form (label_expr s n) at = a_label at s n (λ i ps h c. good_args s i ps h c) (λ i ps h c. good_tags n i ps h c)
    good_form (caps_expr cs) at = a_caps at cs
    good_form (spawn_expr e f es) at = a_spawn at e f es (good e) (λ i ps h c. good_args es i ps h c)

    good : (e : ExprTree) → All look e (λ place ps. lay e place ps)
    good (expr_node at form) = good_form form at

    good_args : (es : ExprList) (i : ℕ) (ps : List Piece) → Here look i (ended (lay_args false es ps)) → Closed (ended ps) → Arguments args es i (ended ps)
    good_args no_exprs i ps h c = nil look ExprList exprs_value unplaced_exprs args no_exprs i (ended ps) refl refl refl h c
    good_args (exprs e es) i ps h c =
        let r : Read look expr e i (ended (lay_args true es ps)) = whole e (good e) i (lay_args true es ps) h (follow_args es ps c) in
        first_arg e es i (ended (lay_args true es ps)) (ended ps) r (more_args es r.end ps r.rest c)

    more_args : (es : ExprList) (i : ℕ) (ps : List Piece) → Here look i (ended (lay_args true es ps)) → Closed (ended ps) → Arguments args_tail es i (ended ps)
    more_args no_exprs i ps h c = nil look ExprList exprs_value unplaced_exprs args_tail no_exprs i (ended ps) refl refl refl h c
    more_args (exprs e es) i ps h c =
        let r : Read look expr e (i + 1) (ended (lay_args true es ps)) = whole e (good e) (i + 1) (lay_args true es ps) h.2 (follow_args es ps c) in
        later_arg e es i (ended (lay_args true es ps)) (ended ps) (h.0, h.1) r (more_args es r.end ps r.rest c)

    good_tags : (es : ExprList) (i : ℕ) (ps : List Piece) → Here look i (ended (lay_tags false es ps)) → Closed (ended ps) → Arguments args es i (ended ps)
    good_tags no_exprs i ps h c = nil look ExprList exprs_value unplaced_exprs args no_exprs i (ended ps) refl refl refl h c
    good_tags (exprs e es) i ps h c =
        let r : Read look expr e i (ended (lay_tags true es ps)) = whole e (good e) i (lay_tags true es ps) h (follow_tags es ps c) in
        first_arg e es i (ended (lay_tags true es ps)) (ended ps) r (more_tags es r.end ps r.rest c)

    more_tags : (es : ExprList) (i : ℕ) (ps : List Piece) → Here look i (ended (lay_tags true es ps)) → Closed (ended ps) → Arguments args_tail es i (ended ps)
    more_tags no_exprs i ps h c = nil look ExprList exprs_value unplaced_exprs args_tail no_exprs i (ended ps) refl refl refl h c
    more_tags (exprs e es) i ps h c =
        let r : Read look expr e (i + 1) (ended (lay_tags true es ps)) = whole e (good e) (i + 1) (lay_tags true es ps) h.2 (follow_tags es ps c) in
        later_arg e es i (ended (lay_tags true es ps)) (ended ps) (h.0, h.1) r (more_tags es r.end ps r.rest c)

  -- an expression, wherever any may stand
  pub an_expression : (e : ExprTree) → Own look (Read look expr e) 7 (λ ps. lay e 6 ps)
  an_expression e = whole e (good e)
