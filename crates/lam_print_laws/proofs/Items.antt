-- Items, and with them whole programs, are read back from their canonical tokens.
use Rattle.std.proofs.Common.{◌≡◌, ℕ, ◌+◌, true, false, cond, Bool, Option, Some, None, List, [], ◌∷◌, refl, ap, ap₂}
use Rattle.lam_grammar_laws.specs.Grammar.{rule}
use Rattle.lam_lexer.specs.declared.token.Token.{Token}
use Rattle.lam_lexer.specs.declared.token.TokenKind.{TokenKind}
use Rattle.lam_lexer.specs.declared.token.TokenKind.TheVariants as Kind
use Rattle.lam_syntax.specs.Tree.{IdTree, TypeTree, VarTree, StmtList, no_stmts, stmts, ItemTree, class_item, function_item, ProgramTree}
use Rattle.lam_syntax.specs.Unplaced.{unplaced_id, unplaced_option_type, unplaced_vars, unplaced_stmts, unplaced_item, unplaced}
use Rattle.lam_grammar.specs.Table.{begins_item, items, item, fields, params, result_part, typ, block, class_word, fn_word, ID, brace_open, brace_close, paren_open, paren_close, colon}
use Rattle.lam_grammar.specs.Meaning.{Value, word, type_value, variables_value, stmts_value, item_value, items_value, optional_type, id_of}
use Rattle.lam_grammar.specs.Meaning as mean
use Rattle.lam_grammar.specs.Program.{lam, program}
use Rattle.lam_print.specs.Pieces.{Piece, token as piece, blank, line}
use Rattle.lam_print.specs.Canon.{lay_class_body, lay_result, lay_class, lay_function, lay_item, lay_items, lay_block, pieces}
use Rattle.lam_print_laws.proofs.Spans.{Spans, nothing, token, joins}
use Rattle.lam_print_laws.proofs.Marks.{tok, ended, Here, Gives, made, Back, brace, paren}
use Rattle.lam_print_laws.proofs.Parts.{Typed, a_type, Variables, some_params, some_fields}
use Rattle.lam_print_laws.proofs.Statements.{ReadyAll, Body, a_block}

abbrev pub ReadyItem : ItemTree → Type 0
ReadyItem (class_item c) = Unit {0}
ReadyItem (function_item f) = ReadyAll f.body

abbrev pub ReadyProgram : ProgramTree → Type 0
ReadyProgram [] = Unit {0}
ReadyProgram (x ∷ xs) = ReadyItem x × ReadyProgram xs

function_same : (x : IdTree) (vs vs' : List VarTree) (t t' : Option TypeTree) (b b' : StmtList) → vs ≡ vs' → t ≡ t' → b ≡ b' → function_item (record { at = 0; name = x; params = vs; result = t; body = b }) ≡ function_item (record { at = 0; name = x; params = vs'; result = t'; body = b' })
function_same x vs vs' t t' b b' e f g = cc

module _ (look : ℕ → Option Token) where
  pub record Listed (x : ItemTree) (i : ℕ) (ks : List TokenKind) : Type 0 where
    pub tree : ItemTree
    pub end : ℕ
    pub gives : (before : Value) → Gives look item before i (item_value tree) end
    pub rest : Here look end ks
    pub same : unplaced_item tree ≡ unplaced_item x
    pub first : Token
    pub there : look i ≡ Some first
    pub opens : begins_item first.kind ≡ true

  -- ---- classes

  body_back : (vs : List VarTree) (i : ℕ) (ps : List Piece) → Here look i (ended (lay_class_body vs ps)) → Variables look fields vs i (Kind.BraceClose ∷ ended ps)
  body_back [] i ps h = some_fields look [] i (piece Kind.BraceClose ∷ ps) h brace
  body_back (v ∷ vs) i ps h = some_fields look (v ∷ vs) i (line 0 ∷ piece Kind.BraceClose ∷ ps) h brace

  a_class : (at : ℕ) (x : IdTree) (vs : List VarTree) (i : ℕ) (ps : List Piece) → Here look i (ended (lay_class (record { at = at; name = x; fields = vs }) ps)) → Listed (class_item (record { at = at; name = x; fields = vs })) i (ended ps)
  a_class at x vs i ps h =
      let r : Variables look fields vs (i + 1 + 1 + 1) (Kind.BraceClose ∷ ended ps) = body_back vs (i + 1 + 1 + 1) ps h.2.2.2 in
      let w : Token = tok h.0 Kind.Class in
      let y : Token = tok h.2.0 (Kind.Id x.word) in
      let o : Token = tok h.2.2.0 Kind.BraceOpen in
      record {
        tree = class_item (record { at = h.0; name = id_of y; fields = r.tree });
        end = r.end + 1;
        gives = λ before. made item before (class_word ∷ ID ∷ brace_open ∷ rule fields ∷ brace_close ∷ []) (word w ∷ word y ∷ word o ∷ variables_value r.tree ∷ word (tok r.rest.0 Kind.BraceClose) ∷ []) h.1 refl (token h.1 refl (token h.2.1 refl (token h.2.2.1 refl (joins (r.gives (word o)) (token r.rest.1 refl nothing)))));
        rest = r.rest.2;
        same = ap (λ (zs : List VarTree). class_item (record { at = 0; name = unplaced_id x; fields = zs })) r.same;
        first = w;
        there = h.1;
        opens = refl;
      }

  -- ---- functions

  -- the type behind the parameters, and the brace of the body
  record Result (t : Option TypeTree) (i : ℕ) (ks : List TokenKind) : Type 0 where
    value : Value
    end : ℕ
    gives : (before : Value) → Gives look result_part before i value end
    rest : Here look end ks
    same : unplaced_option_type (optional_type value) ≡ unplaced_option_type t

  a_brace : (body : StmtList) (n i : ℕ) (ps : List Piece) → Here look i (ended (lay_block body n ps)) → (at : ℕ) × (look i ≡ Some (tok at Kind.BraceOpen))
  a_brace no_stmts n i ps h = (h.0, h.1)
  a_brace (stmts s ss) n i ps h = (h.0, h.1)

  a_result : (t : Option TypeTree) (body : StmtList) (n i : ℕ) (ps : List Piece) → Here look i (ended (lay_result t (blank ∷ lay_block body n ps))) → Result t i (ended (lay_block body n ps))
  a_result None body n i ps h =
      let b : (at : ℕ) × (look i ≡ Some (tok at Kind.BraceOpen)) = a_brace body n i ps h in
      record {
        value = mean.nothing;
        end = i;
        gives = λ before. made result_part before [] [] b.1 refl nothing;
        rest = h;
        same = refl;
      }
  a_result (Some t) body n i ps h =
      let r : Typed look t (i + 1) (ended (lay_block body n ps)) = a_type look t (i + 1) (blank ∷ lay_block body n ps) h.2 in
      let w : Token = tok h.0 Kind.Colon in
      record {
        value = type_value r.tree;
        end = r.end;
        gives = λ before. made result_part before (colon ∷ rule typ ∷ []) (word w ∷ type_value r.tree ∷ []) h.1 refl (token h.1 refl (r.gives (word w)));
        rest = r.rest;
        same = ap Some r.same;
      }

  a_function : (at : ℕ) (x : IdTree) (vs : List VarTree) (t : Option TypeTree) (body : StmtList) → ReadyAll body → (i : ℕ) (ps : List Piece) → Here look i (ended (lay_function (record { at = at; name = x; params = vs; result = t; body = body }) ps)) → Listed (function_item (record { at = at; name = x; params = vs; result = t; body = body })) i (ended ps)
  a_function at x vs t body q i ps h =
      let braces : List Piece = lay_block body 0 ps in
      let behind : List Piece = lay_result t (blank ∷ braces) in
      let r : Variables look params vs (i + 1 + 1 + 1) (Kind.ParenClose ∷ ended behind) = some_params look vs (i + 1 + 1 + 1) (piece Kind.ParenClose ∷ behind) h.2.2.2 paren in
      let e : Result t (r.end + 1) (ended braces) = a_result t body 0 (r.end + 1) ps r.rest.2 in
      let b : Body look block body e.end (ended ps) = a_block look body q 0 e.end ps e.rest in
      let w : Token = tok h.0 Kind.Fn in
      let y : Token = tok h.2.0 (Kind.Id x.word) in
      let o : Token = tok h.2.2.0 Kind.ParenOpen in
      let c : Token = tok r.rest.0 Kind.ParenClose in
      record {
        tree = function_item (record { at = h.0; name = id_of y; params = r.tree; result = optional_type e.value; body = b.tree });
        end = b.end;
        gives = λ before. made item before (fn_word ∷ ID ∷ paren_open ∷ rule params ∷ paren_close ∷ rule result_part ∷ rule block ∷ []) (word w ∷ word y ∷ word o ∷ variables_value r.tree ∷ word c ∷ e.value ∷ stmts_value b.tree ∷ []) h.1 refl (token h.1 refl (token h.2.1 refl (token h.2.2.1 refl (joins (r.gives (word o)) (token r.rest.1 refl (joins (e.gives (word c)) (b.gives e.value)))))));
        rest = b.rest;
        same = function_same (unplaced_id x) (unplaced_vars r.tree) (unplaced_vars vs) (unplaced_option_type (optional_type e.value)) (unplaced_option_type t) (unplaced_stmts b.tree) (unplaced_stmts body) r.same e.same b.same;
        first = w;
        there = h.1;
        opens = refl;
      }

  an_item : (x : ItemTree) → ReadyItem x → (i : ℕ) (ps : List Piece) → Here look i (ended (lay_item x ps)) → Listed x i (ended ps)
  an_item (class_item c) q i ps h = a_class c.at c.name c.fields i ps h
  an_item (function_item f) q i ps h = a_function f.at f.name f.params f.result f.body q i ps h

  -- ---- programs

  abbrev Program : ProgramTree → ℕ → List TokenKind → Type 0
  Program p i ks = Back look ProgramTree items_value unplaced items p i ks

  one_item : (x : ItemTree) (xs : ProgramTree) (i : ℕ) (kr ks : List TokenKind) (r : Listed x i kr) → Program xs r.end ks → Program (x ∷ xs) i ks
  one_item x xs i kr ks r t = record {
    tree = r.tree ∷ t.tree;
    end = t.end;
    gives = λ before. made items before (rule item ∷ rule items ∷ []) (item_value r.tree ∷ items_value t.tree ∷ []) r.there (ap (λ (b : Bool). Some (cond b (rule item ∷ rule items ∷ []) [])) r.opens) (joins (r.gives before) (t.gives (item_value r.tree)));
    rest = t.rest;
    same = ap₂ (λ (y : ItemTree) (ys : ProgramTree). y ∷ ys) r.same t.same;
  }

  -- items, and the end of the text
  all_items : (p : ProgramTree) → ReadyProgram p → (later : Bool) (i : ℕ) → Here look i (ended (lay_items later p [])) → Program p i (Kind.End ∷ [])
  all_items [] q later i h = record {
    tree = [];
    end = i;
    gives = λ before. made items before [] [] h.1 refl nothing;
    rest = h;
    same = refl;
  }
  all_items (x ∷ xs) q true i h =
      let r : Listed x i (ended (lay_items true xs [])) = an_item x q.0 i (line 0 ∷ lay_items true xs []) h in
      one_item x xs i (ended (lay_items true xs [])) (Kind.End ∷ []) r (all_items xs q.1 true r.end r.rest)
  all_items (x ∷ xs) q false i h =
      let r : Listed x i (ended (lay_items true xs [])) = an_item x q.0 i (line 0 ∷ lay_items true xs []) h in
      one_item x xs i (ended (lay_items true xs [])) (Kind.End ∷ []) r (all_items xs q.1 true r.end r.rest)

  -- a program is read back to the end of the tokens
  pub record Whole (p : ProgramTree) : Type 0 where
    pub tree : ProgramTree
    pub w : Token
    pub end : ℕ
    pub spans : Spans lam look program mean.nothing 0 (items_value tree ∷ word w ∷ []) end
    pub last : look end ≡ None
    pub same : unplaced tree ≡ unplaced p

  pub a_program : (p : ProgramTree) → ReadyProgram p → Here look 0 (ended (pieces p)) → Whole p
  a_program p q h =
      let r : Program p 0 (Kind.End ∷ []) = all_items p q false 0 h in
      record {
        tree = r.tree;
        w = tok r.rest.0 Kind.End;
        end = r.end + 1;
        spans = joins (r.gives mean.nothing) (token r.rest.1 refl nothing);
        last = r.rest.2;
        same = r.same;
      }
