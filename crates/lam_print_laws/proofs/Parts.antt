-- Names, types, variables and capabilities are read back from their canonical tokens.
use Rattle.std.proofs.Common.{◌≡◌, ℕ, ◌+◌, true, false, Bool, Option, Some, List, [], ◌∷◌, refl, ap, ap₂}
use Rattle.lam_grammar_laws.specs.Grammar.{rule, production}
use Rattle.lam_lexer.specs.declared.token.Token.{Token}
use Rattle.lam_lexer.specs.declared.token.TokenKind.{TokenKind}
use Rattle.lam_lexer.specs.declared.token.TokenKind.TheVariants as Kind
use Rattle.lam_syntax.specs.Tree.{IdTree, TypeTree, type_node, TypeForm, int_type, bool_type, bytes_type, tag_type, label_type, caps_type, file_type, dir_type, pipe_type, thread_type, class_type, array_type, VarTree, CapTree}
use Rattle.lam_syntax.specs.Unplaced.{unplaced_id, unplaced_ids, unplaced_type, unplaced_var, unplaced_vars, unplaced_cap, unplaced_caps}
use Rattle.lam_grammar.specs.Table.{Rule, typ, variable, names, names_tail, params, params_tail, fields, cap_items, cap_item, cap_tail, type_word, ID, bracket_open, bracket_close, colon, comma as comma_mark, semicolon, sign, is_type_word}
use Rattle.lam_grammar.specs.Meaning.{Value, word, ids_value, type_value, variable_value, variables_value, cap_value, caps_value, type_form_of}
use Rattle.lam_grammar.specs.Program.{lam}
use Rattle.lam_print.specs.Pieces.{Piece, token as piece}
use Rattle.lam_print.specs.Canon.{lay_type_form, lay_type, lay_var, lay_names, lay_vars, lay_cap, lay_caps, lay_fields}
use Rattle.lam_print_laws.proofs.Spans.{nothing, token, joins}
use Rattle.lam_print_laws.proofs.Marks.{tok, ended, Here, Stands, made, Back, Closed, nil}

module _ (look : ℕ → Option Token) where
  -- ---- types

  abbrev pub Typed : TypeTree → ℕ → List TokenKind → Type 0
  Typed t i ks = Back look TypeTree type_value unplaced_type typ t i ks

  a_word : (k : TokenKind) (t : TypeTree) (i : ℕ) (ks : List TokenKind) → is_type_word k ≡ true → ((before : Value) (at : ℕ) → production lam typ before (Some (tok at k)) ≡ Some (type_word ∷ [])) → ((at : ℕ) → unplaced_type (type_node at (type_form_of k)) ≡ unplaced_type t) → Here look i (k ∷ ks) → Typed t i ks
  a_word k t i ks f p e h = record {
    tree = type_node h.0 (type_form_of k);
    end = i + 1;
    gives = λ before. made typ before (type_word ∷ []) (word (tok h.0 k) ∷ []) h.1 (p before h.0) (token h.1 f nothing);
    rest = h.2;
    same = e h.0;
  }

  an_array : (at : ℕ) (t : TypeTree) (i : ℕ) (ks : List TokenKind) (h : Stands look i Kind.BracketOpen) → Typed t (i + 1) (Kind.BracketClose ∷ ks) → Typed (type_node at (array_type t)) i ks
  an_array at t i ks h r =
      let e = r.same in
      record {
        tree = type_node h.0 (array_type r.tree);
        end = r.end + 1;
        gives = λ before. made typ before (bracket_open ∷ rule typ ∷ bracket_close ∷ []) (word (tok h.0 Kind.BracketOpen) ∷ type_value r.tree ∷ word (tok r.rest.0 Kind.BracketClose) ∷ []) h.1 refl (token h.1 refl (joins (r.gives (word (tok h.0 Kind.BracketOpen))) (token r.rest.1 refl nothing)));
        rest = r.rest.2;
        same = ap (λ (x : TypeTree). type_node 0 (array_type x)) e;
      }

  a_type_form : (form : TypeForm) (at i : ℕ) (ps : List Piece) → Here look i (ended (lay_type_form form ps)) → Typed (type_node at form) i (ended ps)
  a_type_form int_type at i ps h = a_word Kind.Int (type_node at int_type) i (ended ps) refl (λ b a. refl) (λ a. refl) h
  a_type_form bool_type at i ps h = a_word Kind.Bool (type_node at bool_type) i (ended ps) refl (λ b a. refl) (λ a. refl) h
  a_type_form bytes_type at i ps h = a_word Kind.Bytes (type_node at bytes_type) i (ended ps) refl (λ b a. refl) (λ a. refl) h
  a_type_form tag_type at i ps h = a_word Kind.Tag (type_node at tag_type) i (ended ps) refl (λ b a. refl) (λ a. refl) h
  a_type_form label_type at i ps h = a_word Kind.Label (type_node at label_type) i (ended ps) refl (λ b a. refl) (λ a. refl) h
  a_type_form caps_type at i ps h = a_word Kind.Caps (type_node at caps_type) i (ended ps) refl (λ b a. refl) (λ a. refl) h
  a_type_form file_type at i ps h = a_word Kind.File (type_node at file_type) i (ended ps) refl (λ b a. refl) (λ a. refl) h
  a_type_form dir_type at i ps h = a_word Kind.Dir (type_node at dir_type) i (ended ps) refl (λ b a. refl) (λ a. refl) h
  a_type_form pipe_type at i ps h = a_word Kind.Pipe (type_node at pipe_type) i (ended ps) refl (λ b a. refl) (λ a. refl) h
  a_type_form thread_type at i ps h = a_word Kind.Thread (type_node at thread_type) i (ended ps) refl (λ b a. refl) (λ a. refl) h
  a_type_form (class_type x) at i ps h = record {
    tree = type_node h.0 (class_type x);
    end = i + 1;
    gives = λ before. made typ before (ID ∷ []) (word (tok h.0 (Kind.Id x)) ∷ []) h.1 refl (token h.1 refl nothing);
    rest = h.2;
    same = refl;
  }
  a_type_form (array_type (type_node inner form)) at i ps h = an_array at (type_node inner form) i (ended ps) (h.0, h.1) (a_type_form form inner (i + 1) (piece Kind.BracketClose ∷ ps) h.2)

  pub a_type : (t : TypeTree) (i : ℕ) (ps : List Piece) → Here look i (ended (lay_type t ps)) → Typed t i (ended ps)
  a_type (type_node at form) i ps h = a_type_form form at i ps h

  -- ---- variables

  abbrev pub Named : VarTree → ℕ → List TokenKind → Type 0
  Named v i ks = Back look VarTree variable_value unplaced_var variable v i ks

  pub a_var : (v : VarTree) (i : ℕ) (ps : List Piece) → Here look i (ended (lay_var v ps)) → Named v i (ended ps)
  a_var v i ps h =
      let r : Typed v.ty (i + 1 + 1) (ended ps) = a_type v.ty (i + 1 + 1) ps h.2.2 in
      let x : IdTree = record { at = h.0; word = v.name.word } in
      record {
        tree = record { name = x; ty = r.tree };
        end = r.end;
        gives = λ before. made variable before (ID ∷ colon ∷ rule typ ∷ []) (word (tok h.0 (Kind.Id v.name.word)) ∷ word (tok h.2.0 Kind.Colon) ∷ type_value r.tree ∷ []) h.1 refl (token h.1 refl (token h.2.1 refl (joins (r.gives (word (tok h.2.0 Kind.Colon))) nothing)));
        rest = r.rest;
        same = ap (λ (t : TypeTree). record { name = unplaced_id v.name; ty = t }) r.same;
      }

  -- ---- names

  abbrev pub Idents : Rule → List IdTree → ℕ → List TokenKind → Type 0
  Idents r xs i ks = Back look (List IdTree) ids_value unplaced_ids r xs i ks

  id_at : ℕ → IdTree → IdTree
  id_at at x = record { at = at; word = x.word }

  more_names : (xs : List IdTree) (i : ℕ) (ps : List Piece) → Here look i (ended (lay_names true xs ps)) → Closed (ended ps) → Idents names_tail xs i (ended ps)
  unfolding id_at
  more_names [] i ps h c = nil look (List IdTree) ids_value unplaced_ids names_tail [] i (ended ps) refl refl refl h c
  more_names (x ∷ xs) i ps h c =
      let r : Idents names_tail xs (i + 1 + 1) (ended ps) = more_names xs (i + 1 + 1) ps h.2.2 c in
      let w : Token = tok h.2.0 (Kind.Id x.word) in
      record {
        tree = id_at h.2.0 x ∷ r.tree;
        end = r.end;
        gives = λ before. made names_tail before (comma_mark ∷ ID ∷ rule names_tail ∷ []) (word (tok h.0 Kind.Comma) ∷ word w ∷ ids_value r.tree ∷ []) h.1 refl (token h.1 refl (token h.2.1 refl (r.gives (word w))));
        rest = r.rest;
        same = ap (λ (ys : List IdTree). unplaced_id x ∷ ys) r.same;
      }

  pub some_names : (xs : List IdTree) (i : ℕ) (ps : List Piece) → Here look i (ended (lay_names false xs ps)) → Closed (ended ps) → Idents names xs i (ended ps)
  unfolding id_at
  some_names [] i ps h c = nil look (List IdTree) ids_value unplaced_ids names [] i (ended ps) refl refl refl h c
  some_names (x ∷ xs) i ps h c =
      let r : Idents names_tail xs (i + 1) (ended ps) = more_names xs (i + 1) ps h.2 c in
      let w : Token = tok h.0 (Kind.Id x.word) in
      record {
        tree = id_at h.0 x ∷ r.tree;
        end = r.end;
        gives = λ before. made names before (ID ∷ rule names_tail ∷ []) (word w ∷ ids_value r.tree ∷ []) h.1 refl (token h.1 refl (r.gives (word w)));
        rest = r.rest;
        same = ap (λ (ys : List IdTree). unplaced_id x ∷ ys) r.same;
      }

  -- ---- parameters and fields

  abbrev pub Variables : Rule → List VarTree → ℕ → List TokenKind → Type 0
  Variables r vs i ks = Back look (List VarTree) variables_value unplaced_vars r vs i ks

  both_same : (x y : VarTree) (xs ys : List VarTree) → unplaced_var x ≡ unplaced_var y → unplaced_vars xs ≡ unplaced_vars ys → unplaced_vars (x ∷ xs) ≡ unplaced_vars (y ∷ ys)
  both_same x y xs ys e f = ap₂ (λ (a : VarTree) (rest : List VarTree). a ∷ rest) e f

  more_params : (vs : List VarTree) (i : ℕ) (ps : List Piece) → Here look i (ended (lay_vars true vs ps)) → Closed (ended ps) → Variables params_tail vs i (ended ps)
  more_params [] i ps h c = nil look (List VarTree) variables_value unplaced_vars params_tail [] i (ended ps) refl refl refl h c
  more_params (v ∷ vs) i ps h c =
      let x : Named v (i + 1) (ended (lay_vars true vs ps)) = a_var v (i + 1) (lay_vars true vs ps) h.2 in
      let r : Variables params_tail vs x.end (ended ps) = more_params vs x.end ps x.rest c in
      record {
        tree = x.tree ∷ r.tree;
        end = r.end;
        gives = λ before. made params_tail before (comma_mark ∷ rule variable ∷ rule params_tail ∷ []) (word (tok h.0 Kind.Comma) ∷ variable_value x.tree ∷ variables_value r.tree ∷ []) h.1 refl (token h.1 refl (joins (x.gives (word (tok h.0 Kind.Comma))) (r.gives (variable_value x.tree))));
        rest = r.rest;
        same = both_same x.tree v r.tree vs x.same r.same;
      }

  pub some_params : (vs : List VarTree) (i : ℕ) (ps : List Piece) → Here look i (ended (lay_vars false vs ps)) → Closed (ended ps) → Variables params vs i (ended ps)
  some_params [] i ps h c = nil look (List VarTree) variables_value unplaced_vars params [] i (ended ps) refl refl refl h c
  some_params (v ∷ vs) i ps h c =
      let x : Named v i (ended (lay_vars true vs ps)) = a_var v i (lay_vars true vs ps) h in
      let r : Variables params_tail vs x.end (ended ps) = more_params vs x.end ps x.rest c in
      record {
        tree = x.tree ∷ r.tree;
        end = r.end;
        gives = λ before. made params before (rule variable ∷ rule params_tail ∷ []) (variable_value x.tree ∷ variables_value r.tree ∷ []) h.1 refl (joins (x.gives before) (r.gives (variable_value x.tree)));
        rest = r.rest;
        same = both_same x.tree v r.tree vs x.same r.same;
      }

  pub some_fields : (vs : List VarTree) (i : ℕ) (ps : List Piece) → Here look i (ended (lay_fields vs ps)) → Closed (ended ps) → Variables fields vs i (ended ps)
  some_fields [] i ps h c = nil look (List VarTree) variables_value unplaced_vars fields [] i (ended ps) refl refl refl h c
  some_fields (v ∷ vs) i ps h c =
      let x : Named v i (Kind.Semicolon ∷ ended (lay_fields vs ps)) = a_var v i (piece Kind.Semicolon ∷ lay_fields vs ps) h in
      let r : Variables fields vs (x.end + 1) (ended ps) = some_fields vs (x.end + 1) ps x.rest.2 c in
      let w : Token = tok x.rest.0 Kind.Semicolon in
      record {
        tree = x.tree ∷ r.tree;
        end = r.end;
        gives = λ before. made fields before (rule variable ∷ semicolon ∷ rule fields ∷ []) (variable_value x.tree ∷ word w ∷ variables_value r.tree ∷ []) h.1 refl (joins (x.gives before) (token x.rest.1 refl (r.gives (word w))));
        rest = r.rest;
        same = both_same x.tree v r.tree vs x.same r.same;
      }

  -- ---- capabilities

  abbrev pub Capabilities : Rule → List CapTree → ℕ → List TokenKind → Type 0
  Capabilities r cs i ks = Back look (List CapTree) caps_value unplaced_caps r cs i ks

  one_cap : (x : IdTree) (plus : Bool) (i : ℕ) (ps : List Piece) → Here look i (ended (lay_cap (record { name = x; plus = plus }) ps)) → Back look CapTree cap_value unplaced_cap cap_item (record { name = x; plus = plus }) i (ended ps)
  unfolding id_at
  one_cap x true i ps h = record {
    tree = record { name = id_at h.0 x; plus = true };
    end = i + 1 + 1;
    gives = λ before. made cap_item before (ID ∷ sign ∷ []) (word (tok h.0 (Kind.Id x.word)) ∷ word (tok h.2.0 Kind.Plus) ∷ []) h.1 refl (token h.1 refl (token h.2.1 refl nothing));
    rest = h.2.2;
    same = refl;
  }
  one_cap x false i ps h = record {
    tree = record { name = id_at h.0 x; plus = false };
    end = i + 1 + 1;
    gives = λ before. made cap_item before (ID ∷ sign ∷ []) (word (tok h.0 (Kind.Id x.word)) ∷ word (tok h.2.0 Kind.Minus) ∷ []) h.1 refl (token h.1 refl (token h.2.1 refl nothing));
    rest = h.2.2;
    same = refl;
  }

  cap_back : (c : CapTree) (i : ℕ) (ps : List Piece) → Here look i (ended (lay_cap c ps)) → Back look CapTree cap_value unplaced_cap cap_item c i (ended ps)
  cap_back c i ps h = one_cap c.name c.plus i ps h

  caps_same : (x y : CapTree) (xs ys : List CapTree) → unplaced_cap x ≡ unplaced_cap y → unplaced_caps xs ≡ unplaced_caps ys → unplaced_caps (x ∷ xs) ≡ unplaced_caps (y ∷ ys)
  caps_same x y xs ys e f = ap₂ (λ (a : CapTree) (rest : List CapTree). a ∷ rest) e f

  more_caps : (cs : List CapTree) (i : ℕ) (ps : List Piece) → Here look i (ended (lay_caps true cs ps)) → Closed (ended ps) → Capabilities cap_tail cs i (ended ps)
  more_caps [] i ps h c = nil look (List CapTree) caps_value unplaced_caps cap_tail [] i (ended ps) refl refl refl h c
  more_caps (v ∷ vs) i ps h c =
      let x : Back look CapTree cap_value unplaced_cap cap_item v (i + 1) (ended (lay_caps true vs ps)) = cap_back v (i + 1) (lay_caps true vs ps) h.2 in
      let r : Capabilities cap_tail vs x.end (ended ps) = more_caps vs x.end ps x.rest c in
      record {
        tree = x.tree ∷ r.tree;
        end = r.end;
        gives = λ before. made cap_tail before (comma_mark ∷ rule cap_item ∷ rule cap_tail ∷ []) (word (tok h.0 Kind.Comma) ∷ cap_value x.tree ∷ caps_value r.tree ∷ []) h.1 refl (token h.1 refl (joins (x.gives (word (tok h.0 Kind.Comma))) (r.gives (cap_value x.tree))));
        rest = r.rest;
        same = caps_same x.tree v r.tree vs x.same r.same;
      }

  pub some_caps : (cs : List CapTree) (i : ℕ) (ps : List Piece) → Here look i (ended (lay_caps false cs ps)) → Closed (ended ps) → Capabilities cap_items cs i (ended ps)
  some_caps [] i ps h c = nil look (List CapTree) caps_value unplaced_caps cap_items [] i (ended ps) refl refl refl h c
  some_caps (v ∷ vs) i ps h c =
      let x : Back look CapTree cap_value unplaced_cap cap_item v i (ended (lay_caps true vs ps)) = cap_back v i (lay_caps true vs ps) h in
      let r : Capabilities cap_tail vs x.end (ended ps) = more_caps vs x.end ps x.rest c in
      record {
        tree = x.tree ∷ r.tree;
        end = r.end;
        gives = λ before. made cap_items before (rule cap_item ∷ rule cap_tail ∷ []) (cap_value x.tree ∷ caps_value r.tree ∷ []) h.1 refl (joins (x.gives before) (r.gives (cap_value x.tree)));
        rest = r.rest;
        same = caps_same x.tree v r.tree vs x.same r.same;
      }
