-- The made program: its tokens and its tree.
use Rattle.std.proofs.Common.{◌≡◌, ℕ, false, List, [], ◌∷◌, Some, slice_get, IsUtf8, codes, pos, refl}
use Rattle.std.proofs.lemmas.Str.{IsUtf8-from_is_utf8}
use Rattle.std.specs.Str.{chars, is_utf8}
use lib.Utf8.{encode}
use Rattle.unicode_ident.proofs.Computing.{unicode_ident}
use Rattle.lam_make.specs.Made.{program_text}
use Rattle.lam_operators.specs.declared.BinaryOp.TheVariants as Op
use Rattle.lam_syntax.specs.Tree.{IdTree, TypeForm, type_node, int_type, tag_type, VarTree, ExprTree, expr_node, binary_expr, number_expr, name_expr, call_expr, label_expr, caps_expr, ExprList, no_exprs, exprs, StmtForm, stmt_node, let_stmt, while_stmt, return_stmt, region_stmt, do_stmt, assign_stmt, StmtList, no_stmts, stmts, function_item, ProgramTree}
use Rattle.lam_operators.specs.Words.{Word}
use Rattle.lam_lexer.specs.declared.token.Token.{Token}
use Rattle.lam_lexer.specs.declared.token.TokenKind.TheVariants as Kind
use Rattle.lam_lexer.specs.Lexed.{token, Lexed}
use Rattle.lam_grammar.specs.Meaning.{Value, nothing, word, items_value}
use Rattle.lam_grammar.specs.Program.{lam, program, SpellsProgram}
use Rattle.lam_main_laws.proofs.Lexing.{lexed_as}
use Rattle.lam_main_laws.proofs.Parsing.{Found, read_by, read_as}

-- ---- its tokens

abbrev pub made_tokens : List Token
made_tokens =
    token 0 Kind.Fn ∷ token 3 (Kind.Id (codes "work")) ∷ token 7 Kind.ParenOpen ∷ token 8 (Kind.Id (codes "a")) ∷ token 9 Kind.Colon ∷ token 11 Kind.Tag ∷ token 14 Kind.Comma ∷ token 16 (Kind.Id (codes "n")) ∷ token 17 Kind.Colon ∷ token 19 Kind.Int ∷ token 22 Kind.ParenClose ∷ token 23 Kind.Colon ∷ token 25 Kind.Int ∷ token 29 Kind.BraceOpen ∷
    token 33 Kind.Region ∷ token 40 Kind.ParenOpen ∷ token 41 Kind.Label ∷ token 46 Kind.BraceOpen ∷ token 47 (Kind.Id (codes "a")) ∷ token 48 Kind.Semicolon ∷ token 49 Kind.BraceClose ∷ token 50 Kind.Comma ∷ token 52 Kind.Caps ∷ token 56 Kind.BraceOpen ∷ token 57 (Kind.Id (codes "a")) ∷ token 58 Kind.Minus ∷ token 59 Kind.BraceClose ∷ token 60 Kind.ParenClose ∷ token 62 Kind.BracketOpen ∷ token 63 (Kind.Id (codes "n")) ∷ token 64 Kind.BracketClose ∷ token 66 Kind.BraceOpen ∷
    token 72 Kind.Let ∷ token 76 (Kind.Id (codes "s")) ∷ token 77 Kind.Colon ∷ token 79 Kind.Int ∷ token 83 Kind.Assign ∷ token 85 (Kind.Number (pos 0)) ∷ token 86 Kind.Semicolon ∷
    token 92 Kind.While ∷ token 98 Kind.ParenOpen ∷ token 99 (Kind.Id (codes "n")) ∷ token 101 Kind.Greater ∷ token 103 (Kind.Number (pos 0)) ∷ token 104 Kind.ParenClose ∷ token 106 Kind.BraceOpen ∷
    token 114 (Kind.Id (codes "s")) ∷ token 116 Kind.Assign ∷ token 118 (Kind.Id (codes "s")) ∷ token 120 Kind.Plus ∷ token 122 (Kind.Id (codes "n")) ∷ token 123 Kind.Semicolon ∷
    token 131 (Kind.Id (codes "n")) ∷ token 133 Kind.Assign ∷ token 135 (Kind.Id (codes "n")) ∷ token 137 Kind.Minus ∷ token 139 (Kind.Number (pos 1)) ∷ token 140 Kind.Semicolon ∷
    token 146 Kind.BraceClose ∷
    token 152 Kind.Region ∷ token 159 Kind.ParenOpen ∷ token 160 Kind.Label ∷ token 165 Kind.BraceOpen ∷ token 166 Kind.Semicolon ∷ token 167 Kind.BraceClose ∷ token 168 Kind.Comma ∷ token 170 Kind.Caps ∷ token 174 Kind.BraceOpen ∷ token 175 Kind.BraceClose ∷ token 176 Kind.ParenClose ∷ token 178 Kind.BracketOpen ∷ token 179 (Kind.Id (codes "s")) ∷ token 180 Kind.BracketClose ∷ token 182 Kind.BraceOpen ∷
    token 190 (Kind.Id (codes "say")) ∷ token 193 Kind.ParenOpen ∷ token 194 (Kind.Id (codes "text")) ∷ token 198 Kind.ParenOpen ∷ token 199 (Kind.Id (codes "s")) ∷ token 200 Kind.ParenClose ∷ token 201 Kind.ParenClose ∷ token 202 Kind.Semicolon ∷
    token 208 Kind.BraceClose ∷ token 210 Kind.Catch ∷ token 216 Kind.ParenOpen ∷ token 217 (Kind.Id (codes "e")) ∷ token 218 Kind.ParenClose ∷ token 220 Kind.BraceOpen ∷ token 222 Kind.BraceClose ∷
    token 226 Kind.BraceClose ∷ token 228 Kind.Catch ∷ token 234 Kind.ParenOpen ∷ token 235 (Kind.Id (codes "f")) ∷ token 236 Kind.ParenClose ∷ token 238 Kind.BraceOpen ∷ token 240 Kind.BraceClose ∷
    token 244 Kind.Return ∷ token 251 (Kind.Number (pos 0)) ∷ token 252 Kind.Semicolon ∷
    token 254 Kind.BraceClose ∷
    token 256 Kind.End ∷ []

-- ---- its tree

abbrev id : ℕ → Word → IdTree
id at x = record { at = at; word = x }

abbrev variable : ℕ → Word → ℕ → TypeForm → VarTree
variable at x type_at t = record { name = id at x; ty = type_node type_at t }

abbrev name : ℕ → Word → ExprTree
name at x = expr_node at (name_expr x)

abbrev number : ℕ → ℕ → ExprTree
number at n = expr_node at (number_expr (pos n))

abbrev one : ExprTree → ExprList
one e = exprs e no_exprs

abbrev then_at : ℕ → StmtForm → StmtList → StmtList
then_at at form rest = stmts (stmt_node at form) rest

-- while (n > 0) { s = s + n; n = n - 1; }
abbrev summing : StmtForm
summing =
    while_stmt (expr_node 99 (binary_expr Op.Gt (name 99 (codes "n")) (number 103 0)))
    (then_at 114 (assign_stmt (name 114 (codes "s")) (expr_node 118 (binary_expr Op.Add (name 118 (codes "s")) (name 122 (codes "n")))))
    (then_at 131 (assign_stmt (name 131 (codes "n")) (expr_node 135 (binary_expr Op.Sub (name 135 (codes "n")) (number 139 1)))) no_stmts))

-- region (label{;}, caps{}) [s] { say(text(s)); } catch (e) { }
abbrev saying : StmtForm
saying =
    region_stmt (expr_node 160 (label_expr no_exprs no_exprs)) (expr_node 170 (caps_expr [])) (id 179 (codes "s") ∷ [])
    (then_at 190 (do_stmt (expr_node 190 (call_expr (id 190 (codes "say")) (one (expr_node 194 (call_expr (id 194 (codes "text")) (one (name 199 (codes "s"))))))))) no_stmts)
    (id 217 (codes "e")) no_stmts

-- region (label{a;}, caps{a-}) [n] { .. } catch (f) { }
abbrev region : StmtForm
region =
    region_stmt (expr_node 41 (label_expr (one (name 47 (codes "a"))) no_exprs)) (expr_node 52 (caps_expr (record { name = id 57 (codes "a"); plus = false } ∷ []))) (id 63 (codes "n") ∷ [])
    (then_at 72 (let_stmt (variable 76 (codes "s") 79 int_type) (number 85 0)) (then_at 92 summing (then_at 152 saying no_stmts)))
    (id 235 (codes "f")) no_stmts

abbrev pub made_program : ProgramTree
made_program =
    function_item
    (record {
      at = 0;
      name = id 3 (codes "work");
      params = variable 8 (codes "a") 11 tag_type ∷ variable 16 (codes "n") 19 int_type ∷ [];
      result = Some (type_node 25 int_type);
      body = then_at 33 region (then_at 244 (return_stmt (Some (number 251 0))) no_stmts);
    })
    ∷ []

-- ---- they are those of the text

pub made_utf8 : IsUtf8 program_text
unfolding is_utf8 chars encode program_text
made_utf8 = IsUtf8-from_is_utf8 program_text refl

pub made_lexed : Lexed (chars program_text) made_tokens
unfolding chars encode program_text unicode_ident
made_lexed = lexed_as 300 0 (chars program_text) made_tokens refl

abbrev made_values : List Value
made_values = items_value made_program ∷ word (token 256 Kind.End) ∷ []

abbrev made_found : Found Value
made_found = record { vs = made_values; end = 101; sum = 0 }

made_read : read_by lam (slice_get made_tokens) 400 program nothing 0 0 ≡ Some made_found
made_read = refl

pub made_spelt : SpellsProgram made_tokens made_program
made_spelt = (token 256 Kind.End, record { end = 101; sum = 0; reads = read_as lam (slice_get made_tokens) 400 program nothing 0 0 made_found made_read; whole = refl })
