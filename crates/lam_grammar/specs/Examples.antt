-- A short text of each rule, by which every text that was read so far can be finished.
use Rattle.std.specs.Prelude.{ℕ, List, [], ◌∷◌, Bool, true, false}
use Rattle.lam_grammar_laws.specs.Grammar.{rule}
use Rattle.lam_grammar_laws.specs.Examples.{Examples}
use Rattle.lam_lexer.specs.declared.token.Token.{Token}
use Rattle.lam_lexer.specs.declared.token.TokenKind.{TokenKind}
use Rattle.lam_lexer.specs.declared.token.TokenKind.TheVariants.{BraceOpen, BraceClose, ParenOpen, ParenClose, BracketOpen, BracketClose, Comma, Semicolon, Colon, Plus, Class as ClassWord, Else, Catch, Int, End}
use Rattle.lam_grammar.specs.declared.Level.TheVariants.{Or as or_level, And as and_level, Sum as sum_level, Term as term_level}
use Rattle.lam_grammar.specs.Table.{Rule, Sym, items, item, fields, variable, params, params_tail, result_part, typ, block, stmts, stmt, else_part, value_part, assign_part, parens, region_head, captures, names, names_tail, handler, expr, comparison, comparison_tail, unary, post, post_tail, prim, chain, chain_tail, call_part, arguments, args, args_tail, new_part, cap_items, cap_item, cap_tail, some_name, ID, type_word, sign, brace_open, brace_close, paren_open, paren_close, bracket_open, bracket_close, comma, semicolon, colon, class_word, catch_word, operand_rule}
use Rattle.lam_grammar.specs.Program.{lam}

-- what ends a rule
pub data Ending : Type 0 where
  -- Each token does: the rule does not end with a part that may be empty.
  any_token : Ending
  -- a closing mark, a semicolon, a comma, or the end
  after_expression : Ending
  -- a closing mark, a semicolon, or the end
  after_list : Ending
  -- anything but `else`
  no_else_word : Ending
  -- the `{` of a body
  a_brace : Ending

abbrev pub ending : Rule → Ending
ending items = after_list
ending fields = after_list
ending params = after_list
ending params_tail = after_list
ending result_part = a_brace
ending stmts = after_list
ending stmt = no_else_word
ending else_part = no_else_word
ending value_part = after_list
ending assign_part = after_list
ending names = after_list
ending names_tail = after_list
ending expr = after_expression
ending (chain l) = after_expression
ending (chain_tail l) = after_expression
ending comparison = after_expression
ending comparison_tail = after_expression
ending unary = after_expression
ending post = after_expression
ending post_tail = after_expression
ending prim = after_expression
ending call_part = after_expression
ending args = after_list
ending args_tail = after_list
ending cap_items = after_list
ending cap_tail = after_list
ending _ = any_token

abbrev pub admits : Ending → TokenKind → Bool
admits any_token k = true
admits after_expression k = elim k [ ParenClose ↦ true | BracketClose ↦ true | BraceClose ↦ true | Semicolon ↦ true | Comma ↦ true | End ↦ true | _ ↦ false ]
admits after_list k = elim k [ ParenClose ↦ true | BracketClose ↦ true | BraceClose ↦ true | Semicolon ↦ true | End ↦ true | _ ↦ false ]
admits no_else_word k = elim k [ Else ↦ false | _ ↦ true ]
admits a_brace k = elim k [ BraceOpen ↦ true | _ ↦ false ]

-- may the rule be empty?
abbrev pub null : Rule → Bool
null items = true
null fields = true
null params = true
null params_tail = true
null result_part = true
null stmts = true
null else_part = true
null value_part = true
null assign_part = true
null names = true
null names_tail = true
null (chain_tail l) = true
null comparison_tail = true
null post_tail = true
null call_part = true
null args = true
null args_tail = true
null cap_items = true
null cap_tail = true
null _ = false

abbrev pub of_kind : TokenKind → Token
of_kind k = record { at = 0; kind = k }

-- the kinds of a short text of each rule
abbrev pub kinds : Rule → List TokenKind
kinds item = ClassWord ∷ some_name ∷ BraceOpen ∷ BraceClose ∷ []
kinds variable = some_name ∷ Colon ∷ Int ∷ []
kinds typ = Int ∷ []
kinds block = BraceOpen ∷ BraceClose ∷ []
kinds stmt = some_name ∷ Semicolon ∷ []
kinds parens = ParenOpen ∷ some_name ∷ ParenClose ∷ []
kinds region_head = ParenOpen ∷ some_name ∷ Comma ∷ some_name ∷ ParenClose ∷ []
kinds captures = BracketOpen ∷ BracketClose ∷ []
kinds handler = Catch ∷ ParenOpen ∷ some_name ∷ ParenClose ∷ BraceOpen ∷ BraceClose ∷ []
kinds expr = some_name ∷ []
kinds (chain l) = some_name ∷ []
kinds comparison = some_name ∷ []
kinds unary = some_name ∷ []
kinds post = some_name ∷ []
kinds prim = some_name ∷ []
kinds arguments = ParenOpen ∷ ParenClose ∷ []
kinds new_part = some_name ∷ ParenOpen ∷ ParenClose ∷ []
kinds cap_item = some_name ∷ Plus ∷ []
kinds _ = []

abbrev pub placed : List TokenKind → List Token
placed [] = []
placed (k ∷ ks) = of_kind k ∷ placed ks

abbrev pub short : Rule → List Sym
short item = class_word ∷ ID ∷ brace_open ∷ rule fields ∷ brace_close ∷ []
short variable = ID ∷ colon ∷ rule typ ∷ []
short typ = type_word ∷ []
short block = brace_open ∷ rule stmts ∷ brace_close ∷ []
short stmt = rule expr ∷ rule assign_part ∷ semicolon ∷ []
short parens = paren_open ∷ rule expr ∷ paren_close ∷ []
short region_head = paren_open ∷ rule expr ∷ comma ∷ rule expr ∷ paren_close ∷ []
short captures = bracket_open ∷ rule names ∷ bracket_close ∷ []
short handler = catch_word ∷ paren_open ∷ ID ∷ paren_close ∷ rule block ∷ []
short expr = rule (chain or_level) ∷ []
short (chain l) = rule (operand_rule l) ∷ rule (chain_tail l) ∷ []
short comparison = rule (chain sum_level) ∷ rule comparison_tail ∷ []
short unary = rule post ∷ []
short post = rule prim ∷ rule post_tail ∷ []
short prim = ID ∷ rule call_part ∷ []
short arguments = paren_open ∷ rule args ∷ paren_close ∷ []
short new_part = ID ∷ paren_open ∷ paren_close ∷ []
short cap_item = ID ∷ sign ∷ []
short _ = []

-- a number above those of the rules in that body
abbrev pub rank : Rule → ℕ
rank item = 1
rank variable = 1
rank block = 1
rank captures = 1
rank arguments = 1
rank handler = 2
rank prim = 1
rank post = 2
rank unary = 3
rank (chain term_level) = 4
rank (chain sum_level) = 5
rank comparison = 6
rank (chain and_level) = 7
rank (chain or_level) = 8
rank expr = 9
rank parens = 10
rank region_head = 10
rank stmt = 10
rank _ = 0

-- where the rule is wanted: each that is not empty, and items and statements where none more is there
abbrev pub fills : Rule → Bool
fills items = true
fills fields = false
fills params = false
fills params_tail = false
fills result_part = false
fills else_part = false
fills value_part = false
fills assign_part = false
fills names = false
fills names_tail = false
fills (chain_tail l) = false
fills comparison_tail = false
fills post_tail = false
fills call_part = false
fills args = false
fills args_tail = false
fills cap_items = false
fills cap_tail = false
fills _ = true

abbrev pub full : Rule → List Sym
full items = rule item ∷ rule items ∷ []
full stmts = rule stmt ∷ rule stmts ∷ []
full r = short r

abbrev pub first_kind : Rule → TokenKind
first_kind items = ClassWord
first_kind item = ClassWord
first_kind typ = Int
first_kind block = BraceOpen
first_kind parens = ParenOpen
first_kind region_head = ParenOpen
first_kind captures = BracketOpen
first_kind handler = Catch
first_kind arguments = ParenOpen
first_kind _ = some_name

abbrev pub examples : Examples lam
examples = record {
  sample = λ c. of_kind c.sample;
  null = null;
  word = λ r. placed (kinds r);
  short = short;
  rank = rank;
  top = 11;
  closes = λ r w. admits (ending r) w.kind;
  fills = fills;
  full = full;
  first = λ r. of_kind (first_kind r);
}
