-- The grammar as a table: the bodies of each rule, one line for each line of the printed grammar.
use Rattle.std.specs.Prelude.{◌≡◌, ℕ, List, [], ◌∷◌, Bool, true, false, pos, refl}
use Rattle.lam_grammar_laws.specs.Grammar.{Symbol, mark, rule}
use Rattle.lam_lexer.specs.declared.token.TokenKind.{TokenKind}
use Rattle.lam_lexer.specs.declared.token.TokenKind.TheVariants.{Id, Number, Text, BraceOpen, BraceClose, ParenOpen, ParenClose, BracketOpen, BracketClose, Comma, Semicolon, Colon, Dot, Assign, Equal, NotEqual, Less, LessEqual, Greater, GreaterEqual, Plus, Minus, Star, Slash, Percent, Not, And, Or, Class as ClassWord, Fn, Let, If, Else, While, Return, Throw, Sync, Region, Catch, New, Spawn, True, False, Null, Int, Bool as BoolWord, Bytes, Tag, Label, Caps, File, Dir, Pipe, Thread, End}
use Rattle.lam_grammar.specs.declared.Level.{Level}
use Rattle.lam_grammar.specs.declared.Level.TheVariants.{Or as or_level, And as and_level, Sum as sum_level, Term as term_level}

-- ---- the tokens of the bodies

-- a class of tokens, what one adds to the depth sum, and an example
pub record Class : Type 0 where
  pub fits : TokenKind → Bool
  pub adds : ℕ
  pub sample : TokenKind
  pub sure : fits sample ≡ true

pub data Rule : Type 0 where
  items item fields variable params params_tail result_part : Rule
  typ block stmts stmt else_part value_part assign_part : Rule
  parens region_head captures names names_tail handler : Rule
  expr comparison comparison_tail unary post post_tail prim : Rule
  chain chain_tail : Level → Rule
  call_part arguments args args_tail new_part cap_items cap_item cap_tail : Rule

abbrev pub Sym : Type 0
Sym = Symbol Class Rule

abbrev pub token : (f : TokenKind → Bool) (adds : ℕ) (k : TokenKind) → f k ≡ true → Sym
token f adds k sure = mark (record { fits = f; adds = adds; sample = k; sure = sure })

abbrev pub is_id : TokenKind → Bool
is_id k = elim k [ Id x ↦ true | _ ↦ false ]

-- the operators of each level
abbrev pub operates : Level → TokenKind → Bool
operates or_level k = elim k [ Or ↦ true | _ ↦ false ]
operates and_level k = elim k [ And ↦ true | _ ↦ false ]
operates sum_level k = elim k [ Plus ↦ true | Minus ↦ true | _ ↦ false ]
operates term_level k = elim k [ Star ↦ true | Slash ↦ true | Percent ↦ true | _ ↦ false ]

abbrev pub some_operator : Level → TokenKind
some_operator or_level = Or
some_operator and_level = And
some_operator sum_level = Plus
some_operator term_level = Star

abbrev pub compares : TokenKind → Bool
compares k = elim k [ Equal ↦ true | NotEqual ↦ true | Less ↦ true | LessEqual ↦ true | Greater ↦ true | GreaterEqual ↦ true | _ ↦ false ]

abbrev pub negates : TokenKind → Bool
negates k = elim k [ Not ↦ true | Minus ↦ true | _ ↦ false ]

abbrev pub signs : TokenKind → Bool
signs k = elim k [ Plus ↦ true | Minus ↦ true | _ ↦ false ]

-- numbers, texts and the words that are values
abbrev pub is_literal : TokenKind → Bool
is_literal k = elim k [ Number n ↦ true | Text b ↦ true | True ↦ true | False ↦ true | Null ↦ true | _ ↦ false ]

-- the words that are types
abbrev pub is_type_word : TokenKind → Bool
is_type_word k = elim k [ Int ↦ true | BoolWord ↦ true | Bytes ↦ true | Tag ↦ true | Label ↦ true | Caps ↦ true | File ↦ true | Dir ↦ true | Pipe ↦ true | Thread ↦ true | _ ↦ false ]

abbrev pub some_name : TokenKind
some_name = Id (97 ∷ [])

abbrev pub ID : Sym
ID = token is_id 0 some_name refl

abbrev pub literal : Sym
literal = token is_literal 0 (Number (pos 0)) refl

abbrev pub type_word : Sym
type_word = token is_type_word 0 Int refl

-- Operators, prefixes and postfix parts count in the depth sum: a part `.x` from the token after x on, a part `[e]` from the one after `]`.
abbrev pub operator : Level → Sym
operator l = mark (record { fits = operates l; adds = 1; sample = some_operator l; sure = elim l as (λ m. operates m (some_operator m) ≡ true) [ or_level ↦ refl | and_level ↦ refl | sum_level ↦ refl | term_level ↦ refl ] })

abbrev pub comparing : Sym
comparing = token compares 1 Equal refl

abbrev pub prefix : Sym
prefix = token negates 1 Not refl

abbrev pub member_name : Sym
member_name = token is_id 1 some_name refl

abbrev pub index_close : Sym
index_close = token (λ k. elim k [ BracketClose ↦ true | _ ↦ false ]) 1 BracketClose refl

abbrev pub sign : Sym
sign = token signs 0 Plus refl

abbrev pub brace_open : Sym
brace_open = token (λ k. elim k [ BraceOpen ↦ true | _ ↦ false ]) 0 BraceOpen refl

abbrev pub brace_close : Sym
brace_close = token (λ k. elim k [ BraceClose ↦ true | _ ↦ false ]) 0 BraceClose refl

abbrev pub paren_open : Sym
paren_open = token (λ k. elim k [ ParenOpen ↦ true | _ ↦ false ]) 0 ParenOpen refl

abbrev pub paren_close : Sym
paren_close = token (λ k. elim k [ ParenClose ↦ true | _ ↦ false ]) 0 ParenClose refl

abbrev pub bracket_open : Sym
bracket_open = token (λ k. elim k [ BracketOpen ↦ true | _ ↦ false ]) 0 BracketOpen refl

abbrev pub bracket_close : Sym
bracket_close = token (λ k. elim k [ BracketClose ↦ true | _ ↦ false ]) 0 BracketClose refl

abbrev pub comma : Sym
comma = token (λ k. elim k [ Comma ↦ true | _ ↦ false ]) 0 Comma refl

abbrev pub semicolon : Sym
semicolon = token (λ k. elim k [ Semicolon ↦ true | _ ↦ false ]) 0 Semicolon refl

abbrev pub colon : Sym
colon = token (λ k. elim k [ Colon ↦ true | _ ↦ false ]) 0 Colon refl

abbrev pub dot : Sym
dot = token (λ k. elim k [ Dot ↦ true | _ ↦ false ]) 0 Dot refl

abbrev pub equals : Sym
equals = token (λ k. elim k [ Assign ↦ true | _ ↦ false ]) 0 Assign refl

abbrev pub class_word : Sym
class_word = token (λ k. elim k [ ClassWord ↦ true | _ ↦ false ]) 0 ClassWord refl

abbrev pub fn_word : Sym
fn_word = token (λ k. elim k [ Fn ↦ true | _ ↦ false ]) 0 Fn refl

abbrev pub let_word : Sym
let_word = token (λ k. elim k [ Let ↦ true | _ ↦ false ]) 0 Let refl

abbrev pub if_word : Sym
if_word = token (λ k. elim k [ If ↦ true | _ ↦ false ]) 0 If refl

abbrev pub else_word : Sym
else_word = token (λ k. elim k [ Else ↦ true | _ ↦ false ]) 0 Else refl

abbrev pub while_word : Sym
while_word = token (λ k. elim k [ While ↦ true | _ ↦ false ]) 0 While refl

abbrev pub return_word : Sym
return_word = token (λ k. elim k [ Return ↦ true | _ ↦ false ]) 0 Return refl

abbrev pub throw_word : Sym
throw_word = token (λ k. elim k [ Throw ↦ true | _ ↦ false ]) 0 Throw refl

abbrev pub sync_word : Sym
sync_word = token (λ k. elim k [ Sync ↦ true | _ ↦ false ]) 0 Sync refl

abbrev pub region_word : Sym
region_word = token (λ k. elim k [ Region ↦ true | _ ↦ false ]) 0 Region refl

abbrev pub catch_word : Sym
catch_word = token (λ k. elim k [ Catch ↦ true | _ ↦ false ]) 0 Catch refl

abbrev pub new_word : Sym
new_word = token (λ k. elim k [ New ↦ true | _ ↦ false ]) 0 New refl

abbrev pub spawn_word : Sym
spawn_word = token (λ k. elim k [ Spawn ↦ true | _ ↦ false ]) 0 Spawn refl

abbrev pub label_word : Sym
label_word = token (λ k. elim k [ Label ↦ true | _ ↦ false ]) 0 Label refl

abbrev pub caps_word : Sym
caps_word = token (λ k. elim k [ Caps ↦ true | _ ↦ false ]) 0 Caps refl

abbrev pub end_of_text : Sym
end_of_text = token (λ k. elim k [ End ↦ true | _ ↦ false ]) 0 End refl

-- ---- the grammar

-- the operands of each level
abbrev pub operand_rule : Level → Rule
operand_rule or_level = chain and_level
operand_rule and_level = comparison
operand_rule sum_level = chain term_level
operand_rule term_level = unary

-- The bodies of each rule, in the order in which they are tried. `{ x }` of the printed grammar is a rule that may be empty
-- and otherwise ends with itself, `[ x ]` a rule that may be empty; what two bodies begin with alike is read before both.
abbrev pub bodies : Rule → List (List Sym)
-- program = { class | function }, and then the end
bodies items = (rule item ∷ rule items ∷ []) ∷ [] ∷ []
-- class = "class" ID "{" { ID ":" type ";" } "}"
-- function = "fn" ID "(" [ ID ":" type { "," ID ":" type } ] ")" [ ":" type ] block
bodies item = (class_word ∷ ID ∷ brace_open ∷ rule fields ∷ brace_close ∷ [])
    ∷ (fn_word ∷ ID ∷ paren_open ∷ rule params ∷ paren_close ∷ rule result_part ∷ rule block ∷ [])
    ∷ []
bodies fields = (rule variable ∷ semicolon ∷ rule fields ∷ []) ∷ [] ∷ []
bodies variable = (ID ∷ colon ∷ rule typ ∷ []) ∷ []
bodies params = (rule variable ∷ rule params_tail ∷ []) ∷ [] ∷ []
bodies params_tail = (comma ∷ rule variable ∷ rule params_tail ∷ []) ∷ [] ∷ []
bodies result_part = (colon ∷ rule typ ∷ []) ∷ [] ∷ []
-- type = "int" | "bool" | "bytes" | "tag" | "label" | "caps" | "file" | "dir" | "pipe" | "thread" | ID | "[" type "]"
bodies typ = (type_word ∷ []) ∷ (ID ∷ []) ∷ (bracket_open ∷ rule typ ∷ bracket_close ∷ []) ∷ []
-- block = "{" { stmt } "}"
bodies block = (brace_open ∷ rule stmts ∷ brace_close ∷ []) ∷ []
bodies stmts = (rule stmt ∷ rule stmts ∷ []) ∷ [] ∷ []
-- stmt = "let" ID ":" type "=" expr ";"
--      | "if" "(" expr ")" block [ "else" block ]
--      | "while" "(" expr ")" block
--      | "return" [ expr ] ";"
--      | "throw" expr ";"
--      | "sync" "(" expr ")" block
--      | "region" "(" expr "," expr ")" "[" [ ID { "," ID } ] "]" block "catch" "(" ID ")" block
--      | expr [ "=" expr ] ";"
bodies stmt = (let_word ∷ rule variable ∷ equals ∷ rule expr ∷ semicolon ∷ [])
    ∷ (if_word ∷ rule parens ∷ rule block ∷ rule else_part ∷ [])
    ∷ (while_word ∷ rule parens ∷ rule block ∷ [])
    ∷ (return_word ∷ rule value_part ∷ semicolon ∷ [])
    ∷ (throw_word ∷ rule expr ∷ semicolon ∷ [])
    ∷ (sync_word ∷ rule parens ∷ rule block ∷ [])
    ∷ (region_word ∷ rule region_head ∷ rule captures ∷ rule block ∷ rule handler ∷ [])
    ∷ (rule expr ∷ rule assign_part ∷ semicolon ∷ [])
    ∷ []
bodies else_part = (else_word ∷ rule block ∷ []) ∷ [] ∷ []
bodies value_part = (rule expr ∷ []) ∷ [] ∷ []
bodies assign_part = (equals ∷ rule expr ∷ []) ∷ [] ∷ []
bodies parens = (paren_open ∷ rule expr ∷ paren_close ∷ []) ∷ []
bodies region_head = (paren_open ∷ rule expr ∷ comma ∷ rule expr ∷ paren_close ∷ []) ∷ []
bodies captures = (bracket_open ∷ rule names ∷ bracket_close ∷ []) ∷ []
bodies names = (ID ∷ rule names_tail ∷ []) ∷ [] ∷ []
bodies names_tail = (comma ∷ ID ∷ rule names_tail ∷ []) ∷ [] ∷ []
bodies handler = (catch_word ∷ paren_open ∷ ID ∷ paren_close ∷ rule block ∷ []) ∷ []
-- expr = and { "||" and }, and = cmp { "&&" cmp }, sum = term { ("+" | "-") term }, term = unary { ("*" | "/" | "%") unary }
bodies expr = (rule (chain or_level) ∷ []) ∷ []
bodies (chain l) = (rule (operand_rule l) ∷ rule (chain_tail l) ∷ []) ∷ []
bodies (chain_tail l) = (operator l ∷ rule (operand_rule l) ∷ rule (chain_tail l) ∷ []) ∷ [] ∷ []
-- cmp = sum [ ("==" | "!=" | "<" | "<=" | ">" | ">=") sum ]
bodies comparison = (rule (chain sum_level) ∷ rule comparison_tail ∷ []) ∷ []
bodies comparison_tail = (comparing ∷ rule (chain sum_level) ∷ []) ∷ [] ∷ []
-- unary = ("!" | "-") unary | post
bodies unary = (prefix ∷ rule unary ∷ []) ∷ (rule post ∷ []) ∷ []
-- post = prim { "." ID | "[" expr "]" }
bodies post = (rule prim ∷ rule post_tail ∷ []) ∷ []
bodies post_tail = (dot ∷ member_name ∷ rule post_tail ∷ []) ∷ (bracket_open ∷ rule expr ∷ index_close ∷ rule post_tail ∷ []) ∷ [] ∷ []
-- prim = NUMBER | TEXT | "true" | "false" | "null" | "(" expr ")"
--      | ID | ID "(" [ args ] ")" | "new" ID "(" ")" | "new" "[" type "]" "(" expr ")"
--      | "label" "{" [ args ] ";" [ args ] "}"
--      | "caps" "{" [ ID ("+" | "-") { "," ID ("+" | "-") } ] "}"
--      | "spawn" "(" expr ")" ID "(" [ args ] ")"
bodies prim = (literal ∷ [])
    ∷ (rule parens ∷ [])
    ∷ (ID ∷ rule call_part ∷ [])
    ∷ (new_word ∷ rule new_part ∷ [])
    ∷ (label_word ∷ brace_open ∷ rule args ∷ semicolon ∷ rule args ∷ brace_close ∷ [])
    ∷ (caps_word ∷ brace_open ∷ rule cap_items ∷ brace_close ∷ [])
    ∷ (spawn_word ∷ rule parens ∷ ID ∷ rule arguments ∷ [])
    ∷ []
bodies call_part = (rule arguments ∷ []) ∷ [] ∷ []
bodies arguments = (paren_open ∷ rule args ∷ paren_close ∷ []) ∷ []
-- args = expr { "," expr }
bodies args = (rule expr ∷ rule args_tail ∷ []) ∷ [] ∷ []
bodies args_tail = (comma ∷ rule expr ∷ rule args_tail ∷ []) ∷ [] ∷ []
bodies new_part = (ID ∷ paren_open ∷ paren_close ∷ []) ∷ (bracket_open ∷ rule typ ∷ bracket_close ∷ rule parens ∷ []) ∷ []
bodies cap_items = (rule cap_item ∷ rule cap_tail ∷ []) ∷ [] ∷ []
bodies cap_item = (ID ∷ sign ∷ []) ∷ []
bodies cap_tail = (comma ∷ rule cap_item ∷ rule cap_tail ∷ []) ∷ [] ∷ []

-- the rules that count in the depth sum while they are open
abbrev pub counts : Rule → Bool
counts typ = true
counts block = true
counts expr = true
counts unary = true
counts _ = false

-- ---- first tokens

abbrev pub begins_prim : TokenKind → Bool
begins_prim k = elim k [ Number n ↦ true | Text b ↦ true | True ↦ true | False ↦ true | Null ↦ true | ParenOpen ↦ true | Id x ↦ true | New ↦ true | Label ↦ true | Caps ↦ true | Spawn ↦ true | _ ↦ false ]

abbrev pub begins_expr : TokenKind → Bool
begins_expr k = elim k [ Not ↦ true | Minus ↦ true | x ↦ begins_prim x ]

abbrev pub begins_stmt : TokenKind → Bool
begins_stmt k = elim k [ Let ↦ true | If ↦ true | While ↦ true | Return ↦ true | Throw ↦ true | Sync ↦ true | Region ↦ true | x ↦ begins_expr x ]

abbrev pub begins_type : TokenKind → Bool
begins_type k = elim k [ Id x ↦ true | BracketOpen ↦ true | x ↦ is_type_word x ]

abbrev pub begins_item : TokenKind → Bool
begins_item k = elim k [ ClassWord ↦ true | Fn ↦ true | _ ↦ false ]

abbrev pub is_comma : TokenKind → Bool
is_comma k = elim k [ Comma ↦ true | _ ↦ false ]

abbrev pub is_paren : TokenKind → Bool
is_paren k = elim k [ ParenOpen ↦ true | _ ↦ false ]

-- what a text of the rule can begin with, where it is not empty
abbrev pub begins : Rule → TokenKind → Bool
begins items k = begins_item k
begins item k = begins_item k
begins fields k = is_id k
begins variable k = is_id k
begins params k = is_id k
begins params_tail k = is_comma k
begins result_part k = elim k [ Colon ↦ true | _ ↦ false ]
begins typ k = begins_type k
begins block k = elim k [ BraceOpen ↦ true | _ ↦ false ]
begins stmts k = begins_stmt k
begins stmt k = begins_stmt k
begins else_part k = elim k [ Else ↦ true | _ ↦ false ]
begins value_part k = begins_expr k
begins assign_part k = elim k [ Assign ↦ true | _ ↦ false ]
begins parens k = is_paren k
begins region_head k = is_paren k
begins captures k = elim k [ BracketOpen ↦ true | _ ↦ false ]
begins names k = is_id k
begins names_tail k = is_comma k
begins handler k = elim k [ Catch ↦ true | _ ↦ false ]
begins (chain_tail l) k = operates l k
begins comparison_tail k = compares k
begins post k = begins_prim k
begins post_tail k = elim k [ Dot ↦ true | BracketOpen ↦ true | _ ↦ false ]
begins prim k = begins_prim k
begins call_part k = is_paren k
begins arguments k = is_paren k
begins args_tail k = is_comma k
begins new_part k = elim k [ Id x ↦ true | BracketOpen ↦ true | _ ↦ false ]
begins cap_items k = is_id k
begins cap_item k = is_id k
begins cap_tail k = is_comma k
-- expressions, their levels, and arguments
begins _ k = begins_expr k
