-- Each body of a rule gives what fits, where its parts do.
use Rattle.std.proofs.Common.{List, [], ◌∷◌, Some}
use Rattle.lam_grammar_laws.specs.Grammar.{rule}
use Rattle.lam_syntax.specs.Tree.{TypeTree, type_node, array_type, ExprTree, StmtList, sync_stmt, while_stmt, throw_stmt, return_stmt}
use Rattle.lam_lexer.specs.declared.token.Token.{Token}
use Rattle.lam_lexer.specs.declared.token.TokenKind.{TokenKind}
use Rattle.lam_lexer.specs.declared.token.TokenKind.TheVariants as Kind
use Rattle.lam_grammar.specs.declared.Level.{Level}
use Rattle.lam_grammar.specs.declared.Level.TheVariants.{Or as or_level, Sum as sum_level}
use Rattle.lam_grammar.specs.Table.{Rule, Sym, items, item, fields, variable, params, params_tail, result_part, typ, block, stmts, stmt, else_part, value_part, assign_part, parens, region_head, captures, names, names_tail, handler, expr, comparison, comparison_tail, unary, post, post_tail, prim, chain, chain_tail, call_part, arguments, args, args_tail, new_part, cap_items, cap_item, cap_tail, ID, literal, type_word, operator, comparing, prefix, member_name, index_close, sign, brace_open, brace_close, paren_open, paren_close, bracket_open, bracket_close, comma, semicolon, colon, dot, equals, class_word, fn_word, let_word, if_word, else_word, while_word, return_word, throw_word, sync_word, region_word, catch_word, new_word, spawn_word, label_word, caps_word, operand_rule, bodies}
use Rattle.lam_grammar.specs.Meaning.{Value, word, act}
use Rattle.lam_print.specs.Fitting.{TypeFormFits, TypeFits, ExprFits, BlockFits, StmtFormFits}
use Rattle.lam_print_laws.proofs.Good.{some_names, a_type, no_result, a_result, a_variable, some_variables, an_expr, no_expr, some_expr, a_pair, some_exprs, no_call, a_call, a_form, some_operations, some_postfixes, a_cap, some_caps, a_stmt, some_stmts, an_else, a_handler, an_item, some_items, Good, Expression, OperationList, Holds, none, of_token, of_rule, id_fits, literal_fits, type_word_fits, type_name_fits, combine_fits, extend_fits}

abbrev pub Gives : Rule → List Sym → Type 0
Gives r body = (us : List Value) → Holds body us → Good r (act r us)

-- ---- items

more_items : Gives items (rule item ∷ rule items ∷ [])
more_items us (of_rule (an_item x) (of_rule (some_items xs) none)) = some_items (x, xs)

no_items : Gives items []
no_items us none = some_items tt

class_body : Gives item (class_word ∷ ID ∷ brace_open ∷ rule fields ∷ brace_close ∷ [])
class_body us (of_token _ _ (of_token {w = x} q f (of_token _ _ (of_rule (some_variables vs) (of_token _ _ none))))) = an_item (id_fits x.kind q f, vs)

function_body : Gives item (fn_word ∷ ID ∷ paren_open ∷ rule params ∷ paren_close ∷ rule result_part ∷ rule block ∷ [])
function_body us (of_token _ _ (of_token {w = x} q f (of_token _ _ (of_rule (some_variables vs) (of_token _ _ (of_rule no_result (of_rule (some_stmts b) none))))))) = an_item (id_fits x.kind q f, vs, tt, b)
function_body us (of_token _ _ (of_token {w = x} q f (of_token _ _ (of_rule (some_variables vs) (of_token _ _ (of_rule (a_result t) (of_rule (some_stmts b) none))))))) = an_item (id_fits x.kind q f, vs, t, b)

more_fields : Gives fields (rule variable ∷ semicolon ∷ rule fields ∷ [])
more_fields us (of_rule (a_variable v) (of_token _ _ (of_rule (some_variables vs) none))) = some_variables (v, vs)

no_fields : Gives fields []
no_fields us none = some_variables tt

variable_body : Gives variable (ID ∷ colon ∷ rule typ ∷ [])
variable_body us (of_token {w = x} q f (of_token _ _ (of_rule (a_type t) none))) = a_variable (id_fits x.kind q f, t)

some_params : Gives params (rule variable ∷ rule params_tail ∷ [])
some_params us (of_rule (a_variable v) (of_rule (some_variables vs) none)) = some_variables (v, vs)

no_params : Gives params []
no_params us none = some_variables tt

more_params : Gives params_tail (comma ∷ rule variable ∷ rule params_tail ∷ [])
more_params us (of_token _ _ (of_rule (a_variable v) (of_rule (some_variables vs) none))) = some_variables (v, vs)

end_of_params : Gives params_tail []
end_of_params us none = some_variables tt

result_body : Gives result_part (colon ∷ rule typ ∷ [])
result_body us (of_token _ _ (of_rule (a_type t) none)) = a_result t

result_empty : Gives result_part []
result_empty us none = no_result

-- ---- types

a_type_word : Gives typ (type_word ∷ [])
a_type_word us (of_token {w = w} q f none) = a_type (type_word_fits w.kind q)

a_class_name : Gives typ (ID ∷ [])
a_class_name us (of_token {w = w} q f none) = a_type (type_name_fits w.kind q f)

array_fits : (t : TypeTree) → TypeFits t → TypeFormFits (array_type t)
array_fits (type_node at form) f = f

an_array : Gives typ (bracket_open ∷ rule typ ∷ bracket_close ∷ [])
an_array us (of_token _ _ (of_rule (a_type {t = t} f) (of_token _ _ none))) = a_type (array_fits t f)

-- ---- statements

block_body : Gives block (brace_open ∷ rule stmts ∷ brace_close ∷ [])
block_body us (of_token _ _ (of_rule (some_stmts b) (of_token _ _ none))) = some_stmts b

more_stmts : Gives stmts (rule stmt ∷ rule stmts ∷ [])
more_stmts us (of_rule (a_stmt s) (of_rule (some_stmts b) none)) = some_stmts (s, b)

end_of_stmts : Gives stmts []
end_of_stmts us none = some_stmts tt

let_body : Gives stmt (let_word ∷ rule variable ∷ equals ∷ rule expr ∷ semicolon ∷ [])
let_body us (of_token _ _ (of_rule (a_variable v) (of_token _ _ (of_rule (an_expr e) (of_token _ _ none))))) = a_stmt (v, e)

if_body : Gives stmt (if_word ∷ rule parens ∷ rule block ∷ rule else_part ∷ [])
if_body us (of_token _ _ (of_rule (an_expr e) (of_rule (some_stmts b) (of_rule (an_else o) none)))) = a_stmt (e, b, o)

-- a loop or a monitor, by its word
guarded_fits : (k : TokenKind) (e : ExprTree) (b : StmtList) → ExprFits e → BlockFits b → StmtFormFits (elim k [ Kind.Sync ↦ sync_stmt e b | _ ↦ while_stmt e b ])
guarded_fits Kind.Sync e b f g = (f, g)
guarded_fits _ e b f g = (f, g)

-- a return or a throw, by its word
leaving_fits : (k : TokenKind) (e : ExprTree) → ExprFits e → StmtFormFits (elim k [ Kind.Throw ↦ throw_stmt e | _ ↦ return_stmt (Some e) ])
leaving_fits Kind.Throw e f = f
leaving_fits _ e f = f

while_body : Gives stmt (while_word ∷ rule parens ∷ rule block ∷ [])
while_body us (of_token {w = w} _ _ (of_rule (an_expr {e = e} f) (of_rule (some_stmts {ss = b} g) none))) = a_stmt (guarded_fits w.kind e b f g)

return_body : Gives stmt (return_word ∷ rule value_part ∷ semicolon ∷ [])
return_body us (of_token _ _ (of_rule no_expr (of_token _ _ none))) = a_stmt tt
return_body us (of_token {w = w} _ _ (of_rule (some_expr {e = e} f) (of_token _ _ none))) = a_stmt (leaving_fits w.kind e f)

throw_body : Gives stmt (throw_word ∷ rule expr ∷ semicolon ∷ [])
throw_body us (of_token {w = w} _ _ (of_rule (an_expr {e = e} f) (of_token _ _ none))) = a_stmt (leaving_fits w.kind e f)

sync_body : Gives stmt (sync_word ∷ rule parens ∷ rule block ∷ [])
sync_body us (of_token {w = w} _ _ (of_rule (an_expr {e = e} f) (of_rule (some_stmts {ss = b} g) none))) = a_stmt (guarded_fits w.kind e b f g)

region_body : Gives stmt (region_word ∷ rule region_head ∷ rule captures ∷ rule block ∷ rule handler ∷ [])
region_body us (of_token _ _ (of_rule (a_pair l c) (of_rule (some_names xs) (of_rule (some_stmts b) (of_rule (a_handler x h) none))))) = a_stmt (l, c, xs, b, x, h)

expr_body : Gives stmt (rule expr ∷ rule assign_part ∷ semicolon ∷ [])
expr_body us (of_rule (an_expr e) (of_rule no_expr (of_token _ _ none))) = a_stmt e
expr_body us (of_rule (an_expr e) (of_rule (some_expr v) (of_token _ _ none))) = a_stmt (e, v)

else_body : Gives else_part (else_word ∷ rule block ∷ [])
else_body us (of_token _ _ (of_rule (some_stmts b) none)) = an_else b

else_empty : Gives else_part []
else_empty us none = an_else tt

value_body : Gives value_part (rule expr ∷ [])
value_body us (of_rule (an_expr e) none) = some_expr e

value_empty : Gives value_part []
value_empty us none = no_expr

assign_body : Gives assign_part (equals ∷ rule expr ∷ [])
assign_body us (of_token _ _ (of_rule (an_expr e) none)) = some_expr e

assign_empty : Gives assign_part []
assign_empty us none = no_expr

parens_body : Gives parens (paren_open ∷ rule expr ∷ paren_close ∷ [])
parens_body us (of_token _ _ (of_rule (an_expr e) (of_token _ _ none))) = an_expr e

region_head_body : Gives region_head (paren_open ∷ rule expr ∷ comma ∷ rule expr ∷ paren_close ∷ [])
region_head_body us (of_token _ _ (of_rule (an_expr l) (of_token _ _ (of_rule (an_expr c) (of_token _ _ none))))) = a_pair l c

captures_body : Gives captures (bracket_open ∷ rule names ∷ bracket_close ∷ [])
captures_body us (of_token _ _ (of_rule (some_names xs) (of_token _ _ none))) = some_names xs

names_body : Gives names (ID ∷ rule names_tail ∷ [])
names_body us (of_token {w = x} q f (of_rule (some_names xs) none)) = some_names (id_fits x.kind q f, xs)

names_empty : Gives names []
names_empty us none = some_names tt

names_tail_body : Gives names_tail (comma ∷ ID ∷ rule names_tail ∷ [])
names_tail_body us (of_token _ _ (of_token {w = x} q f (of_rule (some_names xs) none))) = some_names (id_fits x.kind q f, xs)

names_tail_empty : Gives names_tail []
names_tail_empty us none = some_names tt

handler_body : Gives handler (catch_word ∷ paren_open ∷ ID ∷ paren_close ∷ rule block ∷ [])
handler_body us (of_token _ _ (of_token _ _ (of_token {w = x} q f (of_token _ _ (of_rule (some_stmts b) none))))) = a_handler (id_fits x.kind q f) b

-- ---- operators

whole_body : Gives expr (rule (chain or_level) ∷ [])
whole_body us (of_rule (an_expr e) none) = an_expr e

-- an operand of each level is an expression
operand_good : (l : Level) {v : Value} → Good (operand_rule l) v → Expression v
operand_good or_level h = h
operand_good _ h = h

chain_values : (l : Level) (v : Value) (vs : List Value) → Expression v → Holds (rule (chain_tail l) ∷ []) vs → Expression (act (chain l) (v ∷ vs))
chain_values l v vs (an_expr {b = b} {e = e} f) (of_rule (some_operations {os = os} h) none) = an_expr (combine_fits b e os f h)

chain_body : (l : Level) → Gives (chain l) (rule (operand_rule l) ∷ rule (chain_tail l) ∷ [])
chain_body l us (of_rule {v = v} {vs = vs} g h) = chain_values l v vs (operand_good l g) h

tail_values : (l : Level) (w : Token) (v : Value) (vs : List Value) → Expression v → Holds (rule (chain_tail l) ∷ []) vs → OperationList (act (chain_tail l) (word w ∷ v ∷ vs))
tail_values l w v vs (an_expr f) (of_rule (some_operations os) none) = some_operations (f, os)

chain_tail_body : (l : Level) → Gives (chain_tail l) (operator l ∷ rule (operand_rule l) ∷ rule (chain_tail l) ∷ [])
chain_tail_body l us (of_token {w = w} _ _ (of_rule {v = v} {vs = vs} g h)) = tail_values l w v vs (operand_good l g) h

chain_tail_empty : (l : Level) → Gives (chain_tail l) []
chain_tail_empty l us none = some_operations tt

comparison_body : Gives comparison (rule (chain sum_level) ∷ rule comparison_tail ∷ [])
comparison_body us (of_rule (an_expr {b = b} {e = e} f) (of_rule (some_operations {os = os} h) none)) = an_expr (combine_fits b e os f h)

comparing_body : Gives comparison_tail (comparing ∷ rule (chain sum_level) ∷ [])
comparing_body us (of_token _ _ (of_rule (an_expr f) none)) = some_operations (f, tt)

comparing_empty : Gives comparison_tail []
comparing_empty us none = some_operations tt

prefix_body : Gives unary (prefix ∷ rule unary ∷ [])
prefix_body us (of_token _ _ (of_rule (an_expr f) none)) = an_expr f

unary_plain : Gives unary (rule post ∷ [])
unary_plain us (of_rule (an_expr f) none) = an_expr f

post_body : Gives post (rule prim ∷ rule post_tail ∷ [])
post_body us (of_rule (an_expr {b = b} {e = e} f) (of_rule (some_postfixes {ps = ps} h) none)) = an_expr (extend_fits b e ps f h)

member_body : Gives post_tail (dot ∷ member_name ∷ rule post_tail ∷ [])
member_body us (of_token _ _ (of_token {w = x} q f (of_rule (some_postfixes ps) none))) = some_postfixes (id_fits x.kind q f, ps)

index_body : Gives post_tail (bracket_open ∷ rule expr ∷ index_close ∷ rule post_tail ∷ [])
index_body us (of_token _ _ (of_rule (an_expr f) (of_token _ _ (of_rule (some_postfixes ps) none)))) = some_postfixes (f, ps)

post_empty : Gives post_tail []
post_empty us none = some_postfixes tt

-- ---- operands

literal_body : Gives prim (literal ∷ [])
literal_body us (of_token {w = w} q f none) = an_expr (literal_fits w.kind f)

parens_prim : Gives prim (rule parens ∷ [])
parens_prim us (of_rule (an_expr f) none) = an_expr f

name_body : Gives prim (ID ∷ rule call_part ∷ [])
name_body us (of_token {w = x} q f (of_rule no_call none)) = an_expr (id_fits x.kind q f)
name_body us (of_token {w = x} q f (of_rule (a_call es) none)) = an_expr (id_fits x.kind q f, es)

new_body : Gives prim (new_word ∷ rule new_part ∷ [])
new_body us (of_token _ _ (of_rule (a_form f) none)) = an_expr f

label_body : Gives prim (label_word ∷ brace_open ∷ rule args ∷ semicolon ∷ rule args ∷ brace_close ∷ [])
label_body us (of_token _ _ (of_token _ _ (of_rule (some_exprs s) (of_token _ _ (of_rule (some_exprs i) (of_token _ _ none)))))) = an_expr (s, i)

caps_body : Gives prim (caps_word ∷ brace_open ∷ rule cap_items ∷ brace_close ∷ [])
caps_body us (of_token _ _ (of_token _ _ (of_rule (some_caps cs) (of_token _ _ none)))) = an_expr cs

spawn_body : Gives prim (spawn_word ∷ rule parens ∷ ID ∷ rule arguments ∷ [])
spawn_body us (of_token _ _ (of_rule (an_expr e) (of_token {w = x} q f (of_rule (some_exprs es) none)))) = an_expr (e, id_fits x.kind q f, es)

call_body : Gives call_part (rule arguments ∷ [])
call_body us (of_rule (some_exprs es) none) = a_call es

call_empty : Gives call_part []
call_empty us none = no_call

arguments_body : Gives arguments (paren_open ∷ rule args ∷ paren_close ∷ [])
arguments_body us (of_token _ _ (of_rule (some_exprs es) (of_token _ _ none))) = some_exprs es

args_body : Gives args (rule expr ∷ rule args_tail ∷ [])
args_body us (of_rule (an_expr f) (of_rule (some_exprs es) none)) = some_exprs (f, es)

args_empty : Gives args []
args_empty us none = some_exprs tt

args_tail_body : Gives args_tail (comma ∷ rule expr ∷ rule args_tail ∷ [])
args_tail_body us (of_token _ _ (of_rule (an_expr f) (of_rule (some_exprs es) none))) = some_exprs (f, es)

args_tail_empty : Gives args_tail []
args_tail_empty us none = some_exprs tt

new_class_body : Gives new_part (ID ∷ paren_open ∷ paren_close ∷ [])
new_class_body us (of_token {w = x} q f (of_token _ _ (of_token _ _ none))) = a_form (id_fits x.kind q f)

new_array_body : Gives new_part (bracket_open ∷ rule typ ∷ bracket_close ∷ rule parens ∷ [])
new_array_body us (of_token _ _ (of_rule (a_type t) (of_token _ _ (of_rule (an_expr f) none)))) = a_form (t, f)

cap_items_body : Gives cap_items (rule cap_item ∷ rule cap_tail ∷ [])
cap_items_body us (of_rule (a_cap c) (of_rule (some_caps cs) none)) = some_caps (c, cs)

cap_items_empty : Gives cap_items []
cap_items_empty us none = some_caps tt

cap_item_body : Gives cap_item (ID ∷ sign ∷ [])
cap_item_body us (of_token {w = x} q f (of_token _ _ none)) = a_cap (id_fits x.kind q f)

cap_tail_body : Gives cap_tail (comma ∷ rule cap_item ∷ rule cap_tail ∷ [])
cap_tail_body us (of_token _ _ (of_rule (a_cap c) (of_rule (some_caps cs) none))) = some_caps (c, cs)

cap_tail_empty : Gives cap_tail []
cap_tail_empty us none = some_caps tt

-- ---- all of them

-- each body of a rule, of which there is one at least
abbrev pub Each : Rule → List (List Sym) → Type 0
Each r [] = ⊥
Each r (body ∷ []) = Gives r body
Each r (body ∷ other ∷ more) = Gives r body × Each r (other ∷ more)

pub each_gives : (r : Rule) → Each r (bodies r)
each_gives items = (more_items, no_items)
each_gives item = (class_body, function_body)
each_gives fields = (more_fields, no_fields)
each_gives variable = variable_body
each_gives params = (some_params, no_params)
each_gives params_tail = (more_params, end_of_params)
each_gives result_part = (result_body, result_empty)
each_gives typ = (a_type_word, (a_class_name, an_array))
each_gives block = block_body
each_gives stmts = (more_stmts, end_of_stmts)
each_gives stmt = (let_body, (if_body, (while_body, (return_body, (throw_body, (sync_body, (region_body, expr_body)))))))
each_gives else_part = (else_body, else_empty)
each_gives value_part = (value_body, value_empty)
each_gives assign_part = (assign_body, assign_empty)
each_gives parens = parens_body
each_gives region_head = region_head_body
each_gives captures = captures_body
each_gives names = (names_body, names_empty)
each_gives names_tail = (names_tail_body, names_tail_empty)
each_gives handler = handler_body
each_gives expr = whole_body
each_gives (chain l) = chain_body l
each_gives (chain_tail l) = (chain_tail_body l, chain_tail_empty l)
each_gives comparison = comparison_body
each_gives comparison_tail = (comparing_body, comparing_empty)
each_gives unary = (prefix_body, unary_plain)
each_gives post = post_body
each_gives post_tail = (member_body, (index_body, post_empty))
each_gives prim = (literal_body, (parens_prim, (name_body, (new_body, (label_body, (caps_body, spawn_body))))))
each_gives call_part = (call_body, call_empty)
each_gives arguments = arguments_body
each_gives args = (args_body, args_empty)
each_gives args_tail = (args_tail_body, args_tail_empty)
each_gives new_part = (new_class_body, new_array_body)
each_gives cap_items = (cap_items_body, cap_items_empty)
each_gives cap_item = cap_item_body
each_gives cap_tail = (cap_tail_body, cap_tail_empty)
