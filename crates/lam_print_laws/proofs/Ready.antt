-- A program that tokens spell has assignments to places alone.
use Rattle.std.proofs.Common.{◌≡◌, ℕ, ◌⊎◌, inl, inr, true, false, cond, Bool, Option, Some, None, List, [], ◌∷◌, refl, subst}
use Rattle.lam_grammar_laws.specs.Grammar.{mark, rule, pick, starts, is_empty, production, Reads, nothing, token, part}
use Rattle.lam_grammar_laws.proofs.Laws.{free_production}
use Rattle.lam_lexer.specs.declared.token.Token.{Token}
use Rattle.lam_lexer.specs.declared.token.TokenKind.{TokenKind}
use Rattle.lam_lexer.specs.declared.token.TokenKind.TheVariants as Kind
use Rattle.lam_syntax.specs.Tree.{ExprTree, StmtList, while_stmt, sync_stmt, return_stmt, throw_stmt, ProgramTree}
use Rattle.lam_grammar.specs.Table.{Class, Rule, Sym, items, item, fields, variable, params, params_tail, result_part, typ, block, stmts, stmt, else_part, value_part, assign_part, parens, region_head, captures, names, names_tail, handler, expr, comparison, comparison_tail, unary, post, post_tail, prim, chain, chain_tail, call_part, arguments, args, args_tail, new_part, cap_items, cap_item, cap_tail, bodies, semicolon}
use Rattle.lam_grammar.specs.Meaning.{Value, word, ids_value, type_value, variable_value, variables_value, expr_value, two_exprs, exprs_value, form_value, operations_value, postfixes_value, cap_value, caps_value, stmt_value, stmts_value, else_value, handler_value, item_value, items_value, is_place, permits, act, first, second, act_items, act_item, act_variable, act_variables, act_type, act_stmts, act_stmt, act_else, act_parens, act_region_head, act_names, act_handler, act_operations, act_chain, act_unary, act_post, act_post_tail, act_prim, act_args, act_new, act_cap_item, act_caps}
use Rattle.lam_grammar.specs.Meaning as mean
use Rattle.lam_grammar.specs.Program.{lam, SpellsProgram}
use Rattle.lam_print_laws.proofs.Statements.{ReadyForm, Ready, ReadyAll, ReadyElse}
use Rattle.lam_print_laws.proofs.Items.{ReadyItem, ReadyProgram}

-- what a rule means is ready
abbrev ReadyValue : Value → Type 0
ReadyValue (stmt_value s) = Ready s
ReadyValue (stmts_value ss) = ReadyAll ss
ReadyValue (else_value o) = ReadyElse o
ReadyValue (handler_value x ss) = ReadyAll ss
ReadyValue (item_value x) = ReadyItem x
ReadyValue (items_value p) = ReadyProgram p
ReadyValue _ = Unit {0}

abbrev ReadyValues : List Value → Type 0
ReadyValues [] = Unit {0}
ReadyValues (v ∷ vs) = ReadyValue v × ReadyValues vs

-- ---- what has no statement

first_ready : (us : List Value) → ReadyValues us → ReadyValue (first us)
first_ready [] h = tt
first_ready (v ∷ vs) h = h.0

second_ready : (us : List Value) → ReadyValues us → ReadyValue (second us)
second_ready [] h = tt
second_ready (v ∷ vs) h = first_ready vs h.1

variable_ready : (us : List Value) → ReadyValue (act_variable us)
variable_ready (word x ∷ word c ∷ type_value t ∷ []) = tt
variable_ready _ = tt

variables_ready : (us : List Value) → ReadyValue (act_variables us)
variables_ready (variable_value x ∷ word c ∷ variables_value xs ∷ []) = tt
variables_ready (variable_value x ∷ variables_value xs ∷ []) = tt
variables_ready (word c ∷ variable_value x ∷ variables_value xs ∷ []) = tt
variables_ready _ = tt

type_ready : (us : List Value) → ReadyValue (act_type us)
type_ready (word w ∷ []) = tt
type_ready (word w ∷ type_value t ∷ word c ∷ []) = tt
type_ready _ = tt

parens_ready : (us : List Value) → ReadyValue (act_parens us)
parens_ready (word w ∷ expr_value b e ∷ word c ∷ []) = tt
parens_ready _ = tt

region_head_ready : (us : List Value) → ReadyValue (act_region_head us)
region_head_ready (word w ∷ expr_value b l ∷ word q ∷ expr_value d k ∷ word c ∷ []) = tt
region_head_ready _ = tt

names_ready : (us : List Value) → ReadyValue (act_names us)
names_ready (word x ∷ ids_value xs ∷ []) = tt
names_ready (word c ∷ word x ∷ ids_value xs ∷ []) = tt
names_ready _ = tt

operations_ready : (us : List Value) → ReadyValue (act_operations us)
operations_ready (word w ∷ expr_value b e ∷ operations_value more ∷ []) = tt
operations_ready (word w ∷ expr_value b e ∷ []) = tt
operations_ready _ = tt

chain_ready : (us : List Value) → ReadyValue (act_chain us)
chain_ready (expr_value b e ∷ operations_value more ∷ []) = tt
chain_ready _ = tt

unary_ready : (us : List Value) → ReadyValues us → ReadyValue (act_unary us)
unary_ready (word w ∷ expr_value b e ∷ []) h = tt
unary_ready us h = first_ready us h

post_ready : (us : List Value) → ReadyValue (act_post us)
post_ready (expr_value b e ∷ postfixes_value more ∷ []) = tt
post_ready _ = tt

post_tail_ready : (us : List Value) → ReadyValue (act_post_tail us)
post_tail_ready (word w ∷ word x ∷ postfixes_value more ∷ []) = tt
post_tail_ready (word w ∷ expr_value b e ∷ word c ∷ postfixes_value more ∷ []) = tt
post_tail_ready _ = tt

prim_ready : (us : List Value) → ReadyValue (act_prim us)
prim_ready (word w ∷ []) = tt
prim_ready (expr_value b e ∷ []) = tt
prim_ready (word w ∷ mean.nothing ∷ []) = tt
prim_ready (word w ∷ exprs_value es ∷ []) = tt
prim_ready (word w ∷ form_value f ∷ []) = tt
prim_ready (word w ∷ word o ∷ exprs_value s ∷ word q ∷ exprs_value i ∷ word c ∷ []) = tt
prim_ready (word w ∷ word o ∷ caps_value xs ∷ word c ∷ []) = tt
prim_ready (word w ∷ expr_value b e ∷ word f ∷ exprs_value es ∷ []) = tt
prim_ready _ = tt

args_ready : (us : List Value) → ReadyValue (act_args us)
args_ready (expr_value b e ∷ exprs_value more ∷ []) = tt
args_ready (word c ∷ expr_value b e ∷ exprs_value more ∷ []) = tt
args_ready _ = tt

new_ready : (us : List Value) → ReadyValue (act_new us)
new_ready (word x ∷ word o ∷ word c ∷ []) = tt
new_ready (word o ∷ type_value t ∷ word c ∷ expr_value b e ∷ []) = tt
new_ready _ = tt

cap_item_ready : (us : List Value) → ReadyValue (act_cap_item us)
cap_item_ready (word x ∷ word s ∷ []) = tt
cap_item_ready _ = tt

caps_ready : (us : List Value) → ReadyValue (act_caps us)
caps_ready (cap_value x ∷ caps_value xs ∷ []) = tt
caps_ready (word c ∷ cap_value x ∷ caps_value xs ∷ []) = tt
caps_ready _ = tt

-- ---- statements and items

-- an assignment is to a place
abbrev Placed : List Value → Type 0
Placed (expr_value b e ∷ expr_value d v ∷ word c ∷ []) = is_place e ≡ true
Placed _ = Unit {0}

loop_ready : (k : TokenKind) (e : ExprTree) (body : StmtList) → ReadyAll body → ReadyForm (elim k [ Kind.Sync ↦ sync_stmt e body | _ ↦ while_stmt e body ])
loop_ready Kind.Sync e body h = h
loop_ready _ e body h = h

leave_ready : (k : TokenKind) (e : ExprTree) → ReadyForm (elim k [ Kind.Throw ↦ throw_stmt e | _ ↦ return_stmt (Some e) ])
leave_ready Kind.Throw e = tt
leave_ready _ e = tt

stmt_ready : (us : List Value) → ReadyValues us → Placed us → ReadyValue (act_stmt us)
stmt_ready (word w ∷ variable_value x ∷ word q ∷ expr_value b e ∷ word c ∷ []) h p = tt
stmt_ready (word w ∷ expr_value b e ∷ stmts_value body ∷ else_value other ∷ []) h p = (h.1.1.0, h.1.1.1.0)
stmt_ready (word w ∷ expr_value b e ∷ stmts_value body ∷ []) h p = loop_ready w.kind e body h.1.1.0
stmt_ready (word w ∷ expr_value b e ∷ word c ∷ []) h p = leave_ready w.kind e
stmt_ready (word w ∷ mean.nothing ∷ word c ∷ []) h p = tt
stmt_ready (word w ∷ two_exprs l k ∷ ids_value xs ∷ stmts_value body ∷ handler_value x caught ∷ []) h p = (h.1.1.1.0, h.1.1.1.1.0)
stmt_ready (expr_value b e ∷ mean.nothing ∷ word c ∷ []) h p = tt
stmt_ready (expr_value b e ∷ expr_value d v ∷ word c ∷ []) h p = p
stmt_ready _ h p = tt

stmts_ready : (us : List Value) → ReadyValues us → ReadyValue (act_stmts us)
stmts_ready (stmt_value s ∷ stmts_value more ∷ []) h = (h.0, h.1.0)
stmts_ready _ h = tt

else_ready : (us : List Value) → ReadyValues us → ReadyValue (act_else us)
else_ready (word w ∷ stmts_value body ∷ []) h = h.1.0
else_ready _ h = tt

handler_ready : (us : List Value) → ReadyValues us → ReadyValue (act_handler us)
handler_ready (word w ∷ word o ∷ word x ∷ word c ∷ stmts_value body ∷ []) h = h.1.1.1.1.0
handler_ready _ h = tt

item_ready : (us : List Value) → ReadyValues us → ReadyValue (act_item us)
item_ready (word w ∷ word x ∷ word o ∷ variables_value vs ∷ word c ∷ []) h = tt
item_ready (word w ∷ word x ∷ word o ∷ variables_value vs ∷ word c ∷ t ∷ stmts_value body ∷ []) h = h.1.1.1.1.1.1.0
item_ready _ h = tt

items_ready : (us : List Value) → ReadyValues us → ReadyValue (act_items us)
items_ready (item_value x ∷ items_value xs ∷ []) h = (h.0, h.1.0)
items_ready _ h = tt

-- what a rule asks of the values of its body
abbrev Asks : Rule → List Value → Type 0
Asks stmt us = Placed us
Asks _ us = Unit {0}

act_ready : (r : Rule) (us : List Value) → ReadyValues us → Asks r us → ReadyValue (act r us)
act_ready items us h p = items_ready us h
act_ready item us h p = item_ready us h
act_ready fields us h p = variables_ready us
act_ready variable us h p = variable_ready us
act_ready params us h p = variables_ready us
act_ready params_tail us h p = variables_ready us
act_ready result_part us h p = second_ready us h
act_ready typ us h p = type_ready us
act_ready block us h p = second_ready us h
act_ready stmts us h p = stmts_ready us h
act_ready stmt us h p = stmt_ready us h p
act_ready else_part us h p = else_ready us h
act_ready value_part us h p = first_ready us h
act_ready assign_part us h p = second_ready us h
act_ready parens us h p = parens_ready us
act_ready region_head us h p = region_head_ready us
act_ready captures us h p = second_ready us h
act_ready names us h p = names_ready us
act_ready names_tail us h p = names_ready us
act_ready handler us h p = handler_ready us h
act_ready expr us h p = first_ready us h
act_ready (chain l) us h p = chain_ready us
act_ready (chain_tail l) us h p = operations_ready us
act_ready comparison us h p = chain_ready us
act_ready comparison_tail us h p = operations_ready us
act_ready unary us h p = unary_ready us h
act_ready post us h p = post_ready us
act_ready post_tail us h p = post_tail_ready us
act_ready prim us h p = prim_ready us
act_ready call_part us h p = first_ready us h
act_ready arguments us h p = second_ready us h
act_ready args us h p = args_ready us
act_ready args_tail us h p = args_ready us
act_ready new_part us h p = new_ready us
act_ready cap_items us h p = caps_ready us
act_ready cap_item us h p = cap_item_ready us
act_ready cap_tail us h p = caps_ready us

-- ---- what was read

placed_by : (u v : Value) (c : Token) (more : List Value) → (permits assign_part u ≡ true) ⊎ (v ≡ mean.nothing) → Placed (u ∷ v ∷ word c ∷ more)
placed_by (expr_value b e) (expr_value d v) c [] (inl h) = h
placed_by (expr_value b e) (expr_value d v) c [] (inr h) = cc
placed_by _ _ c _ h = tt

nothing_read : {cap : ℕ → ℕ} {look : ℕ → Option Token} {body : List Sym} {b : Value} {s i k u : ℕ} {us : List Value} → body ≡ [] → Reads lam cap look body b s i us k u → second us ≡ mean.nothing
nothing_read e nothing = refl
nothing_read e (token l f d h) = cc
nothing_read e (part p h g) = cc

no_body : (q body : List Sym) → cond (is_empty q) (Some []) None ≡ Some body → body ≡ []
no_body [] body e = cc
no_body (x ∷ q) body e = cc

-- More than nothing stands only behind what the rule permits.
permitted : {cap : ℕ → ℕ} {look : ℕ → Option Token} {body : List Sym} {b : Value} {s i k u : ℕ} {us : List Value} (before : Value) (o : Option Token) → production lam assign_part before o ≡ Some body → Reads lam cap look body b s i us k u → (permits assign_part before ≡ true) ⊎ (second us ≡ mean.nothing)
permitted {body = body} {us = us} before o p h = go (permits assign_part before) (pick lam (bodies assign_part) o) refl p
  where
    go : (t : Bool) (q : List Sym) → permits assign_part before ≡ t → cond t (Some q) (cond (is_empty q) (Some []) None) ≡ Some body → (permits assign_part before ≡ true) ⊎ (second us ≡ mean.nothing)
    go true q e x = inl e
    go false q e x = inr (nothing_read (no_body q body x) h)

-- a body of a statement that begins with a word
word_first : {cap : ℕ → ℕ} {look : ℕ → Option Token} {c : Class} {rest : List Sym} {b : Value} {s i k u : ℕ} {us : List Value} → Reads lam cap look (mark c ∷ rest) b s i us k u → Placed us
word_first (token l f d h) = tt

mark_third : {cap : ℕ → ℕ} {look : ℕ → Option Token} {c : Class} {rest : List Sym} {b : Value} {s i k t : ℕ} {us : List Value} (u v : Value) → (permits assign_part u ≡ true) ⊎ (v ≡ mean.nothing) → Reads lam cap look (mark c ∷ rest) b s i us k t → Placed (u ∷ v ∷ us)
mark_third u v h (token {w = w} {vs = vs} l f d g) = placed_by u v w vs h

assign_second : {cap : ℕ → ℕ} {look : ℕ → Option Token} {u : Value} {s i k t : ℕ} {us : List Value} → Reads lam cap look (rule assign_part ∷ semicolon ∷ []) u s i us k t → Placed (u ∷ us)
assign_second {u = u} (part {us = vs} q g h) = mark_third u (act assign_part vs) (permitted u _ q g) h

expr_first : {cap : ℕ → ℕ} {look : ℕ → Option Token} {b : Value} {s i k u : ℕ} {us : List Value} → Reads lam cap look (rule expr ∷ rule assign_part ∷ semicolon ∷ []) b s i us k u → Placed us
expr_first (part p h g) = assign_second g

-- whatever was read of a body is placed
abbrev Places : List Sym → Type 0
Places body = (cap : ℕ → ℕ) (look : ℕ → Option Token) (b : Value) (s i k u : ℕ) (us : List Value) → Reads lam cap look body b s i us k u → Placed us

one_of : (t : Bool) (body other : List Sym) → Places body → Places other → Places (cond t body other)
one_of true body other x y = x
one_of false body other x y = y

-- each of the bodies, of which there is one at least
abbrev EachPlaces : List (List Sym) → Type 0
EachPlaces [] = ⊥
EachPlaces (body ∷ []) = Places body
EachPlaces (body ∷ other ∷ more) = Places body × EachPlaces (other ∷ more)

pick_places : (o : Option Token) (bs : List (List Sym)) → EachPlaces bs → Places (pick lam bs o)
pick_places o [] h = absurd h
pick_places o (body ∷ []) h = h
pick_places o (body ∷ other ∷ more) h = one_of (starts lam body o) body (pick lam (other ∷ more) o) h.0 (pick_places o (other ∷ more) h.1)

by_word : (c : Class) (rest : List Sym) → Places (mark c ∷ rest)
by_word c rest cap look b s i k u us h = word_first h

stmt_places : EachPlaces (bodies stmt)
stmt_places = (by_word _ _, (by_word _ _, (by_word _ _, (by_word _ _, (by_word _ _, (by_word _ _, (by_word _ _, λ cap look b s i k u us h. expr_first h)))))))

stmt_placed : {cap : ℕ → ℕ} {look : ℕ → Option Token} {body : List Sym} {b : Value} {s i k u : ℕ} {us : List Value} (before : Value) (o : Option Token) → production lam stmt before o ≡ Some body → Reads lam cap look body b s i us k u → Placed us
stmt_placed {cap} {look} {body} {b} {s} {i} {k} {u} {us} before o p h =
    let e : pick lam (bodies stmt) o ≡ body = free_production lam stmt before o body p in
    subst Places e (pick_places o (bodies stmt) stmt_places) cap look b s i k u us h

asked : {cap : ℕ → ℕ} {look : ℕ → Option Token} {body : List Sym} {b : Value} {s i k u : ℕ} {us : List Value} (r : Rule) (before : Value) (o : Option Token) → production lam r before o ≡ Some body → Reads lam cap look body b s i us k u → Asks r us
asked stmt before o p h = stmt_placed before o p h
asked _ before o p h = tt

reads_ready : {cap : ℕ → ℕ} {look : ℕ → Option Token} {p : List Sym} {before : Value} {s i j t : ℕ} {vs : List Value} → Reads lam cap look p before s i vs j t → ReadyValues vs
reads_ready nothing = tt
reads_ready (token l f d h) = (tt, reads_ready h)
reads_ready {look = look} (part {r = r} {before = before} {i = i} {us = us} p h g) = (act_ready r us (reads_ready h) (asked r before (look i) p h), reads_ready g)

pub spelt_ready : (tokens : List Token) (p : ProgramTree) → SpellsProgram tokens p → ReadyProgram p
spelt_ready tokens p h = (reads_ready h.1.reads).0
