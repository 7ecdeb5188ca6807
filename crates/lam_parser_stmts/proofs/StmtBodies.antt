-- By which body a statement is read.
use Rattle.std.proofs.Common.{◌≡◌, ℕ, ◌+◌, true, Some, List, [], ◌∷◌, slice_get, refl, ap, ◌∙◌}
use Rattle.lam_grammar_laws.specs.Grammar.{mark, rule, production}
use Rattle.lam_grammar_laws.proofs.Bodies.{chosen, picks_past_mark}
use Rattle.lam_lexer.specs.declared.token.Token.{Token}
use Rattle.lam_lexer.specs.declared.token.TokenKind.{TokenKind}
use Rattle.lam_lexer.specs.declared.token.TokenKind.TheVariants as kind
use Rattle.lam_grammar.specs.Table.{Sym, stmt, variable, expr, parens, block, else_part, value_part, region_head, captures, handler, assign_part, let_word, if_word, while_word, return_word, throw_word, sync_word, region_word, equals, semicolon}
use Rattle.lam_syntax.specs.Tree.{ExprTree, StmtList, stmt_node, throw_stmt, return_stmt, while_stmt, sync_stmt}
use Rattle.lam_grammar.specs.Meaning.{Value, word, expr_value, stmt_value, stmts_value, act}
use Rattle.lam_grammar.specs.Program.{lam}
use Rattle.lam_parser_tokens.specs.declared.marks.Mark.{Mark}
use Rattle.lam_parser_tokens.specs.declared.marks.Mark.TheVariants as m
use Rattle.lam_parser_tokens.specs.Classes.{class_of}
use Rattle.lam_parser_tokens.specs.Reading.{Taken}
use Rattle.lam_parser_tokens.proofs.Rules.{Part, ◌▹◌, begun, mark_taken}
use Rattle.lam_parser_stmts.specs.Parts.{NoWord}

-- a statement that its word begins
pub stmt_begun : {tokens : List Token} {s i : ℕ} {k : Mark} {w : Token} {rest : List Sym} → Taken tokens s i k w → (class_of k).adds ≡ 0 → ((before : Value) → production lam stmt before (slice_get tokens i) ≡ Some (mark (class_of k) ∷ rest)) → Part (slice_get tokens) stmt s i rest (λ before. word w) (λ vs. word w ∷ vs) (i + 1) s (λ v. Unit {0})
stmt_begun {tokens} {s} {i} t z p = begun (slice_get tokens) stmt s i refl p ▹ mark_taken t z

let_kind : (before : Value) (at : ℕ) (k : TokenKind) → (class_of m.Let).fits k ≡ true → production lam stmt before (Some (record { at = at; kind = k })) ≡ Some (let_word ∷ rule variable ∷ equals ∷ rule expr ∷ semicolon ∷ [])
let_kind before at kind.Let h = refl
let_kind before at _ h = cc

pub let_body : {tokens : List Token} {s k : ℕ} {w : Token} → Taken tokens s k m.Let w → (before : Value) → production lam stmt before (slice_get tokens k) ≡ Some (let_word ∷ rule variable ∷ equals ∷ rule expr ∷ semicolon ∷ [])
let_body {w = w} t before = ap (production lam stmt before) t.is ∙ let_kind before w.at w.kind t.fit

if_kind : (before : Value) (at : ℕ) (k : TokenKind) → (class_of m.If).fits k ≡ true → production lam stmt before (Some (record { at = at; kind = k })) ≡ Some (if_word ∷ rule parens ∷ rule block ∷ rule else_part ∷ [])
if_kind before at kind.If h = refl
if_kind before at _ h = cc

pub if_body : {tokens : List Token} {s k : ℕ} {w : Token} → Taken tokens s k m.If w → (before : Value) → production lam stmt before (slice_get tokens k) ≡ Some (if_word ∷ rule parens ∷ rule block ∷ rule else_part ∷ [])
if_body {w = w} t before = ap (production lam stmt before) t.is ∙ if_kind before w.at w.kind t.fit

while_kind : (before : Value) (at : ℕ) (k : TokenKind) → (class_of m.While).fits k ≡ true → production lam stmt before (Some (record { at = at; kind = k })) ≡ Some (while_word ∷ rule parens ∷ rule block ∷ [])
while_kind before at kind.While h = refl
while_kind before at _ h = cc

pub while_body : {tokens : List Token} {s k : ℕ} {w : Token} → Taken tokens s k m.While w → (before : Value) → production lam stmt before (slice_get tokens k) ≡ Some (while_word ∷ rule parens ∷ rule block ∷ [])
while_body {w = w} t before = ap (production lam stmt before) t.is ∙ while_kind before w.at w.kind t.fit

return_kind : (before : Value) (at : ℕ) (k : TokenKind) → (class_of m.Return).fits k ≡ true → production lam stmt before (Some (record { at = at; kind = k })) ≡ Some (return_word ∷ rule value_part ∷ semicolon ∷ [])
return_kind before at kind.Return h = refl
return_kind before at _ h = cc

pub return_body : {tokens : List Token} {s k : ℕ} {w : Token} → Taken tokens s k m.Return w → (before : Value) → production lam stmt before (slice_get tokens k) ≡ Some (return_word ∷ rule value_part ∷ semicolon ∷ [])
return_body {w = w} t before = ap (production lam stmt before) t.is ∙ return_kind before w.at w.kind t.fit

throw_kind : (before : Value) (at : ℕ) (k : TokenKind) → (class_of m.Throw).fits k ≡ true → production lam stmt before (Some (record { at = at; kind = k })) ≡ Some (throw_word ∷ rule expr ∷ semicolon ∷ [])
throw_kind before at kind.Throw h = refl
throw_kind before at _ h = cc

pub throw_body : {tokens : List Token} {s k : ℕ} {w : Token} → Taken tokens s k m.Throw w → (before : Value) → production lam stmt before (slice_get tokens k) ≡ Some (throw_word ∷ rule expr ∷ semicolon ∷ [])
throw_body {w = w} t before = ap (production lam stmt before) t.is ∙ throw_kind before w.at w.kind t.fit

sync_kind : (before : Value) (at : ℕ) (k : TokenKind) → (class_of m.Sync).fits k ≡ true → production lam stmt before (Some (record { at = at; kind = k })) ≡ Some (sync_word ∷ rule parens ∷ rule block ∷ [])
sync_kind before at kind.Sync h = refl
sync_kind before at _ h = cc

pub sync_body : {tokens : List Token} {s k : ℕ} {w : Token} → Taken tokens s k m.Sync w → (before : Value) → production lam stmt before (slice_get tokens k) ≡ Some (sync_word ∷ rule parens ∷ rule block ∷ [])
sync_body {w = w} t before = ap (production lam stmt before) t.is ∙ sync_kind before w.at w.kind t.fit

region_kind : (before : Value) (at : ℕ) (k : TokenKind) → (class_of m.Region).fits k ≡ true → production lam stmt before (Some (record { at = at; kind = k })) ≡ Some (region_word ∷ rule region_head ∷ rule captures ∷ rule block ∷ rule handler ∷ [])
region_kind before at kind.Region h = refl
region_kind before at _ h = cc

pub region_body : {tokens : List Token} {s k : ℕ} {w : Token} → Taken tokens s k m.Region w → (before : Value) → production lam stmt before (slice_get tokens k) ≡ Some (region_word ∷ rule region_head ∷ rule captures ∷ rule block ∷ rule handler ∷ [])
region_body {w = w} t before = ap (production lam stmt before) t.is ∙ region_kind before w.at w.kind t.fit

abbrev if_form : List Sym
if_form = if_word ∷ rule parens ∷ rule block ∷ rule else_part ∷ []

abbrev while_form : List Sym
while_form = while_word ∷ rule parens ∷ rule block ∷ []

abbrev return_form : List Sym
return_form = return_word ∷ rule value_part ∷ semicolon ∷ []

abbrev throw_form : List Sym
throw_form = throw_word ∷ rule expr ∷ semicolon ∷ []

abbrev sync_form : List Sym
sync_form = sync_word ∷ rule parens ∷ rule block ∷ []

abbrev region_form : List Sym
region_form = region_word ∷ rule region_head ∷ rule captures ∷ rule block ∷ rule handler ∷ []

abbrev plain_form : List Sym
plain_form = rule expr ∷ rule assign_part ∷ semicolon ∷ []

-- where no word tells another form
pub expression_body : {tokens : List Token} {k : ℕ} → NoWord tokens k → (before : Value) → production lam stmt before (slice_get tokens k) ≡ Some (rule expr ∷ rule assign_part ∷ semicolon ∷ [])
expression_body {tokens} {k} a before =
    let o = slice_get tokens k in
    chosen lam stmt before o refl (
    picks_past_mark lam (class_of m.Let) (rule variable ∷ equals ∷ rule expr ∷ semicolon ∷ []) if_form (while_form ∷ return_form ∷ throw_form ∷ sync_form ∷ region_form ∷ plain_form ∷ []) o a.no_let.no ∙
    picks_past_mark lam (class_of m.If) (rule parens ∷ rule block ∷ rule else_part ∷ []) while_form (return_form ∷ throw_form ∷ sync_form ∷ region_form ∷ plain_form ∷ []) o a.no_if.no ∙
    picks_past_mark lam (class_of m.While) (rule parens ∷ rule block ∷ []) return_form (throw_form ∷ sync_form ∷ region_form ∷ plain_form ∷ []) o a.no_while.no ∙
    picks_past_mark lam (class_of m.Return) (rule value_part ∷ semicolon ∷ []) throw_form (sync_form ∷ region_form ∷ plain_form ∷ []) o a.no_return.no ∙
    picks_past_mark lam (class_of m.Throw) (rule expr ∷ semicolon ∷ []) sync_form (region_form ∷ plain_form ∷ []) o a.no_throw.no ∙
    picks_past_mark lam (class_of m.Sync) (rule parens ∷ rule block ∷ []) region_form (plain_form ∷ []) o a.no_sync.no ∙
    picks_past_mark lam (class_of m.Region) (rule region_head ∷ rule captures ∷ rule block ∷ rule handler ∷ []) plain_form [] o a.no_region.no
    )

-- ---- what statements mean whose bodies are alike

pub throw_means : (w : Token) (b : ℕ) (e : ExprTree) (c : Token) → (class_of m.Throw).fits w.kind ≡ true → act stmt (word w ∷ expr_value b e ∷ word c ∷ []) ≡ stmt_value (stmt_node w.at (throw_stmt e))
throw_means w b e c h = go w.kind h
  where
    go : (k : TokenKind) → (class_of m.Throw).fits k ≡ true → act stmt (word (record { at = w.at; kind = k }) ∷ expr_value b e ∷ word c ∷ []) ≡ stmt_value (stmt_node w.at (throw_stmt e))
    go kind.Throw h = refl
    go _ h = cc

pub return_means : (w : Token) (b : ℕ) (e : ExprTree) (c : Token) → (class_of m.Return).fits w.kind ≡ true → act stmt (word w ∷ expr_value b e ∷ word c ∷ []) ≡ stmt_value (stmt_node w.at (return_stmt (Some e)))
return_means w b e c h = go w.kind h
  where
    go : (k : TokenKind) → (class_of m.Return).fits k ≡ true → act stmt (word (record { at = w.at; kind = k }) ∷ expr_value b e ∷ word c ∷ []) ≡ stmt_value (stmt_node w.at (return_stmt (Some e)))
    go kind.Return h = refl
    go _ h = cc

pub while_means : (w : Token) (b : ℕ) (e : ExprTree) (body : StmtList) → (class_of m.While).fits w.kind ≡ true → act stmt (word w ∷ expr_value b e ∷ stmts_value body ∷ []) ≡ stmt_value (stmt_node w.at (while_stmt e body))
while_means w b e body h = go w.kind h
  where
    go : (k : TokenKind) → (class_of m.While).fits k ≡ true → act stmt (word (record { at = w.at; kind = k }) ∷ expr_value b e ∷ stmts_value body ∷ []) ≡ stmt_value (stmt_node w.at (while_stmt e body))
    go kind.While h = refl
    go _ h = cc

pub sync_means : (w : Token) (b : ℕ) (e : ExprTree) (body : StmtList) → (class_of m.Sync).fits w.kind ≡ true → act stmt (word w ∷ expr_value b e ∷ stmts_value body ∷ []) ≡ stmt_value (stmt_node w.at (sync_stmt e body))
sync_means w b e body h = go w.kind h
  where
    go : (k : TokenKind) → (class_of m.Sync).fits k ≡ true → act stmt (word (record { at = w.at; kind = k }) ∷ expr_value b e ∷ stmts_value body ∷ []) ≡ stmt_value (stmt_node w.at (sync_stmt e body))
    go kind.Sync h = refl
    go _ h = cc
