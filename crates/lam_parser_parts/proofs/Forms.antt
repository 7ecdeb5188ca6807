-- Which body of `prim` is read, by the form that the next token begins.
use Rattle.std.proofs.Common.{◌≡◌, ℕ, Bool, true, false, Option, Some, None, List, [], ◌∷◌, ◌<◌, ◌≤◌, length, slice_get, Result, Ok, Err, IfOk, refl, ap, ◌∙◌, sym}
use Rattle.lam_grammar_laws.specs.Grammar.{rule, production}
use Rattle.lam_grammar_laws.proofs.Bodies.{chosen, picks_mark, picks_past_mark}
use Rattle.lam_lexer.specs.declared.token.Token.{Token}
use Rattle.lam_lexer.specs.declared.token.TokenKind.{TokenKind}
use Rattle.lam_lexer.specs.declared.token.TokenKind.TheVariants as kind
use Rattle.lam_grammar.specs.Table.{Sym, prim, parens, typ, call_part, new_part, args, cap_items, cap_item, arguments, ID, literal, new_word, label_word, caps_word, spawn_word, brace_open, brace_close, paren_open, paren_close, bracket_open, bracket_close, semicolon}
use Rattle.lam_grammar.specs.Meaning.{Value}
use Rattle.lam_grammar.specs.Program.{lam}
use Rattle.lam_grammar.specs.Examples.{examples}
use Rattle.lam_parser_tokens.specs.declared.marks.Mark.TheVariants as m
use Rattle.lam_parser_tokens.specs.Classes.{class_of, fits_at, begins_at}
use Rattle.lam_parser_parts.specs.declared.primary.Form.{Form}
use Rattle.lam_parser_parts.specs.declared.primary.Form.TheVariants as form
use Rattle.lam_parser_parts.specs.Forms.{form_of}
use Rattle.lam_parser_parts.proofs.Steps.{front_at, next_fails}
use Rattle.lam_parser_tokens.specs.declared.breaks.Break.{Break}
use Rattle.lam_parser_tokens.specs.declared.tokens.Read.{Read}
use Rattle.lam_parser_tokens.specs.Reading.{Fails, ReadsExpr}
use Rattle.lam_parser_tokens.proofs.Rules.{Part, ◌▹◌, begun, rule_taken, rule_read}

abbrev pub form_body : Form → List Sym
form_body form.Literal = literal ∷ []
form_body form.Parens = rule parens ∷ []
form_body form.Name = ID ∷ rule call_part ∷ []
form_body form.New = new_word ∷ rule new_part ∷ []
form_body form.Label = label_word ∷ brace_open ∷ rule args ∷ semicolon ∷ rule args ∷ brace_close ∷ []
form_body form.Caps = caps_word ∷ brace_open ∷ rule cap_items ∷ brace_close ∷ []
form_body form.Spawn = spawn_word ∷ rule parens ∷ ID ∷ rule arguments ∷ []
form_body form.Other = spawn_word ∷ rule parens ∷ ID ∷ rule arguments ∷ []

kind_body : (before : Value) (at : ℕ) (k : TokenKind) → production lam prim before (Some (record { at = at; kind = k })) ≡ Some (form_body (form_of (Some (record { at = at; kind = k }))))
kind_body before at (kind.Number n) = refl
kind_body before at _ = refl

any_body : (before : Value) (o : Option Token) → production lam prim before o ≡ Some (form_body (form_of o))
any_body before None = refl
any_body before (Some w) = kind_body before w.at w.kind

-- the body of a form
pub prim_body : (o : Option Token) (f : Form) → form_of o ≡ f → (before : Value) → production lam prim before o ≡ Some (form_body f)
prim_body o f e before = any_body before o ∙ ap (λ (x : Form). Some (form_body x)) e

pub prim_begun : (tokens : List Token) (s i : ℕ) (f : Form) → form_of (slice_get tokens i) ≡ f → Part (slice_get tokens) prim s i (form_body f) (λ b. b) (λ vs. vs) i s (λ w. w ≡ examples.first prim)
prim_begun tokens s i f e = begun (slice_get tokens) prim s i refl (prim_body (slice_get tokens i) f e)

abbrev is_other : Form → Bool
is_other form.Other = true
is_other _ = false

kind_front : (at : ℕ) (k : TokenKind) → is_other (form_of (Some (record { at = at; kind = k }))) ≡ false → front_at (form_body (form_of (Some (record { at = at; kind = k })))) (Some (record { at = at; kind = k })) ≡ true
kind_front at (kind.Number n) e = refl
kind_front at (kind.Text b) e = refl
kind_front at kind.True e = refl
kind_front at kind.False e = refl
kind_front at kind.Null e = refl
kind_front at kind.ParenOpen e = refl
kind_front at (kind.Id x) e = refl
kind_front at kind.New e = refl
kind_front at kind.Label e = refl
kind_front at kind.Caps e = refl
kind_front at kind.Spawn e = refl
kind_front at _ e = cc

any_front : (o : Option Token) → is_other (form_of o) ≡ false → front_at (form_body (form_of o)) o ≡ true
any_front None e = cc
any_front (Some w) e = kind_front w.at w.kind e

-- its first token is the next
prim_front : (o : Option Token) (f : Form) → form_of o ≡ f → is_other f ≡ false → front_at (form_body f) o ≡ true
prim_front o f e n = ap (λ (x : Form). front_at (form_body x) o) (sym e) ∙ any_front o (ap is_other e ∙ n)

-- What stops at the symbols of the form stops the expression.
pub prim_unread : (tokens : List Token) (s i : ℕ) (f : Form) → form_of (slice_get tokens i) ≡ f → is_other f ≡ false → (b : Break) → Fails (slice_get tokens) (form_body f) s i b → Fails (slice_get tokens) (rule prim ∷ []) s i b
prim_unread tokens s i f e n b h = next_fails (prim_begun tokens s i f e) (prim_front (slice_get tokens i) f e n) b h

kind_other : (at : ℕ) (k : TokenKind) → is_other (form_of (Some (record { at = at; kind = k }))) ≡ true → fits_at m.Spawn (Some (record { at = at; kind = k })) ≡ false
kind_other at kind.Spawn e = cc
kind_other at (kind.Number n) e = refl
kind_other at _ e = refl

pub other_fits : (o : Option Token) → form_of o ≡ form.Other → fits_at m.Spawn o ≡ false
other_fits None e = refl
other_fits (Some w) e = kind_other w.at w.kind (ap is_other e)

-- ---- the other rules

-- behind `new`, a class
pub class_body : (o : Option Token) → fits_at m.Name o ≡ true → (before : Value) → production lam new_part before o ≡ Some (ID ∷ paren_open ∷ paren_close ∷ [])
class_body o h before = chosen lam new_part before o refl (picks_mark lam (class_of m.Name) (paren_open ∷ paren_close ∷ []) ((bracket_open ∷ rule typ ∷ bracket_close ∷ rule parens ∷ []) ∷ []) o h)

-- an array, where no class is named
pub array_body : (o : Option Token) → fits_at m.Name o ≡ false → (before : Value) → production lam new_part before o ≡ Some (bracket_open ∷ rule typ ∷ bracket_close ∷ rule parens ∷ [])
array_body o h before = chosen lam new_part before o refl (picks_past_mark lam (class_of m.Name) (paren_open ∷ paren_close ∷ []) (bracket_open ∷ rule typ ∷ bracket_close ∷ rule parens ∷ []) [] o h)

-- which its bracket begins
pub array_front : (o : Option Token) → fits_at m.BracketOpen o ≡ true → front_at (bracket_open ∷ rule typ ∷ bracket_close ∷ rule parens ∷ []) o ≡ true
array_front None h = h
array_front (Some w) h = h

-- a tag with its sign begins with a name
pub cap_begins : (o : Option Token) (b : Bool) → fits_at m.Name o ≡ b → begins_at cap_item o ≡ b
cap_begins None b h = h
cap_begins (Some w) b h = h

-- arguments begin with a parenthesis
pub arguments_begin : (o : Option Token) (b : Bool) → fits_at m.ParenOpen o ≡ b → begins_at arguments o ≡ b
arguments_begin None b h = h
arguments_begin (Some w) b h = h

-- what is read in parentheses is a primary expression
pub prim_of_parens : (tokens : List Token) (s i : ℕ) (r : Result Read Break) → form_of (slice_get tokens i) ≡ form.Parens → IfOk r (λ x. (i < x.next) × (x.next ≤ length tokens)) → ReadsExpr tokens parens s i r → ReadsExpr tokens prim s i r
prim_of_parens tokens s i (Ok x) f on h = prim_begun tokens s i form.Parens f ▹ rule_taken h on.0 ▹ rule_read
prim_of_parens tokens s i (Err b) f on h = prim_unread tokens s i form.Parens f refl b h
