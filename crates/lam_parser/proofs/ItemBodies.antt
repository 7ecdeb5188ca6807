-- By which body an item is read, and the items of a program.
use Rattle.std.proofs.Common.{◌≡◌, ℕ, ◌+◌, true, false, Option, Some, None, List, [], ◌∷◌, slice_get, refl, ap, ◌∙◌}
use Rattle.lam_grammar_laws.specs.Grammar.{rule, production, Reads, nothing, token}
use Rattle.lam_grammar_laws.specs.Texts.{limited}
use Rattle.lam_grammar_laws.specs.Stopping.{begins_next, could, wrong, opens}
use Rattle.lam_grammar_laws.proofs.Bodies.{chosen, picks_past_mark}
use Rattle.lam_grammar_laws.proofs.Stages.{weaken, joins, joins_stop}
use Rattle.lam_lexer.specs.declared.token.Token.{Token}
use Rattle.lam_lexer.specs.declared.token.TokenKind.{TokenKind}
use Rattle.lam_lexer.specs.declared.token.TokenKind.TheVariants as kind
use Rattle.lam_syntax.specs.declared.TypeExpr.{TypeExpr}
use Rattle.lam_syntax.specs.Tree.{ItemTree, option_type_tree}
use Rattle.lam_grammar.specs.Table.{items, item, fields, params, result_part, block, fn_word, ID, brace_open, brace_close, paren_open, paren_close}
use Rattle.lam_grammar.specs.Meaning.{Value, word, items_value, optional_type}
use Rattle.lam_grammar.specs.Meaning as meaning
use Rattle.lam_grammar.specs.Program.{lam, program}
use Rattle.lam_grammar.specs.Examples.{examples}
use Rattle.lam_parser_tokens.specs.declared.marks.Mark.TheVariants as m
use Rattle.lam_parser_tokens.specs.declared.breaks.Break.{Break}
use Rattle.lam_parser_tokens.specs.declared.breaks.Break.TheVariants.{Unexpected, TooDeep, NoMemory}
use Rattle.lam_parser_tokens.specs.declared.breaks.Wanted.TheVariants.{Item}
use Rattle.lam_parser_tokens.specs.Classes.{class_of, fits_at, sample_of}
use Rattle.lam_parser_tokens.specs.Reading.{Gives, Fails, Taken, Absent}
use Rattle.lam_parser_tokens.proofs.Rules.{Loop}
use Rattle.lam_parser_parts.proofs.Steps.{front_at}
use Rattle.lam_parser.specs.Parts.{type_or_nothing}

pub items_begin : (o : Option Token) → begins_next lam items o ≡ begins_next lam item o
items_begin None = refl
items_begin (Some w) = refl

-- a function, where no class is declared
pub function_body : {tokens : List Token} {k : ℕ} → Absent tokens k m.Class → (before : Value) → production lam item before (slice_get tokens k) ≡ Some (fn_word ∷ ID ∷ paren_open ∷ rule params ∷ paren_close ∷ rule result_part ∷ rule block ∷ [])
function_body {tokens} {k} a before =
    let o = slice_get tokens k in
    chosen lam item before o refl (picks_past_mark lam (class_of m.Class) (ID ∷ brace_open ∷ rule fields ∷ brace_close ∷ []) (fn_word ∷ ID ∷ paren_open ∷ rule params ∷ paren_close ∷ rule result_part ∷ rule block ∷ []) [] o a.no)

function_kind : (at : ℕ) (k : TokenKind) → (class_of m.Fn).fits k ≡ true → fits_at m.Class (Some (record { at = at; kind = k })) ≡ false
function_kind at kind.Fn h = refl
function_kind at _ h = cc

pub no_class : {tokens : List Token} {s k : ℕ} {w : Token} → Taken tokens s k m.Fn w → Absent tokens k m.Class
no_class {w = w} t = record { no = ap (fits_at m.Class) t.is ∙ function_kind w.at w.kind t.fit }

other_kind : (at : ℕ) (k : TokenKind) → begins_next lam item (Some (record { at = at; kind = k })) ≡ true → fits_at m.Class (Some (record { at = at; kind = k })) ≡ false → fits_at m.Fn (Some (record { at = at; kind = k })) ≡ true
other_kind at kind.Class h n = cc
other_kind at kind.Fn h n = refl
other_kind at _ h n = cc

-- what begins an item and no class begins a function
pub function_front : (o : Option Token) → begins_next lam item o ≡ true → fits_at m.Class o ≡ false → front_at (fn_word ∷ ID ∷ paren_open ∷ rule params ∷ paren_close ∷ rule result_part ∷ rule block ∷ []) o ≡ true
function_front None h n = cc
function_front (Some w) h n = other_kind w.at w.kind h n

pub result_type : (r : Option TypeExpr) → optional_type (type_or_nothing r) ≡ option_type_tree r
result_type None = refl
result_type (Some t) = refl

-- ---- a program

-- where the items stop the program stops
pub program_fails : (look : ℕ → Option Token) (b : Break) → Fails look (rule items ∷ []) 0 0 b → Fails look program 0 0 b
program_fails look (Unexpected at wanted) h = (λ before. weaken (h.0 before), λ before. weaken (h.1 before))
program_fails look (TooDeep at) h = λ before. weaken (h before)
program_fails look NoMemory h = tt

-- Behind the items stands neither another one nor the end.
pub item_wanted : {tokens : List Token} {k : ℕ} {v : Value} {value : List ItemTree → Value} → Loop (List ItemTree) items_value (slice_get tokens) items items 0 0 value k 0 (λ w. examples.closes item w ≡ true) → Gives (slice_get tokens) items 0 0 v k 0 → Absent tokens k m.End → Fails (slice_get tokens) program 0 0 (Unexpected k Item)
item_wanted {k = k} l g a = (
  λ before. joins_stop (g before) tt (wrong a.no),
  λ before. weaken (l.stops before (could k (sample_of Item)) (λ e. refl) (λ b. opens refl)),
)

pub program_read : {tokens : List Token} {k : ℕ} {v : Value} {w : Token} → Gives (slice_get tokens) items 0 0 v k 0 → Taken tokens 0 k m.End w → Reads lam (limited lam) (slice_get tokens) program meaning.nothing 0 0 (v ∷ word w ∷ []) (k + 1) 0
program_read g t = joins (g meaning.nothing) (token t.is t.fit t.within nothing)
