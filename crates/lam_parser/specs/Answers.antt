-- What the parser's answer says of the tokens.
use Rattle.std.specs.Prelude.{◌≡◌, ℕ, ◌-◌, ◌⊎◌, Bool, true, false, Option, Some, None, List, Result, Ok, Err, length, slice_get}
use Rattle.lam_grammar_laws.specs.Texts.{CouldStand, IsUnexpected, IsTooDeep, IsBarred}
use Rattle.lam_lexer.specs.declared.token.Token.{Token}
use Rattle.lam_lexer.specs.declared.token.TokenKind.{TokenKind}
use Rattle.lam_syntax.specs.declared.Program.{Program}
use Rattle.lam_syntax.specs.Tree.{ProgramTree, program_tree}
use Rattle.lam_grammar.specs.Table.{is_id, begins_expr, begins_stmt, begins_type, begins_item}
use Rattle.lam_grammar.specs.Meaning.{nothing}
use Rattle.lam_grammar.specs.Program.{lam, program, SpellsProgram}
use Rattle.lam_parser_tokens.specs.declared.breaks.Wanted.{Wanted}
use Rattle.lam_parser_tokens.specs.declared.breaks.Wanted.TheVariants.{Item, Name, TypeName, Statement, Expression, Place, Mark}
use Rattle.lam_parser_tokens.specs.Classes.{class_of}
use Rattle.lam_parser.specs.declared.ParseFault.{ParseFault}
use Rattle.lam_parser.specs.declared.ParseFault.TheVariants.{Unexpected, TooDeep, NoMemory}

-- Is a token of the kind what is wanted, or the first of it? No token is a place: it is what stands before the `=`.
abbrev pub is_of : Wanted → TokenKind → Bool
is_of Item k = begins_item k
is_of Name k = is_id k
is_of TypeName k = begins_type k
is_of Statement k = begins_stmt k
is_of Expression k = begins_expr k
is_of Place k = false
is_of (Mark m) k = (class_of m).fits k

abbrev pub at_or : ℕ → Option Token → ℕ
at_or other None = other
at_or other (Some w) = w.at

-- the position of the token at an index, or else of the last token; 0 without tokens
abbrev pub position_at : List Token → ℕ → ℕ
position_at tokens n = at_or (at_or 0 (slice_get tokens (length tokens - 1))) (slice_get tokens n)

-- the program's text goes on from the first n tokens with the token w
abbrev pub CouldBe : List Token → ℕ → Token → Type 0
CouldBe tokens n w = CouldStand lam program nothing tokens n w

-- The token at n, which continues no program, would continue one if each expression might stand before `=`.
abbrev pub LacksPlace : List Token → ℕ → Type 0
LacksPlace tokens n = IsBarred lam program nothing tokens n

-- What is wanted in place of the token at n. A place is wanted exactly where nothing else is wrong with an `=`; else some
-- token of the wanted kind could stand there, or none at all could, behind the end of the text.
abbrev pub IsWanted : List Token → ℕ → Wanted → Type 0
IsWanted tokens n Place = LacksPlace tokens n
IsWanted tokens n wanted = (LacksPlace tokens n → ⊥) × (((w : Token) × (is_of wanted w.kind ≡ true) × CouldBe tokens n w) ⊎ ((w : Token) → CouldBe tokens n w → ⊥))

-- The tokens spell exactly that program, positions included; or the token there is the first that continues none; or it
-- is the first at which the depth sum passes 128. Want of memory says nothing.
abbrev pub Parses : List Token → Result Program ParseFault → Type 0
Parses tokens (Ok p) = SpellsProgram tokens (program_tree p)
Parses tokens (Err (Unexpected at wanted)) = (n : ℕ) × (at ≡ position_at tokens n) × IsUnexpected lam program nothing tokens n × IsWanted tokens n wanted
Parses tokens (Err (TooDeep at)) = (n : ℕ) × (at ≡ position_at tokens n) × IsTooDeep lam program nothing tokens n
Parses tokens (Err NoMemory) = Unit {0}

-- Two answers agree, as far as memory sufficed: the same tree, or the same fault at the same place.
abbrev pub Agree : Result Program ParseFault → Result Program ParseFault → Type 0
Agree (Ok p) (Ok q) = program_tree p ≡ program_tree q
Agree (Err (Unexpected at wanted)) (Err (Unexpected at' wanted')) = at ≡ at'
Agree (Err (TooDeep at)) (Err (TooDeep at')) = at ≡ at'
Agree (Err NoMemory) b = Unit {0}
Agree a (Err NoMemory) = Unit {0}
Agree a b = ⊥

-- The answer is that program, if memory sufficed.
abbrev pub IsReadAs : ProgramTree → Result Program ParseFault → Type 0
IsReadAs t (Ok p) = program_tree p ≡ t
IsReadAs t (Err NoMemory) = Unit {0}
IsReadAs t (Err f) = ⊥
