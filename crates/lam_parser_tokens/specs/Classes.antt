-- The classes of tokens as the code names them, and what a token of each wanted kind is.
use Rattle.std.specs.Prelude.{Option, Bool, true, false, refl}
use Rattle.lam_grammar_laws.specs.Grammar.{mark, rule}
use Rattle.lam_grammar_laws.specs.Stopping.{fits_next, begins_next}
use Rattle.lam_lexer.specs.declared.token.Token.{Token}
use Rattle.lam_lexer.specs.declared.token.TokenKind.{TokenKind}
use Rattle.lam_lexer.specs.declared.token.TokenKind.TheVariants as kind
use Rattle.lam_grammar.specs.Table as table
use Rattle.lam_grammar.specs.Table.{Class, Sym, Rule, some_name}
use Rattle.lam_grammar.specs.Examples.{of_kind}
use Rattle.lam_grammar.specs.Program.{lam}
use Rattle.lam_parser_tokens.specs.declared.marks.Mark.{Mark}
use Rattle.lam_parser_tokens.specs.declared.marks.Mark.TheVariants as m
use Rattle.lam_parser_tokens.specs.declared.breaks.Wanted.{Wanted}
use Rattle.lam_parser_tokens.specs.declared.breaks.Wanted.TheVariants as wanted

abbrev class_in : Sym → Class
class_in (mark c) = c
class_in (rule r) = record { fits = λ k. true; adds = 0; sample = kind.End; sure = refl }

-- the class of the grammar's table
abbrev pub class_of : Mark → Class
class_of m.Name = class_in table.ID
class_of m.Member = class_in table.member_name
class_of m.Literal = class_in table.literal
class_of m.TypeWord = class_in table.type_word
class_of (m.Operator l) = class_in (table.operator l)
class_of m.Comparison = class_in table.comparing
class_of m.Prefix = class_in table.prefix
class_of m.Sign = class_in table.sign
class_of m.BraceOpen = class_in table.brace_open
class_of m.BraceClose = class_in table.brace_close
class_of m.ParenOpen = class_in table.paren_open
class_of m.ParenClose = class_in table.paren_close
class_of m.BracketOpen = class_in table.bracket_open
class_of m.BracketClose = class_in table.bracket_close
class_of m.IndexClose = class_in table.index_close
class_of m.Comma = class_in table.comma
class_of m.Semicolon = class_in table.semicolon
class_of m.Colon = class_in table.colon
class_of m.Dot = class_in table.dot
class_of m.Assign = class_in table.equals
class_of m.Class = class_in table.class_word
class_of m.Fn = class_in table.fn_word
class_of m.Let = class_in table.let_word
class_of m.If = class_in table.if_word
class_of m.Else = class_in table.else_word
class_of m.While = class_in table.while_word
class_of m.Return = class_in table.return_word
class_of m.Throw = class_in table.throw_word
class_of m.Sync = class_in table.sync_word
class_of m.Region = class_in table.region_word
class_of m.Catch = class_in table.catch_word
class_of m.New = class_in table.new_word
class_of m.Spawn = class_in table.spawn_word
class_of m.Label = class_in table.label_word
class_of m.Caps = class_in table.caps_word
class_of m.End = class_in table.end_of_text

-- Is the next token of the class?
abbrev pub fits_at : Mark → Option Token → Bool
fits_at k o = fits_next lam (class_of k) o

-- Can the next token begin the rule?
abbrev pub begins_at : Rule → Option Token → Bool
begins_at r o = begins_next lam r o

-- what a parser wants where it takes a token of the class
abbrev pub wanted_of : Mark → Wanted
wanted_of m.Name = wanted.Name
wanted_of m.Member = wanted.Name
wanted_of m.TypeWord = wanted.TypeName
wanted_of k = wanted.Mark k

-- A token of the wanted kind. Of a place before `=` it is what could stand in place of the `=`.
abbrev pub kind_of : Wanted → TokenKind
kind_of wanted.Item = kind.Class
kind_of wanted.Name = some_name
kind_of wanted.TypeName = kind.Int
kind_of wanted.Statement = some_name
kind_of wanted.Expression = some_name
kind_of wanted.Place = kind.Semicolon
kind_of (wanted.Mark k) = (class_of k).sample

abbrev pub sample_of : Wanted → Token
sample_of w = of_kind (kind_of w)

abbrev pub is_barred : Wanted → Bool
is_barred wanted.Place = true
is_barred _ = false
