-- The law of canonical text: its tokens are those of its pieces.
use Rattle.std.specs.Prelude.{◌≡◌, ℕ, ◌^◌, ◌<◌, ◌≤◌, ◌&&◌, Bool, true, false, List, [], ◌∷◌, ◌++◌, None, length, map, chars, IsUtf8, ℤ, pos, negsuc}
use Rattle.lam_lexer.specs.declared.token.Token.{Token}
use Rattle.lam_lexer.specs.declared.token.TokenKind.{TokenKind}
use Rattle.lam_lexer.specs.declared.token.TokenKind.TheVariants as Kind
use Rattle.lam_lexer.specs.Characters.{starts_name, continues_name}
use Rattle.lam_lexer.specs.Lexed.{reserved, Lexed}
use Rattle.lam_lexer.specs.Text.{room}
use Rattle.lam_syntax.specs.Tree.{ProgramTree}
use Rattle.lam_print.specs.Pieces.{kinds}
use Rattle.lam_print.specs.Canon.{pieces, canon}

abbrev pub all_continue : List ℕ → Bool
all_continue [] = true
all_continue (c ∷ cs) = continues_name c && all_continue cs

abbrev pub is_identifier : List ℕ → Bool
is_identifier [] = false
is_identifier (c ∷ cs) = starts_name c && all_continue cs

abbrev pub AllBytes : List ℕ → Type 0
AllBytes [] = Unit {0}
AllBytes (b ∷ bs) = (b < 256) × AllBytes bs

abbrev pub IsNumber : ℤ → Type 0
IsNumber (pos n) = n < 2 ^ 63
IsNumber (negsuc n) = ⊥

-- a token that some text has: an identifier that is no reserved word, a number, a text that is not too long, a mark or a
-- reserved word
abbrev pub Fits : TokenKind → Type 0
Fits (Kind.Id name) = (is_identifier (chars name) ≡ true) × IsUtf8 name × (reserved name ≡ None)
Fits (Kind.Number n) = IsNumber n
Fits (Kind.Text bytes) = AllBytes bytes × (length bytes ≤ room)
Fits Kind.End = ⊥
Fits _ = Unit {0}

abbrev pub AllFit : List TokenKind → Type 0
AllFit [] = Unit {0}
AllFit (k ∷ ks) = Fits k × AllFit ks

abbrev pub kind_of : Token → TokenKind
kind_of t = t.kind

-- the canonical text of a program is read as the tokens of its pieces, and the end
abbrev pub TextLaw : Type 0
TextLaw = (p : ProgramTree) → AllFit (kinds (pieces p)) → (tokens : List Token) × Lexed (chars (canon p)) tokens × (map kind_of tokens ≡ kinds (pieces p) ++ Kind.End ∷ [])

-- the tokens of a text before its end are such tokens
abbrev pub TokensFit : Type 0
TokensFit = (text : List ℕ) → IsUtf8 text → (tokens : List Token) → Lexed (chars text) tokens → (before : List TokenKind) × (map kind_of tokens ≡ before ++ Kind.End ∷ []) × AllFit before
