-- The tokens of a text, or its first fault, by rules over its characters. Positions count bytes of UTF-8.
use Rattle.std.specs.Prelude.{◌≡◌, ℕ, ◌+◌, ◌^◌, ◌<◌, ◌≤◌, ◌==◌, ◌&&◌, true, false, if◌then◌else◌, List, [], ◌∷◌, ◌++◌, Option, Some, None, length, codes, bytes_eq, encode_utf8_all, pos}
use Rattle.lam_lexer.specs.declared.token.Token.{Token}
use Rattle.lam_lexer.specs.declared.token.TokenKind.{TokenKind}
use Rattle.lam_lexer.specs.declared.token.TokenKind.TheVariants as Kind
use Rattle.lam_lexer.specs.declared.start.Start.{Start}
use Rattle.lam_lexer.specs.declared.fault.LexFault.{LexFault}
use Rattle.lam_lexer.specs.declared.fault.LexFault.TheVariants.{BadChar, BadNumber}
use Rattle.lam_lexer.specs.Characters.{is_space, is_digit, starts_name, continues_name, stays_on_line, run, past, first, goes_on, number}
use Rattle.lam_lexer.specs.Text.{Means, TextFault}

-- { } ( ) [ ] , ; : . = < > + - * / % !
abbrev pub one_mark : ℕ → Start
one_mark c =
    if c == 123 then Start.Mark Kind.BraceOpen else
    (if c == 125 then Start.Mark Kind.BraceClose else
    (if c == 40 then Start.Mark Kind.ParenOpen else
    (if c == 41 then Start.Mark Kind.ParenClose else
    (if c == 91 then Start.Mark Kind.BracketOpen else
    (if c == 93 then Start.Mark Kind.BracketClose else
    (if c == 44 then Start.Mark Kind.Comma else
    (if c == 59 then Start.Mark Kind.Semicolon else
    (if c == 58 then Start.Mark Kind.Colon else
    (if c == 46 then Start.Mark Kind.Dot else
    (if c == 61 then Start.Mark Kind.Assign else
    (if c == 60 then Start.Mark Kind.Less else
    (if c == 62 then Start.Mark Kind.Greater else
    (if c == 43 then Start.Mark Kind.Plus else
    (if c == 45 then Start.Mark Kind.Minus else
    (if c == 42 then Start.Mark Kind.Star else
    (if c == 47 then Start.Mark Kind.Slash else
    (if c == 37 then Start.Mark Kind.Percent else
    (if c == 33 then Start.Mark Kind.Not else Start.Nothing))))))))))))))))))

-- of the marks the longest: // == != <= >= && || before those of one character
abbrev pub two_marks : ℕ → ℕ → Start
two_marks c d =
    if c == 47 && d == 47 then Start.Comment else
    (if c == 61 && d == 61 then Start.LongMark Kind.Equal else
    (if c == 33 && d == 61 then Start.LongMark Kind.NotEqual else
    (if c == 60 && d == 61 then Start.LongMark Kind.LessEqual else
    (if c == 62 && d == 61 then Start.LongMark Kind.GreaterEqual else
    (if c == 38 && d == 38 then Start.LongMark Kind.And else
    (if c == 124 && d == 124 then Start.LongMark Kind.Or else one_mark c))))))

abbrev pub marks : ℕ → Option ℕ → Start
marks c None = one_mark c
marks c (Some d) = two_marks c d

-- what a character begins, before the next one
abbrev pub start : ℕ → Option ℕ → Start
start c next =
    if is_space c then Start.Space else
    (if starts_name c then Start.Name else
    (if is_digit c then Start.Number else
    (if c == 34 then Start.Text else marks c next)))

-- a reserved word
abbrev pub reserved : List ℕ → Option TokenKind
reserved name =
    if bytes_eq name (codes "class") then Some Kind.Class else
    (if bytes_eq name (codes "fn") then Some Kind.Fn else
    (if bytes_eq name (codes "let") then Some Kind.Let else
    (if bytes_eq name (codes "if") then Some Kind.If else
    (if bytes_eq name (codes "else") then Some Kind.Else else
    (if bytes_eq name (codes "while") then Some Kind.While else
    (if bytes_eq name (codes "return") then Some Kind.Return else
    (if bytes_eq name (codes "throw") then Some Kind.Throw else
    (if bytes_eq name (codes "sync") then Some Kind.Sync else
    (if bytes_eq name (codes "region") then Some Kind.Region else
    (if bytes_eq name (codes "catch") then Some Kind.Catch else
    (if bytes_eq name (codes "new") then Some Kind.New else
    (if bytes_eq name (codes "spawn") then Some Kind.Spawn else
    (if bytes_eq name (codes "true") then Some Kind.True else
    (if bytes_eq name (codes "false") then Some Kind.False else
    (if bytes_eq name (codes "null") then Some Kind.Null else
    (if bytes_eq name (codes "int") then Some Kind.Int else
    (if bytes_eq name (codes "bool") then Some Kind.Bool else
    (if bytes_eq name (codes "bytes") then Some Kind.Bytes else
    (if bytes_eq name (codes "tag") then Some Kind.Tag else
    (if bytes_eq name (codes "label") then Some Kind.Label else
    (if bytes_eq name (codes "caps") then Some Kind.Caps else
    (if bytes_eq name (codes "file") then Some Kind.File else
    (if bytes_eq name (codes "dir") then Some Kind.Dir else
    (if bytes_eq name (codes "pipe") then Some Kind.Pipe else
    (if bytes_eq name (codes "thread") then Some Kind.Thread else None)))))))))))))))))))))))))

-- an identifier's bytes are a reserved word or a name
abbrev pub kind_or_name : Option TokenKind → List ℕ → TokenKind
kind_or_name (Some k) name = k
kind_or_name None name = Kind.Id name

abbrev pub word_kind : List ℕ → TokenKind
word_kind name = kind_or_name (reserved name) name

abbrev pub token : ℕ → TokenKind → Token
token at kind = record { at = at; kind = kind }

-- `Lexes at start text tokens to rest`: a text that begins so, at a position, begins with white space, a comment or a
-- token; these are its tokens, and this is left of it at the later position
pub data Lexes (at : ℕ) : Start → List ℕ → List Token → ℕ → List ℕ → Type 0 where
  a_space : {c : ℕ} {cs : List ℕ} → Lexes at Start.Space (c ∷ cs) [] (at + 1) cs
  a_comment : {c : ℕ} {cs : List ℕ} → Lexes at Start.Comment (c ∷ cs) [] (at + 1 + length (encode_utf8_all (run stays_on_line cs))) (past stays_on_line cs)
  a_name : {c : ℕ} {cs : List ℕ} → Lexes at Start.Name (c ∷ cs) (token at (word_kind (encode_utf8_all (c ∷ run continues_name cs))) ∷ []) (at + length (encode_utf8_all (c ∷ run continues_name cs))) (past continues_name cs)
  a_number : {c : ℕ} {cs : List ℕ} → number (c ∷ run is_digit cs) < 2 ^ 63 → goes_on continues_name (past is_digit cs) ≡ false → Lexes at Start.Number (c ∷ cs) (token at (Kind.Number (pos (number (c ∷ run is_digit cs)))) ∷ []) (at + 1 + length (run is_digit cs)) (past is_digit cs)
  a_text : {c size : ℕ} {cs bytes rest : List ℕ} → Means 0 cs bytes size rest → Lexes at Start.Text (c ∷ cs) (token at (Kind.Text bytes) ∷ []) (at + 1 + size) rest
  a_mark : {c : ℕ} {cs : List ℕ} {k : TokenKind} → Lexes at (Start.Mark k) (c ∷ cs) (token at k ∷ []) (at + 1) cs
  a_long_mark : {c d : ℕ} {cs : List ℕ} {k : TokenKind} → Lexes at (Start.LongMark k) (c ∷ d ∷ cs) (token at k ∷ []) (at + 2) cs

-- `Wrong at start c cs f`: the fault of what begins so
pub data Wrong (at : ℕ) : Start → ℕ → List ℕ → LexFault → Type 0 where
  strange : {c : ℕ} {cs : List ℕ} → Wrong at Start.Nothing c cs (BadChar at)
  great : {c : ℕ} {cs : List ℕ} → 2 ^ 63 ≤ number (c ∷ run is_digit cs) → Wrong at Start.Number c cs (BadNumber at)
  joined : {c : ℕ} {cs : List ℕ} → goes_on continues_name (past is_digit cs) ≡ true → Wrong at Start.Number c cs (BadNumber at)
  in_text : {c : ℕ} {cs : List ℕ} {f : LexFault} → TextFault at 0 (at + 1) cs f → Wrong at Start.Text c cs f

-- the tokens of a text that begins at a position
pub data LexedAt : ℕ → List ℕ → List Token → Type 0 where
  at_end : {at : ℕ} → LexedAt at [] (token at Kind.End ∷ [])
  then_on : {at to c : ℕ} {cs rest : List ℕ} {tokens others : List Token} → Lexes at (start c (first cs)) (c ∷ cs) tokens to rest → LexedAt to rest others → LexedAt at (c ∷ cs) (tokens ++ others)

-- its first fault
pub data FaultAt : ℕ → List ℕ → LexFault → Type 0 where
  here : {at c : ℕ} {cs : List ℕ} {f : LexFault} → Wrong at (start c (first cs)) c cs f → FaultAt at (c ∷ cs) f
  later : {at to c : ℕ} {cs rest : List ℕ} {tokens : List Token} {f : LexFault} → Lexes at (start c (first cs)) (c ∷ cs) tokens to rest → FaultAt to rest f → FaultAt at (c ∷ cs) f

-- the tokens of the characters
abbrev pub Lexed : List ℕ → List Token → Type 0
Lexed text tokens = LexedAt 0 text tokens

-- their first fault in reading order
abbrev pub FirstFault : List ℕ → LexFault → Type 0
FirstFault text f = FaultAt 0 text f
