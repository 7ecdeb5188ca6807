-- Canonical text as a list of pieces: tokens, and what stands between them.
use Rattle.std.specs.Prelude.{ℕ, zero, suc, ◌+◌, ◌/◌, ◌%◌, ◌==◌, ◌&&◌, nat_lt, nat_le, if◌then◌else◌, List, [], ◌∷◌, ◌++◌, codes}
use Rattle.std.specs.Fmt.{signed_decimal}
use Rattle.lam_lexer.specs.declared.token.TokenKind.{TokenKind}
use Rattle.lam_lexer.specs.declared.token.TokenKind.TheVariants as Kind

abbrev pub hex_digit : ℕ → ℕ
hex_digit d = if nat_lt d 10 then (48 + d) else (87 + d)

-- a byte of a text: \" and \\, the printable ones of ASCII as they are, and \x with two digits in lower case for others
abbrev pub spell_byte : ℕ → List ℕ
spell_byte b =
    if b == 34 then (92 ∷ 34 ∷ []) else
    (if b == 92 then (92 ∷ 92 ∷ []) else
    (if nat_le 32 b && nat_le b 126 then (b ∷ []) else
    (92 ∷ 120 ∷ hex_digit (b / 16) ∷ hex_digit (b % 16) ∷ [])))

-- the bytes of a text, and its last quote
abbrev pub spell_text : List ℕ → List ℕ
spell_text [] = 34 ∷ []
spell_text (b ∷ bs) = spell_byte b ++ spell_text bs

-- the bytes of a token
abbrev pub spelling : TokenKind → List ℕ
spelling (Kind.Id name) = name
spelling (Kind.Number n) = signed_decimal n
spelling (Kind.Text bytes) = 34 ∷ spell_text bytes
spelling Kind.BraceOpen = codes "{"
spelling Kind.BraceClose = codes "}"
spelling Kind.ParenOpen = codes "("
spelling Kind.ParenClose = codes ")"
spelling Kind.BracketOpen = codes "["
spelling Kind.BracketClose = codes "]"
spelling Kind.Comma = codes ","
spelling Kind.Semicolon = codes ";"
spelling Kind.Colon = codes ":"
spelling Kind.Dot = codes "."
spelling Kind.Assign = codes "="
spelling Kind.Equal = codes "=="
spelling Kind.NotEqual = codes "!="
spelling Kind.Less = codes "<"
spelling Kind.LessEqual = codes "<="
spelling Kind.Greater = codes ">"
spelling Kind.GreaterEqual = codes ">="
spelling Kind.Plus = codes "+"
spelling Kind.Minus = codes "-"
spelling Kind.Star = codes "*"
spelling Kind.Slash = codes "/"
spelling Kind.Percent = codes "%"
spelling Kind.Not = codes "!"
spelling Kind.And = codes "&&"
spelling Kind.Or = codes "||"
spelling Kind.Class = codes "class"
spelling Kind.Fn = codes "fn"
spelling Kind.Let = codes "let"
spelling Kind.If = codes "if"
spelling Kind.Else = codes "else"
spelling Kind.While = codes "while"
spelling Kind.Return = codes "return"
spelling Kind.Throw = codes "throw"
spelling Kind.Sync = codes "sync"
spelling Kind.Region = codes "region"
spelling Kind.Catch = codes "catch"
spelling Kind.New = codes "new"
spelling Kind.Spawn = codes "spawn"
spelling Kind.True = codes "true"
spelling Kind.False = codes "false"
spelling Kind.Null = codes "null"
spelling Kind.Int = codes "int"
spelling Kind.Bool = codes "bool"
spelling Kind.Bytes = codes "bytes"
spelling Kind.Tag = codes "tag"
spelling Kind.Label = codes "label"
spelling Kind.Caps = codes "caps"
spelling Kind.File = codes "file"
spelling Kind.Dir = codes "dir"
spelling Kind.Pipe = codes "pipe"
spelling Kind.Thread = codes "thread"
spelling Kind.End = []

pub data Piece : Type 0 where
  token : TokenKind → Piece
  blank : Piece
  -- a line feed, and two blanks for each open block
  line : (depth : ℕ) → Piece

abbrev pub indent : ℕ → List ℕ → List ℕ
indent zero rest = rest
indent (suc n) rest = 32 ∷ 32 ∷ indent n rest

-- the bytes of pieces
abbrev pub written : List Piece → List ℕ
written [] = []
written (token k ∷ ps) = spelling k ++ written ps
written (blank ∷ ps) = 32 ∷ written ps
written (line n ∷ ps) = 10 ∷ indent n (written ps)

-- the tokens of pieces
abbrev pub kinds : List Piece → List TokenKind
kinds [] = []
kinds (token k ∷ ps) = k ∷ kinds ps
kinds (blank ∷ ps) = kinds ps
kinds (line n ∷ ps) = kinds ps
