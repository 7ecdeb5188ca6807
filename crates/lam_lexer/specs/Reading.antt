-- What the steps of the reading function give.
use Rattle.std.specs.Prelude.{◌≡◌, ℕ, ◌+◌, ◌^◌, ◌<◌, ◌≤◌, true, List, [], ◌∷◌, ◌++◌, Option, Some, None, IsSome, length, chars, IsUtf8, encode_utf8_all}
use Rattle.std.specs.Char.{len_utf8, encode_utf8}
use Rattle.lam_lexer.specs.declared.token.Token.{Token}
use Rattle.lam_lexer.specs.declared.lexer.Taken.{Taken}
use Rattle.lam_lexer.specs.declared.start.Start.{Start}
use Rattle.lam_lexer.specs.declared.text.Part.{Part as CodePart}
use Rattle.lam_lexer.specs.declared.fault.LexFault.{LexFault}
use Rattle.lam_lexer.specs.declared.fault.LexFault.TheVariants.{BadChar, BadNumber, BadEscape, OpenText, NoMemory}
use Rattle.lam_lexer.specs.Characters.{is_digit}
use Rattle.lam_lexer.specs.Text.{Part, end_quote, means, bad_escape, no_end, Means}
use Rattle.lam_lexer.specs.Lexed.{Lexes, FirstFault}

-- the bytes of characters
abbrev pub size : List ℕ → ℕ
size cs = length (encode_utf8_all cs)

-- a fault of that kind, or want of memory
abbrev pub OrNoMemory : (LexFault → Type 0) → LexFault → Type 0
OrNoMemory P NoMemory = Unit {0}
OrNoMemory P (BadChar m) = P (BadChar m)
OrNoMemory P (BadNumber m) = P (BadNumber m)
OrNoMemory P (BadEscape m) = P (BadEscape m)
OrNoMemory P (OpenText m) = P (OpenText m)

abbrev pub IsFault : List ℕ → LexFault → Type 0
IsFault cs f = OrNoMemory (FirstFault cs) f

-- the part of a text that the code found
abbrev pub IsPart : Part → CodePart → Type 0
IsPart p (CodePart.EndQuote rest) = (p ≡ end_quote (chars rest.now)) × IsUtf8 rest.now
IsPart p (CodePart.Char c rest) = (p ≡ means (encode_utf8 c) (len_utf8 c) (chars rest.now)) × IsUtf8 rest.now
IsPart p (CodePart.Byte b n rest) = (p ≡ means (b ∷ []) n (chars rest.now)) × IsUtf8 rest.now
IsPart p CodePart.BadEscape = p ≡ bad_escape
IsPart p CodePart.NoEnd = p ≡ no_end

-- a text that begins at a quote: its bytes, what is left behind it, and the position there
pub record IsText (cs : List ℕ) (quote : ℕ) (bytes rest : List ℕ) (to : ℕ) : Type 0 where
  pub count : ℕ
  pub read : Means 0 cs bytes count rest
  pub position : to ≡ quote + 1 + count
  pub place : to + size rest ≤ quote + 1 + size cs

-- a text ends with another
pub record HasEnd (cs rest : List ℕ) : Type 0 where
  pub front : List ℕ
  pub parts : cs ≡ front ++ rest

-- a value that is kept while it is small enough
abbrev pub IsValue : ℕ → Option ℕ → Type 0
IsValue n None = 2 ^ 63 ≤ n
IsValue n (Some v) = (n ≡ v) × (v < 2 ^ 63)

-- what a beginning says of its character and of the next
abbrev pub Begins : Start → ℕ → Option ℕ → Type 0
Begins Start.Number c next = is_digit c ≡ true
Begins (Start.LongMark k) c next = IsSome next
Begins _ c next = Unit {0}

abbrev pub tokens_of : Option Token → List Token
tokens_of None = []
tokens_of (Some t) = t ∷ []

-- what was read of a text that begins with a character: what is left behind it, and the position there
pub record IsTaken (at : ℕ) (begins : Start) (c : ℕ) (cs : List ℕ) (t : Taken) : Type 0 where
  pub read : Lexes at begins (c ∷ cs) (tokens_of t.token) t.to (chars t.rest.now)
  pub place : t.to + size (chars t.rest.now) ≤ at + size (c ∷ cs)
  pub utf8 : IsUtf8 t.rest.now
