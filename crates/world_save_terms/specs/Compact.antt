-- A text of a JSON value in the compact form, as the writer of `serde_json` gives it.
use Rattle.std.specs.Prelude.{◌≡◌, ◌≤◌, ℕ, List, length, false, true, Some, Float, All, ⊤}
use Rattle.std.specs.Str.{is_utf8}
use Rattle.ryu.specs.Plain.{IsPlusNumber}
use Rattle.json.specs.Token.{Token, begin_object, end_object, begin_array, end_array, key, string, number, boolean, null, bad}
use Rattle.json.specs.Lex.{tokens}
use Rattle.json.specs.Print.{print}
use Rattle.serde_json.specs.Data.{Data, float, depth}
use Rattle.serde_json.specs.Read.{number_of, read, max_depth}
use Rattle.serde_json.specs.Written.{IsInOrder, has_float, compact_text}
use Rattle.shortest_numerals.specs.Shortest.{IsShortestText}

-- The library `ryu` writes no number of more bytes.
abbrev pub most_number : ℕ
most_number = 25

-- The plain numeral of a float, as `1.5`, `1e+30` or `1e-7`, as long as the shortest that reads back as it. An exponent has a sign, and
-- stands just where more than 16 digits would stand before the point, or more than 4 zeros after it.
unfoldable pub IsNumeralOf : Float → List ℕ → Type 0
IsNumeralOf x s = IsPlusNumber 16 4 s × (length s ≤ most_number) × IsShortestText x s

-- a number that is no whole one of 64 bits is written so
abbrev pub IsLaidOut : Token → Type 0
IsLaidOut begin_object = ⊤
IsLaidOut end_object = ⊤
IsLaidOut begin_array = ⊤
IsLaidOut end_array = ⊤
IsLaidOut (key s) = ⊤
IsLaidOut (string s) = ⊤
IsLaidOut (number s) = (x : Float) → number_of s ≡ Some (float x) → IsNumeralOf x s
IsLaidOut (boolean b) = ⊤
IsLaidOut null = ⊤
IsLaidOut bad = ⊤

-- Where the value has a number that is no whole one, which of the shortest numerals that read back as it stands there is left open.
pub record IsCompact (d : Data) (text : List ℕ) : Type 0 where
  pub plain : has_float d ≡ false → text ≡ compact_text d
  pub compact : text ≡ print (tokens text)
  pub utf8 : is_utf8 text ≡ true
  pub ordered : IsInOrder text d
  pub laid_out : All IsLaidOut (tokens text)
  pub reads_back : depth d ≤ max_depth → read text ≡ Some d
