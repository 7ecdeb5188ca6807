-- Names as a program writes them.
use Rattle.std.specs.Prelude.{ℕ, List}

-- a name: its bytes in UTF-8
abbrev pub Word : Type 0
Word = List ℕ
