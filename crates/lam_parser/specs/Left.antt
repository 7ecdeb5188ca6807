-- What is left of the tokens while their program is read, and what is said of all of them by what is left.
use Rattle.std.specs.Prelude.{◌≡◌, ℕ, ◌+◌, ◌<◌, ◌≤◌, List, [], ◌∷◌, Result, Ok, Err, length, slice_get}
use Rattle.lam_grammar_laws.specs.Grammar.{Reads}
use Rattle.lam_grammar_laws.specs.Texts.{limited}
use Rattle.lam_lexer.specs.declared.token.Token.{Token}
use Rattle.lam_syntax.specs.declared.Program.{Program}
use Rattle.lam_syntax.specs.Tree.{program_tree}
use Rattle.lam_grammar.specs.Meaning.{nothing, word, items_value}
use Rattle.lam_grammar.specs.Program.{lam, program}
use Rattle.lam_parser_tokens.specs.declared.breaks.Break.{Break}
use Rattle.lam_parser_tokens.specs.declared.breaks.Break.TheVariants.{Unexpected, TooDeep, NoMemory}
use Rattle.lam_parser_tokens.specs.Reading.{Fails}

-- Of all tokens those from an index on are left, and one of them at least where any is gone.
pub record IsLeft (all left : List Token) (gone : ℕ) : Type 0 where
  pub same : (i : ℕ) → slice_get left i ≡ slice_get all (gone + i)
  pub count : gone + length left ≡ length all
  pub some : 0 < gone → 0 < length left

-- Some tokens before the index `end` are gone, and the token there has the index `next`.
pub record IsFreed (before after : List Token) (end next : ℕ) : Type 0 where
  pub gone : ℕ
  pub left : IsLeft before after gone
  pub moved : gone + next ≡ end
  pub within : next ≤ length after

-- the same break, where so many tokens stand before
abbrev pub later : ℕ → Break → Break
later n (Unexpected at wanted) = Unexpected (n + at) wanted
later n (TooDeep at) = TooDeep (n + at)
later n NoMemory = NoMemory

-- items and the end of the text
abbrev pub ReadsProgram : List Token → List Token → Result (Program × ℕ) Break → Type 0
ReadsProgram all left (Ok x) = (gone : ℕ) × IsLeft all left gone × (w : Token) × Reads lam (limited lam) (slice_get all) program nothing 0 0 (items_value (program_tree x.0) ∷ word w ∷ []) (gone + x.1) 0
ReadsProgram all left (Err b) = (gone : ℕ) × IsLeft all left gone × Fails (slice_get all) program 0 0 (later gone b)
