-- The program that bytes spell, and the first fault of those that spell none or break a rule.
-- The order is that of the layers: UTF-8, tokens, grammar, types, regions.
use Rattle.std.specs.Prelude.{◌≡◌, ℕ, List, Some, None, chars, IsUtf8}
use Rattle.lam_grammar_laws.specs.Texts.{IsUnexpected, IsTooDeep}
use Rattle.lam_syntax.specs.Tree.{ProgramTree}
use Rattle.lam_lexer.specs.declared.token.Token.{Token}
use Rattle.lam_lexer.specs.declared.fault.LexFault.{LexFault}
use Rattle.lam_lexer.specs.Lexed.{Lexed, FirstFault}
use Rattle.lam_grammar.specs.Meaning.{nothing}
use Rattle.lam_grammar.specs.Program.{lam, program}
use Rattle.lam_print_laws.specs.Words.{IsOf}
use Rattle.lam_parser.specs.Answers.{position_at}
use Rattle.lam_types_kinds.specs.Breaks.{Break}
use Rattle.lam_types.specs.Program.{first_type_break}
use Rattle.region_check.specs.Breaks as region
use Rattle.region_check.specs.Breaks.{first_region_break}
use Rattle.lam_front.specs.declared.fault.Flaw.TheVariants.{Unexpected, TooDeep}
use Rattle.lam_front.specs.declared.fault.ProgramFault.{ProgramFault}
use Rattle.lam_front.specs.declared.fault.ProgramFault.TheVariants.{NotUtf8, At}
use Rattle.lam_front.specs.Faults.{lexical, mistyped, illegal}

-- the bytes are a text of these tokens
pub record IsLexed (bytes : List ℕ) (tokens : List Token) : Type 0 where
  pub utf8 : IsUtf8 bytes
  pub lexed : Lexed (chars bytes) tokens

-- the bytes spell the program
pub record IsSpelt (bytes : List ℕ) (p : ProgramTree) : Type 0 where
  pub tokens : List Token
  pub is : IsOf bytes tokens p

-- the first fault of bytes that spell no program
pub data IsMisspelt (bytes : List ℕ) (fault : ProgramFault) : Type 0 where
  no_text : (IsUtf8 bytes → ⊥) → fault ≡ NotUtf8 → IsMisspelt bytes fault
  bad_token : (f : LexFault) → IsUtf8 bytes → FirstFault (chars bytes) f → fault ≡ lexical f → IsMisspelt bytes fault
  -- the token n is the first that continues no program
  unexpected : (tokens : List Token) (n : ℕ) → IsLexed bytes tokens → IsUnexpected lam program nothing tokens n → fault ≡ At Unexpected (position_at tokens n) → IsMisspelt bytes fault
  -- the token n is the first at which the depth sum passes its limit
  too_deep : (tokens : List Token) (n : ℕ) → IsLexed bytes tokens → IsTooDeep lam program nothing tokens n → fault ≡ At TooDeep (position_at tokens n) → IsMisspelt bytes fault

-- the bytes spell the program, and it keeps the type rules and the region rules
pub record IsFine (bytes : List ℕ) (p : ProgramTree) : Type 0 where
  pub spelt : IsSpelt bytes p
  pub typed : first_type_break p ≡ None
  pub legal : first_region_break p ≡ None

-- the first fault of bytes that spell no program or one that breaks a rule
pub data IsBroken (bytes : List ℕ) (fault : ProgramFault) : Type 0 where
  misspelt : IsMisspelt bytes fault → IsBroken bytes fault
  breaks_type : (p : ProgramTree) (b : Break) → IsSpelt bytes p → first_type_break p ≡ Some b → fault ≡ mistyped b → IsBroken bytes fault
  breaks_region : (p : ProgramTree) (b : region.Break) → IsSpelt bytes p → first_type_break p ≡ None → first_region_break p ≡ Some b → fault ≡ illegal b → IsBroken bytes fault
