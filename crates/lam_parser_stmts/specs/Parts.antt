-- What reading a statement without blocks, or the head of a region, gives.
use Rattle.std.specs.Prelude.{ℕ, List, [], ◌∷◌, Result, Ok, Err, slice_get}
use Rattle.lam_grammar_laws.specs.Grammar.{rule}
use Rattle.lam_lexer.specs.declared.token.Token.{Token}
use Rattle.lam_syntax.specs.declared.Stmt.{Stmt}
use Rattle.lam_syntax.specs.Tree.{expr_tree, stmt_tree}
use Rattle.lam_grammar.specs.Table.{stmt, region_head}
use Rattle.lam_grammar.specs.Meaning.{two_exprs, stmt_value}
use Rattle.lam_parser_tokens.specs.declared.breaks.Break.{Break}
use Rattle.lam_parser_tokens.specs.declared.marks.Mark.TheVariants.{Let, If, While, Return, Throw, Sync, Region}
use Rattle.lam_parser_tokens.specs.Reading.{Gives, Fails, Absent}
use Rattle.lam_parser_parts.specs.Variables.{ReadsPart}
use Rattle.lam_parser_stmts.specs.declared.stmts.RegionHead.{RegionHead}

abbrev pub ReadsStmt : List Token → ℕ → ℕ → Result (Stmt × ℕ) Break → Type 0
ReadsStmt tokens s i x = ReadsPart Stmt (λ v. stmt_value (stmt_tree v)) tokens stmt s i x

abbrev pub ReadsRegionHead : List Token → ℕ → ℕ → Result RegionHead Break → Type 0
ReadsRegionHead tokens s i (Ok x) = Gives (slice_get tokens) region_head s i (two_exprs (expr_tree x.label.value) (expr_tree x.caps.value)) x.next s
ReadsRegionHead tokens s i (Err b) = Fails (slice_get tokens) (rule region_head ∷ []) s i b

-- The token there is no word with which a statement begins.
pub record NoWord (tokens : List Token) (i : ℕ) : Type 0 where
  pub no_let : Absent tokens i Let
  pub no_if : Absent tokens i If
  pub no_while : Absent tokens i While
  pub no_return : Absent tokens i Return
  pub no_throw : Absent tokens i Throw
  pub no_sync : Absent tokens i Sync
  pub no_region : Absent tokens i Region
