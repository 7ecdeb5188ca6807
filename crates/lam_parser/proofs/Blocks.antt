-- The statements of a block.
use Rattle.std.proofs.Common.{◌≡◌, ℕ, true, false, List, [], ◌∷◌, slice_get, refl}
use Rattle.lam_grammar_laws.specs.Grammar.{rule}
use Rattle.lam_grammar_laws.specs.Stopping.{unexpected, could, wrong, opens}
use Rattle.lam_grammar_laws.proofs.Stages.{weaken}
use Rattle.lam_lexer.specs.declared.token.Token.{Token}
use Rattle.lam_syntax.specs.Tree.{StmtList}
use Rattle.lam_grammar.specs.Table.{block, stmt, stmts, brace_close}
use Rattle.lam_grammar.specs.Meaning.{Value, stmts_value}
use Rattle.lam_grammar.specs.Examples.{examples}
use Rattle.lam_parser_tokens.specs.declared.marks.Mark.TheVariants as m
use Rattle.lam_parser_tokens.specs.declared.breaks.Break.TheVariants.{Unexpected}
use Rattle.lam_parser_tokens.specs.declared.breaks.Wanted.TheVariants.{Statement}
use Rattle.lam_parser_tokens.specs.Classes.{sample_of}
use Rattle.lam_parser_tokens.specs.Reading.{Fails, Absent}
use Rattle.lam_parser_tokens.proofs.Rules.{Part, Loop}

-- Behind the statements stands neither another one nor the closing brace.
pub statement_wanted : {tokens : List Token} {s i j k u v : ℕ} {prev prev' : Value → Value} {done done' : List Value → List Value} {ok : Token → Type 0} {value : StmtList → Value} → Part (slice_get tokens) block s i (rule stmts ∷ brace_close ∷ []) prev done j u (λ w. Unit {0}) → Loop StmtList stmts_value (slice_get tokens) stmts stmts u j value k v (λ w. examples.closes stmt w ≡ true) → Part (slice_get tokens) block s i (brace_close ∷ []) prev' done' k v ok → Absent tokens k m.BraceClose → Fails (slice_get tokens) (rule block ∷ []) s i (Unexpected k Statement)
statement_wanted {k = k} {prev = prev} g l f a = (
  λ before. f.stops before (unexpected false k) tt (wrong a.no),
  λ before. g.stops before (could k (sample_of Statement)) (λ e. tt) (weaken (l.stops (prev before) (could k (sample_of Statement)) (λ e. refl) (λ b. opens refl))),
)
