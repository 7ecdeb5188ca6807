use Rattle.std.proofs.Common.{chars}
use Rattle.lam_lexer.specs.Reading.{size}
use denote.Shadow.{shadow}
use denote.Text.{Utf8}
use Rattle.lam_lexer.proofs.Whole.{LexedSoFar}
use Rattle.lam_lexer.proofs.lexer.lex_text.Given as goal

abbrev pub invariant-loop-c : goal.invariant-loop-c
invariant-loop-c l = record {
  utf8 : shadow (Utf8 l.rest);
  so_far : LexedSoFar (chars l.text) l.tokens.items (chars l.rest) l.at;
}

abbrev pub decreases-loop-c : goal.decreases-loop-c
decreases-loop-c l = size (chars l.rest)
