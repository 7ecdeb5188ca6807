use Rattle.std.proofs.Common.{length, chars}
use denote.Shadow.{shadow}
use denote.Text.{Utf8}
use Rattle.lam_lexer.proofs.Runs.{Lined}
use Rattle.lam_lexer.proofs.lexer.line_run.Given as goal

abbrev pub invariant-loop-c : goal.invariant-loop-c
invariant-loop-c l = record {
  utf8 : shadow (Utf8 l.rest);
  lined : Lined (chars l.text) l.at (chars l.rest) l.to;
}

abbrev pub decreases-loop-c : goal.decreases-loop-c
decreases-loop-c l = length (chars l.rest)
