use Rattle.std.proofs.Common.{chars}
use Rattle.lam_lexer.specs.Reading.{size}
use denote.Shadow.{shadow}
use denote.Text.{Utf8}
use Rattle.lam_lexer.proofs.TextRuns.{TextSoFar}
use Rattle.lam_lexer.proofs.text.text_run.Given as goal

abbrev pub invariant-loop-behind : goal.invariant-loop-behind
invariant-loop-behind l = record {
  utf8 : shadow (Utf8 l.rest);
  so_far : TextSoFar l.quote (chars l.text) l.bytes.items (chars l.rest) l.to;
}

abbrev pub decreases-loop-behind : goal.decreases-loop-behind
decreases-loop-behind l = size (chars l.rest)
