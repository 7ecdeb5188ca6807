use Rattle.std.proofs.Common.{◌<◌, ◌^◌, length, chars, IfSome}
use denote.Shadow.{shadow}
use denote.Text.{Utf8}
use Rattle.lam_lexer.proofs.Runs.{Counted}
use Rattle.lam_lexer.proofs.lexer.digits_run.Given as goal

abbrev pub invariant-loop-c : goal.invariant-loop-c
invariant-loop-c l = record {
  utf8 : shadow (Utf8 l.rest);
  counted : Counted l.fn.first (chars l.after) l.value l.count (chars l.rest);
  small : IfSome l.value (λ v. v < 2 ^ 63);
}

abbrev pub decreases-loop-c : goal.decreases-loop-c
decreases-loop-c l = length (chars l.rest)
