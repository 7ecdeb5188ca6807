use Rattle.std.proofs.Common.{string_bytes}
use Rattle.lam_print.proofs.Writing.{IndentSoFar}
use Rattle.lam_print.proofs.words.put_line.Given as goal

abbrev pub invariant-loop-i : goal.invariant-loop-i
invariant-loop-i l = IndentSoFar l.depth (string_bytes l.initial.out) (string_bytes l.out) l._i
