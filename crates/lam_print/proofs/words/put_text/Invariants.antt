use Rattle.std.proofs.Common.{length, ◌-◌, ◌++◌, ◌∷◌, string_bytes}
use Rattle.lam_print.specs.Pieces.{spell_text}
use Rattle.lam_print.proofs.Writing.{TextSoFar}
use Rattle.lam_print.proofs.words.put_text.Given as goal

abbrev pub invariant-loop-i : goal.invariant-loop-i
invariant-loop-i l = TextSoFar (string_bytes l.out) l.bs l.i (string_bytes l.fn.out ++ 34 ∷ spell_text l.bs)

abbrev pub decreases-loop-i : goal.decreases-loop-i
decreases-loop-i l = length l.bs - l.i
