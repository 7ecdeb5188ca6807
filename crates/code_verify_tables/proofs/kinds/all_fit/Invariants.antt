use Rattle.std.proofs.Common.{◌≡◌, drop}
use Rattle.guarded_code.specs.Breaks.{all_fit}
use Rattle.code_verify_tables.specs.Seen.{places_seen}
use Rattle.code_verify_tables.proofs.kinds.all_fit.Given as goal

abbrev pub invariant-loop-i : goal.invariant-loop-i
invariant-loop-i l = all_fit (places_seen l.places) l.stack ≡ all_fit (drop l.i (places_seen l.places)) (drop l.i l.stack)
