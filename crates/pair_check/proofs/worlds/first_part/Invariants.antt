use Rattle.std.proofs.Common.{◌<◌}
use Rattle.pair_check_terms.specs.declared.answer.Part.{Part}
use Rattle.pair_check_terms.specs.Parts.{place, IsSame}
use Rattle.pair_check.proofs.worlds.first_part.Given as goal

abbrev pub invariant-loop-part : goal.invariant-loop-part
invariant-loop-part l = (p : Part) → place p < l.part-index → IsSame l.observer l.a l.b p
