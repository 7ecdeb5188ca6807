use Rattle.std.proofs.Common.{◌<◌, arith}
use Rattle.pair_check_terms.specs.Parts.{place}
use Rattle.pair_check_terms.proofs.PartLemmas.{agree_by_parts, places_few}
use Rattle.pair_check.proofs.worlds.first_part.Goals as goal

pub returns : goal.returns
returns c = agree_by_parts c.args.observer.now c.args.a.now c.args.b.now (λ p. let few : place p < 7 = places_few p in c.loop-part.invariant p (omega arith))
