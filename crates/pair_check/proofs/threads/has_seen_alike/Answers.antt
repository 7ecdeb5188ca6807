use Rattle.std.specs.Option.{option_copied}
use Rattle.lam_machine_terms.specs.Worlds.{contexts_in}
use Rattle.pair_check.proofs.WorldLemmas.{alike_reversed}
use Rattle.pair_check.proofs.threads.has_seen_alike.Goals as goal

pub returns : goal.returns
returns c =
    alike_reversed c.args.observer.now c.same_seen.result c.contexts_of.result.now c.contexts_of-2.result.now (contexts_in (option_copied c.args.a)) (contexts_in (option_copied c.args.b))
    c.same_seen.ensures c.contexts_of.ensures c.contexts_of-2.ensures
