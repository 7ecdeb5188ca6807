use Rattle.std.proofs.Common.{◌∙◌}
use Rattle.lam_value.specs.Homes.{home_of}
use Rattle.world_doc_stores.proofs.CounterLemmas.{both_counted}
use Rattle.world_doc_stores.proofs.counts.put_count.Goals as goal

pub returns-clause-files : goal.returns-clause-files
returns-clause-files c =
    c.in_ok-raise_counter.ensures.ok ∙ both_counted c.args.files.now c.args.counts.now c.raise.new.self (home_of c.args.maker.now c.args.own.now) c.args.next c.requires.new c.requires.some c.requires.both c.in_ok-raise.ensures.ok
