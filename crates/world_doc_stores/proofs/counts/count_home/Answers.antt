use Rattle.std.proofs.Common.{sym, ◌∙◌}
use Rattle.serde_json.specs.View.{view}
use Rattle.lam_value.specs.Homes.{home_of}
use Rattle.world_doc_stores.specs.Seen.{members}
use Rattle.world_doc_stores.proofs.CounterLemmas.{next_counted}
use Rattle.world_doc_stores.proofs.counts.count_home.Goals as goal

pub returns-clause-gives : goal.returns-clause-gives
returns-clause-gives c =
    next_counted c.args.counts.now c.put_count.new.counts (home_of c.args.maker.now c.args.own.now) c.in_ok-next.next (members (view c.args.item.now)) (sym c.has_made.ensures ∙ c.if-has_made.false) c.in_ok-next.ensures.gives c.in_ok-put_count.ensures.counts
