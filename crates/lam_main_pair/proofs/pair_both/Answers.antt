use Rattle.std.proofs.Common.{string_bytes}
use Rattle.lam_main_pair.proofs.PairLemmas.{both_say, no_half_says}
use Rattle.lam_main_pair.proofs.pair_both.Goals as goal

pub returns-in-Ok-clause-says : goal.returns-in-Ok-clause-says
returns-in-Ok-clause-says g c = λ told.
    both_say (g.H.Shelf.files c.args.shelf.now) (string_bytes c.args.book) c.args.code.now c.args.observer.now c.args.first c.args.start c.in-Ok.second c.answered.result (c.in-Ok.ensures.finds told) c.answered.ensures.ok c.answered.ensures.err

pub returns-in-Err-clause-says : goal.returns-in-Err-clause-says
returns-in-Err-clause-says g c = λ told.
    no_half_says (g.H.Shelf.files c.args.shelf.now) (string_bytes c.args.book) c.args.code.now c.args.observer.now c.args.first c.args.start c.in-Err.halt (c.in-Err.ensures.finds told)
