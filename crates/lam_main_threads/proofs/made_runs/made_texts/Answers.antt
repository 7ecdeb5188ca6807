use Rattle.std.proofs.Common.{◌∙◌}
use Rattle.lam_main_threads.proofs.TakenLemmas.{made_offers, no_made_offers}
use Rattle.lam_main_threads.proofs.made_runs.made_texts.Goals as goal

pub returns-in-Ok-clause-offers : goal.returns-in-Ok-clause-offers
returns-in-Ok-clause-offers g c = made_offers c.args.seed c.args.threads c.as_bytes.result.now (c.as_bytes.ensures.value ∙ c.requires.program) c.args.world.now c.in-Ok.code c.made_code.result c.requires.world c.in-Ok.ensures.finds c.made_code.ensures.offers

pub returns-in-Err-clause-offers : goal.returns-in-Err-clause-offers
returns-in-Err-clause-offers g c = no_made_offers c.args.seed c.args.threads c.as_bytes.result.now (c.as_bytes.ensures.value ∙ c.requires.program) c.in-Err.halt c.in-Err.ensures.finds
