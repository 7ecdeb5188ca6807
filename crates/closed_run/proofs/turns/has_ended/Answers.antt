use Rattle.std.proofs.Common.{sym, ap, ◌∙◌}
use Rattle.std.specs.Prelude.{slice_get}
use Rattle.lam_machine_terms.specs.Turns.{is_living}
use Rattle.closed_run.proofs.ReadyLemmas.{one_lives, none_found, one_found}
use Rattle.closed_run.proofs.turns.has_ended.Goals as goal

pub returns-then-lives : goal.returns-then-lives
returns-then-lives c = sym (one_lives c.args.world.now.threads c.args.thread (ap (λ ths. is_living (slice_get ths c.args.thread)) (sym c.threads.ensures.threads) ∙ sym c.lives.ensures ∙ c.if-lives.true))

pub returns-in-None : goal.returns-in-None
returns-in-None c = none_found c.args.world.now c.living_in.result c.in-None.is c.living_in.ensures

pub returns-in-Some : goal.returns-in-Some
returns-in-Some c = one_found c.args.world.now c.living_in.result c.in-Some.field-0 c.in-Some.is c.living_in.ensures
