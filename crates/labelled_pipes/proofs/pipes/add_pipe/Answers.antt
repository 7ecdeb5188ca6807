use Rattle.std.proofs.Common.{◌≡◌, ◌∙◌, cond, Some}
use Rattle.std.specs.Map.{lookup}
use Rattle.lam_value.specs.Homes.{home_of, name_of}
use Rattle.lam_value.proofs.Keys.{name_eq}
use Rattle.labelled_pipes.proofs.pipes.add_pipe.Goals as goal

pub returns-clause-queues : goal.returns-clause-queues
returns-clause-queues c q =
    let named : c.in_ok-key.key ≡ name_of (home_of c.args.maker.now c.args.own.now) c.args.number = c.in_ok-key.ensures ∙ c.in_ok-name.ensures in
    c.in-Ok.ensures.updates.0 q
    ∙ (λ i. cond (name_eq (named i) q) (Some (c.new.ensures i)) (lookup (name_eq q) (c.in_ok-reserve.ensures.entries i)))
