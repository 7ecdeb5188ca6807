use Rattle.std.proofs.Common.{sym, ap, ◌∙◌}
use Rattle.lam_asks.specs.Suits.{suits}
use Rattle.source_walk_state.specs.Meaning.{sort_seen}
use Rattle.source_walk_parts.specs.States.{state_of}
use Rattle.source_walk_follow.proofs.Standing.{unsuited}
use Rattle.source_walk_follow.proofs.answers.answered.Goals as goal

pub go_on-requires : goal.go_on-requires
go_on-requires c = ap (λ q. suits (sort_seen q) c.args.ask.now c.args.answer.now) (sym c.sort_at-sort.ensures) ∙ (sym c.suits.ensures ∙ c.if-suits.true)

pub returns-else-suits : goal.returns-else-suits
returns-else-suits c =
    λ r e. unsuited r (state_of c.args.w.now) c.args.control.now c.args.ask.now c.args.answer.now (state_of c.args.w.now) e (ap (λ q. suits (sort_seen q) c.args.ask.now c.args.answer.now) (sym c.sort_at-sort.ensures) ∙ (sym c.suits.ensures ∙ c.if-suits.false))
