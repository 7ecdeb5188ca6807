use Rattle.std.proofs.Common.{sym, ap, ◌∙◌}
use Rattle.std.proofs.lemmas.Result.{IfOk-weaker}
use Rattle.lam_meaning.specs.Trees.{on_end}
use Rattle.source_walk_state.specs.Meaning.{replied, after}
use Rattle.source_walk_parts.specs.States.{state_of}
use Rattle.source_walk_follow.proofs.answers.with_reply.Goals as goal

pub returns-in-Value : goal.returns-in-Value
returns-in-Value c =
    IfOk-weaker c.with_value.result _ _ (λ d h r. h r ∙ ap (λ y. on_end (replied c.args.ask.now y (state_of c.args.w.now).units (state_of c.args.w.now).own c.args.answer.now) (after r (state_of c.args.w.now).frames (state_of c.args.w.now).place)) (sym c.in-Value.is)) c.with_value.ensures

pub returns-in-Done : goal.returns-in-Done
returns-in-Done c =
    λ r. c.with_nothing.ensures r (state_of c.args.w.now) ∙ ap (λ y. on_end (replied c.args.ask.now y (state_of c.args.w.now).units (state_of c.args.w.now).own c.args.answer.now) (after r (state_of c.args.w.now).frames (state_of c.args.w.now).place)) (sym c.in-Done.is)
