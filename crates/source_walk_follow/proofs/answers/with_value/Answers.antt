use Rattle.std.proofs.Common.{sym, ap, ◌∙◌}
use Rattle.lam_asks.specs.declared.answer.Answer.TheVariants.{Val}
use Rattle.lam_meaning.specs.Trees.{gained}
use Rattle.source_walk_parts.specs.States.{state_of, with_own}
use Rattle.source_walk_follow.proofs.Given.{given_value, given_refusal, given_failure, given_done, given_entry}
use Rattle.source_walk_follow.proofs.answers.with_value.Goals as goal

pub returns-in-Refused : goal.returns-in-Refused
returns-in-Refused c = λ r. given_refusal r (state_of c.args.w.now) c.args.answer.now (gained c.args.ask.now) _ c.in-Refused.is

pub returns-in-Failed : goal.returns-in-Failed
returns-in-Failed c = λ r. given_failure r (state_of c.args.w.now) c.args.answer.now (gained c.args.ask.now) c.in-Failed.fault c.in-Failed.is

pub returns-in-Done : goal.returns-in-Done
returns-in-Done c = λ r. given_done r (state_of c.args.w.now) c.args.answer.now (gained c.args.ask.now) c.in-Done.is

pub returns-in-Entered : goal.returns-in-Entered
returns-in-Entered c = λ r. given_entry r (state_of c.args.w.now) c.args.answer.now (gained c.args.ask.now) c.in-Entered.is

pub returns-in_ok-copy-in-Val : goal.returns-in_ok-copy-in-Val
returns-in_ok-copy-in-Val c =
    λ r. given_value r (state_of c.args.w.now) c.args.answer.now (gained c.args.ask.now) c.in_ok-copy-in-Val.field-0 (state_of c.gain.new.w) (c.in-Val.is ∙ ap (λ v. Val v) (sym c.in_ok-copy-in-Val.ensures))
    (c.in_ok-gain-in-Val.ensures ∙ ap (λ v. with_own (state_of c.args.w.now) (gained c.args.ask.now v (state_of c.args.w.now).own)) (sym c.in_ok-copy-in-Val.ensures))
