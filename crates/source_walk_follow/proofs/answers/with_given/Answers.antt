use Rattle.std.proofs.Common.{refl, sym, ap, ◌∙◌}
use Rattle.lam_asks.specs.declared.answer.Answer.TheVariants.{Val}
use Rattle.lam_meaning.specs.Trees.{nothing_gained}
use Rattle.source_walk_follow.proofs.Given.{given_value, given_refusal, given_failure, given_done, given_entry}
use Rattle.source_walk_follow.proofs.answers.with_given.Goals as goal

pub returns-in-Refused : goal.returns-in-Refused
returns-in-Refused c = λ r s. given_refusal r s c.args.answer.now nothing_gained _ c.in-Refused.is

pub returns-in-Failed : goal.returns-in-Failed
returns-in-Failed c = λ r s. given_failure r s c.args.answer.now nothing_gained c.in-Failed.fault c.in-Failed.is

pub returns-in-Done : goal.returns-in-Done
returns-in-Done c = λ r s. given_done r s c.args.answer.now nothing_gained c.in-Done.is

pub returns-in-Entered : goal.returns-in-Entered
returns-in-Entered c = λ r s. given_entry r s c.args.answer.now nothing_gained c.in-Entered.is

pub returns-in_ok-copy-in-Val : goal.returns-in_ok-copy-in-Val
returns-in_ok-copy-in-Val c = λ r s. given_value r s c.args.answer.now nothing_gained c.in_ok-copy-in-Val.field-0 s (c.in-Val.is ∙ ap (λ v. Val v) (sym c.in_ok-copy-in-Val.ensures)) refl
