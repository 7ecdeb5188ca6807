use Rattle.source_walk_follow.proofs.Given.{null_done, null_refusal, null_failure, null_value, null_entry}
use Rattle.source_walk_follow.proofs.answers.with_nothing.Goals as goal

pub returns-in-Done : goal.returns-in-Done
returns-in-Done c = λ r s. null_done r s c.args.answer.now c.in-Done.is

pub returns-in-Refused : goal.returns-in-Refused
returns-in-Refused c = λ r s. null_refusal r s c.args.answer.now _ c.in-Refused.is

pub returns-in-Failed : goal.returns-in-Failed
returns-in-Failed c = λ r s. null_failure r s c.args.answer.now c.in-Failed.fault c.in-Failed.is

pub returns-in-Val : goal.returns-in-Val
returns-in-Val c = λ r s. null_value r s c.args.answer.now _ c.in-Val.is

pub returns-in-Entered : goal.returns-in-Entered
returns-in-Entered c = λ r s. null_entry r s c.args.answer.now c.in-Entered.is
