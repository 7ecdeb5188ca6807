use Rattle.std.proofs.lemmas.Result.{IfOk-weaker}
use Rattle.source_walk_state.specs.Meaning.{entered, region_locals}
use Rattle.source_walk_parts.specs.States.{state_of}
use Rattle.source_walk_follow.proofs.Given.{enter_entered, enter_refusal, enter_failure, enter_value, enter_done}
use Rattle.source_walk_follow.proofs.answers.with_region.Goals as goal

pub returns-in-Entered : goal.returns-in-Entered
returns-in-Entered c = IfOk-weaker c.enter.result _ _ (λ d h r. enter_entered r (state_of c.args.w.now) c.args.answer.now (entered r c.args.depth c.args.label.now c.args.caps.now c.args.region (region_locals (state_of c.args.w.now).own c.args.region) (state_of c.args.w.now).units (state_of c.args.w.now).own) d (state_of c.enter.new.w) c.in-Entered.is (h r)) c.enter.ensures

pub returns-in-Refused : goal.returns-in-Refused
returns-in-Refused c = λ r. enter_refusal r (state_of c.args.w.now) c.args.answer.now (entered r c.args.depth c.args.label.now c.args.caps.now c.args.region (region_locals (state_of c.args.w.now).own c.args.region) (state_of c.args.w.now).units (state_of c.args.w.now).own) _ c.in-Refused.is

pub returns-in-Failed : goal.returns-in-Failed
returns-in-Failed c = λ r. enter_failure r (state_of c.args.w.now) c.args.answer.now (entered r c.args.depth c.args.label.now c.args.caps.now c.args.region (region_locals (state_of c.args.w.now).own c.args.region) (state_of c.args.w.now).units (state_of c.args.w.now).own) c.in-Failed.fault c.in-Failed.is

pub returns-in-Val : goal.returns-in-Val
returns-in-Val c = λ r. enter_value r (state_of c.args.w.now) c.args.answer.now (entered r c.args.depth c.args.label.now c.args.caps.now c.args.region (region_locals (state_of c.args.w.now).own c.args.region) (state_of c.args.w.now).units (state_of c.args.w.now).own) _ c.in-Val.is

pub returns-in-Done : goal.returns-in-Done
returns-in-Done c = λ r. enter_done r (state_of c.args.w.now) c.args.answer.now (entered r c.args.depth c.args.label.now c.args.caps.now c.args.region (region_locals (state_of c.args.w.now).own c.args.region) (state_of c.args.w.now).units (state_of c.args.w.now).own) c.in-Done.is
