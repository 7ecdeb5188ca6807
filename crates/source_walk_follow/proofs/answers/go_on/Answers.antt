use Rattle.std.proofs.lemmas.Result.{IfOk-weaker}
use Rattle.source_walk_parts.specs.States.{state_of}
use Rattle.source_walk_follow.specs.Standing.{made_by}
use Rattle.source_walk_follow.proofs.GoesBy.{by_ask, by_new, by_spawn, by_enter, by_end, makes_none, no_ask}
use Rattle.source_walk_follow.proofs.answers.go_on.Goals as goal

pub returns-in-Ask : goal.returns-in-Ask
returns-in-Ask c =
    IfOk-weaker c.with_reply.result _ _ (λ d h r. by_ask r (state_of c.args.w.now) c.args.ask.now c.args.answer.now d (state_of c.with_reply.new.w) c.args.control.now _ _ c.in-Ask.reply c.in-Ask.is (h r) c.requires) c.with_reply.ensures

pub returns-in-New : goal.returns-in-New
returns-in-New c =
    IfOk-weaker c.with_given.result _ _ (λ d h r. by_new r (state_of c.args.w.now) c.args.ask.now c.args.answer.now d (state_of c.args.w.now) c.args.control.now _ c.in-New.is (h r (state_of c.args.w.now)) c.requires) c.with_given.ensures

pub returns-in-Spawn : goal.returns-in-Spawn
returns-in-Spawn c =
    IfOk-weaker c.with_given-in-Spawn.result _ _ (λ d h r. by_spawn r (state_of c.args.w.now) c.args.ask.now c.args.answer.now d (state_of c.args.w.now) c.args.control.now _ _ _ c.in-Spawn.is (h r (state_of c.args.w.now)) c.requires) c.with_given-in-Spawn.ensures

pub returns-in-Enter : goal.returns-in-Enter
returns-in-Enter c =
    IfOk-weaker c.with_region.result _ _ (λ d h r. by_enter r (state_of c.args.w.now) c.args.ask.now c.args.answer.now d (state_of c.with_region.new.w) c.args.control.now c.in-Enter.depth c.in-Enter.label c.in-Enter.caps c.in-Enter.region c.in-Enter.is (h r) c.requires) c.with_region.ensures

pub returns-in-End : goal.returns-in-End
returns-in-End c = λ r. by_end r (state_of c.args.w.now) c.args.ask.now c.args.answer.now c.args.control.now _ (state_of c.args.w.now) c.in-End.is c.requires

pub returns-in_default : goal.returns-in_default
returns-in_default c =
    λ r e. absurd (no_ask c.args.ask.now (made_by r c.args.control.now (state_of c.args.w.now).own) (makes_none r (state_of c.args.w.now).own c.args.control.now c.in_default.not-Ask c.in_default.not-New c.in_default.not-Spawn c.in_default.not-Enter c.in_default.not-End) e)
