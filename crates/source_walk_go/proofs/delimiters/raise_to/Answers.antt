use Rattle.source_walk_parts.proofs.Steps.{if_ok}
use Rattle.source_walk_parts.specs.States.{state_of}
use Rattle.source_walk_go.proofs.Waiting.{by_frame}
use Rattle.source_walk_go.proofs.DelimiterFrames.{raise_passes}
use Rattle.source_walk_go.proofs.delimiters.raise_to.Goals as goal

pub returns-in-Called : goal.returns-in-Called
returns-in-Called c = λ r. by_frame (state_of c.args.w.now) c.in-Called.is (c.fail_call.ensures r)

pub returns-in-Region : goal.returns-in-Region
returns-in-Region c = if_ok c.fail_region.result _ _ c.fail_region.ensures (λ d h r. by_frame (state_of c.args.w.now) c.in-Region.is (h r))

pub returns-in-Catch : goal.returns-in-Catch
returns-in-Catch c = λ r. by_frame (state_of c.args.w.now) c.in-Catch.is (c.suppress.ensures r)

pub returns-in_default : goal.returns-in_default
returns-in_default c = λ r. raise_passes r (state_of c.args.w.now) c.args.fault c.args.frame c.in_default.not-Called c.in_default.not-Region c.in_default.not-Catch
