use Rattle.std.proofs.Common.{◌<◌, ◌≤◌, length, subst}
use Rattle.world_save_text.proofs.Lists.{tag_written, no_tags, list_end}
use Rattle.world_save_text.proofs.tags.write_each.Goals as goal

pub loop-at-preserved : goal.loop-at-preserved
loop-at-preserved c =
    tag_written c.args.public.now c.args.names.now c.loop-at.at (subst (λ n. c.loop-at.at < n) c.count-at-end.ensures c.loop-at-test.true) _ _ _ _ c.loop-at.invariant c.in_ok-write_tag_at.ensures

pub returns : goal.returns
returns c = list_end c.raw.result _ _ _ _ _ _ (no_tags c.args.public.now c.args.names.now c.loop-at.at (subst (λ n. n ≤ c.loop-at.at) c.count-at-end.ensures c.loop-at-test.false)) c.loop-at.invariant c.raw.ensures
