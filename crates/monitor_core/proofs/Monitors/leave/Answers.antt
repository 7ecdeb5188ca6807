use Rattle.std.proofs.Common.{◌≡◌, ◌∙◌, ap, sym, subst}
use Rattle.std.specs.Map.{lookup}
use Rattle.lam_value.proofs.Keys.{name_eq}
use Rattle.monitor_core.specs.Held.{held_in, held_by, one_less, left, IsSound}
use Rattle.monitor_core.proofs.HeldLemmas.{holder_seen, held_seen, left_sound}
use Rattle.monitor_core.proofs.Monitors.leave.Goals as goal

pub returns : goal.returns
returns c =
    let es = c.self.inside.holders.entries in
    let r = c.args.r.now in
    held_seen es c.args.self.now c.self.view_is c.lower.new.holders.entries r (one_less (lookup (name_eq r) es) c.args.thread) c.lower.ensures
    ∙ ap (λ o. held_by (one_less o c.args.thread) c.args.self.now r) (holder_seen es c.args.self.now c.self.view_is r)

pub invariant_of-self : goal.invariant_of-self
invariant_of-self c =
    let es = c.self.inside.holders.entries in
    let r = c.args.r.now in
    let is : held_in c.lower.new.holders.entries ≡ left c.args.self.now r c.args.thread =
    held_seen es c.args.self.now c.self.view_is c.lower.new.holders.entries r (one_less (lookup (name_eq r) es) c.args.thread) c.lower.ensures
    ∙ ap (λ o. held_by (one_less o c.args.thread) c.args.self.now r) (holder_seen es c.args.self.now c.self.view_is r) in
    subst IsSound (sym is) (left_sound c.args.self.now r c.args.thread (subst IsSound c.self.view_is c.self.invariant))
