use Rattle.std.proofs.Common.{◌∙◌, ◌<◌, ap, sym, subst}
use Rattle.std.specs.Map.{lookup}
use Rattle.std.specs.FinMap.{insert}
use Rattle.lam_value.proofs.Keys.{name_eq}
use Rattle.lam_value.proofs.Maps.{on_ok_so, on_err_so}
use Rattle.lam_value.proofs.CountLemmas.{either_way}
use Rattle.monitor_core.specs.Held.{once_more, count_of, held_in, IsSound}
use Rattle.monitor_core.proofs.HeldLemmas.{holder_seen, put, kept, entered_sound}
use Rattle.monitor_core.proofs.Monitors.enter.Goals as goal

pub take-requires : goal.take-requires
take-requires c = subst (λ o. count_of o < 1048576) (sym (holder_seen c.self.inside.holders.entries c.args.self.now c.self.view_is c.args.r.now)) c.requires.room

pub invariant_of-self : goal.invariant_of-self
invariant_of-self c =
    let es = c.self.inside.holders.entries in
    let m = c.args.self.now in
    let sound = subst IsSound c.self.view_is c.self.invariant in
    either_way (IsSound (held_in c.take.new.holders.entries)) c.take.result c.take.ensures.ok c.take.ensures.err
    (λ is. subst IsSound (sym (put es m c.self.view_is c.take.new.holders.entries c.args.r.now (once_more (lookup (name_eq c.args.r.now) es) c.args.thread) is
    ∙ ap (λ o. insert m c.args.r.now (once_more o c.args.thread)) (holder_seen es m c.self.view_is c.args.r.now)))
    (entered_sound m c.args.r.now c.args.thread sound c.requires.room))
    (λ same. subst IsSound (sym (kept es m c.self.view_is c.take.new.holders.entries same)) sound)

pub returns-clause-ok : goal.returns-clause-ok
returns-clause-ok c =
    let es = c.self.inside.holders.entries in
    let m = c.args.self.now in
    on_ok_so _ _ c.take.result
    (λ is. put es m c.self.view_is c.take.new.holders.entries c.args.r.now (once_more (lookup (name_eq c.args.r.now) es) c.args.thread) is
    ∙ ap (λ o. insert m c.args.r.now (once_more o c.args.thread)) (holder_seen es m c.self.view_is c.args.r.now))
    c.take.ensures.ok

pub returns-clause-err : goal.returns-clause-err
returns-clause-err c = on_err_so _ _ c.take.result (λ same. kept c.self.inside.holders.entries c.args.self.now c.self.view_is c.take.new.holders.entries same) c.take.ensures.err
