use Rattle.std.proofs.Common.{◌∙◌, ap, sym, cond, Some}
use Rattle.std.specs.Option.{option_copied_mut}
use Rattle.std.specs.HashMap.{get}
use Rattle.lam_value.proofs.Keys.{name_eq}
use Rattle.monitor_core.specs.Held.{once_more}
use Rattle.monitor_core.proofs.take.Goals as goal

pub returns-clause-ok : goal.returns-clause-ok
returns-clause-ok c q =
    let none = sym c.get_mut.ensures.value ∙ ap option_copied_mut c.in_default.is in
    c.in_ok-insert.ensures.updates.0 q
    ∙ (λ i. cond (name_eq (c.in_ok-copy.ensures i) q) (Some (once_more (sym none i) c.args.thread)) (get name_eq (c.get_mut.follows.holds-at-none i) q))
