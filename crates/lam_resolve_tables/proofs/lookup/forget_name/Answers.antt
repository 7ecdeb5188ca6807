use Rattle.std.proofs.Common.{◌-◌, take, Some, sym, ap, ◌∙◌}
use Rattle.lam_resolve_tables.proofs.NamedLemmas.{forget, keep, unlike_none, unlike_some}
use Rattle.lam_resolve_tables.proofs.lookup.forget_name.Goals as goal

pub returns-then-at-number : goal.returns-then-at-number
returns-then-at-number c = λ ks e m.
    forget c.args.index.now.entries c.truncate.new.self.entries c.args.name.now c.args.number ks e m
    (sym c.get.ensures.value ∙ sym c.copied-known.ensures ∙ c.in-Some.is ∙ ap Some c.if-at-number.true)
    (c.truncate.ensures.entries ∙ ap (λ n. take n c.args.index.now.entries) (c.saturating_sub.ensures ∙ ap (λ n. n - 1) c.len.ensures.len))

pub returns-else-at-number : goal.returns-else-at-number
returns-else-at-number c = λ ks e m.
    keep c.args.index.now.entries c.args.name.now c.args.number ks e m
    (unlike_some _ _ _ (sym c.get.ensures.value ∙ sym c.copied-known.ensures ∙ c.in-Some.is) c.if-at-number.false)

pub returns-in_default : goal.returns-in_default
returns-in_default c = λ ks e m.
    keep c.args.index.now.entries c.args.name.now c.args.number ks e m
    (unlike_none _ _ (sym c.get.ensures.value ∙ sym c.copied-known.ensures ∙ c.in_default.is))
