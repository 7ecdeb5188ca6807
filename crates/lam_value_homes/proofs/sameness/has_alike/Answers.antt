use Rattle.std.proofs.Common.{false, refl, sym, subst, arith}
use Rattle.std.specs.Option.{option_copied}
use Rattle.std.specs.Map.{lookup}
use Rattle.lam_value_homes.specs.Alike.{is_shown, HasAlike}
use Rattle.lam_value_homes.proofs.Maps.{not_none}
use Rattle.lam_value_homes.proofs.Rows.{taken_all}
use Rattle.lam_value_homes.proofs.SameLemmas.{alike_more, alike_one}
use Rattle.lam_value_homes.proofs.sameness.has_alike.Goals as goal

pub loop-at-preserved : goal.loop-at-preserved
loop-at-preserved g c =
    alike_more (λ k. is_shown (option_copied c.args.observer) (g.K.Labelled.label_of k)) g.V.Same.IsSame (λ q. lookup (g.K.PartialEq.eq q) c.args.b.now.entries) c.args.a.now.entries c.loop-at.at (c.in-Some.key.now, c.in-Some.value.now)
    (sym c.in-Some.ensures.entry) c.loop-at.invariant (c.is_alike.ensures.0 c.if-not-is_alike.false)

pub returns-then-not-is_alike : goal.returns-then-not-is_alike
returns-then-not-is_alike g c = (
  λ f. cc,
  λ all. c.if-not-is_alike.ensures.1 (alike_one (λ k. is_shown (option_copied c.args.observer) (g.K.Labelled.label_of k)) g.V.Same.IsSame (λ q. lookup (g.K.PartialEq.eq q) c.args.b.now.entries) c.args.a.now.entries c.loop-at.at (c.in-Some.key.now, c.in-Some.value.now)
      (sym c.in-Some.ensures.entry) all),
)

pub returns : goal.returns
returns g c = (
  λ _. subst (HasAlike (λ k. is_shown (option_copied c.args.observer) (g.K.Labelled.label_of k)) g.V.Same.IsSame (λ q. lookup (g.K.PartialEq.eq q) c.args.b.now.entries))
      (taken_all c.args.a.now.entries c.loop-at.at c.len-at-end.result c.loop-at-test.false c.len-at-end.ensures.len) c.loop-at.invariant,
  λ _. refl,
)

pub unreachable-requires : goal.unreachable-requires
unreachable-requires g c = not_none _ (c.get_index.ensures.found.1 (omega (arith, c.len-at-end.ensures.len))) c.in_default.is
