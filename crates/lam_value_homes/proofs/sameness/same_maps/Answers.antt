use Rattle.std.proofs.Common.{◌≡◌, ◌∙◌, sym, ap, true, false}
use Rattle.std.specs.Option.{option_copied}
use Rattle.std.proofs.lemmas.Bool.{eqb-true}
use Rattle.lam_value_homes.specs.Alike.{is_shown}
use Rattle.lam_value_homes.proofs.Rows.{label_same}
use Rattle.lam_value_homes.proofs.SameLemmas.{alike_where, as_many_shown, has_alike_from}
use Rattle.lam_value_homes.proofs.sameness.same_maps.Goals as goal

pub returns-then-count_shown : goal.returns-then-count_shown
returns-then-count_shown g c =
    let shown = λ (k : g.row.K.Denot). is_shown (option_copied c.args.observer) (g.K.Labelled.label_of k) in
    let follows = λ (x y : g.row.K.Denot) (e : g.K.PartialEq.eq x y ≡ true). ap (is_shown (option_copied c.args.observer)) (label_same (g.K.Labelled.label_of x) (g.K.Labelled.label_of y) (g.met.K.Labelled.label_follows x y e)) in (
      λ t. alike_where g.met.K.Eq.laws shown follows g.V.Same.IsSame c.args.a.now.entries c.args.b.now.entries c.count_shown.ensures.unique c.count_shown-2.ensures.unique (sym c.count_shown.ensures.count ∙ c.if-count_shown.true ∙ c.count_shown-2.ensures.count) (c.has_alike.ensures.0 t),
      λ all. c.has_alike.ensures.1 (has_alike_from g.met.K.Eq.laws shown follows g.V.Same.IsSame c.args.a.now.entries c.args.b.now.entries c.count_shown.ensures.unique c.count_shown-2.ensures.unique all),
    )

pub returns-else-count_shown : goal.returns-else-count_shown
returns-else-count_shown g c =
    let shown = λ (k : g.row.K.Denot). is_shown (option_copied c.args.observer) (g.K.Labelled.label_of k) in
    let follows = λ (x y : g.row.K.Denot) (e : g.K.PartialEq.eq x y ≡ true). ap (is_shown (option_copied c.args.observer)) (label_same (g.K.Labelled.label_of x) (g.K.Labelled.label_of y) (g.met.K.Labelled.label_follows x y e)) in (
      λ t. absurd (c.if-count_shown.false (eqb-true c.count_shown.result c.count_shown-2.result t)),
      λ all. let same = as_many_shown g.met.K.Eq.laws shown follows g.V.Same.IsSame c.args.a.now.entries c.args.b.now.entries c.count_shown.ensures.unique c.count_shown-2.ensures.unique all in absurd (c.if-count_shown.false (c.count_shown.ensures.count ∙ same ∙ sym c.count_shown-2.ensures.count)),
    )
