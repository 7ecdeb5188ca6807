use Rattle.std.proofs.Common.{◌≡◌, ◌+◌, ◌∙◌, ℕ, true, false, sym, ap, cond, length, take, arith}
use Rattle.std.specs.Option.{option_copied}
use Rattle.std.specs.List.{filter}
use Rattle.lam_value_homes.specs.Alike.{is_shown}
use Rattle.lam_value_homes.proofs.Maps.{not_none}
use Rattle.lam_value_homes.proofs.Rows.{taken_all}
use Rattle.lam_value_homes.proofs.SameLemmas.{count_more}
use Rattle.lam_value_homes.proofs.sameness.count_shown.Goals as goal
use Rattle.lam_value_homes.proofs.sameness.count_shown.Goals.{then-is_shown, else-is_shown}

zeroed : (n : ℕ) → n + 0 ≡ n
zeroed n = omega arith

pub loop-at-preserved : goal.loop-at-preserved
loop-at-preserved g c =
    let p = λ (e : g.row.K.Denot × g.row.V.Denot). is_shown (option_copied c.args.observer) (g.K.Labelled.label_of e.0) in
    let es = c.args.map.now.entries in
    let e : g.row.K.Denot × g.row.V.Denot = (c.in-Some.key.now, c.in-Some.field-0-1.now) in
    let more = count_more p es c.loop-at.at e (sym c.in-Some.ensures.entry) in
    let tested : c.is_shown.result ≡ p e = c.is_shown.ensures ∙ ap (is_shown (option_copied c.args.observer)) c.label.ensures in
    elim c.if-is_shown.branch [
      | then-is_shown w ↦ record {
        count = w.count-is ∙ ap (λ n. n + 1) c.loop-at.invariant.count ∙ ap (λ b. length (filter p (take c.loop-at.at es)) + cond b 1 0) (sym w.if-is_shown.true ∙ tested) ∙ sym more;
        few = omega (arith, w.count-is, c.loop-at.invariant.few);
      }
      | else-is_shown w ↦ record {
        count = w.count-is ∙ c.loop-at.invariant.count ∙ sym (more ∙ ap (λ b. length (filter p (take c.loop-at.at es)) + cond b 1 0) (sym tested ∙ w.if-is_shown.false) ∙ zeroed _);
        few = omega (arith, w.count-is, c.loop-at.invariant.few);
      }
    ]

pub returns : goal.returns
returns g c =
    let p = λ (e : g.row.K.Denot × g.row.V.Denot). is_shown (option_copied c.args.observer) (g.K.Labelled.label_of e.0) in
    record {
      count = c.loop-at.invariant.count ∙ ap (λ es. length (filter p es)) (taken_all c.args.map.now.entries c.loop-at.at c.len-at-end.result c.loop-at-test.false c.len-at-end.ensures.len);
      unique = c.len-at-end.ensures.unique;
    }

pub unreachable-requires : goal.unreachable-requires
unreachable-requires g c = not_none _ (c.get_index.ensures.found.1 (omega (arith, c.len-at-end.ensures.len))) c.in_default.is
