use Rattle.std.proofs.Common.{◌∙◌, ap, sym, arith}
use Rattle.std.specs.HashMap.{IsUnique}
use Rattle.std.specs.Map.{lookup}
use Rattle.lam_value_homes.specs.Homes.{Home, home_of, home_in, label_eq}
use Rattle.lam_value_homes.proofs.Keys.{label_total, label_exact, label_ties}
use Rattle.lam_value_homes.proofs.Maps.{not_none}
use Rattle.lam_value_homes.proofs.Rows.{copy_more, taken_all, each_set, filled_set, filled_same, above_kept}
use Rattle.lam_value_homes.proofs.counters.copied_rows.Goals as goal

pub loop-at-init : goal.loop-at-init
loop-at-init c = record {
  unique = c.new-copy.ensures.unique;
  same = λ h. ap (λ es. home_in es h) c.new-copy.ensures.empty;
  once = λ m row e. let none = sym (ap (lookup (label_eq m)) c.new-copy.ensures.empty) ∙ e in cc;
  filled = λ m row e. let none = sym (ap (lookup (label_eq m)) c.new-copy.ensures.empty) ∙ e in cc;
}

pub loop-at-preserved : goal.loop-at-preserved
loop-at-preserved c = record {
  unique = c.in_ok-put_row.ensures.unique;
  same = λ h.
      copy_more label_eq label_total label_exact label_ties (λ row. lookup (label_eq h.own) row.entries) c.args.rows.now.entries c.loop-at.copy.entries c.put_row.new.rows.entries c.loop-at.at c.in-Some.maker.now c.in-Some.row.now c.in_ok-row.row
      (sym c.in-Some.ensures.entry) c.in-Some.ensures.value (c.in_ok-row.ensures.same h.own) (λ q. c.loop-at.invariant.same (home_of q h.own))
      c.in_ok-put_row.ensures.ok h.maker;
  once =
      each_set (IsUnique label_eq) c.loop-at.copy.entries c.put_row.new.rows.entries c.in-Some.maker.now c.in_ok-row.row c.loop-at.invariant.once
      c.in_ok-put_row.ensures.ok
      c.in_ok-row.ensures.unique;
  filled =
      filled_set c.loop-at.copy.entries c.put_row.new.rows.entries c.in-Some.maker.now c.in_ok-row.row c.loop-at.invariant.filled
      c.in_ok-put_row.ensures.ok
      (filled_same c.in-Some.row.now.entries c.in_ok-row.row.entries c.in_ok-row.ensures.same (c.requires.filled c.in-Some.maker.now c.in-Some.row.now c.in-Some.ensures.value));
}

pub returns : goal.returns
returns c =
    let same = λ (h : Home). c.loop-at.invariant.same h ∙ ap (λ es. home_in es h) (taken_all c.args.rows.now.entries c.loop-at.at c.len-at-end.result c.loop-at-test.false c.len-at-end.ensures.len) in
    record {
      same = same;
      homes = record {
        unique = c.loop-at.invariant.unique;
        once = c.loop-at.invariant.once;
        filled = c.loop-at.invariant.filled;
        above = above_kept c.args.rows.now.entries c.loop-at.copy.entries c.requires.above same;
      };
    }

pub unreachable-requires : goal.unreachable-requires
unreachable-requires c = not_none _ (c.get_index.ensures.found.1 (omega (arith, c.len-at-end.ensures.len))) c.in_default.is
