use Rattle.std.proofs.Common.{◌<◌, ◌∙◌, ap, sym, Some, [], length, arith, subst, List}
use Rattle.std.specs.Prelude.{option_and_then, unwrap_or}
use Rattle.std.specs.Map.{lookup}
use Rattle.lam_value.specs.Homes.{home_eq}
use Rattle.lam_value.proofs.Keys.{home_total, home_exact, home_ties}
use Rattle.lam_value.proofs.Maps.{not_none}
use Rattle.lam_value.proofs.Rows.{copy_more, taken_all}
use Rattle.labelled_heap.specs.declared.heap.Thing.{Thing}
use Rattle.labelled_heap.specs.declared.heap.Row.{Row}
use Rattle.labelled_heap.specs.Seen.{row_at}
use Rattle.labelled_heap.proofs.RowLemmas.{row_seen, rows_put}
use Rattle.labelled_heap.proofs.heap.copied.Goals as goal

pub loop-at-init : goal.loop-at-init
loop-at-init c = record {
  kept = record {
    unique = c.new-copy.ensures.unique;
    filled = λ h row e. let none = sym (ap (lookup (home_eq h)) c.new-copy.ensures.empty) ∙ e in cc;
  };
  same = λ h. ap (λ es. option_and_then (λ (row : Row). Some row.things.items) (lookup (home_eq h) es)) c.new-copy.ensures.empty;
}

pub loop-at-preserved : goal.loop-at-preserved
loop-at-preserved c =
    let row = c.in_ok-row.row in
    let same = c.in_ok-row.ensures in
    let added = c.in_ok-put_row.ensures.ok in
    record {
      kept = rows_put c.loop-at.copy c.put_row.new.rows c.loop-at.invariant.kept c.in-Some.home.now row c.in_ok-put_row.ensures.unique added
          (subst (λ (ts : List Thing). 0 < length ts) (sym same) (c.requires.filled c.in-Some.home.now c.in-Some.row.now c.in-Some.ensures.value));
      same =
          copy_more home_eq home_total home_exact home_ties (λ (r : Row). Some r.things.items) c.args.rows.now.entries c.loop-at.copy.entries c.put_row.new.rows.entries c.loop-at.at c.in-Some.home.now c.in-Some.row.now row
          (sym c.in-Some.ensures.entry) c.in-Some.ensures.value (ap Some same) c.loop-at.invariant.same added;
    }

pub returns : goal.returns
returns c = record {
  same = λ h.
      row_seen c.loop-at.copy.entries h ∙ ap (λ o. unwrap_or o []) (c.loop-at.invariant.same h)
      ∙ sym (row_seen _ h) ∙ ap (λ es. row_at es h) (taken_all c.args.rows.now.entries c.loop-at.at c.len-at-end.result c.loop-at-test.false c.len-at-end.ensures.len);
  rows = c.loop-at.invariant.kept;
}

pub unreachable-requires : goal.unreachable-requires
unreachable-requires c = not_none _ (c.get_index.ensures.found.1 (omega (arith, c.len-at-end.ensures.len))) c.in_default.is
