use Rattle.std.proofs.Common.{◌∙◌, ap, sym, Some, refl, arith}
use Rattle.std.specs.Prelude.{option_and_then}
use Rattle.std.specs.Map.{lookup}
use Rattle.lam_value_homes.specs.Homes.{label_eq}
use Rattle.lam_value_homes.proofs.Keys.{label_total, label_exact, label_ties}
use Rattle.lam_value_homes.proofs.Maps.{not_none}
use Rattle.lam_value_homes.proofs.Rows.{copy_more, taken_all, seen_all}
use Rattle.lam_value_homes.proofs.counters.copied_row.Goals as goal

pub loop-at-init : goal.loop-at-init
loop-at-init c = record {
  same = λ q. ap (λ es. option_and_then (λ n. Some n) (lookup (label_eq q) es)) c.new-copy.ensures.empty;
  unique = c.new-copy.ensures.unique;
}

pub loop-at-preserved : goal.loop-at-preserved
loop-at-preserved c = record {
  same =
      copy_more label_eq label_total label_exact label_ties (λ n. Some n) c.args.row.now.entries c.loop-at.copy.entries c.put_count.new.row.entries c.loop-at.at c.in-Some.own.now c.in-Some.count.now c.in-Some.count.now
      (sym c.in-Some.ensures.entry) c.in-Some.ensures.value refl c.loop-at.invariant.same
      c.in_ok-put_count.ensures.ok;
  unique = c.in_ok-put_count.ensures.unique;
}

pub returns : goal.returns
returns c = record {
  same = λ q.
      sym (seen_all _) ∙ c.loop-at.invariant.same q
      ∙ ap (λ es. option_and_then (λ n. Some n) (lookup (label_eq q) es)) (taken_all c.args.row.now.entries c.loop-at.at c.len-at-end.result c.loop-at-test.false c.len-at-end.ensures.len) ∙ seen_all _;
  unique = c.loop-at.invariant.unique;
}

pub unreachable-requires : goal.unreachable-requires
unreachable-requires c = not_none _ (c.get_index.ensures.found.1 (omega (arith, c.len-at-end.ensures.len))) c.in_default.is
