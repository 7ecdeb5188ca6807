use Rattle.std.proofs.Common.{subst, sym, ◌∙◌, ap, length}
use Rattle.std.specs.Option.{unwrap_or}
use Rattle.std.specs.Map.{lookup}
use Rattle.std.specs.FinMap.{get-empty}
use Rattle.lam_value.specs.Homes.{home_cmp, home_eq, count_in}
use Rattle.labelled_heap.specs.Things.{IsSound}
use Rattle.labelled_heap.specs.Seen.{row_at, things_in, things_of}
use Rattle.labelled_heap.proofs.ThingLemmas.{sound_none}
use Rattle.labelled_heap.proofs.heap.Heap.new.Goals as goal

pub invariant_of-result : goal.invariant_of-result
invariant_of-result c = record {
  kept = record {
    unique = c.new.ensures.unique;
    filled = λ h row e. let none = sym (ap (lookup (home_eq h)) c.new.ensures.empty) ∙ e in cc;
  };
  in_step = λ h. ap (λ es. length (row_at es h)) c.new.ensures.empty ∙ sym (ap (λ m. count_in m h) c.new-2.ensures ∙ ap (λ o. unwrap_or o 0) (get-empty home_cmp h));
  sound = subst IsSound (λ i. things_of (things_in (sym c.new.ensures.empty i)) (sym c.new-2.ensures i)) sound_none;
}
