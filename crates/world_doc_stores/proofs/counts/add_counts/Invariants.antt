use Rattle.std.proofs.Common.{◌≡◌, drop}
use Rattle.serde_json.specs.View.{items_view}
use Rattle.lam_value.specs.Homes.{raised}
use Rattle.labelled_files.specs.Trees.{public_home}
use Rattle.world_doc_terms.specs.Numbered.{with_counts}
use Rattle.world_doc_stores.specs.Contents.{counted_as}
use Rattle.world_doc_stores.proofs.counts.add_counts.Given as goal

abbrev pub invariant-loop-item : goal.invariant-loop-item
invariant-loop-item l = record {
  so_far : with_counts l.names l.initial.counts (items_view l.items) ≡ with_counts l.names l.counts (items_view (drop l.item-index l.items));
  files : l.files ≡ counted_as l.initial.files (raised l.counts public_home 1);
}
