use Rattle.std.proofs.Common.{[], map, drop, false}
use Rattle.world_save_terms.specs.Document.{item_data}
use Rattle.world_save_items.specs.Steps.{found, items_from, AreMeasured}
use Rattle.world_save_text.proofs.Writings.{HasWritten}
use Rattle.world_save_text.specs.Pieces.{items_left}
use Rattle.world_save_text.proofs.tree.write_each.Given as goal

abbrev pub invariant-loop-step : goal.invariant-loop-step
invariant-loop-step l = record {
  written :
      HasWritten l.initial.writer l.writer (items_left false (map (item_data l.names l.files) (items_from [] (map found l.steps))))
      (items_left l.later (map (item_data l.names l.files) (items_from l.path.items (map found (drop l.step-index l.steps)))));
  measured : AreMeasured l.path.items (map found (drop l.step-index l.steps));
}
