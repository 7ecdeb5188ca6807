-- The control that the tags of `caps` make, from left to right: the capabilities, or the first fault.
use Rattle.std.specs.Prelude.{List, [], ◌∷◌, slice_get}
use Rattle.lam_value.specs.declared.values.Value.{Value}
use Rattle.thread_steps.specs.Operators.{with_sign}
use Rattle.lam_resolve_tree.specs.Tree.{CapSlot}
use Rattle.lam_meaning.specs.Trees.{value_or_null}
use Rattle.source_walk_state.specs.declared.Control.{Control}
use Rattle.source_walk_state.specs.declared.Control.TheVariants.{Give}
use Rattle.source_walk_parts.specs.Controls.{pure_control}

abbrev pub with_item : Control → List Value → CapSlot → Control
with_item (Give c) ls x = pure_control (with_sign x.plus c (value_or_null (slice_get ls x.slot)))
with_item c ls x = c

abbrev pub with_items : Control → List Value → List CapSlot → Control
with_items c ls [] = c
with_items c ls (x ∷ xs) = with_items (with_item c ls x) ls xs
