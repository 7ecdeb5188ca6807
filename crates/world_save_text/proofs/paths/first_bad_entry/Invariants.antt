use Rattle.std.proofs.Common.{◌≡◌, map, drop, not}
use Rattle.std.specs.Prelude.{position}
use Rattle.std.specs.List.{position_from}
use Rattle.std.specs.Str.{is_utf8}
use Rattle.world_save_items.specs.Steps.{Found, found}
use Rattle.world_save_text.proofs.paths.first_bad_entry.Given as goal

abbrev pub invariant-loop-at : goal.invariant-loop-at
invariant-loop-at l = position (λ (f : Found). not (is_utf8 f.entry)) (map found l.steps) ≡ position_from (λ (f : Found). not (is_utf8 f.entry)) l.at (map found (drop l.at l.steps))
