-- What a script has that was read, whatever its text.
use Rattle.std.specs.Prelude.{◌≡◌, ℕ, ◌+◌, ◌<◌, ◌≤◌, true, not, List, ◌++◌, length}
use Rattle.std.specs.List.{All, list_all}
use Rattle.flow_labels.specs.Names.{AreNames}
use Rattle.play_script.specs.Pieces.{Word}
use Rattle.play_script.specs.declared.Step.{Step}
use Rattle.play_script.specs.declared.Step.TheVariants.{Read, Write, Copy}
use Rattle.play_script.specs.Script.{Play, is_reserved, most_lines}

-- the one name space of tags, actors and cells
abbrev pub all_names : Play → List Word
all_names p = p.tags ++ (p.actor_names ++ p.cell_names)

-- the step's actor and its cells are declared
abbrev pub IsDeclared : Play → Step → Type 0
IsDeclared p (Read actor cell) = (actor < length p.actors) × (cell < length p.cells)
IsDeclared p (Write actor cell value) = (actor < length p.actors) × (cell < length p.cells)
IsDeclared p (Copy actor from to) = (actor < length p.actors) × (from < length p.cells) × (to < length p.cells)

-- each line adds one of these
abbrev pub size : Play → ℕ
size p = length p.tags + length p.actors + length p.cells + length p.steps

pub record IsWhole (p : Play) : Type 0 where
  pub kinds : length p.tags ≡ length p.kinds
  pub actors : length p.actor_names ≡ length p.actors
  pub cells : length p.cell_names ≡ length p.cells
  pub names : AreNames (all_names p)
  pub unreserved : list_all (λ n. not (is_reserved n)) (all_names p) ≡ true
  pub steps : All (IsDeclared p) p.steps
  pub few : size p ≤ most_lines
