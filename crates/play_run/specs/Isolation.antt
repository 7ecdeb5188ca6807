-- What an observer cannot tell of the cells that it does not see.
use Rattle.std.specs.Prelude.{◌≡◌, ℕ, map, take}
use Rattle.flow_labels.specs.declared.Label.{Label}
use Rattle.play_script.specs.Script.{Play}
use Rattle.play_run.specs.Steps.{start}
use Rattle.play_run.specs.Seen.{trace, agenda, view}
use Rattle.play_run.specs.Lines.{line_of}

-- two plays declare the same, but for the numbers of cells that o does not see
pub record AgreeBelow (o : Label) (p q : Play) : Type 0 where
  pub tags : p.tags ≡ q.tags
  pub kinds : p.kinds ≡ q.kinds
  pub actor_names : p.actor_names ≡ q.actor_names
  pub actors : p.actors ≡ q.actors
  pub cell_names : p.cell_names ≡ q.cell_names
  pub cells : view o (start p) ≡ view o (start q)

-- the first n entries are the same, and so are their lines
pub record AgreeUpTo (n : ℕ) (o : Label) (p q : Play) : Type 0 where
  pub entries : take n (trace o p) ≡ take n (trace o q)
  pub lines : map (line_of p) (take n (trace o p)) ≡ map (line_of q) (take n (trace o q))

-- Whatever another play that agrees with this one below the observer has in the cells that the observer
-- does not see, and whatever its steps: as far as the same is done before the eyes of the observer, with
-- the same releases past it, it sees the same.
abbrev pub IsolatedFrom : Play → Label → Type 0
IsolatedFrom play o =
    (other : Play) (n : ℕ) →
    AgreeBelow o play other →
    take n (agenda o play) ≡ take n (agenda o other) →
    AgreeUpTo n o play other

abbrev pub IsolatedScripts : Type 0
IsolatedScripts = (play : Play) (observer : Label) → IsolatedFrom play observer
