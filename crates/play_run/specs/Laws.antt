-- What holds of a run and of what an observer sees of it, in the words of the subject.
use Rattle.std.specs.Prelude.{◌≡◌, ◌↔◌, ℕ, false, IsTrue, List, map, Some, slice_get}
use Rattle.flow_labels.specs.declared.Label.{Label}
use Rattle.flow_labels.specs.Flow.{flows}
use Rattle.capabilities.specs.Changes.{joined, used, MayChange, Covers}
use Rattle.capabilities.specs.Kinds.{public_of}
use Rattle.capabilities.specs.declared.Caps.{Caps}
use Rattle.play_script.specs.declared.Actor.{Actor}
use Rattle.play_script.specs.declared.Step.TheVariants.{Copy}
use Rattle.play_script.specs.Script.{Play}
use Rattle.play_run.specs.Steps.{Release, Copied, Moment, start}
use Rattle.play_run.specs.Seen.{Entry, Seen, Released, noted, trace}

-- what a moment shows to o: a step of an actor that o sees, or a release past o, which is a copy that was
-- done, by an actor that o does not see, into a cell that it sees
pub data Shows (o : Label) (m : Moment) : Entry → Type 0 where
  step : IsTrue (flows m.event.label o) → Shows o m (Seen m.event)
  release : (c : Copied) → flows m.event.label o ≡ false → m.copied ≡ Some c → IsTrue (flows c.label o) → Shows o m (Released c.release)

-- a moment has an entry in the trace exactly for what it shows
abbrev pub NotesAreExact : Type 0
NotesAreExact = (o : Label) (m : Moment) (e : Entry) → Shows o m e ↔ (noted o m ≡ Some e)

-- the labels of the cells, as they are declared
abbrev pub cell_labels : Play → List Label
cell_labels play = map (λ c. c.label) (start play)

-- what an actor may use: the capabilities that it holds, and those that are public
abbrev pub usable : Play → Actor → Caps
usable play actor = joined actor.caps (public_of play.kinds)

-- a release past o that was allowed: a copy of an actor that may read the first cell, and to which its
-- capabilities and the public ones allow both changes of label, that from the first cell and its own, to that
-- of the second cell; what it used is what the change from its own label uses, and it held that or it is public
pub record IsAllowed (play : Play) (o : Label) (r : Release) : Type 0 where
  pub a : ℕ
  pub n : ℕ
  pub m : ℕ
  pub actor : Actor
  pub from : Label
  pub to : Label
  pub copy : r.copy ≡ Copy a n m
  pub named : slice_get play.actors a ≡ Some actor
  pub read : slice_get (cell_labels play) n ≡ Some from
  pub written : slice_get (cell_labels play) m ≡ Some to
  pub unseen : flows actor.label o ≡ false
  pub seen : IsTrue (flows to o)
  pub is_down : flows actor.label to ≡ false
  pub may_read : IsTrue (flows from actor.label)
  pub may_relabel : MayChange (usable play actor) from to
  pub may_change : MayChange (usable play actor) actor.label to
  pub by : r.by ≡ used actor.label to
  pub held : Covers (usable play actor) r.by

-- each release past any observer was allowed
abbrev pub ReleasesAreAllowed : Type 0
ReleasesAreAllowed = (play : Play) (o : Label) (k : ℕ) (r : Release) → slice_get (trace o play) k ≡ Some (Released r) → IsAllowed play o r
