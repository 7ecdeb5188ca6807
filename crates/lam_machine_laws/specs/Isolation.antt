-- What an observer cannot tell of a run, and what may tell it.
use Rattle.std.specs.Prelude.{◌≡◌, ℕ, ◌≤◌, true, List, length, Some, slice_get, take}
use Rattle.std.specs.List.{AllByRecursion}
use Rattle.flow_labels.specs.declared.Label.{Label}
use Rattle.flow_labels.specs.Flow.{public_label}
use Rattle.lam_value.specs.declared.names.Name.{Name}
use Rattle.lam_machine_effects.specs.What.{What}
use Rattle.lam_machine_effects.specs.What.TheVariants.{Asked}
use Rattle.lam_machine_effects.specs.Ask.TheVariants.{CopyTo, Enter}
use Rattle.lam_machine_effects.specs.Codes.{CodeTree}
use Rattle.lam_machine_effects.specs.Threads.{Bottom, Context}
use Rattle.lam_machine_effects.specs.Worlds.{World, contexts_at}
use Rattle.lam_machine_effects.specs.Turns.{Moment, step, moments, left_by, IsRun}
use Rattle.lam_machine_effects.specs.Views.{view, Agree, is_release, is_past, agenda, trace, views}
use Rattle.lam_machine_effects.specs.Valid.{IsValid}

-- the first n entries of both traces are equal, and so is what is seen just after the n-th of them
pub record LookSame (n : ℕ) (o : Label) (s : World) (ms : List Moment) (s' : World) (ms' : List Moment) : Type 0 where
  pub traces : take n (trace o ms) ≡ take n (trace o ms')
  pub states : slice_get (views o s ms) n ≡ slice_get (views o s' ms') n

-- ---- what a start is asked for

-- that its thread ends, and that its monitors are given back, is seen where a context is: a first context is public, and
-- the monitors that a context lists have its label
pub record IsWellLabelled (c : Context) : Type 0 where
  pub bottom : c.phase ≡ Bottom → c.label ≡ public_label
  pub held : AllByRecursion (λ (n : Name). n.own ≡ c.label) c.held

-- so are all contexts of all threads
pub record AreWellLabelled (w : World) : Type 0 where
  pub contexts : (t : ℕ) → AllByRecursion IsWellLabelled (contexts_at w t)

-- each valid world is, and every turn keeps it
abbrev pub ValidAreWellLabelled : Type 0
ValidAreWellLabelled = (w : World) → IsValid w → AreWellLabelled w

abbrev pub StaysWellLabelled : CodeTree → Type 0
StaysWellLabelled code = (w : World) (t : ℕ) (m : Moment) → AreWellLabelled w → step code w t ≡ Some m → AreWellLabelled m.world

-- ---- two runs

-- Two runs of a code, from starts that an observer cannot tell apart, look the same to it as far as both have the same
-- agenda: the same threads at the turns that it sees, and the same releases past it. Who else runs, and when, and what
-- that one knows, is nothing that it can tell.
abbrev pub IsIsolated : CodeTree → Label → Type 0
IsIsolated code o =
    (s s' : World) (turns turns' : List ℕ) (n : ℕ) →
    AreWellLabelled s → AreWellLabelled s' → Agree o s s' →
    IsRun code turns s → IsRun code turns' s' →
    n ≤ length (agenda o (moments code turns s)) → n ≤ length (agenda o (moments code turns' s')) →
    take n (agenda o (moments code turns s)) ≡ take n (agenda o (moments code turns' s')) →
    LookSame n o s (moments code turns s) s' (moments code turns' s')

-- what is seen at the end of a run is what was seen just after the last entry: turns between entries leave it
abbrev pub IsSteady : CodeTree → Label → Type 0
IsSteady code o =
    (s : World) (turns : List ℕ) → AreWellLabelled s → IsRun code turns s →
    slice_get (views o s (moments code turns s)) (length (agenda o (moments code turns s))) ≡ Some (view o (left_by s (moments code turns s)))

-- ---- releases

-- a region is entered, or a thing is copied
abbrev pub IsEntryOrCopy : What → Type 0
IsEntryOrCopy (Asked (Enter label caps region args) answer) = Unit {0}
IsEntryOrCopy (Asked (CopyTo r own) answer) = Unit {0}
IsEntryOrCopy what = ⊥

-- only entering a region and copying release, and what is past some observer is a release
pub record TwoAsksRelease (code : CodeTree) : Type 0 where
  pub by_two : (w : World) (t : ℕ) (m : Moment) → step code w t ≡ Some m → is_release m ≡ true → IsEntryOrCopy m.event.what
  pub past : (o : Label) (m : Moment) → is_past o m ≡ true → is_release m ≡ true
