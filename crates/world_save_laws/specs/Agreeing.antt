-- When the starts of the next runs look the same to an observer.
use Rattle.std.specs.Prelude.{◌≡◌, ℕ, IsTrue, List}
use Rattle.flow_labels.specs.declared.Label.{Label}
use Rattle.flow_labels.specs.Flow.{seen}
use Rattle.lam_value.specs.declared.names.Name.{Name}
use Rattle.labelled_files.specs.declared.directory.Target.{Target}
use Rattle.labelled_files.specs.Trees.{Tree}
use Rattle.lam_bytecode.specs.Codes.{CodeTree}
use Rattle.lam_machine_terms.specs.Worlds.{World}
use Rattle.lam_machine_terms.specs.Turns.{moments, replay, IsRun}
use Rattle.lam_machine_terms.specs.Views.{Agree, agenda}
use Rattle.lam_machine_laws.specs.Isolation.{AreWellLabelled}
use Rattle.world_forest.specs.Forest.{LeadsTo}
use Rattle.world_save_laws.specs.TreeLaws.{IsWhole}
use Rattle.world_save_laws.specs.Next.{GoesOn}

-- an entry of a directory that the observer sees names it
pub record IsNamedInSeen (o : Label) (t : Tree) (n : Name) : Type 0 where
  pub dir : Name
  pub text : List ℕ
  pub target : Target
  pub leads : LeadsTo t dir text target
  pub is : target.name ≡ n
  pub sees : IsTrue (seen dir.own o)

-- each seen file and directory that an entry names is named in a seen directory
abbrev pub AreNamedInSeen : Label → Tree → Type 0
AreNamedInSeen o t = (dir : Name) (text : List ℕ) (x : Target) → LeadsTo t dir text x → IsTrue (seen x.name.own o) → IsNamedInSeen o t x.name

-- what is asked of the end of a run
pub record EndsWell (o : Label) (t : Tree) : Type 0 where
  pub whole : IsWhole t
  pub named : AreNamedInSeen o t

abbrev pub NextStartsAgree : CodeTree → Label → Type 0
NextStartsAgree code o =
    (s s' : World) (turns turns' : List ℕ) →
    AreWellLabelled s → AreWellLabelled s' → Agree o s s' →
    IsRun code turns s → IsRun code turns' s' →
    agenda o (moments code turns s) ≡ agenda o (moments code turns' s') →
    EndsWell o (replay code turns s).files → EndsWell o (replay code turns' s').files →
    (v v' : World) → GoesOn s (replay code turns s).files v → GoesOn s' (replay code turns' s').files v' →
    Agree o v v'
