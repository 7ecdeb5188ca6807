-- What an observer can tell of the starts that are read of two saved texts.
use Rattle.std.specs.Prelude.{◌≡◌, ℕ, List, Ok}
use Rattle.flow_labels.specs.TwoLists.{Text}
use Rattle.flow_labels.specs.declared.Label.{Label}
use Rattle.lam_bytecode.specs.Codes.{CodeTree, IsCode}
use Rattle.lam_machine_terms.specs.Worlds.{World}
use Rattle.lam_machine_terms.specs.Turns.{moments, replay, IsRun}
use Rattle.lam_machine_terms.specs.Views.{Agree, agenda}
use Rattle.world_doc_terms.specs.Start.{start_of}
use Rattle.world_save_laws.specs.Agreeing.{AreNamedInSeen}
use Rattle.world_save_files.specs.Saved.{IsSavedText}

-- a run from a document, and a text that is saved of its end
pub record IsSavedRun (code : CodeTree) (w : World) (turns : List ℕ) (text : Text) : Type 0 where
  pub old : Text
  pub starts : start_of old code ≡ Ok w
  pub run : IsRun code turns w
  pub items : ℕ
  pub saved : IsSavedText w.names w.public (replay code turns w).files old text items

-- Two runs with starts that look the same to the observer and with equal agendas for it are saved; at the end of either, each
-- seen file and directory is named in a seen directory. Then the starts that are read look the same to it.
abbrev pub SavedStartsAgree : CodeTree → Label → Type 0
SavedStartsAgree code o =
    IsCode code → (s s' : World) (turns turns' : List ℕ) (text text' : Text) →
    IsSavedRun code s turns text → IsSavedRun code s' turns' text' →
    Agree o s s' → agenda o (moments code turns s) ≡ agenda o (moments code turns' s') →
    AreNamedInSeen o (replay code turns s).files → AreNamedInSeen o (replay code turns' s').files →
    (v v' : World) → start_of text code ≡ Ok v → start_of text' code ≡ Ok v' →
    Agree o v v'
