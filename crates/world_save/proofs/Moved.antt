-- What is said of stores is said of equal ones.
use Rattle.std.proofs.Common.{◌≡◌, sym, subst}
use Rattle.std.specs.Prelude.{Result, IfOk, IfErr}
use Rattle.flow_labels.specs.TwoLists.{Text}
use Rattle.lam_machine_terms.specs.Worlds.{World}
use Rattle.lam_machine_effects.specs.declared.stores.Stores.{Stores}
use Rattle.lam_machine_effects.specs.Parts.{stores_of}
use Rattle.world_save_files.specs.declared.document.Saved.{Saved}
use Rattle.world_save_files.specs.declared.document.SaveFault.{SaveFault}
use Rattle.world_save_files.specs.Saved.{IsSavedText, IsSaveFault}

-- of the stores at the start, and of those that are now
module _ (r : Result Saved SaveFault) (old : Text) (first now : Stores) (start world : World) (first_is : first ≡ stores_of start) (now_is : now ≡ stores_of world) where
  pub saved_of : IfOk r (λ s. IsSavedText first.names first.public now.files old s.text.items s.items) → IfOk r (λ s. IsSavedText start.names start.public world.files old s.text.items s.items)
  saved_of h =
      subst (λ (n : Stores). IfOk r (λ s. IsSavedText start.names start.public n.files old s.text.items s.items)) now_is
      (subst (λ (f : Stores). IfOk r (λ s. IsSavedText f.names f.public now.files old s.text.items s.items)) first_is h)

  pub fault_of : IfErr r (IsSaveFault first.names first.public now.files old) → IfErr r (IsSaveFault start.names start.public world.files old)
  fault_of h =
      subst (λ (n : Stores). IfErr r (IsSaveFault start.names start.public n.files old)) now_is
      (subst (λ (f : Stores). IfErr r (IsSaveFault f.names f.public now.files old)) first_is h)
