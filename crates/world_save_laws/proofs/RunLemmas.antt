-- The starts that are read of two saved texts look the same to an observer.
use Rattle.std.proofs.Common.{◌≡◌, ℕ, List, Ok, sym, ◌∙◌, subst}
use Rattle.flow_labels.specs.TwoLists.{Text}
use Rattle.flow_labels.specs.declared.Label.{Label}
use Rattle.lam_bytecode.specs.Codes.{CodeTree, IsCode}
use Rattle.lam_machine_terms.specs.Worlds.{World}
use Rattle.lam_machine_terms.specs.Turns.{replay}
use Rattle.lam_machine_laws.proofs.TurnLemmas.{valid_safe}
use Rattle.world_doc_terms.specs.Start.{start_of}
use Rattle.world_doc_laws.proofs.StartLemmas.{text_start}
use Rattle.world_doc_laws.proofs.SavedLemmas.{inside}
use Rattle.world_save_laws.specs.Next.{GoesOn}
use Rattle.world_save_laws.proofs.AgreeLemmas.{starts_agree as next_agree}
use Rattle.world_save_laws.specs.Runs.{IsSavedRun, SavedStartsAgree}
use Rattle.world_save_laws.proofs.ReadLemmas.{end_savable, next_read}

-- the start that is read goes on from the end of the run
goes_on : (code : CodeTree) (w : World) (turns : List ℕ) (text : Text) → IsCode code → IsSavedRun code w turns text → (v : World) → start_of text code ≡ Ok v → GoesOn w (replay code turns w).files v
goes_on code w turns text is r v e =
    let g = next_read code is r.old text r.items w turns r.starts r.saved in
    subst (λ (z : World). GoesOn w (replay code turns w).files z) (inside (sym g.1.0 ∙ e)) g.1.1

pub starts_agree : (code : CodeTree) (o : Label) → SavedStartsAgree code o
starts_agree code o is s s' turns turns' text text' r r' agree agendas named named' v v' e e' =
    next_agree code o s s' turns turns' (valid_safe s (text_start code r.old s r.starts).valid) (valid_safe s' (text_start code r'.old s' r'.starts).valid) agree r.run r'.run agendas
    (record { whole = (end_savable code is r.old s turns r.starts (r.saved).bytes).whole; named = named }) (record { whole = (end_savable code is r'.old s' turns' r'.starts (r'.saved).bytes).whole; named = named' }) v v' (goes_on code s turns text is r v e)
    (goes_on code s' turns' text' is r' v' e')
