-- That runs from the world of a document mean what their source means.
use Rattle.std.specs.Prelude.{◌≡◌, ℕ, List, Some, Ok}
use Rattle.std.specs.List.{AllByRecursion}
use Rattle.flow_labels.specs.TwoLists.{Text}
use Rattle.lam_bytecode.specs.Codes.{CodeTree, IsCode}
use Rattle.lam_resolve_tree.specs.Tree.{ResolvedTree}
use Rattle.lam_resolve_tree.specs.Typing.{IsTypedTree}
use Rattle.thread_steps.specs.Threads.{Thread}
use Rattle.lam_machine_means.specs.Acts.{ActsAs}
use Rattle.lam_machine_terms.specs.Worlds.{World, thread_at}
use Rattle.lam_machine_terms.specs.Turns.{Moment, moments, replay}
use Rattle.lam_machine_means.specs.Meant.{MeansItsSource, NoneStuck}
use Rattle.world_doc_terms.specs.Start.{start_of}
use Rattle.world_doc_laws.specs.Entries.{EntriesAreFunctions}

-- after these turns each thread means its source, and in no world on the way was a thread stuck
pub record RunMeans (r : ResolvedTree) (code : CodeTree) (w : World) (turns : List ℕ) : Type 0 where
  pub each : (u : ℕ) (th : Thread) → thread_at (replay code turns w) u ≡ Some th → MeansItsSource r code w (moments code turns w) u th
  pub start : NoneStuck code w
  pub later : AllByRecursion (λ (m : Moment). NoneStuck code m.world) (moments code turns w)

-- a code that acts as a typed program, with the program's functions as its entries, and the world that a text gives for it
abbrev pub DocumentsRunAsMeant : ResolvedTree → CodeTree → Type 0
DocumentsRunAsMeant r code =
    ActsAs code r → EntriesAreFunctions r code → IsCode code → IsTypedTree r → (text : Text) (w : World) → start_of text code ≡ Ok w → (turns : List ℕ) → RunMeans r code w turns
