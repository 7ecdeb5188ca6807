-- How the threads of a world that a document gives stand.
use Rattle.std.specs.Prelude.{◌≡◌, ℕ, ◌<◌, ◌≤◌, IsTrue, true, List, [], ◌∷◌, length, slice_get, Some, Ok}
use Rattle.std.specs.List.{AllByRecursion}
use Rattle.serde_json.specs.Data.{Data}
use Rattle.flow_labels.specs.TwoLists.{Text}
use Rattle.capabilities.specs.declared.Caps.{Caps}
use Rattle.lam_value.specs.declared.values.Value.{Value}
use Rattle.lam_bytecode.specs.Codes.{CodeTree}
use Rattle.lam_bytecode.specs.declared.unit.ArgKind.{ArgKind}
use Rattle.lam_bytecode.specs.declared.unit.CodeUnit.{CodeUnit}
use Rattle.lam_bytecode.specs.declared.unit.UnitKind.TheVariants.{Function}
use Rattle.thread_steps.specs.Threads.{Thread}
use Rattle.thread_steps.specs.Next.{started}
use Rattle.lam_machine_terms.specs.Worlds.{World}
use Rattle.world_doc_terms.specs.Entries.{most_starting, fits}
use Rattle.world_doc_terms.specs.Start.{world_of}

-- an argument of its kind for each parameter
abbrev pub AreArguments : List ArgKind → List Value → Type 0
AreArguments [] [] = Unit {0}
AreArguments (k ∷ ks) (v ∷ vs) = IsTrue (fits k v) × AreArguments ks vs
AreArguments ks vs = ⊥

-- a unit of the code is a function that takes these and whose result is a number
pub record IsEntry (code : CodeTree) (unit : ℕ) (takes : List ArgKind) : Type 0 where
  pub name : Text
  pub it : CodeUnit
  pub there : slice_get code.units unit ≡ Some it
  pub is : it.kind ≡ Function name takes true

-- a thread stands at the entry of a function whose result is a number, with arguments of its parameters' kinds
pub record StandsAtEntry (code : CodeTree) (th : Thread) : Type 0 where
  pub unit : ℕ
  pub takes : List ArgKind
  pub args : List Value
  pub caps : Caps
  pub entry : IsEntry code unit takes
  pub fitting : AreArguments takes args
  pub it : th ≡ started code unit args caps

-- the threads of a document's world stand at entries, and are one to 64
abbrev pub ThreadsStand : CodeTree → Type 0
ThreadsStand code = (d : Data) (w : World) → world_of d code ≡ Ok w → AllByRecursion (StandsAtEntry code) w.threads × ((0 < length w.threads) × (length w.threads ≤ most_starting))
