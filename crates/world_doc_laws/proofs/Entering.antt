-- A thread of a document's start stands at the entry of its function.
use Rattle.std.proofs.Common.{◌≡◌, ℕ, zero, suc, List, [], ◌∷◌, length, Some, refl, ap, ◌∙◌, subst}
use Rattle.std.specs.Prelude.{slice_get}
use Rattle.std.specs.List.{AllByRecursion}
use Rattle.lam_value.specs.declared.values.Value.{Value}
use Rattle.lam_bytecode.specs.Codes.{CodeTree}
use Rattle.lam_bytecode.specs.declared.unit.ArgKind.{ArgKind}
use Rattle.thread_steps.specs.Threads.{Thread}
use Rattle.thread_steps.specs.Ops.{function_takes}
use Rattle.guarded_code_runs.specs.GuardedCodeThreadsLaws.{TakesAll}
use Rattle.guarded_code_runs.specs.Worlds.{IsAtEntry}
use Rattle.guarded_code_runs.proofs.Sound.{sound_entries}
use Rattle.world_doc_laws.specs.Standing.{AreArguments, IsEntry, StandsAtEntry}
use Rattle.world_doc_laws.proofs.StartLemmas.{text_start}
use Rattle.world_doc_laws.specs.Entered.{StartsAreEntered, StartsAreSound}

-- as many arguments as parameters
as_many : (ks : List ArgKind) (vs : List Value) → AreArguments ks vs → length ks ≡ length vs
as_many [] [] h = refl
as_many (k ∷ ks) (v ∷ vs) h = ap suc (as_many ks vs h.1)
as_many ks vs h = absurd h

-- what holds of all threads holds of each
pub all_at : (P : Thread → Type 0) (ths : List Thread) → AllByRecursion P ths → (t : ℕ) (th : Thread) → slice_get ths t ≡ Some th → P th
all_at P [] h t th e = absurd cc
all_at P (x ∷ ths) h zero th e = let same : x ≡ th = cc in subst P same h.0
all_at P (x ∷ ths) h (suc t) th e = all_at P ths h.1 t th e

module _ (code : CodeTree) where
  entry_takes : (unit : ℕ) (takes : List ArgKind) (args : List Value) → IsEntry code unit takes → AreArguments takes args → TakesAll code unit args
  entry_takes unit takes args e fitting = ap function_takes e.there ∙ rw e.is (ap (λ n. Some n) (as_many takes args fitting))

  is_entered : (th : Thread) → StandsAtEntry code th → IsAtEntry code th
  is_entered th s = record { unit = s.unit; args = s.args; caps = s.caps; it = s.it; takes = entry_takes s.unit s.takes s.args s.entry s.fitting }

pub starts_entered : (code : CodeTree) → StartsAreEntered code
starts_entered code text w e = λ t th at. is_entered code th (all_at (StandsAtEntry code) w.threads (text_start code text w e).entries t th at)

pub starts_sound : (code : CodeTree) → StartsAreSound code
starts_sound code is guarded text w e = sound_entries code w is guarded (text_start code text w e).valid (starts_entered code text w e)
