-- What accesses find, and what they do where nothing is tested a second time.
use Rattle.std.specs.Prelude.{◌≡◌, ℕ, List, ◌∷◌, Option, Some, None, slice_get}
use Rattle.flow_labels.specs.declared.Label.{Label}
use Rattle.lam_value.specs.declared.values.Value.{Value}
use Rattle.lam_value.specs.declared.values.Value.TheVariants.{Int, Obj, Arr}
use Rattle.lam_asks.specs.declared.ask.Ask.TheVariants as ask
use Rattle.lam_bytecode.specs.Codes.{CodeTree}
use Rattle.lam_bytecode.specs.declared.op.Op.{Op}
use Rattle.lam_bytecode.specs.declared.op.Op.TheVariants.{GetField, PutField, GetElement, PutElement}
use Rattle.thread_steps.specs.Threads.{Context}
use Rattle.thread_steps.specs.Ops.{Did, wants, breaks, within}
use Rattle.thread_steps.specs.Next.{ops_of}
use Rattle.guarded_code.specs.declared.known.Access.{Access}
use Rattle.guarded_code.specs.declared.known.Access.TheVariants.{Reading, Writing}
use Rattle.guarded_code_threads.specs.Described.{Allows}

-- a context without a fault that stands at an operation
pub record StandsAt (code : CodeTree) (c : Context) (op : Op) : Type 0 where
  pub fault : c.inside.fault ≡ None
  pub at : slice_get (ops_of code c.inside.frame.unit) c.inside.frame.at ≡ Some op

abbrev pub AllowedAt : Label → Access → Option Value → Type 0
AllowedAt p access None = ⊥
AllowedAt p access (Some v) = Allows p access v

-- an access finds a reference that is not null and whose rule holds
abbrev pub Finds : Label → Op → List Value → Type 0
Finds p (GetField f) s = AllowedAt p Reading (slice_get s 0)
Finds p (PutField f) s = AllowedAt p Writing (slice_get s 1)
Finds p GetElement s = AllowedAt p Reading (slice_get s 1)
Finds p PutElement s = AllowedAt p Writing (slice_get s 2)
Finds p op s = Unit {0}

-- the operations that reach a slot
pub data IsAccess : Op → Type 0 where
  gets_field : (f : ℕ) → IsAccess (GetField f)
  puts_field : (f : ℕ) → IsAccess (PutField f)
  gets_element : IsAccess GetElement
  puts_element : IsAccess PutElement

-- what an access does without a test of its own: it asks, or raises Index where an element's place is not within the
-- length that the reference says
abbrev pub accessed : Op → List Value → Did
accessed (GetField f) (Obj n ∷ s) = wants (ask.Read (Obj n) f) s
accessed (PutField f) (v ∷ Obj n ∷ s) = wants (ask.Write (Obj n) f v) s
accessed GetElement (Int i ∷ Arr n len ∷ s) = within i len (λ at. wants (ask.Read (Arr n len) at) s)
accessed PutElement (v ∷ Int i ∷ Arr n len ∷ s) = within i len (λ at. wants (ask.Write (Arr n len) at v) s)
accessed op s = breaks
