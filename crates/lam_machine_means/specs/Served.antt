-- Typed asks, answers of the types that they want, and what a turn keeps.
use Rattle.std.specs.Prelude.{◌≡◌, ℕ, ℤ, map, Some, slice_get}
use Rattle.lam_value.specs.declared.names.Name.{Name}
use Rattle.lam_value.specs.declared.values.Value.{Value}
use Rattle.lam_value.specs.declared.values.Value.TheVariants.{Int}
use Rattle.lam_value.specs.declared.shapes.Shape.{Shape}
use Rattle.lam_value.specs.declared.shapes.Shape.TheVariants.{Class, Array}
use Rattle.lam_value.specs.Shapes.{zero_of}
use Rattle.lam_builtins.specs.Types.{int, bytes, tag, caps, file, dir, pipe, thread, object, array}
use Rattle.lam_resolve_tree.specs.Tree.{ResolvedType}
use Rattle.lam_meaning.specs.Means.{kind_of}
use Rattle.lam_asks.specs.declared.answer.Outcome.{Outcome}
use Rattle.lam_asks.specs.declared.answer.Outcome.TheVariants as outcome
use Rattle.lam_asks.specs.declared.answer.Answer.{Answer}
use Rattle.lam_asks.specs.declared.answer.Answer.TheVariants.{Val}
use Rattle.lam_asks.specs.declared.answer.What.{What}
use Rattle.lam_asks.specs.declared.answer.What.TheVariants.{Private, Asked}
use Rattle.lam_asks.specs.declared.ask.Ask.{Ask}
use Rattle.lam_asks.specs.declared.ask.Ask.TheVariants.{Read, Write, New, CopyTo, Mint, End, MakeFile, MakeDir, OpenFile, OpenDir, FileRead, FileLength, MakePipe, Receive, ReceiveCaps, Spawn}
use Rattle.lam_bytecode.specs.Codes.{CodeTree}
use Rattle.lam_machine_valid.specs.Worlds.{World, result_at}
use Rattle.lam_machine_valid.specs.Turns.{Moment, step}
use Rattle.lam_machine_valid.specs.Valid.{AreSoundStores}
use Rattle.lam_machine_valid.specs.Laws.{LeadsTo}
use Rattle.lam_machine_means.specs.Typing.{Thing, Typing, Extends, Classes, fields_in, slot_types, Is, AreSlots}

-- a reference leads to a thing whose slot is of a type
abbrev pub IsSlot : Classes → Typing → Value → ℕ → ResolvedType → Type 0
IsSlot classes G r at t = (n : Name) × (x : Thing) × LeadsTo r n × (G n ≡ Some x) × (slice_get (slot_types classes x) at ≡ Some t)

-- what is made is of a type: an object with the first values of its class's fields, an array of first values
abbrev pub IsShape : Classes → Shape → ResolvedType → Type 0
IsShape classes (Class c fields) t = (t ≡ object c) × (fields ≡ map (λ u. zero_of (kind_of u)) (fields_in (slice_get classes c)))
IsShape classes (Array k len) t = (u : ResolvedType) × (t ≡ array u) × (k ≡ kind_of u)

abbrev pub IsNumber : Outcome → Type 0
IsNumber (outcome.Value v) = (z : ℤ) × (v ≡ Int z)
IsNumber (outcome.Failed f) = Unit {0}

-- an ask is typed at a place that wants a value of a type
abbrev pub IsAsk : Classes → Typing → ResolvedType → Ask → Type 0
IsAsk classes G t (Read r at) = IsSlot classes G r at t
IsAsk classes G t (Write r at v) = (u : ResolvedType) × IsSlot classes G r at u × Is G u v
IsAsk classes G t (New shape) = IsShape classes shape t
IsAsk classes G t (CopyTo r own) = (n : Name) × LeadsTo r n × Is G t r
IsAsk classes G t (End result) = IsNumber result
IsAsk classes G t a = Unit {0}

-- the type of what an ask gives, where it gives a value
abbrev pub given_type : ResolvedType → Ask → ResolvedType
given_type t (Read r at) = t
given_type t (New shape) = t
given_type t (CopyTo r own) = t
given_type t Mint = tag
given_type t (MakeFile d text own) = file
given_type t (MakeDir d text own) = dir
given_type t (OpenFile d text) = file
given_type t (OpenDir d text) = dir
given_type t (FileRead f at n) = bytes
given_type t (FileLength f) = int
given_type t (MakePipe own) = pipe
given_type t (Receive p) = bytes
given_type t (ReceiveCaps p) = caps
given_type t (Spawn unit args c) = thread
given_type t a = int

abbrev pub IsAnswer : Typing → ResolvedType → Answer → Type 0
IsAnswer G t (Val v) = Is G t v
IsAnswer G t x = Unit {0}

abbrev pub AsksTyped : Classes → Typing → ResolvedType → What → Type 0
AsksTyped classes G t Private = Unit {0}
AsksTyped classes G t (Asked a x) = IsAsk classes G t a

abbrev pub AnsweredTyped : Typing → ResolvedType → What → Type 0
AnsweredTyped G t Private = Unit {0}
AnsweredTyped G t (Asked a x) = IsAnswer G (given_type t a) x

-- slots are of their types, and threads that ended gave numbers
pub record IsTypedWorld (classes : Classes) (G : Typing) (w : World) : Type 0 where
  pub slots : AreSlots classes G w.heap.slots
  pub results : (t : ℕ) (r : Outcome) → result_at w t ≡ Some r → IsNumber r

abbrev pub TurnsAreTyped : Classes → CodeTree → Type 0
TurnsAreTyped classes code =
    (w : World) (t : ℕ) (m : Moment) (G : Typing) (wanted : ResolvedType) →
    AreSoundStores w → IsTypedWorld classes G w → step code w t ≡ Some m → AsksTyped classes G wanted m.event.what →
    (H : Typing) × Extends G H × IsTypedWorld classes H m.world × AnsweredTyped H wanted m.event.what
