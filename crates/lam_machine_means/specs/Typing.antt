-- Which values and slots are of which types, given what each name stands for.
use Rattle.std.specs.Prelude.{◌≡◌, ℕ, true, List, [], ◌∷◌, replicate, Option, Some, None, slice_get}
use Rattle.std.specs.FinMap.{FinMap, get}
use Rattle.lam_value.specs.declared.names.Name.{Name}
use Rattle.lam_value.specs.Names.{name_cmp}
use Rattle.lam_value.specs.declared.values.Value.{Value}
use Rattle.lam_value.specs.declared.values.Value.TheVariants.{Int, Bool as Truth, Bytes, Nothing, Obj, Arr, File, Dir, Pipe, Thread, Tag, Lab, CapV}
use Rattle.lam_builtins.specs.Types.{int, bool, bytes, tag, label, caps, file, dir, pipe, thread, object, array, nullable}
use Rattle.lam_resolve_tree.specs.Tree.{ResolvedType}

-- what a heap name stands for
pub data Thing : Type 0 where
  an_object : (class : ℕ) → Thing
  an_array : (element : ResolvedType) (len : ℕ) → Thing

abbrev pub Typing : Type 0
Typing = Name → Option Thing

-- one typing knows what another knows, and agrees
abbrev pub Extends : Typing → Typing → Type 0
Extends G H = (n : Name) (x : Thing) → G n ≡ Some x → H n ≡ Some x

-- the types of the fields of each class
abbrev pub Classes : Type 0
Classes = List (List ResolvedType)

abbrev pub fields_in : Option (List ResolvedType) → List ResolvedType
fields_in None = []
fields_in (Some fields) = fields

-- the types of a thing's slots
abbrev pub slot_types : Classes → Thing → List ResolvedType
slot_types classes (an_object c) = fields_in (slice_get classes c)
slot_types classes (an_array t len) = replicate len t

-- a value is of a type
abbrev pub Is : Typing → ResolvedType → Value → Type 0
Is G t (Int n) = t ≡ int
Is G t (Truth b) = t ≡ bool
Is G t (Bytes bs) = t ≡ bytes
Is G t Nothing = nullable t ≡ true
Is G t (Obj n) = (c : ℕ) × (G n ≡ Some (an_object c)) × (t ≡ object c)
Is G t (Arr n len) = (u : ResolvedType) × (G n ≡ Some (an_array u len)) × (t ≡ array u)
Is G t (File n) = t ≡ file
Is G t (Dir n) = t ≡ dir
Is G t (Pipe n) = t ≡ pipe
Is G t (Thread n) = t ≡ thread
Is G t (Tag n) = t ≡ tag
Is G t (Lab l) = t ≡ label
Is G t (CapV plus minus) = t ≡ caps

-- as many values as types, each of its own
abbrev pub Are : Typing → List ResolvedType → List Value → Type 0
Are G [] [] = Unit {0}
Are G [] (v ∷ vs) = ⊥
Are G (t ∷ ts) [] = ⊥
Are G (t ∷ ts) (v ∷ vs) = Is G t v × Are G ts vs

-- what a typing knows lives, and its slots are of their types
abbrev pub AreSlots : Classes → Typing → FinMap name_cmp (List Value) → Type 0
AreSlots classes G m = (n : Name) (x : Thing) → G n ≡ Some x → (vs : List Value) × (get m n ≡ Some vs) × Are G (slot_types classes x) vs
