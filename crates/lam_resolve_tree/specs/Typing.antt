-- Which resolved programs are typed: one rule for each form, by slots and numbers alone, and no names.
use Rattle.std.specs.Prelude.{◌≡◌, ℕ, ◌<◌, Bool, true, false, ◌&&◌, if◌then◌else◌, nat_eq, List, [], ◌∷◌, ◌++◌, length, map, Option, Some, None, slice_get}
use Rattle.lam_builtins.specs.Types.{int, bool, bytes, tag, label, caps, file, dir, pipe, thread, object, array, nullable, a_value, a_null, nothing, given_type, exactly, any_class, any_array, any_object, any_labelled}
use Rattle.lam_builtins.specs.Operators.{operand, operator_type, unary_type}
use Rattle.lam_builtins.specs.Builtins.{answered, row_by}
use Rattle.lam_resolve_tree.specs.Tree.{ResolvedType, ResolvedGiven, ResolvedPlace, CapSlot, Expression, number_value, text_value, bool_value, null_value, local_value, unary_of, binary_of, field_of, element_of, call_of, builtin_of, new_object, new_array, label_of, caps_of, spawn_of, Expressions, args_end, args_more, Statement, let_slot, if_block, while_block, return_value, throw_value, sync_block, region_block, do_value, set_local, set_field, set_element, Block, block_end, block_more, OtherBlock, no_other, other_block, ResolvedFunction, ResolvedTree}

-- ---- what a program declares

-- how a function is called
pub record ResolvedSignature : Type 0 where
  pub params : List ResolvedType
  pub result : Option ResolvedType

-- for each class its fields' types, and the functions
pub record ResolvedSignatures : Type 0 where
  pub classes : List (List ResolvedType)
  pub functions : List ResolvedSignature

abbrev pub head_of : ResolvedFunction → ResolvedSignature
head_of f = record { params = f.params; result = f.result }

abbrev pub heads_of : ResolvedTree → ResolvedSignatures
heads_of r = record { classes = r.classes; functions = map head_of r.functions }

-- each class in a type is one of the program's
abbrev pub IsType : ResolvedSignatures → ResolvedType → Type 0
IsType p (object c) = c < length p.classes
IsType p (array t) = IsType p t
IsType p _ = Unit {0}

abbrev pub AreTypes : ResolvedSignatures → List ResolvedType → Type 0
AreTypes p [] = Unit {0}
AreTypes p (t ∷ ts) = IsType p t × AreTypes p ts

-- class c has a field f, which is of type t
abbrev pub IsField : ResolvedSignatures → ℕ → ℕ → ResolvedType → Type 0
IsField p c f t = (fields : List ResolvedType) × (slice_get p.classes c ≡ Some fields) × (slice_get fields f ≡ Some t)

-- what a call gives
abbrev pub given_by : Option ResolvedType → ResolvedGiven
given_by None = nothing
given_by (Some t) = a_value t

abbrev pub exact_places : List ResolvedType → List ResolvedPlace
exact_places ts = map exactly ts

-- ---- the slots in scope

-- what a slot in scope is for: a local, or the thing whose monitor an open `sync` holds
pub data Use : Type 0 where
  a_local : (t : ResolvedType) → Use
  a_monitor : (t : ResolvedType) → Use

-- by slot. A slot that is not in scope has no use
abbrev pub Scope : Type 0
Scope = ℕ → Option Use

abbrev pub with_use : Scope → ℕ → Use → Scope
with_use env n u m = if nat_eq m n then Some u else env m

abbrev pub local_if : Option ResolvedType → Option Use
local_if None = None
local_if (Some t) = Some (a_local t)

-- parameters or captures take the first slots
abbrev pub locals_of : List ResolvedType → Scope
locals_of ts n = local_if (slice_get ts n)

-- ---- what fits

-- a class or an array
abbrev pub is_object : ResolvedType → Bool
is_object (object c) = true
is_object (array t) = true
is_object _ = false

-- what has a label
abbrev pub is_labelled : ResolvedType → Bool
is_labelled (object c) = true
is_labelled (array t) = true
is_labelled file = true
is_labelled dir = true
is_labelled pipe = true
is_labelled _ = false

-- a place takes values of the type
abbrev pub Takes : ResolvedPlace → ResolvedType → Type 0
Takes (exactly t) u = u ≡ t
Takes any_class u = (c : ℕ) × (u ≡ object c)
Takes any_array u = (t : ResolvedType) × (u ≡ array t)
Takes any_object u = is_object u ≡ true
Takes any_labelled u = is_labelled u ≡ true

-- `null` fits a place of one type that may be null
abbrev pub TakesNull : ResolvedPlace → Type 0
TakesNull (exactly t) = nullable t ≡ true
TakesNull _ = ⊥

abbrev pub Fits : ResolvedPlace → ResolvedGiven → Type 0
Fits p (a_value t) = Takes p t
Fits p a_null = TakesNull p
Fits p nothing = ⊥

-- `==` and `!=` compare two values of one type, or `null` with what may be null
abbrev pub Compare : ResolvedGiven → ResolvedGiven → Type 0
Compare (a_value t) (a_value u) = t ≡ u
Compare (a_value t) a_null = nullable t ≡ true
Compare a_null (a_value u) = nullable u ≡ true
Compare a_null a_null = Unit {0}
Compare _ _ = ⊥

-- what an expression gives, by E, fits a place
abbrev pub FitsBy : ResolvedPlace → (ResolvedGiven → Type 0) → Type 0
FitsBy p E = (g : ResolvedGiven) × E g × Fits p g

abbrev pub Operates : Option ResolvedType → (ResolvedGiven → Type 0) → (ResolvedGiven → Type 0) → Type 0
Operates None L R = (g : ResolvedGiven) × (h : ResolvedGiven) × L g × R h × Compare g h
Operates (Some t) L R = FitsBy (exactly t) L × FitsBy (exactly t) R

-- ---- expressions

abbrev pub AreTags : Scope → List CapSlot → Type 0
AreTags env [] = Unit {0}
AreTags env (x ∷ xs) = (env x.slot ≡ Some (a_local tag)) × AreTags env xs

abbrev mutual
  -- the expression is typed and gives g
  pub Gives : ResolvedSignatures → Scope → Expression → ResolvedGiven → Type 0
  Gives p env (number_value n) g = g ≡ a_value int
  Gives p env (text_value bs) g = g ≡ a_value bytes
  Gives p env (bool_value b) g = g ≡ a_value bool
  Gives p env null_value g = g ≡ a_null
  Gives p env (local_value n) g = (t : ResolvedType) × (env n ≡ Some (a_local t)) × (g ≡ a_value t)
  Gives p env (unary_of op e) g = FitsBy (exactly (unary_type op)) (λ h. Gives p env e h) × (g ≡ a_value (unary_type op))
  Gives p env (binary_of op l r) g = Operates (operand op) (λ h. Gives p env l h) (λ h. Gives p env r h) × (g ≡ a_value (operator_type op))
  Gives p env (field_of e c f t) g = Gives p env e (a_value (object c)) × IsField p c f t × (g ≡ a_value t)
  Gives p env (element_of e i t) g = Gives p env e (a_value (array t)) × FitsBy (exactly int) (λ h. Gives p env i h) × (g ≡ a_value t)
  Gives p env (call_of f args) g =
      (h : ResolvedSignature) × (first : ResolvedGiven) × (slice_get p.functions f ≡ Some h) × AreArgs p env (exact_places h.params) args first × (g ≡ given_by h.result)
  Gives p env (builtin_of b args t) g =
      (first : ResolvedGiven) × AreArgs p env (row_by ℕ b).signature.takes args first × (g ≡ answered (row_by ℕ b).signature.answer first) × (t ≡ given_type g)
  Gives p env (new_object c) g = (c < length p.classes) × (g ≡ a_value (object c))
  Gives p env (new_array t n) g = IsType p t × FitsBy (exactly int) (λ h. Gives p env n h) × (g ≡ a_value (array t))
  Gives p env (label_of s i) g = AreTagArgs p env s × AreTagArgs p env i × (g ≡ a_value label)
  Gives p env (caps_of items) g = AreTags env items × (g ≡ a_value caps)
  Gives p env (spawn_of c f args) g =
      (h : ResolvedSignature) × (first : ResolvedGiven) × FitsBy (exactly caps) (λ h. Gives p env c h) × (slice_get p.functions f ≡ Some h) × (h.result ≡ Some int) × AreArgs p env (exact_places h.params) args first × (g ≡ a_value thread)

  -- as many arguments as places, each fitting its own; the first gives `first`
  pub AreArgs : ResolvedSignatures → Scope → List ResolvedPlace → Expressions → ResolvedGiven → Type 0
  AreArgs p env [] args_end first = first ≡ nothing
  AreArgs p env (w ∷ ws) (args_more e rest) first = Gives p env e first × Fits w first × AreRest p env ws rest
  AreArgs p env [] (args_more e rest) first = ⊥
  AreArgs p env (w ∷ ws) args_end first = ⊥

  pub AreRest : ResolvedSignatures → Scope → List ResolvedPlace → Expressions → Type 0
  AreRest p env [] args_end = Unit {0}
  AreRest p env (w ∷ ws) (args_more e rest) = FitsBy w (λ h. Gives p env e h) × AreRest p env ws rest
  AreRest p env [] (args_more e rest) = ⊥
  AreRest p env (w ∷ ws) args_end = ⊥

  -- the tags of a label
  pub AreTagArgs : ResolvedSignatures → Scope → Expressions → Type 0
  AreTagArgs p env args_end = Unit {0}
  AreTagArgs p env (args_more e rest) = FitsBy (exactly tag) (λ h. Gives p env e h) × AreTagArgs p env rest

-- ---- statements

abbrev pub Stands : ResolvedSignatures → Scope → ResolvedPlace → Expression → Type 0
Stands p env w e = FitsBy w (λ g. Gives p env e g)

-- slot n of the unit, whose slots are of these types, is free and of type t
abbrev pub IsFree : List ResolvedType → Scope → ℕ → ResolvedType → Type 0
IsFree slots env n t = (slice_get slots n ≡ Some t) × (env n ≡ None)

-- what may be returned: nothing at all inside a region, else what the function's result says
pub data Returning : Type 0 where
  in_region : Returning
  in_function : (result : Option ResolvedType) → Returning

abbrev pub Returns : ResolvedSignatures → Returning → Scope → Option Expression → Type 0
Returns p (in_function None) env None = Unit {0}
Returns p (in_function (Some t)) env (Some e) = Stands p env (exactly t) e
Returns p _ env _ = ⊥

-- the captured slots are locals of these types
abbrev pub AreCaptured : Scope → List ℕ → List ResolvedType → Type 0
AreCaptured env [] [] = Unit {0}
AreCaptured env [] (t ∷ ts) = ⊥
AreCaptured env (n ∷ ns) [] = ⊥
AreCaptured env (n ∷ ns) (t ∷ ts) = (env n ≡ Some (a_local t)) × AreCaptured env ns ts

-- the use of a slot that a statement declares
abbrev pub use_of : Option ResolvedType → Scope → ℕ → Scope
use_of None env n = env
use_of (Some t) env n = with_use env n (a_local t)

-- the slots in scope after a statement
abbrev pub after : List ResolvedType → Scope → Statement → Scope
after slots env (let_slot n e) = use_of (slice_get slots n) env n
after slots env _ = env

abbrev mutual
  pub IsStatement : ResolvedSignatures → List ResolvedType → Returning → Scope → Statement → Type 0
  IsStatement p slots ret env (let_slot n e) = (t : ResolvedType) × IsFree slots env n t × Stands p env (exactly t) e
  IsStatement p slots ret env (if_block e body other) = Stands p env (exactly bool) e × IsBlock p slots ret env body × IsOther p slots ret env other
  IsStatement p slots ret env (while_block e body) = Stands p env (exactly bool) e × IsBlock p slots ret env body
  IsStatement p slots ret env (return_value e) = Returns p ret env e
  IsStatement p slots ret env (throw_value e) = Stands p env (exactly int) e
  IsStatement p slots ret env (sync_block n e body) =
      (t : ResolvedType) × IsFree slots env n t × Gives p env e (a_value t) × (is_object t ≡ true) × IsBlock p slots ret (with_use env n (a_monitor t)) body
  -- a unit of its own, whose first slots take the captured values
  IsStatement p slots ret env (region_block m l c from own body n handler) =
      (ts : List ResolvedType) × (more : List ResolvedType) × Stands p env (exactly label) l × Stands p env (exactly caps) c × AreCaptured env from ts × (own ≡ ts ++ more) ×
      IsBlock p own in_region (locals_of ts) body × IsFree own (locals_of ts) n int × IsBlock p own in_region (with_use (locals_of ts) n (a_local int)) handler
  IsStatement p slots ret env (do_value e) = (g : ResolvedGiven) × Gives p env e g
  IsStatement p slots ret env (set_local n e) = (t : ResolvedType) × (env n ≡ Some (a_local t)) × Stands p env (exactly t) e
  IsStatement p slots ret env (set_field e c f t v) = Gives p env e (a_value (object c)) × IsField p c f t × Stands p env (exactly t) v
  IsStatement p slots ret env (set_element e i t v) = Gives p env e (a_value (array t)) × Stands p env (exactly int) i × Stands p env (exactly t) v

  pub IsBlock : ResolvedSignatures → List ResolvedType → Returning → Scope → Block → Type 0
  IsBlock p slots ret env block_end = Unit {0}
  IsBlock p slots ret env (block_more s rest) = IsStatement p slots ret env s × IsBlock p slots ret (after slots env s) rest

  pub IsOther : ResolvedSignatures → List ResolvedType → Returning → Scope → OtherBlock → Type 0
  IsOther p slots ret env no_other = Unit {0}
  IsOther p slots ret env (other_block body) = IsBlock p slots ret env body

-- ---- programs

abbrev mutual
  -- the statement ends in a return or a throw, on each way through it
  pub ends : Statement → Bool
  ends (return_value e) = true
  ends (throw_value e) = true
  ends (if_block e body other) = block_ends false body && other_ends other
  ends _ = false

  -- a block ends as its last statement does, or else as what stands before it
  pub block_ends : Bool → Block → Bool
  block_ends before block_end = before
  block_ends before (block_more s rest) = block_ends (ends s) rest

  pub other_ends : OtherBlock → Bool
  other_ends no_other = false
  other_ends (other_block body) = block_ends false body

abbrev pub EndsWith : Option ResolvedType → Block → Type 0
EndsWith None body = Unit {0}
EndsWith (Some t) body = block_ends false body ≡ true

-- the parameters take the first slots, and a function with a result returns one
pub record IsFunction (p : ResolvedSignatures) (f : ResolvedFunction) : Type 0 where
  pub more : List ResolvedType
  pub slots : f.slots ≡ f.params ++ more
  pub body : IsBlock p f.slots (in_function f.result) (locals_of f.params) f.body
  pub ends : EndsWith f.result f.body

abbrev pub AreFunctions : ResolvedSignatures → List ResolvedFunction → Type 0
AreFunctions p [] = Unit {0}
AreFunctions p (f ∷ fs) = IsFunction p f × AreFunctions p fs

abbrev pub AreClasses : ResolvedSignatures → List (List ResolvedType) → Type 0
AreClasses p [] = Unit {0}
AreClasses p (c ∷ cs) = AreTypes p c × AreClasses p cs

pub record IsTypedTree (r : ResolvedTree) : Type 0 where
  pub classes : AreClasses (heads_of r) r.classes
  pub functions : AreFunctions (heads_of r) r.functions
