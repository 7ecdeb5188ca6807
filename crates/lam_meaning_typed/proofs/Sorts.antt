-- What it is for a value to be of a type, as far as the proof that typed programs never go wrong asks: by its sort alone, or
-- by what is known of the things on the heap.
use Rattle.std.specs.Prelude.{◌≡◌, ◌<◌, ℕ, Bool, true, false, List, [], ◌∷◌, Some, slice_get}
use Rattle.std.proofs.Common.{subst}
use Rattle.capabilities.specs.declared.Caps.{Caps}
use Rattle.flow_labels.specs.declared.Label.{Label}
use Rattle.lam_value.specs.declared.names.Name.{Name}
use Rattle.lam_value.specs.declared.values.Value.{Value}
use Rattle.lam_value.specs.declared.values.Value.TheVariants.{Nothing, Obj, Arr}
use Rattle.lam_value.specs.declared.shapes.Shape.TheVariants.{Class, Array}
use Rattle.lam_builtins.specs.Types.{int, object, array, nullable}
use Rattle.lam_asks.specs.declared.answer.Answer.{Answer}
use Rattle.lam_asks.specs.declared.answer.Answer.TheVariants.{Val}
use Rattle.lam_asks.specs.declared.ask.Ask.{Ask}
use Rattle.lam_asks.specs.declared.ask.Ask.TheVariants.{Read, Write, New, CopyTo, Spawn, End as EndOf}
use Rattle.lam_asks.specs.Suits as sorts
use Rattle.lam_asks.specs.Suits.{Sort, numbers, is_value, want_of, fits}
use Rattle.lam_resolve_tree.specs.Tree.{ResolvedType, ResolvedFunction, ResolvedTree}
use Rattle.lam_resolve_tree.specs.Typing.{is_object}
use Rattle.lam_meaning.specs.Trees.{Asked, asked, End, Tree, ends, spent, broken, asks}
use Rattle.lam_meaning.specs.Means.{sort_of, kind_of, class_fields}
use Rattle.lam_meaning_typed.specs.Kinds.{IsA}

-- as many values as types, each of its own
abbrev pub AreBy : (ResolvedType → Value → Type 0) → List ResolvedType → List Value → Type 0
AreBy Is [] [] = Unit {0}
AreBy Is [] (v ∷ vs) = ⊥
AreBy Is (t ∷ ts) [] = ⊥
AreBy Is (t ∷ ts) (v ∷ vs) = Is t v × AreBy Is ts vs

-- an ask that names no thing, no function and no result
abbrev pub is_simple : Ask → Bool
is_simple (Read r at) = false
is_simple (Write r at v) = false
is_simple (New shape) = false
is_simple (CopyTo r own) = false
is_simple (Spawn f vs k) = false
is_simple (EndOf result) = false
is_simple a = true

-- an ask whose answer is of the type that its place wants
abbrev pub gives_wanted : Ask → Bool
gives_wanted (Read r at) = true
gives_wanted (New shape) = true
gives_wanted (CopyTo r own) = true
gives_wanted a = false

pub record Sorts (r : ResolvedTree) : Type 1 where
  -- what is known at a moment, and what is known later
  pub Known : Type 0
  pub Grows : Known → Known → Type 0
  pub stays : (G : Known) → Grows G G
  pub further : (G H J : Known) → Grows G H → Grows H J → Grows G J
  -- a value is of a type
  pub Is : Known → ResolvedType → Value → Type 0
  pub is_on : (G H : Known) → Grows G H → (t : ResolvedType) (v : Value) → Is G t v → Is H t v
  -- it is of the type's sort, which is all where the type is of no things
  pub kind : (G : Known) (t : ResolvedType) (v : Value) → Is G t v → IsA t v
  pub plain : (G : Known) (t : ResolvedType) (v : Value) → is_object t ≡ false → IsA t v → Is G t v
  pub null_of : (G : Known) (t : ResolvedType) → nullable t ≡ true → Is G t Nothing
  -- an ask may be made at a place that wants a value of a type
  pub IsAsk : Known → ResolvedType → Asked → Type 0
  pub simple : (G : Known) (s : Sort) (a : Ask) → is_simple a ≡ true → ((u : Sort) → want_of s a ≡ want_of u a) → IsAsk G int (asked s a)
  pub reads_field : (G : Known) (c f : ℕ) (t : ResolvedType) (x : Name) (fields : List ResolvedType) → slice_get r.classes c ≡ Some fields → slice_get fields f ≡ Some t → Is G (object c) (Obj x) → IsAsk G t (asked (sort_of t) (Read (Obj x) f))
  pub reads_element : (G : Known) (t : ResolvedType) (x : Name) (len i : ℕ) → i < len → Is G (array t) (Arr x len) → IsAsk G t (asked (sort_of t) (Read (Arr x len) i))
  pub writes_field : (G : Known) (c f : ℕ) (t : ResolvedType) (x : Name) (v : Value) (fields : List ResolvedType) → slice_get r.classes c ≡ Some fields → slice_get fields f ≡ Some t → Is G (object c) (Obj x) → Is G t v → IsAsk G int (asked numbers (Write (Obj x) f v))
  pub writes_element : (G : Known) (t : ResolvedType) (x : Name) (len i : ℕ) (v : Value) → i < len → Is G (array t) (Arr x len) → Is G t v → IsAsk G int (asked numbers (Write (Arr x len) i v))
  pub makes_object : (G : Known) (c : ℕ) → IsAsk G (object c) (asked numbers (New (Class c (class_fields (slice_get r.classes c)))))
  pub makes_elements : (G : Known) (t : ResolvedType) (len : ℕ) → IsAsk G (array t) (asked numbers (New (Array (kind_of t) len)))
  pub copies_object : (G : Known) (s : Sort) (c : ℕ) (x : Name) (l : Label) → Is G (object c) (Obj x) → IsAsk G (object c) (asked s (CopyTo (Obj x) l))
  pub copies_array : (G : Known) (s : Sort) (t : ResolvedType) (x : Name) (len : ℕ) (l : Label) → Is G (array t) (Arr x len) → IsAsk G (array t) (asked s (CopyTo (Arr x len) l))
  pub spawns : (G : Known) (f : ℕ) (fn : ResolvedFunction) (vs : List Value) (k : Caps) → slice_get r.functions f ≡ Some fn → fn.result ≡ Some int → AreBy (Is G) fn.params vs → IsAsk G int (asked numbers (Spawn f vs k))
  -- what may be answered to it then
  pub IsAnswer : Known → ResolvedType → Asked → Answer → Type 0
  pub suits : (H : Known) (t : ResolvedType) (q : Asked) (x : Answer) → IsAnswer H t q x → fits q.want x ≡ true
  pub given : (H : Known) (t : ResolvedType) (q : Asked) (v : Value) → gives_wanted q.ask ≡ true → q.want.gives ≡ is_value (sort_of t) → IsAnswer H t q (Val v) → Is H t v

module _ {r : ResolvedTree} (S : Sorts r) where
  -- an ask may be made whose answer is a value of a type
  pub record AsksFor (G : S.Known) (q : Asked) (t : ResolvedType) : Type 0 where
    pub wanted : ResolvedType
    pub typed : S.IsAsk G wanted q
    pub sort : q.want.gives ≡ is_value (sort_of t)
    pub given : (H : S.Known) (v : Value) → S.IsAnswer H wanted q (Val v) → S.Is H t v

  kind_given : (H : S.Known) (w t : ResolvedType) (q : Asked) (v : Value) → q.want.gives ≡ is_value (sort_of t) → S.IsAnswer H w q (Val v) → IsA t v
  kind_given H w t q v e a = subst (λ g. sorts.gives g (Val v) ≡ true) e (S.suits H w q (Val v) a)

  -- of a type of no things
  pub gives_plain : (G : S.Known) (w : ResolvedType) (q : Asked) (t : ResolvedType) → is_object t ≡ false → q.want.gives ≡ is_value (sort_of t) → S.IsAsk G w q → AsksFor G q t
  gives_plain G w q t o e typed = record { wanted = w; typed = typed; sort = e; given = λ H v a. S.plain H t v o (kind_given H w t q v e a) }

  -- of the type that the place wants
  pub gives_own : (G : S.Known) (q : Asked) (t : ResolvedType) → gives_wanted q.ask ≡ true → q.want.gives ≡ is_value (sort_of t) → S.IsAsk G t q → AsksFor G q t
  gives_own G q t o e typed = record { wanted = t; typed = typed; sort = e; given = λ H v a. S.given H t q v o e a }

  -- It meets no operand of another kind and makes asks that may be made, while each answer is one that may be given; E holds
  -- of each end. More may be known with each answer.
  abbrev pub IsWell : {A : Type 0} → (S.Known → End A → Type 0) → S.Known → Tree A → Type 0
  IsWell E G (ends e) = E G e
  IsWell E G spent = Unit {0}
  IsWell E G broken = ⊥
  IsWell E G (asks q go) = (t : ResolvedType) × S.IsAsk G t q × ((H : S.Known) (x : Answer) → S.Grows G H → S.IsAnswer H t q x → IsWell E H (go x))
