-- Slots of their types, after a slot is set and after a thing is made.
use Rattle.std.proofs.Common.{◌≡◌, ℕ, zero, suc, Bool, true, false, cond, List, [], ◌∷◌, Option, Some, refl, sym, ap, subst, ◌∙◌}
use Rattle.std.specs.Prelude.{is_some, map, replicate, slice_get, slice_set}
use Rattle.std.proofs.Math.Bool.{true≢false}
use Rattle.std.specs.Ordering.{eq_by_cmp}
use Rattle.std.specs.Cmp.{eq_by_cmp_equiv, Equal-is}
use Rattle.std.specs.FinMap.{FinMap, get, insert, contains_key, get-insert}
use Rattle.lam_value.specs.declared.names.Name.{Name}
use Rattle.lam_value.specs.Names.{name_cmp}
use Rattle.lam_value.specs.declared.values.Value.{Value}
use Rattle.lam_value.specs.declared.values.Value.TheVariants.{Obj, Arr}
use Rattle.lam_value.specs.Shapes.{zero_of}
use Rattle.lam_value.proofs.Keys.{name_total, name_exact}
use Rattle.labelled_heap.specs.Things.{Things, changed_at}
use Rattle.lam_builtins.specs.Types.{int}
use Rattle.lam_resolve_tree.specs.Tree.{ResolvedType}
use Rattle.lam_meaning.specs.Means.{kind_of}
use Rattle.lam_machine_means.specs.Typing.{Thing, an_object, an_array, Typing, Extends, Classes, slot_types, Is, Are, AreSlots}

same_name : (q r : Name) → eq_by_cmp name_cmp q r ≡ true → q ≡ r
same_name q r e = name_exact q r ((Equal-is (name_cmp q r)).0 e)

itself : (q : Name) → eq_by_cmp name_cmp q q ≡ true
itself q = (eq_by_cmp_equiv name_total).refl q

-- ---- typings that grow

module _ (G H : Typing) (more : Extends G H) where
  pub is_on : (t : ResolvedType) (v : Value) → Is G t v → Is H t v
  is_on t (Obj n) h = (h.0, more n (an_object h.0) h.1, h.2)
  is_on t (Arr n len) h = (h.0, more n (an_array h.0 len) h.1, h.2)
  is_on t v h = h

  pub are_on : (ts : List ResolvedType) (vs : List Value) → Are G ts vs → Are H ts vs
  are_on [] [] h = tt
  are_on (t ∷ ts) (v ∷ vs) h = (is_on t v h.0, are_on ts vs h.1)
  are_on ts vs h = absurd h

-- ---- slots

pub are_get : (G : Typing) (ts : List ResolvedType) (vs : List Value) (at : ℕ) (t : ResolvedType) → Are G ts vs → slice_get ts at ≡ Some t → (v : Value) × (slice_get vs at ≡ Some v) × Is G t v
are_get G [] vs at t h e = absurd cc
are_get G (u ∷ ts) [] at t h e = absurd h
are_get G (u ∷ ts) (v ∷ vs) zero t h e = let same : u ≡ t = cc in (v, refl, subst (λ x. Is G x v) same h.0)
are_get G (u ∷ ts) (v ∷ vs) (suc at) t h e = are_get G ts vs at t h.1 e

pub are_set : (G : Typing) (ts : List ResolvedType) (vs : List Value) (at : ℕ) (t : ResolvedType) (v : Value) → Are G ts vs → slice_get ts at ≡ Some t → Is G t v → Are G ts (slice_set vs at v)
are_set G [] vs at t v h e l = absurd cc
are_set G (u ∷ ts) [] at t v h e l = absurd h
are_set G (u ∷ ts) (x ∷ vs) zero t v h e l = let same : u ≡ t = cc in (subst (λ y. Is G y v) (sym same) l, h.1)
are_set G (u ∷ ts) (x ∷ vs) (suc at) t v h e l = (h.0, are_set G ts vs at t v h.1 e l)

first_value : (G : Typing) (t : ResolvedType) → Is G t (zero_of (kind_of t))
first_value G int = refl
first_value G t = refl

pub first_fields : (G : Typing) (ts : List ResolvedType) → Are G ts (map (λ u. zero_of (kind_of u)) ts)
first_fields G [] = tt
first_fields G (t ∷ ts) = (first_value G t, first_fields G ts)

pub first_elements : (G : Typing) (t : ResolvedType) (n : ℕ) → Are G (replicate n t) (replicate n (zero_of (kind_of t)))
first_elements G t zero = tt
first_elements G t (suc n) = (first_value G t, first_elements G t n)

-- ---- a slot is set

module _ (classes : Classes) (G : Typing) where
  put_typed : (m : FinMap name_cmp (List Value)) (n : Name) (x : Thing) (vs : List Value) → AreSlots classes G m → G n ≡ Some x → Are G (slot_types classes x) vs → AreSlots classes G (insert m n vs)
  put_typed m n x vs all is h k y e = by (eq_by_cmp name_cmp k n) refl (get-insert name_total m n vs k)
    where
      by : (b : Bool) → eq_by_cmp name_cmp k n ≡ b → get (insert m n vs) k ≡ cond b (Some vs) (get m k) → (us : List Value) × (get (insert m n vs) k ≡ Some us) × Are G (slot_types classes y) us
      by true q f =
          let same : x ≡ y = (let here = sym is ∙ ap G (sym (same_name k n q)) ∙ e in cc) in
          (vs, f, subst (λ z. Are G (slot_types classes z) vs) same h)
      by false q f = let r = all k y e in (r.0, f ∙ r.1, r.2)

  pub set_typed : (h : Things) (n : Name) (x : Thing) (at : ℕ) (t : ResolvedType) (v : Value) → AreSlots classes G h.slots → G n ≡ Some x → slice_get (slot_types classes x) at ≡ Some t → Is G t v → AreSlots classes G (changed_at (get h.slots n) h n (λ xs. slice_set xs at v)).slots
  set_typed h n x at t v all is e l =
      let r = all n x is in
      subst (λ (o : Option (List Value)). AreSlots classes G (changed_at o h n (λ xs. slice_set xs at v)).slots) (sym r.1)
      (put_typed h.slots n x (slice_set r.0 at v) all is (are_set G (slot_types classes x) r.0 at t v r.2 e l))

-- ---- a thing is made

-- a typing with one name more
abbrev pub with_name : Typing → Name → Thing → Typing
with_name G n x k = cond (eq_by_cmp name_cmp k n) (Some x) (G k)

pub name_there : (G : Typing) (n : Name) (x : Thing) → with_name G n x n ≡ Some x
name_there G n x = ap (λ b. cond b (Some x) (G n)) (itself n)

module _ (classes : Classes) (G : Typing) (m : FinMap name_cmp (List Value)) (all : AreSlots classes G m) (n : Name) (new : contains_key m n ≡ false) (x : Thing) where
  not_known : (y : Thing) → G n ≡ Some y → ⊥
  not_known y e = let r = all n y e in absurd (true≢false (sym (ap is_some r.1) ∙ new))

  pub name_extends : Extends G (with_name G n x)
  name_extends k y e = by (eq_by_cmp name_cmp k n) refl
    where
      by : (b : Bool) → eq_by_cmp name_cmp k n ≡ b → cond b (Some x) (G k) ≡ Some y
      by true q = absurd (not_known y (ap G (sym (same_name k n q)) ∙ e))
      by false q = e

  pub made_typed : (vs : List Value) → Are (with_name G n x) (slot_types classes x) vs → AreSlots classes (with_name G n x) (insert m n vs)
  made_typed vs h k y e = by (eq_by_cmp name_cmp k n) (get-insert name_total m n vs k) e
    where
      by : (b : Bool) → get (insert m n vs) k ≡ cond b (Some vs) (get m k) → cond b (Some x) (G k) ≡ Some y → (us : List Value) × (get (insert m n vs) k ≡ Some us) × Are (with_name G n x) (slot_types classes y) us
      by true f g = let same : x ≡ y = cc in (vs, f, subst (λ z. Are (with_name G n x) (slot_types classes z) vs) same h)
      by false f g = let r = all k y g in (r.0, f ∙ r.1, are_on G (with_name G n x) name_extends (slot_types classes y) r.0 r.2)
