-- An operand that is a copy of a local is known as that local is. So a barrier that tests again changes no description.
use Rattle.std.proofs.Common.{IsTrue, ◌≡◌, ℕ, zero, suc, ◌<◌, List, [], ◌∷◌, map, Bool, true, false, if◌then◌else◌, nat_eq, Option, Some, None, length, slice_get, slice_set, refl, sym, ap, ap₂, ◌∙◌, subst, arith}
use Rattle.std.specs.Prelude.{drop, unwrap_or}
use Rattle.std.proofs.lemmas.Bool.{eqb-true, eqb-false, eq-eqb, false≢true}
use Rattle.std.proofs.lemmas.List.{length-set}
use Rattle.guarded_code.specs.declared.known.ValueKind.{ValueKind}
use Rattle.guarded_code.specs.declared.known.Access.{Access}
use Rattle.guarded_code.specs.declared.known.Known.{Known}
use Rattle.guarded_code.specs.declared.known.Operand.{Operand}
use Rattle.guarded_code.specs.declared.known.ValueKind.TheVariants.{Unknown}
use Rattle.guarded_code.specs.declared.known.Access.TheVariants.{Reading, Writing}
use Rattle.guarded_code.specs.Descriptions.{Description, is_tested, tested, untested, met_known, met_copies, met_operand, met_lists, meet}
use Rattle.guarded_code.specs.Changes.{Change, Loads, Stores, Tests, Trades, known_at, is_copy, forgotten, stored_from, at_place, tested_operand, tested_copy, tested_local, copied_at, barred, put, left}
use Rattle.guarded_code.proofs.Tables.{none_some, some_inj, get_set_other, get_within}
use Rattle.guarded_code.proofs.Lists.{cons_of, each_long}
use Rattle.guarded_code.proofs.Order.{met_parts}
use Rattle.guarded_code.proofs.Passing.{local_long}

abbrev pub Each : {A : Type 0} → (A → Type 0) → List A → Type 0
Each P [] = Unit {0}
Each P (x ∷ xs) = P x × Each P xs

abbrev pub CopyIs : List Known → Known → Option ℕ → Type 0
CopyIs ks k None = Unit {0}
CopyIs ks k (Some n) = slice_get ks n ≡ Some k

abbrev pub OperandIs : List Known → Operand → Type 0
OperandIs ks o = CopyIs ks o.known o.copies

-- with so many locals
pub record Coherent (count : ℕ) (d : Description) : Type 0 where
  pub wide : length d.locals ≡ count
  pub copies : Each (OperandIs d.locals) d.stack

each_map : {A B : Type 0} (P : A → Type 0) (Q : B → Type 0) (f : A → B) → ((x : A) → P x → Q (f x)) → (xs : List A) → Each P xs → Each Q (map f xs)
each_map P Q f h [] e = tt
each_map P Q f h (x ∷ xs) e = (h x e.0, each_map P Q f h xs e.1)

each_drop : {A : Type 0} (P : A → Type 0) (n : ℕ) (xs : List A) → Each P xs → Each P (drop n xs)
each_drop P zero xs h = h
each_drop P (suc n) [] h = tt
each_drop P (suc n) (x ∷ xs) h = each_drop P n xs h.1

each_at : {A : Type 0} (P : A → Type 0) (xs : List A) (i : ℕ) (x : A) → slice_get xs i ≡ Some x → Each P xs → P x
each_at P [] i x e h = none_some e
each_at P (y ∷ xs) zero x e h = subst P (some_inj e) h.0
each_at P (y ∷ xs) (suc i) x e h = each_at P xs i x e h.1

each_placed : {A : Type 0} (P : A → Type 0) (f : A → A) (xs : List A) (i : ℕ) → ((x : A) → slice_get xs i ≡ Some x → P (f x)) → Each P xs → Each P (at_place f i xs)
each_placed P f [] i p h = tt
each_placed P f (y ∷ xs) zero p h = (p y refl, h.1)
each_placed P f (y ∷ xs) (suc i) p h = (h.0, each_placed P f xs i p h.1)

place_get : {A : Type 0} (f : A → A) (xs : List A) (i : ℕ) (x : A) → slice_get xs i ≡ Some x → slice_get (at_place f i xs) i ≡ Some (f x)
place_get f [] i x e = none_some e
place_get f (y ∷ xs) zero x e = ap (λ z. Some (f z)) (some_inj e)
place_get f (y ∷ xs) (suc i) x e = place_get f xs i x e

place_other : {A : Type 0} (f : A → A) (xs : List A) (i j : ℕ) → (j ≡ i → ⊥) → slice_get (at_place f i xs) j ≡ slice_get xs j
place_other f (y ∷ xs) zero zero ne = absurd (ne refl)
place_other f (y ∷ xs) (suc i) (suc j) ne = place_other f xs i j (λ e. ne (ap suc e))
place_other f xs i j ne = refl

place_same : {A : Type 0} (f : A → A) (xs : List A) (i : ℕ) (x : A) → slice_get xs i ≡ Some x → f x ≡ x → at_place f i xs ≡ xs
place_same f [] i x e h = refl
place_same f (y ∷ xs) zero x e h = ap (λ z. z ∷ xs) (ap f (some_inj e) ∙ h ∙ sym (some_inj e))
place_same f (y ∷ xs) (suc i) x e h = ap (λ r. y ∷ r) (place_same f xs i x e h)

-- ---- meeting
met_get : {A : Type 0} (f : A → A → A) (xs ys zs : List A) (i : ℕ) (x y : A) → met_lists f xs ys ≡ Some zs → slice_get xs i ≡ Some x → slice_get ys i ≡ Some y → slice_get zs i ≡ Some (f x y)
met_get f [] ys zs i x y e ex ey = none_some ex
met_get f (u ∷ xs) [] zs i x y e ex ey = none_some ey
met_get f (u ∷ xs) (v ∷ ys) zs zero x y e ex ey =
    let c = cons_of (f u v) (met_lists f xs ys) zs e in
    subst (λ z. slice_get z 0 ≡ Some (f x y)) (sym c.2) (ap₂ (λ p q. Some (f p q)) (some_inj ex) (some_inj ey))
met_get f (u ∷ xs) (v ∷ ys) zs (suc i) x y e ex ey =
    let c = cons_of (f u v) (met_lists f xs ys) zs e in
    subst (λ z. slice_get z (suc i) ≡ Some (f x y)) (sym c.2) (met_get f xs ys c.0 i x y c.1 ex ey)

met_if : (ks ls zs : List Known) (k l : Known) (n m : ℕ) (b : Bool) → nat_eq n m ≡ b → met_lists met_known ks ls ≡ Some zs → slice_get ks n ≡ Some k → slice_get ls m ≡ Some l → CopyIs zs (met_known k l) (if b then Some n else None)
met_if ks ls zs k l n m true eb e ek el =
    met_get met_known ks ls zs n k l e ek (ap (slice_get ls) (eqb-true n m eb) ∙ el)
met_if ks ls zs k l n m false eb e ek el = tt

met_copy : (ks ls zs : List Known) (k l : Known) (c d : Option ℕ) → met_lists met_known ks ls ≡ Some zs → CopyIs ks k c → CopyIs ls l d → CopyIs zs (met_known k l) (met_copies c d)
met_copy ks ls zs k l (Some n) (Some m) e ek el = met_if ks ls zs k l n m (nat_eq n m) refl e ek el
met_copy ks ls zs k l c d e ek el = tt

met_each : (ks ls zs : List Known) (os ps qs : List Operand) → met_lists met_known ks ls ≡ Some zs → met_lists met_operand os ps ≡ Some qs → Each (OperandIs ks) os → Each (OperandIs ls) ps → Each (OperandIs zs) qs
met_each ks ls zs [] [] qs e eo h i = subst (Each (OperandIs zs)) (some_inj eo) tt
met_each ks ls zs (o ∷ os) (p ∷ ps) qs e eo h i =
    let c = cons_of (met_operand o p) (met_lists met_operand os ps) qs eo in
    subst (Each (OperandIs zs)) (sym c.2) (met_copy ks ls zs o.known p.known o.copies p.copies e h.0 i.0, met_each ks ls zs os ps c.0 e c.1 h.1 i.1)
met_each ks ls zs os ps qs e eo h i = none_some eo

pub meet_coherent : (count : ℕ) (d e m : Description) → Coherent count d → Coherent count e → meet d e ≡ Some m → Coherent count m
meet_coherent count d e m h i eq =
    let parts = met_parts (met_lists met_operand d.stack e.stack) (met_lists met_known d.locals e.locals) m eq in
    record {
      wide = each_long met_known d.locals e.locals m.locals parts.1 ∙ h.wide;
      copies = met_each d.locals e.locals m.locals d.stack e.stack m.stack parts.1 parts.0 h.copies i.copies;
    }

-- ---- loads and stores
loaded_is : (ks : List Known) (n : ℕ) → n < length ks → slice_get ks n ≡ Some (known_at ks n)
loaded_is ks n lt =
    let found = get_within ks n lt in
    found.1 ∙ ap (λ o. Some (unwrap_or o (untested Unknown))) (sym found.1)

forgot_if : (ks : List Known) (k l : Known) (n m : ℕ) (b : Bool) → nat_eq m n ≡ b → slice_get ks m ≡ Some k → CopyIs (slice_set ks n l) k (if b then None else Some m)
forgot_if ks k l n m true eb e = tt
forgot_if ks k l n m false eb e = get_set_other ks n m l (eqb-false m n eb) ∙ e

forgot : (ks : List Known) (n : ℕ) (l k : Known) (c : Option ℕ) → CopyIs ks k c → CopyIs (slice_set ks n l) k (if is_copy n c then None else c)
forgot ks n l k None h = tt
forgot ks n l k (Some m) h = forgot_if ks k l n m (nat_eq m n) refl h

stored_coherent : (count n : ℕ) (os : List Operand) (ks : List Known) → length ks ≡ count → Each (OperandIs ks) os → Coherent count (stored_from n os ks)
stored_coherent count n [] ks w h = record { wide = w; copies = tt }
stored_coherent count n (o ∷ os) ks w h = record {
  wide = length-set ks n o.known ∙ w;
  copies = each_map (OperandIs ks) (OperandIs (slice_set ks n o.known)) (forgotten n) (λ p hp. forgot ks n o.known p.known p.copies hp) os h.1;
}

-- ---- barriers
tested_if : (access : Access) (ks : List Known) (n m : ℕ) (o : Operand) (b : Bool) → nat_eq m n ≡ b → o.copies ≡ Some m → slice_get ks m ≡ Some o.known → OperandIs (at_place (tested access) n ks) (if b then tested_operand access o else o)
tested_if access ks n m o true eb ec e =
    subst (CopyIs (at_place (tested access) n ks) (tested access o.known)) (sym ec)
    (ap (slice_get (at_place (tested access) n ks)) (eqb-true m n eb) ∙ place_get (tested access) ks n o.known (ap (slice_get ks) (sym (eqb-true m n eb)) ∙ e))
tested_if access ks n m o false eb ec e =
    subst (CopyIs (at_place (tested access) n ks) o.known) (sym ec) (place_other (tested access) ks n m (eqb-false m n eb) ∙ e)

tested_some : (access : Access) (ks : List Known) (n : ℕ) (k : Known) (c : Option ℕ) → CopyIs ks k c → OperandIs (at_place (tested access) n ks) (tested_copy access (Some n) (record { known = k; copies = c }))
tested_some access ks n k None h = tt
tested_some access ks n k (Some m) h = tested_if access ks n m (record { known = k; copies = Some m }) (nat_eq m n) refl refl h

tested_with : (access : Access) (ks : List Known) (c : Option ℕ) (o : Operand) → OperandIs ks o → OperandIs (tested_local access c ks) (tested_copy access c o)
tested_with access ks None o h = h
tested_with access ks (Some n) o h = tested_some access ks n o.known o.copies h

tested_twice : (access : Access) (k : Known) → tested access (tested access k) ≡ tested access k
tested_twice Reading k = refl
tested_twice Writing k = refl

-- the operand itself, tested once more
itself_if : (access : Access) (ks : List Known) (n : ℕ) (k : Known) (b : Bool) → b ≡ true → slice_get ks n ≡ Some k → OperandIs (at_place (tested access) n ks) (tested_operand access (if b then tested_operand access (record { known = k; copies = Some n }) else record { known = k; copies = Some n }))
itself_if access ks n k true eb e = place_get (tested access) ks n k e ∙ ap (λ x. Some x) (sym (tested_twice access k))
itself_if access ks n k false eb e = absurd (false≢true eb)

itself_tested : (access : Access) (ks : List Known) (k : Known) (c : Option ℕ) → CopyIs ks k c → OperandIs (tested_local access c ks) (tested_operand access (tested_copy access c (record { known = k; copies = c })))
itself_tested access ks k None h = tt
itself_tested access ks k (Some n) h = itself_if access ks n k (nat_eq n n) (eq-eqb n n refl) h

map_at : {A B : Type 0} (f : A → B) (xs : List A) (i : ℕ) (y : B) → slice_get (map f xs) i ≡ Some y → (x : A) × (slice_get xs i ≡ Some x) × (f x ≡ y)
map_at f [] i y e = none_some e
map_at f (x ∷ xs) zero y e = (x, refl, some_inj e)
map_at f (x ∷ xs) (suc i) y e = map_at f xs i y e

-- what an operand is a copy of, by its place
copied_some : (os : List Operand) (i : ℕ) (o : Operand) → slice_get os i ≡ Some o → copied_at (slice_get os i) ≡ o.copies
copied_some os i o e = ap copied_at e

placed_tested : (access : Access) (ks : List Known) (c : Option ℕ) (o x : Operand) → OperandIs ks o → c ≡ o.copies → tested_copy access c o ≡ x → OperandIs (tested_local access c ks) (tested_operand access x)
placed_tested access ks c o x h ec ex =
    subst (λ y. OperandIs (tested_local access c ks) (tested_operand access y)) ex
    (subst (λ z. OperandIs (tested_local access z ks) (tested_operand access (tested_copy access z o))) (sym ec) (itself_tested access ks o.known o.copies h))

barred_coherent : (count : ℕ) (access : Access) (depth : ℕ) (d : Description) → Coherent count d → Coherent count (barred access depth (copied_at (slice_get d.stack depth)) d)
barred_coherent count access depth d h =
    let c = copied_at (slice_get d.stack depth) in
    record {
      wide = local_long access c d.locals ∙ h.wide;
      copies = each_placed (OperandIs (tested_local access c d.locals)) (tested_operand access) (map (tested_copy access c) d.stack) depth
          (λ x e. let o = map_at (tested_copy access c) d.stack depth x e in placed_tested access d.locals c o.0 x (each_at (OperandIs d.locals) d.stack depth o.0 o.1 h.copies) (copied_some d.stack depth o.0 o.1) o.2)
          (each_map (OperandIs d.locals) (OperandIs (tested_local access c d.locals)) (tested_copy access c) (tested_with access d.locals c) d.stack h.copies);
    }

-- ---- all changes

-- the local that a change names is one of so many
abbrev pub NamesLocal : ℕ → Change → Type 0
NamesLocal count (Loads n) = n < count
NamesLocal count _ = Unit {0}

put_coherent : (ks : List Known) (gives : Option ValueKind) (os : List Operand) → Each (OperandIs ks) os → Each (OperandIs ks) (put gives os)
put_coherent ks None os h = h
put_coherent ks (Some kind) os h = (tt, h)

pub left_coherent : (count : ℕ) (c : Change) (d : Description) → NamesLocal count c → Coherent count d → Coherent count (left c d)
left_coherent count (Loads n) d lt h =
    record { wide = h.wide; copies = (loaded_is d.locals n (omega (arith, lt, h.wide)), h.copies) }
left_coherent count (Stores n) d lt h = stored_coherent count n d.stack d.locals h.wide h.copies
left_coherent count (Tests access depth) d lt h = barred_coherent count access depth d h
left_coherent count (Trades takes gives) d lt h =
    record { wide = h.wide; copies = put_coherent d.locals gives _ (each_drop (OperandIs d.locals) (length takes) d.stack h.copies) }

-- ---- a barrier that tests again changes nothing
abbrev known_of : ValueKind → Bool → Bool → Known
known_of kind read write = record { kind = kind; read = read; write = write }

tested_same : (access : Access) (k : Known) → IsTrue (is_tested access k) → tested access k ≡ k
tested_same Reading k e = ap (λ b. known_of k.kind b k.write) (sym e)
tested_same Writing k e = ap (λ b. known_of k.kind k.read b) (sym e)

operand_same : (access : Access) (o : Operand) → IsTrue (is_tested access o.known) → tested_operand access o ≡ o
operand_same access o e = ap (λ (k : Known). let p : Operand = record { known = k; copies = o.copies } in p) (tested_same access o.known e)

same_if : (access : Access) (ks : List Known) (n m : ℕ) (k : Known) (o : Operand) (b : Bool) → nat_eq m n ≡ b → slice_get ks n ≡ Some k → slice_get ks m ≡ Some o.known → IsTrue (is_tested access k) → (if b then tested_operand access o else o) ≡ o
same_if access ks n m k o true eb en em t =
    operand_same access o (subst (λ x. IsTrue (is_tested access x)) (some_inj (sym en ∙ ap (slice_get ks) (sym (eqb-true m n eb)) ∙ em)) t)
same_if access ks n m k o false eb en em t = refl

same_some : (access : Access) (ks : List Known) (n : ℕ) (k l : Known) (c : Option ℕ) → slice_get ks n ≡ Some k → CopyIs ks l c → IsTrue (is_tested access k) → tested_copy access (Some n) (record { known = l; copies = c }) ≡ record { known = l; copies = c }
same_some access ks n k l None en h t = refl
same_some access ks n k l (Some m) en h t = same_if access ks n m k (record { known = l; copies = Some m }) (nat_eq m n) refl en h t

all_same : (access : Access) (ks : List Known) (k : Known) (c : Option ℕ) (os : List Operand) → CopyIs ks k c → IsTrue (is_tested access k) → Each (OperandIs ks) os → map (tested_copy access c) os ≡ os
all_same access ks k c [] h t e = refl
all_same access ks k None (o ∷ os) h t e = ap (λ xs. o ∷ xs) (all_same access ks k None os h t e.1)
all_same access ks k (Some n) (o ∷ os) h t e =
    ap₂ (λ x xs. x ∷ xs) (same_some access ks n k o.known o.copies h e.0 t) (all_same access ks k (Some n) os h t e.1)

local_same : (access : Access) (ks : List Known) (k : Known) (c : Option ℕ) → CopyIs ks k c → IsTrue (is_tested access k) → tested_local access c ks ≡ ks
local_same access ks k None h t = refl
local_same access ks k (Some n) h t = place_same (tested access) ks n k h (tested_same access k t)

abbrev description_of : List Operand → List Known → Description
description_of os ks = record { stack = os; locals = ks }

pub barred_same : (count : ℕ) (access : Access) (depth : ℕ) (d : Description) (o : Operand) → Coherent count d → slice_get d.stack depth ≡ Some o → IsTrue (is_tested access o.known) → left (Tests access depth) d ≡ d
barred_same count access depth d o h e t =
    let own = each_at (OperandIs d.locals) d.stack depth o e h.copies in
    let copies = all_same access d.locals o.known o.copies d.stack own t h.copies in
    let stack = ap (at_place (tested_operand access) depth) copies ∙ place_same (tested_operand access) d.stack depth o e (operand_same access o t) in
    ap (λ c. barred access depth c d) (ap copied_at e) ∙ ap₂ description_of stack (local_same access d.locals o.known o.copies own t)
