-- What a description says goes on holding as values are put, taken, copied, stored and tested.
use Rattle.std.proofs.Common.{◌≡◌, ℕ, zero, suc, List, [], ◌∷◌, map, Bool, true, false, if◌then◌else◌, Option, Some, None, slice_get, slice_set, refl, sym, ap, ◌∙◌, subst}
use Rattle.std.specs.Prelude.{drop, nat_eq}
use Rattle.std.proofs.lemmas.Bool.{eqb-true, eqb-false, false≢true}
use Rattle.flow_labels.specs.declared.Label.{Label}
use Rattle.lam_value.specs.declared.values.Value.{Value}
use Rattle.guarded_code.specs.declared.known.ValueKind.{ValueKind}
use Rattle.guarded_code.specs.declared.known.Access.{Access}
use Rattle.guarded_code.specs.declared.known.Access.TheVariants.{Reading, Writing}
use Rattle.guarded_code.specs.declared.known.Known.{Known}
use Rattle.guarded_code.specs.declared.known.Operand.{Operand}
use Rattle.guarded_code.specs.Descriptions.{Description, untested, tested, fresh}
use Rattle.guarded_code.specs.Changes.{known_at, is_copy, loaded, forgotten, stored_from, stored, at_place, tested_operand, tested_copy, tested_local, copied_at, barred, traded}
use Rattle.guarded_code.specs.Says.{Pairwise, KnownSays, CopySays, OperandSays, Says}
use Rattle.guarded_code.proofs.Tables.{none_some, some_inj, get_set_other}
use Rattle.guarded_code.proofs.Lists.{each_set, each_drop}
use Rattle.guarded_code_threads.specs.Described.{Allows, FactsHold, CopyHolds, OperandHolds, Agrees}

-- ---- two lists

each_weaken : {A B : Type 0} (R : A → A → Type 0) (S : A → B → Type 0) → ((x y : A) (v : B) → R x y → S x v → S y v) → (xs ys : List A) (vs : List B) → Pairwise R xs ys → Pairwise S xs vs → Pairwise S ys vs
each_weaken R S h [] [] vs r s = s
each_weaken R S h (x ∷ xs) (y ∷ ys) [] r s = absurd s
each_weaken R S h (x ∷ xs) (y ∷ ys) (v ∷ vs) r s = (h x y v r.0 s.0, each_weaken R S h xs ys vs r.1 s.1)
each_weaken R S h y xs vs r s = absurd r

each_left : {A B : Type 0} (R S : A → B → Type 0) (f : A → A) → ((x : A) (y : B) → R x y → S (f x) y) → (xs : List A) (ys : List B) → Pairwise R xs ys → Pairwise S (map f xs) ys
each_left R S f h [] [] r = tt
each_left R S f h (x ∷ xs) (y ∷ ys) r = (h x y r.0, each_left R S f h xs ys r.1)
each_left R S f h xs ys r = absurd r

-- the one at the place of a value
each_there : {A B : Type 0} (R : A → B → Type 0) (f : A → A) (xs : List A) (ys : List B) (i : ℕ) (y : B) → slice_get ys i ≡ Some y → ((x : A) → R x y → R (f x) y) → Pairwise R xs ys → Pairwise R (at_place f i xs) ys
each_there R f [] [] i y e h r = tt
each_there R f (x ∷ xs) (z ∷ ys) zero y e h r = (subst (R (f x)) (sym (some_inj e)) (h x (subst (R x) (some_inj e) r.0)), r.1)
each_there R f (x ∷ xs) (z ∷ ys) (suc i) y e h r = (r.0, each_there R f xs ys i y e h r.1)
each_there R f xs ys i y e h r = absurd r

-- what stands beside a value
pub each_beside : {A B : Type 0} (R : A → B → Type 0) (xs : List A) (ys : List B) (i : ℕ) (y : B) → slice_get ys i ≡ Some y → Pairwise R xs ys → (x : A) × (slice_get xs i ≡ Some x) × R x y
each_beside R [] [] i y e r = none_some e
each_beside R (x ∷ xs) (z ∷ ys) zero y e r = (x, refl, subst (R x) (some_inj e) r.0)
each_beside R (x ∷ xs) (z ∷ ys) (suc i) y e r = each_beside R xs ys i y e r.1
each_beside R xs ys i y e r = absurd r

-- what stands on the rest, where a value of a kind is put there, and where none is
abbrev pub PutOn : Option ValueKind → List Value → List Value → Type 0
PutOn None rest s = s ≡ rest
PutOn (Some kind) rest s = (v : Value) × (s ≡ v ∷ rest)

module _ (p : Label) where
  -- ---- what says less holds too

  copy_weaken : (ls : List Value) (v : Value) (c k : Option ℕ) → CopySays c k → CopyHolds ls c v → CopyHolds ls k v
  copy_weaken ls v c None s h = tt
  copy_weaken ls v c (Some n) s h = subst (λ x. CopyHolds ls x v) s h

  pub agrees_weaken : (d e : Description) (ls vs : List Value) → Says d e → Agrees p d ls vs → Agrees p e ls vs
  agrees_weaken d e ls vs s h =
      record {
        operands = each_weaken OperandSays (OperandHolds p ls) (λ o q v r a. ((λ access t. a.0 access (r.0.tests access t)), copy_weaken ls v o.copies q.copies r.1 a.1)) d.stack e.stack vs s.stack h.operands;
        values = each_weaken KnownSays (FactsHold p) (λ k l v r a access t. a access (r.tests access t)) d.locals e.locals ls s.locals h.values;
      }

  -- ---- where nothing is tested

  pub untested_holds : (kind : ValueKind) (v : Value) → FactsHold p (untested kind) v
  untested_holds kind v Reading e = absurd (false≢true e)
  untested_holds kind v Writing e = absurd (false≢true e)

  pub fresh_holds : (kind : ValueKind) (ls : List Value) (v : Value) → OperandHolds p ls (fresh kind) v
  fresh_holds kind ls v = (untested_holds kind v, tt)

  -- ---- what is put and taken

  pub trade_agrees : (n : ℕ) (g : Option ValueKind) (d : Description) (ls vs s : List Value) → Agrees p d ls vs → PutOn g (drop n vs) s → Agrees p (traded n g d) ls s
  trade_agrees n None d ls vs s h e =
      record { operands = subst (λ x. Pairwise (OperandHolds p ls) (drop n d.stack) x) (sym e) (each_drop (OperandHolds p ls) n d.stack vs h.operands); values = h.values }
  trade_agrees n (Some kind) d ls vs s h e =
      record {
        operands = subst (λ x. Pairwise (OperandHolds p ls) (fresh kind ∷ drop n d.stack) x) (sym e.1) (fresh_holds kind ls e.0, each_drop (OperandHolds p ls) n d.stack vs h.operands);
        values = h.values;
      }

  -- ---- loads

  known_holds : (ks : List Known) (ls : List Value) (n : ℕ) (v : Value) → Pairwise (FactsHold p) ks ls → slice_get ls n ≡ Some v → FactsHold p (known_at ks n) v
  known_holds [] [] n v h e = none_some e
  known_holds (k ∷ ks) (l ∷ ls) zero v h e = subst (FactsHold p k) (some_inj e) h.0
  known_holds (k ∷ ks) (l ∷ ls) (suc n) v h e = known_holds ks ls n v h.1 e
  known_holds ks ls n v h e = absurd h

  pub load_agrees : (n : ℕ) (d : Description) (ls vs : List Value) (v : Value) → Agrees p d ls vs → slice_get ls n ≡ Some v → Agrees p (loaded n d) ls (v ∷ vs)
  load_agrees n d ls vs v h e = record { operands = ((known_holds d.locals ls n v h.values e, e), h.operands); values = h.values }

  -- ---- stores

  forget_if : (ls : List Value) (n m : ℕ) (v w : Value) (b : Bool) → nat_eq m n ≡ b → slice_get ls m ≡ Some v → CopyHolds (slice_set ls n w) (if b then None else Some m) v
  forget_if ls n m v w true eb e = tt
  forget_if ls n m v w false eb e = get_set_other ls n m w (eqb-false m n eb) ∙ e

  forget_holds : (ls : List Value) (n : ℕ) (v w : Value) (c : Option ℕ) → CopyHolds ls c v → CopyHolds (slice_set ls n w) (if is_copy n c then None else c) v
  forget_holds ls n v w None h = tt
  forget_holds ls n v w (Some m) h = forget_if ls n m v w (nat_eq m n) refl h

  store_by : (n : ℕ) (os : List Operand) (ks : List Known) (ls vs : List Value) (w : Value) → Pairwise (OperandHolds p ls) os (w ∷ vs) → Pairwise (FactsHold p) ks ls → Agrees p (stored_from n os ks) (slice_set ls n w) vs
  store_by n [] ks ls vs w h i = absurd h
  store_by n (o ∷ os) ks ls vs w h i =
      record {
        operands = each_left (OperandHolds p ls) (OperandHolds p (slice_set ls n w)) (forgotten n) (λ q v a. (a.0, forget_holds ls n v w q.copies a.1)) os vs h.1;
        values = each_set (FactsHold p) ks ls n o.known w h.0.0 i;
      }

  pub store_agrees : (n : ℕ) (d : Description) (ls vs : List Value) (w : Value) → Agrees p d ls (w ∷ vs) → Agrees p (stored n d) (slice_set ls n w) vs
  store_agrees n d ls vs w h = store_by n d.stack d.locals ls vs w h.operands h.values

  -- ---- barriers

  tested_holds : (access : Access) (k : Known) (v : Value) → Allows p access v → FactsHold p k v → FactsHold p (tested access k) v
  tested_holds Reading k v a h Writing e = h Writing e
  tested_holds Writing k v a h Reading e = h Reading e
  tested_holds access k v a h _ e = a

  operand_holds : (access : Access) (ls : List Value) (o : Operand) (v : Value) → Allows p access v → OperandHolds p ls o v → OperandHolds p ls (tested_operand access o) v
  operand_holds access ls o v a h = (tested_holds access o.known v a h.0, h.1)

  -- a copy of the tested local is equal to it
  copy_if : (access : Access) (ls : List Value) (o : Operand) (v w : Value) (n m : ℕ) (b : Bool) → nat_eq m n ≡ b → slice_get ls n ≡ Some w → slice_get ls m ≡ Some v → Allows p access w → OperandHolds p ls o v →
      OperandHolds p ls (if b then tested_operand access o else o) v
  copy_if access ls o v w n m true eb en em a h =
      let same : w ≡ v = some_inj (sym en ∙ ap (slice_get ls) (sym (eqb-true m n eb)) ∙ em) in
      operand_holds access ls o v (subst (Allows p access) same a) h
  copy_if access ls o v w n m false eb en em a h = h

  copy_some : (access : Access) (ls : List Value) (k : Known) (c : Option ℕ) (v w : Value) (n : ℕ) → slice_get ls n ≡ Some w → Allows p access w → OperandHolds p ls (record { known = k; copies = c }) v →
      OperandHolds p ls (tested_copy access (Some n) (record { known = k; copies = c })) v
  copy_some access ls k None v w n e a h = h
  copy_some access ls k (Some m) v w n e a h = copy_if access ls (record { known = k; copies = Some m }) v w n m (nat_eq m n) refl e h.1 a h

  copy_holds : (access : Access) (ls : List Value) (c : Option ℕ) (w : Value) (o : Operand) (v : Value) → CopyHolds ls c w → Allows p access w → OperandHolds p ls o v → OperandHolds p ls (tested_copy access c o) v
  copy_holds access ls None w o v e a h = h
  copy_holds access ls (Some n) w o v e a h = copy_some access ls o.known o.copies v w n e a h

  local_holds : (access : Access) (ls : List Value) (ks : List Known) (c : Option ℕ) (w : Value) → CopyHolds ls c w → Allows p access w → Pairwise (FactsHold p) ks ls → Pairwise (FactsHold p) (tested_local access c ks) ls
  local_holds access ls ks None w e a h = h
  local_holds access ls ks (Some n) w e a h = each_there (FactsHold p) (tested access) ks ls n w e (λ k i. tested_holds access k w a i) h

  copied_holds : (os : List Operand) (ls vs : List Value) (depth : ℕ) (w : Value) → slice_get vs depth ≡ Some w → Pairwise (OperandHolds p ls) os vs → CopyHolds ls (copied_at (slice_get os depth)) w
  copied_holds os ls vs depth w e h =
      let b = each_beside (OperandHolds p ls) os vs depth w e h in
      subst (λ o. CopyHolds ls (copied_at o) w) (sym b.1) b.2.1

  pub barrier_agrees : (access : Access) (depth : ℕ) (d : Description) (ls vs : List Value) (w : Value) → Agrees p d ls vs → slice_get vs depth ≡ Some w → Allows p access w → Agrees p (barred access depth (copied_at (slice_get d.stack depth)) d) ls vs
  barrier_agrees access depth d ls vs w h e a =
      let c = copied_holds d.stack ls vs depth w e h.operands in
      let copies = copied_at (slice_get d.stack depth) in
      record {
        operands = each_there (OperandHolds p ls) (tested_operand access) (map (tested_copy access copies) d.stack) vs depth w e (λ o i. operand_holds access ls o w a i)
            (each_left (OperandHolds p ls) (OperandHolds p ls) (tested_copy access copies) (λ o v i. copy_holds access ls copies w o v c a i) d.stack vs h.operands);
        values = local_holds access ls d.locals copies w c a h.values;
      }
