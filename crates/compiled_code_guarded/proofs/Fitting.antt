-- Descriptions that fit a shape: where they meet, and after an operation.
use Rattle.std.proofs.Common.{IsTrue, ◌≡◌, ℕ, zero, suc, ◌+◌, ◌<◌, ◌≤◌, Bool, true, false, if◌then◌else◌, nat_eq, List, [], ◌∷◌, ◌++◌, map, Option, Some, None, length, slice_get, slice_set, refl, sym, ap, ap₂, ◌∙◌, subst, arith}
use Rattle.std.specs.Prelude.{drop, replicate, unwrap_or}
use Rattle.std.proofs.lemmas.Bool.{eqb-true, eqb-false}
use Rattle.std.proofs.lemmas.List.{length-set, length-map}
use Rattle.guarded_code.specs.declared.known.ValueKind.{ValueKind}
use Rattle.guarded_code.specs.declared.known.ValueKind.TheVariants.{Other, Unknown}
use Rattle.guarded_code.specs.declared.known.Access.{Access}
use Rattle.guarded_code.specs.declared.known.Access.TheVariants.{Reading, Writing}
use Rattle.guarded_code.specs.declared.known.Known.{Known}
use Rattle.guarded_code.specs.declared.known.Operand.{Operand}
use Rattle.guarded_code.specs.Descriptions.{Description, untested, is_tested, tested, fresh, met_known, met_operand, put_before, met_lists, described, meet}
use Rattle.guarded_code.specs.Changes.{Place, Any, Only, Change, Loads, Stores, Tests, Trades, wanted, known_at, is_copy, loaded, forgotten, stored_from, at_place, tested_operand, tested_copy, tested_local, copied_at, barred, put, traded, left}
use Rattle.guarded_code.specs.Breaks.{is_tested_at}
use Rattle.guarded_code.specs.Says.{Pairwise}
use Rattle.guarded_code.proofs.Tables.{none_some, some_inj, get_set_other}
use Rattle.guarded_code.proofs.Lists.{each_drop, each_long_same, long_place}
use Rattle.compiled_code_guarded.specs.Layouts.{Fact, Shape, fact_of, IsOfKind, OperandFits, HasFact, Fits, TakesKinds, SlotsSay, FactSays, IsPut, with_slot, Follows}
use Rattle.compiled_code_guarded.proofs.OfKinds.{met_of_kind, of_less, met_tested}

-- ---- meeting

abbrev TestedAt : Access → ℕ → List Operand → Type 0
TestedAt access i os = IsTrue (is_tested_at access (slice_get os i))

abbrev MetStack : List Operand → List Operand → List ValueKind → Type 0
MetStack os ps ks =
    (qs : List Operand) × (met_lists met_operand os ps ≡ Some qs) × Pairwise OperandFits qs ks × ((access : Access) (i : ℕ) → TestedAt access i os → TestedAt access i ps → TestedAt access i qs)

met_stack : (os ps : List Operand) (ks : List ValueKind) → Pairwise OperandFits os ks → Pairwise OperandFits ps ks → MetStack os ps ks
met_stack [] [] [] h i = ([], refl, tt, λ access n a b. a)
met_stack [] (p ∷ ps) [] h i = absurd i
met_stack (o ∷ os) [] (k ∷ ks) h i = absurd i
met_stack (o ∷ os) (p ∷ ps) (k ∷ ks) h i =
    let r = met_stack os ps ks h.1 i.1 in
    (met_operand o p ∷ r.0, ap (put_before (met_operand o p)) r.1, (met_of_kind o.known.kind p.known.kind k h.0 i.0, r.2), at r.0 r.3)
  where
    at : (qs : List Operand) → ((access : Access) (n : ℕ) → TestedAt access n os → TestedAt access n ps → TestedAt access n qs) → (access : Access) (n : ℕ) → TestedAt access n (o ∷ os) → TestedAt access n (p ∷ ps) → TestedAt access n (met_operand o p ∷ qs)
    at qs f access zero a b = met_tested access o.known p.known a b
    at qs f access (suc n) a b = f access n a b
met_stack os ps ks h i = absurd h

met_locals : (xs ys : List Known) → length xs ≡ length ys → (zs : List Known) × (met_lists met_known xs ys ≡ Some zs) × (length zs ≡ length xs) × ((n : ℕ) → known_at zs n ≡ met_known (known_at xs n) (known_at ys n))
met_locals [] [] e = ([], refl, refl, λ n. refl)
met_locals [] (y ∷ ys) e = absurd (omega (arith, e))
met_locals (x ∷ xs) [] e = absurd (omega (arith, e))
met_locals (x ∷ xs) (y ∷ ys) e =
    let r = met_locals xs ys (omega (arith, e)) in
    (met_known x y ∷ r.0, ap (put_before (met_known x y)) r.1, ap suc r.2, at r.0 r.3)
  where
    at : (zs : List Known) → ((n : ℕ) → known_at zs n ≡ met_known (known_at xs n) (known_at ys n)) → (n : ℕ) → known_at (met_known x y ∷ zs) n ≡ met_known (known_at (x ∷ xs) n) (known_at (y ∷ ys) n)
    at zs f zero = refl
    at zs f (suc n) = f n

met_fact : (m : Option Fact) (os ps qs : List Operand) → ((access : Access) (i : ℕ) → TestedAt access i os → TestedAt access i ps → TestedAt access i qs) → HasFact m os → HasFact m ps → HasFact m qs
met_fact None os ps qs f a b = tt
met_fact (Some m) os ps qs f a b = f m.access m.depth a b

-- what fits a shape meets, and then it fits
pub fits_meet : (locals : ℕ) (d e : Description) (s : Shape) → Fits locals d s → Fits locals e s → (m : Description) × (meet d e ≡ Some m) × Fits locals m s
fits_meet locals d e s h i =
    let os = met_stack d.stack e.stack s.stack h.stack i.stack in
    let ks = met_locals d.locals e.locals (h.size ∙ sym i.size) in (
      record { stack = os.0; locals = ks.0 },
      ap₂ described os.1 ks.1,
      record {
        stack = os.2;
        slots = λ n. subst (λ k. IsOfKind k.kind (s.slots n)) (sym (ks.3 n)) (met_of_kind (known_at d.locals n).kind (known_at e.locals n).kind (s.slots n) (h.slots n) (i.slots n));
        size = ks.2 ∙ h.size;
        fact = met_fact s.fact d.stack e.stack os.0 os.3 h.fact i.fact;
      },
    )

-- ---- after an operation

slots_fit : (ks : List Known) (f g : ℕ → ValueKind) → ((n : ℕ) → IsOfKind (known_at ks n).kind (f n)) → SlotsSay f g → (n : ℕ) → IsOfKind (known_at ks n).kind (g n)
slots_fit ks f g h s n = of_less (known_at ks n).kind (f n) (g n) (h n) (s n)

no_fact : (m : Option Fact) (os : List Operand) → FactSays None m → HasFact m os
no_fact None os h = tt
no_fact (Some m) os h = none_some h

-- a load
loads_fit : (locals n : ℕ) (d : Description) (s t : Shape) → Fits locals d s → Follows (Loads n) s t → Fits locals (loaded n d) t
loads_fit locals n d s t h f = record {
  stack = subst (Pairwise OperandFits (loaded n d).stack) (sym f.0) (h.slots n, h.stack);
  slots = slots_fit d.locals s.slots t.slots h.slots f.1;
  size = h.size;
  fact = no_fact t.fact (loaded n d).stack f.2;
}

-- a store
forgotten_fit : (n : ℕ) (os : List Operand) (ks : List ValueKind) → Pairwise OperandFits os ks → Pairwise OperandFits (map (forgotten n) os) ks
forgotten_fit n [] [] h = tt
forgotten_fit n (o ∷ os) (k ∷ ks) h = (h.0, forgotten_fit n os ks h.1)
forgotten_fit n os ks h = absurd h

set_here : (ks : List Known) (n : ℕ) (x : Known) (k : ValueKind) → IsOfKind x.kind k → IsOfKind (known_at (slice_set ks n x) n).kind k
set_here [] n x k h = refl
set_here (y ∷ ks) zero x k h = h
set_here (y ∷ ks) (suc n) x k h = set_here ks n x k h

set_fits : (ks : List Known) (f : ℕ → ValueKind) (n : ℕ) (x : Known) (k : ValueKind) → ((m : ℕ) → IsOfKind (known_at ks m).kind (f m)) → IsOfKind x.kind k → (m : ℕ) → IsOfKind (known_at (slice_set ks n x) m).kind (with_slot f n k m)
set_fits ks f n x k h is m = by (nat_eq m n) refl
  where
    by : (b : Bool) → nat_eq m n ≡ b → IsOfKind (known_at (slice_set ks n x) m).kind (if b then k else f m)
    by true e = subst (λ i. IsOfKind (known_at (slice_set ks n x) i).kind k) (sym (eqb-true m n e)) (set_here ks n x k is)
    by false e = subst (λ o. IsOfKind (unwrap_or o (untested Unknown)).kind (f m)) (sym (get_set_other ks n m x (eqb-false m n e))) (h m)

stores_fit : (locals n : ℕ) (os : List Operand) (ks : List Known) (k : ValueKind) (s t : Shape) → Pairwise OperandFits os (k ∷ t.stack) → ((m : ℕ) → IsOfKind (known_at ks m).kind (s.slots m)) → length ks ≡ locals → SlotsSay (with_slot s.slots n k) t.slots → FactSays None t.fact → Fits locals (stored_from n os ks) t
stores_fit locals n [] ks k s t h slots size say fact = absurd h
stores_fit locals n (o ∷ os) ks k s t h slots size say fact = record {
  stack = forgotten_fit n os t.stack h.1;
  slots = slots_fit (slice_set ks n o.known) (with_slot s.slots n k) t.slots (set_fits ks s.slots n o.known k slots h.0) say;
  size = length-set ks n o.known ∙ size;
  fact = no_fact t.fact (map (forgotten n) os) fact;
}

-- a barrier
tested_kind : (access : Access) (k : Known) → (tested access k).kind ≡ k.kind
tested_kind Reading k = refl
tested_kind Writing k = refl

tested_fits : (access : Access) (o : Operand) (k : ValueKind) → OperandFits o k → OperandFits (tested_operand access o) k
tested_fits access o k h = subst (λ z. IsOfKind z k) (sym (tested_kind access o.known)) h

if_fits : (access : Access) (b : Bool) (o : Operand) (k : ValueKind) → OperandFits o k → OperandFits (if b then tested_operand access o else o) k
if_fits access true o k h = tested_fits access o k h
if_fits access false o k h = h

copy_fits : (access : Access) (c : Option ℕ) (o : Operand) (k : ValueKind) → OperandFits o k → OperandFits (tested_copy access c o) k
copy_fits access None o k h = h
copy_fits access (Some n) o k h = if_fits access (is_copy n o.copies) o k h

copies_fit : (access : Access) (c : Option ℕ) (os : List Operand) (ks : List ValueKind) → Pairwise OperandFits os ks → Pairwise OperandFits (map (tested_copy access c) os) ks
copies_fit access c [] [] h = tt
copies_fit access c (o ∷ os) (k ∷ ks) h = (copy_fits access c o k h.0, copies_fit access c os ks h.1)
copies_fit access c os ks h = absurd h

place_fits : (access : Access) (i : ℕ) (os : List Operand) (ks : List ValueKind) → Pairwise OperandFits os ks → Pairwise OperandFits (at_place (tested_operand access) i os) ks
place_fits access i [] [] h = tt
place_fits access zero (o ∷ os) (k ∷ ks) h = (tested_fits access o k h.0, h.1)
place_fits access (suc i) (o ∷ os) (k ∷ ks) h = (h.0, place_fits access i os ks h.1)
place_fits access i os ks h = absurd h

place_known : (access : Access) (i : ℕ) (ks : List Known) (n : ℕ) → (known_at (at_place (tested access) i ks) n).kind ≡ (known_at ks n).kind
place_known access zero (k ∷ ks) zero = tested_kind access k
place_known access (suc i) (k ∷ ks) (suc n) = place_known access i ks n
place_known access i ks n = refl

local_known : (access : Access) (c : Option ℕ) (ks : List Known) (n : ℕ) → (known_at (tested_local access c ks) n).kind ≡ (known_at ks n).kind
local_known access None ks n = refl
local_known access (Some i) ks n = place_known access i ks n

local_long : (access : Access) (c : Option ℕ) (ks : List Known) → length (tested_local access c ks) ≡ length ks
local_long access None ks = refl
local_long access (Some i) ks = long_place (tested access) i ks

is_tested_now : (access : Access) (k : Known) → IsTrue (is_tested access (tested access k))
is_tested_now Reading k = refl
is_tested_now Writing k = refl

place_tested : (access : Access) (i : ℕ) (os : List Operand) → i < length os → TestedAt access i (at_place (tested_operand access) i os)
place_tested access i [] lt = absurd (omega (arith, lt))
place_tested access zero (o ∷ os) lt = is_tested_now access o.known
place_tested access (suc i) (o ∷ os) lt = place_tested access i os (omega (arith, lt))

has_fact : (access : Access) (i : ℕ) (m : Option Fact) (os : List Operand) → FactSays (fact_of access i) m → TestedAt access i os → HasFact m os
has_fact access i None os h t = tt
has_fact access i (Some m) os h t = subst (λ x. IsTrue (is_tested_at x.access (slice_get os x.depth))) (some_inj h) t

tests_fit : (locals : ℕ) (access : Access) (depth : ℕ) (c : Option ℕ) (d : Description) (s t : Shape) → depth < length d.stack → Fits locals d s → Follows (Tests access depth) s t → Fits locals (barred access depth c d) t
tests_fit locals access depth c d s t lt h f =
    let os = map (tested_copy access c) d.stack in
    record {
      stack = place_fits access depth os t.stack (copies_fit access c d.stack t.stack (subst (Pairwise OperandFits d.stack) (sym f.0) h.stack));
      slots = slots_fit (tested_local access c d.locals) s.slots t.slots (λ n. subst (λ k. IsOfKind k (s.slots n)) (sym (local_known access c d.locals n)) (h.slots n)) f.1;
      size = local_long access c d.locals ∙ h.size;
      fact = has_fact access depth t.fact (at_place (tested_operand access) depth os) f.2 (place_tested access depth os (omega (arith, lt, length-map d.stack (tested_copy access c))));
    }

-- all others
put_fits : (gives : Option ValueKind) (os : List Operand) (ks stack : List ValueKind) → Pairwise OperandFits os ks → IsPut gives ks stack → Pairwise OperandFits (put gives os) stack
put_fits None os ks stack h e = subst (Pairwise OperandFits os) (sym e) h
put_fits (Some kind) os ks stack h e = subst (Pairwise OperandFits (fresh kind ∷ os)) (sym e.1) (e.2, h)

trades_fit : (locals : ℕ) (takes : List Place) (gives : Option ValueKind) (d : Description) (s t : Shape) → Fits locals d s → Follows (Trades takes gives) s t → Fits locals (traded (length takes) gives d) t
trades_fit locals takes gives d s t h f = record {
  stack = put_fits gives (drop (length takes) d.stack) (drop (length takes) s.stack) t.stack (each_drop OperandFits (length takes) d.stack s.stack h.stack) f.0;
  slots = slots_fit d.locals s.slots t.slots h.slots f.1;
  size = h.size;
  fact = no_fact t.fact (put gives (drop (length takes) d.stack)) f.2;
}

pub taken_long : (ps : List Place) (ks : List ValueKind) → TakesKinds ps ks → length ps ≤ length ks
taken_long [] ks h = omega arith
taken_long (p ∷ ps) [] h = absurd h
taken_long (p ∷ ps) (k ∷ ks) h = omega (arith, taken_long ps ks h.1)

places_long : (depth : ℕ) (ps : List Place) → length (replicate depth Any ++ ps) ≡ depth + length ps
places_long zero ps = omega arith
places_long (suc depth) ps = omega (arith, places_long depth ps)

-- what an operation leaves of a description fits what follows
pub fits_left : (locals : ℕ) (c : Change) (d : Description) (s t : Shape) → TakesKinds (wanted c) s.stack → Fits locals d s → Follows c s t → Fits locals (left c d) t
fits_left locals (Loads n) d s t takes h f = loads_fit locals n d s t h f
fits_left locals (Stores n) d s t takes h f =
    stores_fit locals n d.stack d.locals f.0 s t (subst (Pairwise OperandFits d.stack) f.1 h.stack) h.slots h.size f.2 f.3
fits_left locals (Tests access depth) d s t takes h f =
    let long = each_long_same OperandFits d.stack s.stack h.stack in
    let most = taken_long (wanted (Tests access depth)) s.stack takes in
    tests_fit locals access depth (copied_at (slice_get d.stack depth)) d s t (omega (arith, long, most, places_long depth (Only Other ∷ []))) h f
fits_left locals (Trades takes' gives) d s t takes h f = trades_fit locals takes' gives d s t h f
