-- Where regions are numbered in order, each number stands once: a unit that has it is the first that has it.
use Rattle.std.proofs.Common.{◌≡◌, ℕ, zero, suc, ◌+◌, ◌≤◌, true, false, cond, List, [], ◌∷◌, Option, Some, refl, ap, ◌∙◌, arith}
use Rattle.std.proofs.lemmas.Bool.Decides.{nat_tests}
use Rattle.std.specs.Prelude.{nat_eq, slice_get}
use Rattle.lam_bytecode.specs.declared.unit.CodeUnit.{CodeUnit}
use Rattle.lam_bytecode.specs.declared.unit.UnitKind.{UnitKind}
use Rattle.lam_bytecode.specs.declared.unit.UnitKind.TheVariants.{Function, Region}
use Rattle.lam_bytecode.specs.Codes.{CodeTree, IsCode, AreCounted, number_before, region_numbers}
use Rattle.thread_steps.specs.Ops.{is_region, region_from, region_in}

some_is : {A : Type 0} (a b : A) → ◌≡◌ {A = Option A} (Some a) (Some b) → a ≡ b
some_is a b e = cc

-- the numbers behind a unit are counted on, and the unit has none of those
abbrev Onwards : ℕ → UnitKind → List ℕ → Type 0
Onwards n k ns = (m : ℕ) × (n ≤ m) × AreCounted m ns × ((r : ℕ) → m ≤ r → is_region r k ≡ false)

another : (n m r : ℕ) → m ≡ n → suc n ≤ r → nat_eq m r ≡ false
another n m r e h = grind (arith, nat_tests, e, h)

onwards : (k : UnitKind) (ns : List ℕ) (n : ℕ) → AreCounted n (number_before k ns) → Onwards n k ns
onwards (Function name takes gives_int) ns n h = (n, omega arith, h, λ r l. refl)
onwards (Region region captures catch_at) ns n h = (suc n, omega arith, h.1, λ r l. another n region r h.0 l)

head_least : (k : UnitKind) (ns : List ℕ) (n r : ℕ) → AreCounted n (number_before k ns) → is_region r k ≡ true → n ≤ r
head_least (Function name takes gives_int) ns n r h t = absurd cc
head_least (Region region captures catch_at) ns n r h t =
    let e : nat_eq region r ≡ true = t in
    let same : region ≡ r = grind (arith, nat_tests, e) in
    omega (arith, same, h.0)

least : (us : List CodeUnit) (n i r : ℕ) (u : CodeUnit) → AreCounted n (region_numbers us) → slice_get us i ≡ Some u → is_region r u.kind ≡ true → n ≤ r
least [] n i r u h e t = absurd cc
least (x ∷ us) n zero r u h e t = head_least x.kind (region_numbers us) n r h (ap (λ (v : CodeUnit). is_region r v.kind) (some_is x u e) ∙ t)
least (x ∷ us) n (suc i) r u h e t =
    let more = onwards x.kind (region_numbers us) n h in
    omega (arith, more.1, least us more.0 i r u more.2 e t)

pub first_with : (us : List CodeUnit) (n k i r : ℕ) (u : CodeUnit) → AreCounted n (region_numbers us) → slice_get us i ≡ Some u → is_region r u.kind ≡ true → region_from k r us ≡ Some (record { number = k + i; it = u })
first_with [] n k i r u h e t = absurd cc
first_with (x ∷ us) n k zero r u h e t =
    let z : k ≡ k + zero = omega arith in
    let same = some_is x u e in
    ap (λ b. cond b (Some (record { number = k; it = x })) (region_from (k + 1) r us)) (ap (λ (v : CodeUnit). is_region r v.kind) same ∙ t)
    ∙ (ap (λ j. Some (record { number = j; it = x })) z ∙ ap (λ (v : CodeUnit). Some (record { number = k + zero; it = v })) same)
first_with (x ∷ us) n k (suc i) r u h e t =
    let z : k + 1 + i ≡ k + suc i = omega arith in
    let more = onwards x.kind (region_numbers us) n h in
    let l = least us more.0 i r u more.2 e t in
    ap (λ b. cond b (Some (record { number = k; it = x })) (region_from (k + 1) r us)) (more.3 r l)
    ∙ (first_with us more.0 (k + 1) i r u more.2 e t ∙ ap (λ j. Some (record { number = j; it = u })) z)

pub region_first : (code : CodeTree) (i r : ℕ) (u : CodeUnit) → IsCode code → slice_get code.units i ≡ Some u → is_region r u.kind ≡ true → region_in r code.units ≡ Some (record { number = i; it = u })
region_first code i r u is e t =
    let z : 0 + i ≡ i = omega arith in
    first_with code.units 0 0 i r u is.regions e t ∙ ap (λ j. Some (record { number = j; it = u })) z
