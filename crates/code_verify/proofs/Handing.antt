-- Where the rounds go on, and where they stop.
use Rattle.std.proofs.Common.{◌≡◌, ℕ, suc, ◌+◌, ◌-◌, ◌<◌, List, [], ◌∷◌, length, slice_get, refl, sym, ap, ap₂, ◌∙◌, subst, arith}
use Rattle.lam_bytecode.specs.Codes.{CodeTree}
use Rattle.lam_bytecode.specs.declared.unit.CodeUnit.{CodeUnit}
use Rattle.lam_bytecode.specs.declared.unit.UnitKind.{UnitKind}
use Rattle.lam_bytecode.specs.declared.unit.UnitKind.TheVariants.{Region}
use Rattle.lam_bytecode.specs.declared.op.Op.{Op}
use Rattle.guarded_code.specs.Rounds.{Table, Found, Holds, Broke, and_then, into, give, visit, sweep, round, rounds, blank, first, after}
use Rattle.guarded_code.specs.Descriptions.{Description, meet, starts, catch_starts, catching, entry}
use Rattle.guarded_code.specs.Changes.{sent, passes, descriptions}
use Rattle.guarded_code.proofs.Ending.{rounds_add}
use Rattle.guarded_code.proofs.RoundFacts.{ends_there, breaks_there}
use Rattle.code_verify.specs.declared.rounds.RoundFault.{RoundFault}
use Rattle.code_verify.specs.declared.rounds.RoundFault.TheVariants.{Depth, NoMemory}
use Rattle.code_verify.specs.declared.targets.Next.{Next}
use Rattle.code_verify.specs.declared.targets.Next.TheVariants.{Two}
use Rattle.code_verify.specs.Stops.{Stops, next_seen}
use Rattle.code_verify.proofs.Entries.{Passing}

pub stops_first : {D : Type 0} (o : Found D) (go : Table D → Found D) (f : RoundFault) → Stops o f → Stops (and_then o go) f
stops_first o go (Depth a) h = ap (λ x. and_then x go) h
stops_first o go NoMemory h = tt

pub stops_second : {D : Type 0} (o : Found D) (t : Table D) (go : Table D → Found D) (f : RoundFault) → o ≡ Holds t → Stops (go t) f → Stops (and_then o go) f
stops_second o t go (Depth a) e h = ap (λ x. and_then x go) e ∙ h
stops_second o t go NoMemory e h = tt

pub stops_same : {D : Type 0} (o p : Found D) (f : RoundFault) → o ≡ p → Stops p f → Stops o f
stops_same o p f e h = subst (λ x. Stops x f) (sym e) h

pub give_first : (t : Table Description) (n : Next) (a b : ℕ) (d : Description) (f : RoundFault) → n ≡ Two a b → ((p : Passing) → Stops (into Description meet p (slice_get t a) t a d) f) → (p : Passing) → Stops (give Description meet p t (sent (next_seen n) d)) f
give_first t n a b d f e h p =
    subst (λ x. Stops (give Description meet p t (sent (next_seen x) d)) f) (sym e)
    (stops_first (into Description meet p (slice_get t a) t a d) (λ t. give Description meet p t ((b, d) ∷ [])) f (h p))

pub give_second : (t t1 : Table Description) (n : Next) (a b : ℕ) (d : Description) (f : RoundFault) → n ≡ Two a b → ((p : Passing) → into Description meet p (slice_get t a) t a d ≡ Holds t1) → ((p : Passing) → Stops (into Description meet p (slice_get t1 b) t1 b d) f) → (p : Passing) → Stops (give Description meet p t (sent (next_seen n) d)) f
give_second t t1 n a b d f e h i p =
    subst (λ x. Stops (give Description meet p t (sent (next_seen x) d)) f) (sym e)
    (stops_second (into Description meet p (slice_get t a) t a d) t1 (λ t. give Description meet p t ((b, d) ∷ [])) f (h p)
    (stops_first (into Description meet p (slice_get t1 b) t1 b d) (λ t. give Description meet p t []) f (i p)))

-- ---- one round

sweep_open : (code : CodeTree) (ops : List Op) (n i : ℕ) (t : Table Description) → i < n → sweep Description meet (passes code ops) (n - i) i t ≡ and_then (visit Description meet (passes code ops) i t (slice_get t i)) (λ t. sweep Description meet (passes code ops) (n - (i + 1)) (i + 1) t)
sweep_open code ops n i t lt =
    let e : n - i ≡ suc (n - (i + 1)) = omega (arith, lt) in ap (λ k. sweep Description meet (passes code ops) k i t) e

pub sweep_more : (code : CodeTree) (ops : List Op) (t0 t t1 : Table Description) (n i : ℕ) → i < n → round Description meet (passes code ops) t0 ≡ sweep Description meet (passes code ops) (n - i) i t → visit Description meet (passes code ops) i t (slice_get t i) ≡ Holds t1 → round Description meet (passes code ops) t0 ≡ sweep Description meet (passes code ops) (n - (i + 1)) (i + 1) t1
sweep_more code ops t0 t t1 n i lt inv e =
    inv ∙ sweep_open code ops n i t lt ∙ ap (λ o. and_then o (λ t. sweep Description meet (passes code ops) (n - (i + 1)) (i + 1) t)) e

pub sweep_stops : (code : CodeTree) (ops : List Op) (t0 t : Table Description) (n i : ℕ) (f : RoundFault) → i < n → round Description meet (passes code ops) t0 ≡ sweep Description meet (passes code ops) (n - i) i t → Stops (visit Description meet (passes code ops) i t (slice_get t i)) f → Stops (round Description meet (passes code ops) t0) f
sweep_stops code ops t0 t n i f lt inv h =
    stops_same (round Description meet (passes code ops) t0) _ f (inv ∙ sweep_open code ops n i t lt)
    (stops_first (visit Description meet (passes code ops) i t (slice_get t i)) (λ t. sweep Description meet (passes code ops) (n - (i + 1)) (i + 1) t) f h)

-- ---- the first table

pub first_stops : (u : CodeUnit) (n : ℕ) (t0 : Table Description) (d : Description) (f : RoundFault) → n ≡ length u.ops → t0 ≡ blank Description n → d ≡ entry u → ((p : Passing) → Stops (into Description meet p (slice_get t0 0) t0 0 d) f) → (p : Passing) → Stops (first Description meet p (length u.ops) (starts u)) f
first_stops u n t0 d f en et ed h p =
    stops_same (first Description meet p (length u.ops) (starts u)) _ f (ap₂ (λ t x. give Description meet p t ((0, x) ∷ catch_starts u.locals u.kind)) (sym (et ∙ ap (blank Description) en)) (sym ed))
    (stops_first (into Description meet p (slice_get t0 0) t0 0 d) (λ t. give Description meet p t (catch_starts u.locals u.kind)) f (h p))

pub catch_stops : (u : CodeUnit) (n : ℕ) (t0 t1 : Table Description) (d : Description) (f : RoundFault) → n ≡ length u.ops → t0 ≡ blank Description n → d ≡ entry u → ((p : Passing) → into Description meet p (slice_get t0 0) t0 0 d ≡ Holds t1) → ((p : Passing) → Stops (give Description meet p t1 (catch_starts u.locals u.kind)) f) → (p : Passing) → Stops (first Description meet p (length u.ops) (starts u)) f
catch_stops u n t0 t1 d f en et ed h i p =
    stops_same (first Description meet p (length u.ops) (starts u)) _ f (ap₂ (λ t x. give Description meet p t ((0, x) ∷ catch_starts u.locals u.kind)) (sym (et ∙ ap (blank Description) en)) (sym ed))
    (stops_second (into Description meet p (slice_get t0 0) t0 0 d) t1 (λ t. give Description meet p t (catch_starts u.locals u.kind)) f (h p) (i p))

pub caught_stops : (locals r c at : ℕ) (k : UnitKind) (t : Table Description) (d : Description) (f : RoundFault) → k ≡ Region r c at → d ≡ catching locals → ((p : Passing) → Stops (into Description meet p (slice_get t at) t at d) f) → (p : Passing) → Stops (give Description meet p t (catch_starts locals k)) f
caught_stops locals r c at k t d f ek ed h p =
    stops_same (give Description meet p t (catch_starts locals k)) _ f
    (ap (λ x. give Description meet p t (catch_starts locals x)) ek ∙ ap (λ x. give Description meet p t ((at, x) ∷ [])) (sym ed))
    (stops_first (into Description meet p (slice_get t at) t at d) (λ t. give Description meet p t []) f (h p))

-- ---- the rounds, one after another

abbrev turned : CodeTree → CodeUnit → ℕ → Found Description
turned code u n = after Description meet (passes code u.ops) n (length u.ops) (starts u)

pub no_round : (code : CodeTree) (u : CodeUnit) (t : Table Description) → ((p : Passing) → first Description meet p (length u.ops) (starts u) ≡ Holds t) → turned code u 0 ≡ Holds t
no_round code u t h = ap (λ o. and_then o (λ t. rounds Description meet (passes code u.ops) 0 t)) (h (passes code u.ops))

then_holds : {D : Type 0} (o : Found D) → and_then o (λ t. Holds t) ≡ o
then_holds (Holds t) = refl
then_holds (Broke a) = refl

one_more_round : (code : CodeTree) (u : CodeUnit) (k : ℕ) (t : Table Description) (o : Found Description) → turned code u k ≡ Holds t → round Description meet (passes code u.ops) t ≡ o → turned code u (k + 1) ≡ o
one_more_round code u k t o e h = by (first Description meet (passes code u.ops) (length u.ops) (starts u)) e
  where
    by : (f : Found Description) → and_then f (λ t. rounds Description meet (passes code u.ops) k t) ≡ Holds t → and_then f (λ t. rounds Description meet (passes code u.ops) (k + 1) t) ≡ o
    by (Holds s) e =
        rounds_add Description meet (passes code u.ops) k 1 s ∙ ap (λ x. and_then x (λ t. rounds Description meet (passes code u.ops) 1 t)) e
        ∙ ap (λ x. and_then x (λ t. rounds Description meet (passes code u.ops) 0 t)) h ∙ then_holds o
    by (Broke a) e = absurd (cc e)

-- of the operations of the unit
of_unit : (code : CodeTree) (u : CodeUnit) (ops : List Op) (t : Table Description) (o : Found Description) → ops ≡ u.ops → round Description meet (passes code ops) t ≡ o → round Description meet (passes code u.ops) t ≡ o
of_unit code u ops t o eo h = subst (λ x. round Description meet (passes code x) t ≡ o) eo h

pub goes_on : (code : CodeTree) (u : CodeUnit) (ops : List Op) (k : ℕ) (t t1 : Table Description) → ops ≡ u.ops → turned code u k ≡ Holds t → round Description meet (passes code ops) t ≡ Holds t1 → turned code u (k + 1) ≡ Holds t1
goes_on code u ops k t t1 eo e h = one_more_round code u k t (Holds t1) e (of_unit code u ops t (Holds t1) eo h)

pub describe_ends : (code : CodeTree) (u : CodeUnit) (ops : List Op) (k : ℕ) (t t1 : Table Description) → ops ≡ u.ops → turned code u k ≡ Holds t → round Description meet (passes code ops) t ≡ Holds t1 → t1 ≡ t → descriptions code u ≡ Holds t1
describe_ends code u ops k t t1 eo e h same =
    ends_there code u k t e (of_unit code u ops t (Holds t1) eo h ∙ ap (λ x. Holds x) same) ∙ ap (λ x. Holds x) (sym same)

pub describe_stops : (code : CodeTree) (u : CodeUnit) (ops : List Op) (k : ℕ) (t : Table Description) (f : RoundFault) → ops ≡ u.ops → turned code u k ≡ Holds t → Stops (round Description meet (passes code ops) t) f → Stops (descriptions code u) f
describe_stops code u ops k t (Depth a) eo e h =
    breaks_there code u (k + 1) a (one_more_round code u k t (Broke a) e (of_unit code u ops t (Broke a) eo h))
describe_stops code u ops k t NoMemory eo e h = tt

-- where the first table breaks, no round is gone
pub never_begins : (code : CodeTree) (u : CodeUnit) (f : RoundFault) → ((p : Passing) → Stops (first Description meet p (length u.ops) (starts u)) f) → Stops (descriptions code u) f
never_begins code u (Depth a) h =
    breaks_there code u 0 a (ap (λ o. and_then o (λ t. rounds Description meet (passes code u.ops) 0 t)) (h (passes code u.ops)))
never_begins code u NoMemory h = tt
