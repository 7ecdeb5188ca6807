-- What is known at the addresses of guarded code: at those to which an operation goes, at entries and at catch places.
use Rattle.std.proofs.Common.{◌≡◌, ℕ, zero, suc, ◌+◌, ◌≤◌, ◌⊎◌, ⊎_elim, List, [], ◌∷◌, ◌++◌, Bool, true, false, if◌then◌else◌, IsTrue, Option, Some, None, length, slice_get, refl, sym, ap, ◌∙◌, subst, arith, length-append}
use Rattle.std.specs.Prelude.{nat_le, replicate, unwrap_or, option_map, ◌-◌}
use Rattle.std.specs.List.{AllByRecursion}
use Rattle.std.proofs.lemmas.Bool.{false≢true}
use Rattle.std.proofs.lemmas.List.{length-replicate}
use Rattle.flow_labels.specs.declared.Label.{Label}
use Rattle.lam_value.specs.declared.values.Value.{Value}
use Rattle.lam_value.specs.declared.values.Value.TheVariants.{Nothing}
use Rattle.lam_bytecode.specs.Codes.{CodeTree, IsCode, IsUnit, given}
use Rattle.lam_bytecode.specs.declared.unit.CodeUnit.{CodeUnit}
use Rattle.lam_bytecode.specs.declared.unit.UnitKind.{UnitKind}
use Rattle.lam_bytecode.specs.declared.unit.UnitKind.TheVariants.{Function, Region}
use Rattle.lam_bytecode.specs.declared.op.Op.{Op}
use Rattle.thread_steps.specs.Threads.{Frame}
use Rattle.thread_steps.specs.Ops.{UnitAt, function_takes, captures_of, is_region, region_from, region_in, region_takes}
use Rattle.thread_steps.specs.Next.{frame_at, ops_in, ops_of, filled, catch_place, unit_number}
use Rattle.thread_steps.specs.Next as next
use Rattle.guarded_code.specs.Rounds.{Sent, Table, Found, Holds, Broke, OnFound, Stands, AllStand}
use Rattle.guarded_code.specs.declared.known.ValueKind.TheVariants.{Number, Other, Unknown}
use Rattle.guarded_code.specs.Descriptions.{Description, untested, entry_locals, entry, catching, catch_starts}
use Rattle.guarded_code.specs.Changes.{Change, change, wanted, left, changed, goes, sent, passed, descriptions}
use Rattle.guarded_code.specs.Breaks.{IsGuarded, is_guarded}
use Rattle.guarded_code.specs.Says.{Pairwise, Says, Describes}
use Rattle.guarded_code.specs.Facts.{IsUnitGuarded}
use Rattle.guarded_code.proofs.Tables.{none_some, some_inj}
use Rattle.guarded_code.proofs.RoundFacts.{meets_rules}
use Rattle.guarded_code.proofs.Breaking.{guarded_means}
use Rattle.guarded_code_threads.specs.Described.{FactsHold, Agrees, found_at, known_in, description_at, FrameAgrees, catch_of, IsBody}
use Rattle.guarded_code_threads.specs.Laws.{TakesAll}
use Rattle.guarded_code_threads.proofs.Agreeing.{agrees_weaken, untested_holds, fresh_holds}

-- ---- one address

-- what is known at an address stands in the table of its unit
pub record KnownAt (code : CodeTree) (unit at : ℕ) (d : Description) : Type 0 where
  pub it : CodeUnit
  pub number : slice_get code.units unit ≡ Some it
  pub table : Table Description
  pub found : descriptions code it ≡ Holds table
  pub stands : slice_get table at ≡ Some (Some d)

in_place : (x : Option (Option Description)) (d : Description) → unwrap_or x None ≡ Some d → x ≡ Some (Some d)
in_place None d e = none_some e
in_place (Some o) d e = ap (λ y. Some y) e

in_found : (at : ℕ) (x : Found Description) (d : Description) → found_at at x ≡ Some d → (t : Table Description) × (x ≡ Holds t) × (slice_get t at ≡ Some (Some d))
in_found at (Holds t) d e = (t, refl, in_place (slice_get t at) d e)
in_found at (Broke a) d e = none_some e

in_unit : (code : CodeTree) (unit at : ℕ) (x : Option CodeUnit) (d : Description) → slice_get code.units unit ≡ x → known_in code at x ≡ Some d → KnownAt code unit at d
in_unit code unit at None d n e = none_some e
in_unit code unit at (Some u) d n e =
    let f = in_found at (descriptions code u) d e in
    record { it = u; number = n; table = f.0; found = f.1; stands = f.2 }

pub known_at : (code : CodeTree) (unit at : ℕ) (d : Description) → description_at code unit at ≡ Some d → KnownAt code unit at d
unfolding description_at
known_at code unit at d e = in_unit code unit at (slice_get code.units unit) d refl e

pub at_known : (code : CodeTree) (unit at : ℕ) (d : Description) → KnownAt code unit at d → description_at code unit at ≡ Some d
unfolding description_at
at_known code unit at d k =
    ap (known_in code at) k.number ∙ ap (found_at at) k.found ∙ ap (λ x. unwrap_or x None) k.stands

-- ---- what stands where descriptions come

-- something is known at an address, and no more than a description that came there says
abbrev pub Comes : CodeTree → ℕ → ℕ → Description → Type 0
Comes code unit at d = (x : Description) × (description_at code unit at ≡ Some x) × Says d x

pub comes_agrees : (code : CodeTree) (p : Label) (d : Description) (f : Frame) → Comes code f.unit f.at d → Agrees p d f.locals f.stack → FrameAgrees code p f
comes_agrees code p d f c h = record { known = c.0; it = c.1; agrees = agrees_weaken p d c.0 f.locals f.stack c.2 h }

abbrev pub In : ℕ → List ℕ → Type 0
In b [] = ⊥
In b (c ∷ bs) = (c ≡ b) ⊎ In b bs

-- where an operation goes, what it leaves comes
sent_stand : (t : Table Description) (bs : List ℕ) (d : Description) (b : ℕ) → AllStand Description Says t (sent bs d) → In b bs → Stands Description Says t b d
sent_stand t [] d b s i = absurd i
sent_stand t (c ∷ bs) d b s i = ⊎_elim (λ e. subst (λ a. Stands Description Says t a d) e s.0) (λ j. sent_stand t bs d b s.1 j) i

changed_left : (c : Change) (d x : Description) → changed c d ≡ Some x → x ≡ left c d
changed_left c d x e = by (nat_le (length (wanted c)) (length d.stack)) e
  where
    by : (b : Bool) → (if b then Some (left c d) else None) ≡ Some x → x ≡ left c d
    by true h = sym (some_inj h)
    by false h = none_some h

mapped : (bs : List ℕ) (o : Option Description) (ps : Sent Description) → option_map (sent bs) o ≡ Some ps → (x : Description) × (o ≡ Some x) × (ps ≡ sent bs x)
mapped bs None ps e = none_some e
mapped bs (Some x) ps e = (x, refl, sym (some_inj e))

pub passed_sent : (code : CodeTree) (op : Op) (at : ℕ) (d : Description) (ps : Sent Description) → passed code (Some op) at d ≡ Some ps → ps ≡ sent (goes at op) (left (change code op) d)
passed_sent code op at d ps e =
    let m = mapped (goes at op) (changed (change code op) d) ps e in
    m.2 ∙ ap (sent (goes at op)) (changed_left (change code op) d m.0 m.1)

module _ (code : CodeTree) (guarded : IsGuarded code) where
  pub unit_guarded : (n : ℕ) (u : CodeUnit) → slice_get code.units n ≡ Some u → IsUnitGuarded code u
  unit_guarded n u e = (guarded_means code).0 guarded n u e

  pub unit_describes : (n : ℕ) (u : CodeUnit) (e : slice_get code.units n ≡ Some u) → Describes code u (unit_guarded n u e).table
  unit_describes n u e = subst (λ x. OnFound (Unit {0}) x (λ t. Describes code u t)) (unit_guarded n u e).found (meets_rules code u)

  known_describes : (unit at : ℕ) (d : Description) (k : KnownAt code unit at d) → Describes code k.it k.table
  known_describes unit at d k = subst (λ x. OnFound (Unit {0}) x (λ t. Describes code k.it t)) k.found (meets_rules code k.it)

  stands_comes : (n : ℕ) (u : CodeUnit) (t : Table Description) (at : ℕ) (d : Description) → slice_get code.units n ≡ Some u → descriptions code u ≡ Holds t → Stands Description Says t at d → Comes code n at d
  stands_comes n u t at d e f s = (s.0, at_known code n at s.0 (record { it = u; number = e; table = t; found = f; stands = s.1 }), s.2)

  -- from an address with its operation, to each to which that goes
  pub goes_comes : (unit at : ℕ) (op : Op) (d : Description) (b : ℕ) → description_at code unit at ≡ Some d → slice_get (ops_of code unit) at ≡ Some op → In b (goes at op) → Comes code unit b (left (change code op) d)
  goes_comes unit at op d b e f i =
      let k = known_at code unit at d e in
      let g : slice_get k.it.ops at ≡ Some op = sym (ap (λ x. slice_get (ops_in x) at) k.number) ∙ f in
      let s = (known_describes unit at d k).settled at d k.stands in
      let same : s.0 ≡ sent (goes at op) (left (change code op) d) = passed_sent code op at d s.0 (sym (ap (λ o. passed code o at d) g) ∙ s.1) in
      stands_comes unit k.it k.table b (left (change code op) d) k.number k.found
      (sent_stand k.table (goes at op) (left (change code op) d) b (subst (λ ps. AllStand Description Says k.table ps) same s.2) i)

  -- an access finds its reference tested
  pub guards_at : (unit at : ℕ) (op : Op) (d : Description) → description_at code unit at ≡ Some d → slice_get (ops_of code unit) at ≡ Some op → IsTrue (is_guarded op d)
  guards_at unit at op d e f =
      let k = known_at code unit at d e in
      let u = unit_guarded unit k.it k.number in
      let g : slice_get k.it.ops at ≡ Some op = sym (ap (λ x. slice_get (ops_in x) at) k.number) ∙ f in
      let t : k.table ≡ u.table = table_of (sym k.found ∙ u.found) in
      u.guarded at op d g (subst (λ t. slice_get t at ≡ Some (Some d)) t k.stands)
    where
      table_of : {s t : Table Description} → Holds s ≡ Holds t → s ≡ t
      table_of {s} h = ap (λ x. held x s) h
        where
          held : Found Description → Table Description → Table Description
          held (Holds t) s = t
          held (Broke a) s = s

  entry_comes : (n : ℕ) (u : CodeUnit) → slice_get code.units n ≡ Some u → Comes code n 0 (entry u)
  entry_comes n u e =
      let g = unit_guarded n u e in
      stands_comes n u g.table 0 (entry u) e g.found (unit_describes n u e).started.0

  catch_comes : (n : ℕ) (u : CodeUnit) (at : ℕ) → slice_get code.units n ≡ Some u → catch_of u.kind ≡ Some at → Comes code n at (catching u.locals)
  catch_comes n u at e c =
      let g = unit_guarded n u e in
      stands_comes n u g.table at (catching u.locals) e g.found (by u.kind c (unit_describes n u e).started.1)
    where
      by : (kind : UnitKind) → catch_of kind ≡ Some at → AllStand Description Says (unit_guarded n u e).table (catch_starts u.locals kind) → Stands Description Says (unit_guarded n u e).table at (catching u.locals)
      by (Function name takes gives_int) h s = none_some h
      by (Region region captures catch_at) h s = subst (λ a. Stands Description Says (unit_guarded n u e).table a (catching u.locals)) (some_inj h) s.0

-- ---- entries

entry_values : (p : Label) (given n : ℕ) (vs : List Value) → length vs ≡ n → Pairwise (FactsHold p) (entry_locals given n) vs
entry_values p given zero [] e = tt
entry_values p zero (suc n) (v ∷ vs) e = (untested_holds p Other v, entry_values p zero n vs (omega (arith, e)))
entry_values p (suc given) (suc n) (v ∷ vs) e = (untested_holds p Unknown v, entry_values p given n vs (omega (arith, e)))
entry_values p _ n vs e = absurd (omega (arith, e))

filled_long : (u : CodeUnit) (vs : List Value) → length vs ≤ u.locals → length (filled (Some u) vs) ≡ u.locals
filled_long u vs le =
    let e : length (vs ++ replicate (u.locals - length vs) Nothing) ≡ length vs + length (replicate (u.locals - length vs) Nothing) = length-append vs (replicate (u.locals - length vs) Nothing) in
    let f : length (replicate (u.locals - length vs) Nothing) ≡ u.locals - length vs = length-replicate (u.locals - length vs) Nothing in
    omega (arith, e, f, le)

module _ (code : CodeTree) (guarded : IsGuarded code) where
  -- a frame at the entry of a unit, with no more values than the unit has locals
  pub entry_agrees : (p : Label) (n : ℕ) (u : CodeUnit) (vs : List Value) → slice_get code.units n ≡ Some u → length vs ≤ u.locals → FrameAgrees code p (next.entry code n vs)
  entry_agrees p n u vs e le =
      comes_agrees code p (entry u) (next.entry code n vs) (entry_comes code guarded n u e)
      (record {
        operands = tt;
        values = subst (λ x. Pairwise (FactsHold p) (entry_locals (given u.kind) u.locals) (filled x vs)) (sym e) (entry_values p (given u.kind) u.locals (filled (Some u) vs) (filled_long u vs le));
      })

  pub entry_long : (n : ℕ) (u : CodeUnit) (vs : List Value) → slice_get code.units n ≡ Some u → length vs ≤ u.locals → length (next.entry code n vs).locals ≡ u.locals
  entry_long n u vs e le = ap (λ x. length (filled x vs)) e ∙ filled_long u vs le

  nothing_known : (p : Label) (n : ℕ) (vs : List Value) → length vs ≡ n → Pairwise (FactsHold p) (replicate n (untested Unknown)) vs
  nothing_known p zero [] e = tt
  nothing_known p (suc n) (v ∷ vs) e = (untested_holds p Unknown v, nothing_known p n vs (omega (arith, e)))
  nothing_known p n vs e = absurd (omega (arith, e))

  -- a frame of a region's body, where its fault is caught
  pub catch_agrees : (p : Label) (at : ℕ) (f : Frame) (v : Value) → IsBody code at f → FrameAgrees code p (frame_at f at f.locals (v ∷ []))
  catch_agrees p at f v b =
      comes_agrees code p (catching b.unit.locals) (frame_at f at f.locals (v ∷ [])) (catch_comes code guarded f.unit b.unit at b.it b.place)
      (record { operands = (fresh_holds p Number f.locals v, tt); values = nothing_known p b.unit.locals f.locals b.locals })

-- ---- functions and regions by what they take

pub record Taking (code : CodeTree) (n : ℕ) (vs : List Value) : Type 0 where
  pub unit : CodeUnit
  pub it : slice_get code.units n ≡ Some unit
  pub fits : length vs ≤ unit.locals

at_place : (us : List CodeUnit) (n : ℕ) (u : CodeUnit) → AllByRecursion IsUnit us → slice_get us n ≡ Some u → IsUnit u
at_place [] n u h e = none_some e
at_place (v ∷ us) zero u h e = subst IsUnit (some_inj e) h.0
at_place (v ∷ us) (suc n) u h e = at_place us n u h.1 e

takes_given : (x : Option CodeUnit) (count : ℕ) → function_takes x ≡ Some count → (u : CodeUnit) × (x ≡ Some u) × (given u.kind ≡ count)
takes_given None count e = none_some e
takes_given (Some u) count e = (u, refl, by u.kind e)
  where
    by : (kind : UnitKind) → elim kind [ Function name takes gives_int ↦ Some (length takes) | Region region captures catch_at ↦ None ] ≡ Some count → given kind ≡ count
    by (Function name takes gives_int) h = some_inj h
    by (Region region captures catch_at) h = none_some h

pub function_taking : (code : CodeTree) → IsCode code → (n : ℕ) (vs : List Value) → TakesAll code n vs → Taking code n vs
function_taking code is n vs e =
    let t = takes_given (slice_get code.units n) (length vs) e in
    record { unit = t.0; it = t.1; fits = subst (λ k. k ≤ t.0.locals) t.2 (at_place code.units n t.0 is.each_unit t.1).locals }

pub record FoundAt (us : List CodeUnit) (r base : ℕ) (u : UnitAt) : Type 0 where
  pub place : ℕ
  pub number : u.number ≡ base + place
  pub it : slice_get us place ≡ Some u.it
  pub is : is_region r u.it.kind ≡ true

region_found : (us : List CodeUnit) (r base : ℕ) (u : UnitAt) → region_from base r us ≡ Some u → FoundAt us r base u
region_found [] r base u e = none_some e
region_found (x ∷ us) r base u e = by (is_region r x.kind) refl e (region_found us r (base + 1) u)
  where
    by : (b : Bool) → is_region r x.kind ≡ b → (if b then Some (record { number = base; it = x }) else region_from (base + 1) r us) ≡ Some u → (region_from (base + 1) r us ≡ Some u → FoundAt us r (base + 1) u) → FoundAt (x ∷ us) r base u
    by true f h more =
        let first : base ≡ base + 0 = omega arith in
        record {
          place = 0;
          number = sym (ap (λ (y : UnitAt). y.number) (some_inj h)) ∙ first;
          it = ap (λ (y : UnitAt). Some y.it) (some_inj h);
          is = subst (λ (y : UnitAt). is_region r y.it.kind ≡ true) (some_inj h) f;
        }
    by false f h more =
        let k = more h in
        let e : u.number ≡ base + 1 + k.place = k.number in
        record { place = suc k.place; number = omega (arith, e); it = k.it; is = k.is }

-- the unit of a region that takes so many captures
pub record RegionTaking (code : CodeTree) (r : ℕ) (vs : List Value) : Type 0 where
  pub unit : CodeUnit
  pub it : slice_get code.units (unit_number (region_in r code.units)) ≡ Some unit
  pub place : catch_of unit.kind ≡ Some (catch_place (region_in r code.units))
  pub fits : length vs ≤ unit.locals

pub region_taking : (code : CodeTree) → IsCode code → (r : ℕ) (vs : List Value) → region_takes (region_in r code.units) ≡ Some (length vs) → RegionTaking code r vs
region_taking code is r vs e = by (region_in r code.units) refl e
  where
    kind_is : (n : ℕ) (it : CodeUnit) (kind : UnitKind) → it.kind ≡ kind → is_region r kind ≡ true → catch_of kind ≡ Some (catch_place (Some (record { number = n; it = it })))
    kind_is n it (Function name takes gives_int) k h = absurd (false≢true h)
    kind_is n it (Region region captures catch_at) k h = sym (ap (λ x. Some (elim x [ Function name takes gives_int ↦ 0 | Region region captures catch_at ↦ catch_at ])) k)

    given_is : (kind : UnitKind) → is_region r kind ≡ true → captures_of kind ≡ given kind
    given_is (Function name takes gives_int) h = absurd (false≢true h)
    given_is (Region region captures catch_at) h = refl

    by : (x : Option UnitAt) → region_in r code.units ≡ x → region_takes x ≡ Some (length vs) → RegionTaking code r vs
    by None f h = none_some h
    by (Some u) f h =
        let k = region_found code.units r 0 u f in
        let number : u.number ≡ 0 + k.place = k.number in
        let place : u.number ≡ k.place = omega (arith, number) in
        record {
          unit = u.it;
          it = ap (λ x. slice_get code.units (unit_number x)) f ∙ ap (slice_get code.units) place ∙ k.it;
          place = kind_is u.number u.it u.it.kind refl k.is ∙ sym (ap (λ x. Some (catch_place x)) f);
          fits = subst (λ n. n ≤ u.it.locals) (sym (given_is u.it.kind k.is) ∙ some_inj h) (at_place code.units k.place u.it is.each_unit k.it).locals;
        }
