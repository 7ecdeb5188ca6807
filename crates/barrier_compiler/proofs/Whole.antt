-- The units of all drafts make a program's code.
use Rattle.std.proofs.Common.{◌≡◌, ℕ, ◌+◌, ◌*◌, ◌^◌, ◌<◌, ◌≤◌, Bool, true, false, nat_lt, if◌then◌else◌, List, [], ◌∷◌, length, map, Some, None, Ok, Err, inl, inr, ◌⊎◌, refl, sym, ap, ◌∙◌, subst, arith, true≢false}
use Rattle.std.specs.List.{AllByRecursion}
use Rattle.lam_value.specs.declared.values.Value.{Value}
use Rattle.lam_value.specs.declared.shapes.Kind.{Kind}
use Rattle.lam_resolve_tree.specs.Tree.{ResolvedTree}
use Rattle.lam_resolve_tree.specs.Slots.{SlotsDiffer}
use Rattle.lam_resolve_tree.specs.Regions.{AreNumbered}
use Rattle.lam_meaning.specs.Means.{kind_of}
use Rattle.lam_bytecode.specs.declared.unit.CodeUnit.{CodeUnit}
use Rattle.lam_bytecode.specs.Codes.{CodeTree, code_of, IsConstant, IsUnit, IsCode, AreCounted, region_numbers}
use Rattle.lam_meaning.specs.Pieces.{Flat, an_op, a_constant, numbered}
use Rattle.lam_meaning.specs.Scheme.{Draft, function_draft, all_regions, drafts, unit_of, scheme}
use Rattle.lam_meaning.specs.Long.{long_from, first_long_unit, unless_long, compiled}
use Rattle.barrier_compiler_units.specs.declared.units.Halt.{Halt}
use Rattle.barrier_compiler_units.specs.declared.units.Halt.TheVariants.{TooLong, Wide, NoMemory}
use Rattle.barrier_compiler_units.specs.Adds.{drafts_narrow, Made, made_of, Stage, Adds_units, AddsBy, Adds}
use Rattle.barrier_compiler_units.proofs.Joins.{joins}
use Rattle.barrier_compiler.proofs.Given.{AllGiven, all_given}
use Rattle.barrier_compiler.proofs.Numbered.{are_counted}

pub length-numbered : (vs : List Value) (fs : List Flat) → length (numbered vs fs) ≡ length fs
length-numbered vs [] = refl
length-numbered vs (an_op o ∷ fs) = omega (arith, length-numbered vs fs)
length-numbered vs (a_constant v ∷ fs) = omega (arith, length-numbered vs fs)

-- a draft that is not too long, and then the others
pub short_first : (n : ℕ) (d : Draft) (ds : List Draft) → long_from n (d ∷ ds) ≡ None → (length d.code ≤ 65535) × (long_from (n + 1) ds ≡ None)
short_first n d ds h = by (nat_lt 65535 (length d.code)) refl h
  where
    by : (b : Bool) → nat_lt 65535 (length d.code) ≡ b → (if b then Some n else long_from (n + 1) ds) ≡ None → (length d.code ≤ 65535) × (long_from (n + 1) ds ≡ None)
    by true e h = let no : ⊥ = cc in absurd no
    by false e h = (grind (arith, e), h)

pub each_unit : (vs : List Value) (n : ℕ) (ds : List Draft) → AllGiven ds → long_from n ds ≡ None → AllByRecursion IsUnit (map (unit_of vs) ds)
each_unit vs n [] g h = tt
each_unit vs n (d ∷ ds) g h =
    let s = short_first n d ds h in
    (record { locals = g.0; ops = omega (arith, s.0, length-numbered vs d.code) }, each_unit vs (n + 1) ds g.1 s.1)

module _ (r : ResolvedTree) where
  -- all drafts were added
  pub all_added : {a b c : Stage} → Adds a b (map function_draft r.functions) → Adds b c (all_regions r.functions) → Adds a c (drafts r)
  all_added e g = joins e g

  whole_code : (m : Made) (ks : List (List Kind)) → Adds_units (made_of [] []) m (drafts r) → SlotsDiffer r → AreNumbered r → AllByRecursion IsConstant m.constants → length m.constants ≤ 65535 * length m.units → length m.units ≤ 65536 → length ks < 2 ^ 32 →
      IsCode (code_of m.units m.constants ks)
  whole_code m ks e slots regions constants room count classes =
      let units : m.units ≡ map (unit_of m.constants) (drafts r) = e.units in
      record {
        units = omega (arith, count);
        constants = omega (arith, room, count);
        classes = classes;
        each_unit = subst (λ (us : List CodeUnit). AllByRecursion IsUnit us) (sym units) (each_unit m.constants 0 (drafts r) (all_given r slots) e.short);
        each_constant = constants;
        regions = subst (λ (us : List CodeUnit). AreCounted 0 (region_numbers us)) (sym units) (are_counted r m.constants regions);
      }

  code_is : (m : Made) (ks : List (List Kind)) → Adds_units (made_of [] []) m (drafts r) → ks ≡ map (λ ts. map kind_of ts) r.classes → compiled r ≡ Ok (code_of m.units m.constants ks)
  unfolding scheme first_long_unit
  code_is m ks e k =
      ap (λ o. unless_long o (scheme r)) e.short ∙
      ap (λ (c : CodeTree). Ok c)
      (ap (λ vs. code_of (map (unit_of vs) (drafts r)) vs (map (λ ts. map kind_of ts) r.classes)) (sym e.constants)
      ∙ ap (λ us. code_of us m.constants (map (λ ts. map kind_of ts) r.classes)) (sym e.units) ∙ ap (λ l. code_of m.units m.constants l) (sym k))

  -- units that were gathered, s being what was made of all drafts
  made : (m : Made) (s : Stage) → s ≡ Ok m → Adds (Ok (made_of [] [])) s (drafts r) → Adds_units (made_of [] []) m (drafts r)
  made m s e h = let k : AddsBy (Ok (made_of [] [])) (Ok m) (drafts r) = subst (λ (s : Stage). AddsBy (Ok (made_of [] [])) s (drafts r)) e h.by in k

  pub is_code : {a s : Stage} (us : List CodeUnit) (vs : List Value) (ks : List (List Kind)) → a ≡ Ok (made_of [] []) → s ≡ Ok (made_of us vs) → Adds a s (drafts r) → SlotsDiffer r → AreNumbered r → AllByRecursion IsConstant vs → length vs ≤ 65535 * length us → length us ≤ 65536 → length ks < 2 ^ 32 →
      IsCode (code_of us vs ks)
  is_code {a = a} {s = s} us vs ks z e h slots regions constants room count classes =
      whole_code (made_of us vs) ks (made (made_of us vs) s e (subst (λ (x : Stage). Adds x s (drafts r)) z h)) slots regions constants room count classes

  pub is_compiled : {a s : Stage} (us : List CodeUnit) (vs : List Value) (ks : List (List Kind)) → a ≡ Ok (made_of [] []) → s ≡ Ok (made_of us vs) → Adds a s (drafts r) → ks ≡ map (λ ts. map kind_of ts) r.classes → compiled r ≡ Ok (code_of us vs ks)
  is_compiled {a = a} {s = s} us vs ks z e h k = code_is (made_of us vs) ks (made (made_of us vs) s e (subst (λ (x : Stage). Adds x s (drafts r)) z h)) k

  pub is_long_at : {a s : Stage} (unit : ℕ) → a ≡ Ok (made_of [] []) → s ≡ Err (TooLong unit) → Adds a s (drafts r) → compiled r ≡ Err unit
  unfolding first_long_unit
  is_long_at {a = a} {s = s} unit z e h =
      let g = subst (λ (x : Stage). Adds x s (drafts r)) z h in
      let k : AddsBy (Ok (made_of [] [])) (Err (TooLong unit)) (drafts r) = subst (λ (s : Stage). AddsBy (Ok (made_of [] [])) s (drafts r)) e g.by in
      ap (λ o. unless_long o (scheme r)) k

  pub long_answer : {a s : Stage} (h : Halt) (unit : ℕ) → h ≡ TooLong unit → (h ≡ NoMemory) ⊎ (s ≡ Err h) → a ≡ Ok (made_of [] []) → Adds a s (drafts r) → compiled r ≡ Err unit
  long_answer h unit e (inl n) z g = let no : ⊥ = cc in absurd no
  long_answer h unit e (inr n) z g = is_long_at unit z (n ∙ ap (λ (x : Halt). Err x) e) g

  -- no number is too wide, and there are not too many units
  pub never_wide : {a s : Stage} (h : Halt) → h ≡ Wide → (h ≡ NoMemory) ⊎ (s ≡ Err h) → a ≡ Ok (made_of [] []) → Adds a s (drafts r) → drafts_narrow (drafts r) ≡ true → length (drafts r) < 65536 → ⊥
  never_wide h e (inl n) z g narrow few = cc
  never_wide {a = a} {s = s} h e (inr n) z g narrow few =
      let is : s ≡ Err Wide = n ∙ ap (λ (x : Halt). Err x) e in
      let k : AddsBy (Ok (made_of [] [])) (Err Wide) (drafts r) = subst (λ (s : Stage). AddsBy (Ok (made_of [] [])) s (drafts r)) is (subst (λ (x : Stage). Adds x s (drafts r)) z g).by in
      by k
    where
      by : (drafts_narrow (drafts r) ≡ false) ⊎ (65536 ≤ length {A = CodeUnit} [] + length (drafts r)) → ⊥
      by (inl w) = true≢false (sym narrow ∙ w)
      by (inr w) = omega (arith, w, few)
