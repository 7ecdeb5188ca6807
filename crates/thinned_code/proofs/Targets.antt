-- Where each address that an operation names is one of its unit, so is each of the thinned unit.
use Rattle.std.proofs.Common.{IsTrue, ◌≡◌, ℕ, zero, suc, ◌+◌, ◌<◌, ◌≤◌, List, [], ◌∷◌, map, Bool, true, false, if◌then◌else◌, Option, Some, None, length, slice_get, refl, sym, ap, ◌∙◌, subst, arith}
use Rattle.std.specs.Prelude.{nat_lt}
use Rattle.std.proofs.lemmas.Bool.{and_parts, and_from, lt-ltb, ltb-true}
use Rattle.std.proofs.lemmas.List.{length-map}
use Rattle.lam_bytecode.specs.Codes.{CodeTree}
use Rattle.lam_bytecode.specs.declared.unit.CodeUnit.{CodeUnit}
use Rattle.lam_bytecode.specs.declared.op.Op.{Op}
use Rattle.guarded_code.specs.Rounds.{Sent, Table}
use Rattle.guarded_code.specs.Descriptions.{Description, starts}
use Rattle.guarded_code.specs.Changes.{goes}
use Rattle.guarded_code.specs.Breaks.{names_something, all_within, is_well_targeted, first_failing_op, start_places, first_bad_target}
use Rattle.guarded_code.proofs.Tables.{none_some, some_inj, get_within}
use Rattle.guarded_code.proofs.Breaking.{if_none}
use Rattle.thinned_code.specs.Thinned.{staying, moved, moved_op, thin_unit, thin_code}
use Rattle.thinned_code.proofs.Sifting.{next_kept, next_dropped, origin, kept_inside, sifted_count, stay_count}
use Rattle.thinned_code.proofs.Ops.{barrier, barrier_goes, goes_moved, names_moved, pair_moved}
use Rattle.thinned_code.proofs.Thinning.{staying_long, again, map_some, starts_moved}
use Rattle.std.proofs.lemmas.Option.{slice_get-map}

-- a unit begins inside, and each of its operations names what it takes and goes on inside
pub record Targets (code : CodeTree) (u : CodeUnit) : Type 0 where
  pub places : IsTrue (all_within (length u.ops) (start_places u))
  pub each : (a : ℕ) (op : Op) → slice_get u.ops a ≡ Some op → IsTrue (is_well_targeted code u a op)

ops_pass : (test : ℕ → Op → Bool) (a : ℕ) (ops : List Op) → first_failing_op test a ops ≡ None → (i : ℕ) (op : Op) → slice_get ops i ≡ Some op → IsTrue (test (a + i) op)
ops_pass test a [] e i op at = none_some at
ops_pass test a (o ∷ ops) e zero op at =
    let z : a ≡ a + 0 = omega arith in
    subst (λ n. IsTrue (test n op)) z (subst (λ p. IsTrue (test a p)) (some_inj at) (if_none (test a o) (first_failing_op test (a + 1) ops) a e).0)
ops_pass test a (o ∷ ops) e (suc i) op at =
    let z : a + 1 + i ≡ a + suc i = omega arith in
    subst (λ n. IsTrue (test n op)) z (ops_pass test (a + 1) ops (if_none (test a o) (first_failing_op test (a + 1) ops) a e).1 i op at)

none_failing : (test : ℕ → Op → Bool) (a : ℕ) (ops : List Op) → ((i : ℕ) (op : Op) → slice_get ops i ≡ Some op → IsTrue (test (a + i) op)) → first_failing_op test a ops ≡ None
none_failing test a [] h = refl
none_failing test a (o ∷ ops) h =
    let z : a + 0 ≡ a = omega arith in
    ap (λ b. if b then first_failing_op test (a + 1) ops else Some a) (subst (λ n. IsTrue (test n o)) z (h 0 o refl))
    ∙ none_failing test (a + 1) ops (λ i op at. let s : a + suc i ≡ a + 1 + i = omega arith in subst (λ n. IsTrue (test n op)) s (h (suc i) op at))

pub targets_of : (code : CodeTree) (u : CodeUnit) → first_bad_target code u ≡ None → Targets code u
targets_of code u e =
    let parts = if_none (all_within (length u.ops) (start_places u)) (first_failing_op (is_well_targeted code u) 0 u.ops) 0 e in
    record {
      places = parts.0;
      each = λ a op at. let z : 0 + a ≡ a = omega arith in subst (λ n. IsTrue (is_well_targeted code u n op)) z (ops_pass (is_well_targeted code u) 0 u.ops parts.1 a op at);
    }

pub none_bad : (code : CodeTree) (u : CodeUnit) → Targets code u → first_bad_target code u ≡ None
none_bad code u h =
    ap (λ b. if b then first_failing_op (is_well_targeted code u) 0 u.ops else Some 0) h.places
    ∙ none_failing (is_well_targeted code u) 0 u.ops (λ a op at. let z : a ≡ 0 + a = omega arith in subst (λ n. IsTrue (is_well_targeted code u n op)) z (h.each a op at))

-- ---- addresses
pub first_within : (size b : ℕ) (bs : List ℕ) → IsTrue (all_within size (b ∷ bs)) → (b < size) × IsTrue (all_within size bs)
first_within size b bs e =
    let parts = and_parts (nat_lt b size) (all_within size bs) e in (ltb-true b size parts.0, parts.1)

within_map : (f : ℕ → ℕ) (m n : ℕ) → ((b : ℕ) → b < m → f b < n) → (bs : List ℕ) → IsTrue (all_within m bs) → IsTrue (all_within n (map f bs))
within_map f m n h [] e = refl
within_map f m n h (b ∷ bs) e =
    let parts = first_within m b bs e in
    and_from (nat_lt (f b) n) (all_within n (map f bs)) (lt-ltb (f b) n (h b parts.0)) (within_map f m n h bs parts.1)

places_moved : (ks : List Bool) (ps : Sent Description) → map (λ (p : ℕ × Description). p.0) (map (pair_moved ks) ps) ≡ map (moved ks) (map (λ (p : ℕ × Description). p.0) ps)
places_moved ks [] = refl
places_moved ks (p ∷ ps) = ap (λ bs. moved ks p.0 ∷ bs) (places_moved ks ps)

module _ (code : CodeTree) (u : CodeUnit) (t : Table Description) (h : Targets code u) where
  abbrev ks : List Bool
  ks = staying u.ops t

  -- after a barrier comes another address
  dropped_next : (a : ℕ) → slice_get ks a ≡ Some false → a + 1 < length ks
  dropped_next a drop =
      let g = again u.ops t a drop in
      let ok = (and_parts (names_something code u.locals (barrier g.access g.depth)) (all_within (length u.ops) (goes a (barrier g.access g.depth))) (h.each a (barrier g.access g.depth) g.op_at)).1 in
      let next = (first_within (length u.ops) (a + 1) [] (subst (λ bs. IsTrue (all_within (length u.ops) bs)) (barrier_goes a g.access g.depth) ok)).0 in
      omega (arith, next, staying_long u.ops t)

  inside_by : (a : ℕ) (k : Option Bool) → slice_get ks a ≡ k → a < length ks → (a + 1 < length ks → moved ks (a + 1) < stay_count ks) → moved ks a < stay_count ks
  inside_by a None ek lt go = none_some (sym ek ∙ (get_within ks a lt).1)
  inside_by a (Some true) ek lt go = kept_inside ks a ek
  inside_by a (Some false) ek lt go = subst (λ n. n < stay_count ks) (next_dropped ks a ek) (go (dropped_next a ek))

  inside : (n a : ℕ) → length ks ≤ a + n → a < length ks → moved ks a < stay_count ks
  inside zero a le lt = absurd (omega (arith, le, lt))
  inside (suc n) a le lt = inside_by a (slice_get ks a) refl lt (λ next. inside n (a + 1) (omega (arith, le)) next)

  thin_long : length (thin_unit ks u).ops ≡ stay_count ks
  thin_long = sifted_count ks (map (moved_op ks) u.ops) (length-map u.ops (moved_op ks) ∙ sym (staying_long u.ops t))

  lands : (b : ℕ) → b < length u.ops → moved ks b < length (thin_unit ks u).ops
  lands b lt =
      let there = inside (length ks) b (omega arith) (omega (arith, lt, staying_long u.ops t)) in omega (arith, there, thin_long)

  all_land : (bs : List ℕ) → IsTrue (all_within (length u.ops) bs) → IsTrue (all_within (length (thin_unit ks u).ops) (map (moved ks) bs))
  all_land bs e = within_map (moved ks) (length u.ops) (length (thin_unit ks u).ops) lands bs e

  kept_targeted : (a : ℕ) (op : Op) → slice_get ks a ≡ Some true → slice_get u.ops a ≡ Some op → IsTrue (is_well_targeted (thin_code code) (thin_unit ks u) (moved ks a) (moved_op ks op))
  kept_targeted a op keep at =
      let parts = and_parts (names_something code u.locals op) (all_within (length u.ops) (goes a op)) (h.each a op at) in
      and_from (names_something (thin_code code) u.locals (moved_op ks op)) (all_within (length (thin_unit ks u).ops) (goes (moved ks a) (moved_op ks op))) (names_moved code ks u.locals op ∙ parts.0)
      (subst (λ bs. IsTrue (all_within (length (thin_unit ks u).ops) bs)) (goes_moved ks a (moved ks a) (next_kept ks a keep) op) (all_land (goes a op) parts.1))

  thin_targeted : (b : ℕ) (op : Op) → slice_get (thin_unit ks u).ops b ≡ Some op → IsTrue (is_well_targeted (thin_code code) (thin_unit ks u) b op)
  thin_targeted b op at =
      let o = origin ks (map (moved_op ks) u.ops) b op at in
      let old = map_some (moved_op ks) (slice_get u.ops o.place) op (sym (slice_get-map (moved_op ks) u.ops o.place) ∙ o.at) in
      subst (λ p. IsTrue (is_well_targeted (thin_code code) (thin_unit ks u) b p)) old.2
      (subst (λ n. IsTrue (is_well_targeted (thin_code code) (thin_unit ks u) n (moved_op ks old.0))) o.same (kept_targeted o.place old.0 o.kept old.1))

  pub thin_targets : Targets (thin_code code) (thin_unit ks u)
  thin_targets =
      record {
        places = subst (λ bs. IsTrue (all_within (length (thin_unit ks u).ops) bs))
            (sym (places_moved ks (starts u)) ∙ ap (map (λ (p : ℕ × Description). p.0)) (starts_moved ks u))
            (all_land (start_places u) h.places);
        each = thin_targeted;
      }
