-- What the rounds of a thinned unit find, spread over the barriers that were left out, meets the rules of the unit. So they
-- find no more than the unit's own rounds.
use Rattle.std.proofs.Common.{◌≡◌, ℕ, zero, suc, ◌+◌, ◌<◌, List, [], ◌∷◌, map, Bool, true, false, if◌then◌else◌, Option, Some, None, length, get_or, slice_get, option_map, refl, sym, ap, ◌∙◌, subst, arith}
use Rattle.std.specs.Prelude.{nat_le}
use Rattle.std.proofs.lemmas.Option.{slice_get_within, get_or_from_slice_get}
use Rattle.lam_bytecode.specs.Codes.{CodeTree}
use Rattle.lam_bytecode.specs.declared.unit.CodeUnit.{CodeUnit}
use Rattle.guarded_code.specs.Rounds.{Sent, Table, Holds, OnFound, Stands, AllStand, Above}
use Rattle.guarded_code.specs.declared.known.Access.{Access}
use Rattle.guarded_code.specs.declared.known.Operand.{Operand}
use Rattle.guarded_code.specs.Descriptions.{Description, meet, starts}
use Rattle.guarded_code.specs.Changes.{Tests, wanted, tested_operand, tested_copy, copied_at, barred, left, changed, goes, sent, passed, passes, descriptions}
use Rattle.guarded_code.specs.Says.{Pairwise, KnownSays, OperandSays, Says, Describes}
use Rattle.guarded_code.proofs.Tables.{none_some, some_inj, get_within}
use Rattle.guarded_code.proofs.Lists.{each_same, each_grow, each_long_same}
use Rattle.guarded_code.proofs.Order.{known_same, operand_same, says_same}
use Rattle.guarded_code.proofs.Passing.{operand_more, copy_more, local_more}
use Rattle.guarded_code.proofs.RoundFacts.{says_most}
use Rattle.thinned_code.specs.Thinned.{staying, moved, sifted, thin_unit, thin_code}
use Rattle.thinned_code.proofs.Keeping.{Kept}
use Rattle.thinned_code.proofs.Sifting.{next_kept, next_dropped, moved_inside}
use Rattle.thinned_code.proofs.Coherent.{Coherent}
use Rattle.thinned_code.proofs.Ops.{barrier, barrier_change, barrier_goes, pair_moved, passed_moved}
use Rattle.thinned_code.proofs.Thinning.{staying_long, again, map_some, barrier_sends, starts_moved, stands_moved, op_moved, table_long}

-- ---- a table of thinned code at the addresses of the code; a is the address in the thinned code
abbrev spread : {A : Type 0} → List Bool → Table A → ℕ → Table A
spread [] t a = []
spread (true ∷ ks) t a = get_or t a None ∷ spread ks t (suc a)
spread (false ∷ ks) t a = get_or t a None ∷ spread ks t a

spread_long : {A : Type 0} (ks : List Bool) (t : Table A) (a : ℕ) → length (spread ks t a) ≡ length ks
spread_long [] t a = refl
spread_long (true ∷ ks) t a = ap suc (spread_long ks t (suc a))
spread_long (false ∷ ks) t a = ap suc (spread_long ks t a)

spread_get : {A : Type 0} (ks : List Bool) (t : Table A) (a c : ℕ) → c < length ks → slice_get (spread ks t a) c ≡ Some (get_or t (a + moved ks c) None)
spread_get [] t a c lt = absurd (omega (arith, lt))
spread_get (true ∷ ks) t a zero lt = let e : a ≡ a + 0 = omega arith in ap (λ k. Some (get_or t k None)) e
spread_get (false ∷ ks) t a zero lt = let e : a ≡ a + 0 = omega arith in ap (λ k. Some (get_or t k None)) e
spread_get (true ∷ ks) t a (suc c) lt =
    let e : suc a + moved ks c ≡ a + suc (moved ks c) = omega arith in
    spread_get ks t (suc a) c (omega (arith, lt)) ∙ ap (λ k. Some (get_or t k None)) e
spread_get (false ∷ ks) t a (suc c) lt = spread_get ks t a c (omega (arith, lt))

get_or_some : {A : Type 0} (t : Table A) (b : ℕ) (d : A) → get_or t b None ≡ Some d → slice_get t b ≡ Some (Some d)
get_or_some [] b d e = none_some e
get_or_some (x ∷ t) zero d e = ap (λ y. Some y) e
get_or_some (x ∷ t) (suc b) d e = get_or_some t b d e

-- ---- after a test no less is said

copies_more : (access : Access) (c : Option ℕ) (os : List Operand) → Pairwise OperandSays (map (tested_copy access c) os) os
copies_more access c [] = tt
copies_more access c (o ∷ os) = (copy_more access c o o (operand_same o), copies_more access c os)

barred_more : (access : Access) (depth : ℕ) (c : Option ℕ) (d : Description) → Says (barred access depth c d) d
barred_more access depth c d = record {
  stack = each_grow OperandSays (tested_operand access) (operand_more access) (map (tested_copy access c) d.stack) d.stack depth (copies_more access c d.stack);
  locals = local_more access c d.locals d.locals (each_same KnownSays known_same d.locals);
}

module _ (code : CodeTree) (u : CodeUnit) (t : Table Description) (h : Describes code u t) (coherent : Kept Description meet (passes code u.ops) (λ a d. Coherent u.locals d) t) (t' : Table Description) (h' : Describes (thin_code code) (thin_unit (staying u.ops t) u) t') (above : Above Description Says t' (sifted (staying u.ops t) t)) where
  abbrev ks : List Bool
  ks = staying u.ops t

  abbrev s : Table Description
  s = spread ks t' 0

  s_get : (c : ℕ) (d : Description) → c < length ks → slice_get t' (moved ks c) ≡ Some (Some d) → slice_get s c ≡ Some (Some d)
  s_get c d lt e =
      let z : 0 + moved ks c ≡ moved ks c = omega arith in
      spread_get ks t' 0 c lt ∙ ap (λ k. Some (get_or t' k None)) z ∙ ap (λ y. Some y) (get_or_from_slice_get t' (moved ks c) (Some d) None e)

  s_back : (c : ℕ) (d : Description) → slice_get s c ≡ Some (Some d) → slice_get t' (moved ks c) ≡ Some (Some d)
  s_back c d e =
      let within = slice_get_within s c (Some d) e in
      let z : 0 + moved ks c ≡ moved ks c = omega arith in
      get_or_some t' (moved ks c) d (ap (λ k. get_or t' k None) (sym z) ∙ some_inj (sym (spread_get ks t' 0 c (omega (arith, within, spread_long ks t' 0))) ∙ e))

  inside : (c : ℕ) (d : Description) → slice_get t' (moved ks c) ≡ Some (Some d) → c < length ks
  inside c d e =
      let within = slice_get_within t' (moved ks c) (Some d) e in
      moved_inside ks c (omega (arith, within, above.size, table_long code u t h coherent))

  stands_back : (c : ℕ) (e : Description) → Stands Description Says t' (moved ks c) e → Stands Description Says s c e
  stands_back c e st = (st.0, s_get c st.0 (inside c st.0 st.1) st.1, st.2)

  all_back : (ps : Sent Description) → AllStand Description Says t' (map (pair_moved ks) ps) → AllStand Description Says s ps
  all_back [] st = tt
  all_back (p ∷ ps) st = (stands_back p.0 p.1 st.0, all_back ps st.1)

  abbrev Ruled : ℕ → Description → Type 0
  Ruled a d = (ps : Sent Description) × (passes code u.ops a d ≡ Some ps) × AllStand Description Says s ps

  kept_ruled : (a : ℕ) (d : Description) → slice_get ks a ≡ Some true → slice_get t' (moved ks a) ≡ Some (Some d) → Ruled a d
  kept_ruled a d keep e =
      let rule = h'.settled (moved ks a) d e in
      let same = passed_moved code ks (slice_get u.ops a) a (moved ks a) d (next_kept ks a keep) ∙ sym (ap (λ o. passed (thin_code code) o (moved ks a) d) (op_moved ks u.ops a keep)) ∙ rule.1 in
      let ps = map_some (map (pair_moved ks)) (passed code (slice_get u.ops a) a d) rule.0 same in
      (ps.0, ps.1, all_back ps.0 (subst (AllStand Description Says t') (sym ps.2) rule.2))

  -- a description of thinned code where a barrier was left out brings as many operands as that of the code
  dropped_long : (a : ℕ) (d e : Description) → slice_get t a ≡ Some (Some e) → slice_get t' (moved ks a) ≡ Some (Some d) → length d.stack ≡ length e.stack
  dropped_long a d e at_t at_t' =
      let st = stands_moved code u t h coherent (length t) a e (omega arith) (e, at_t, says_same e) in
      let x = above.says (moved ks a) d at_t' in
      let eq : x.0 ≡ st.0 = some_inj (some_inj (sym x.1 ∙ st.1)) in
      each_long_same OperandSays d.stack st.0.stack (subst (λ y. Says d y) eq x.2).stack ∙ sym (each_long_same OperandSays e.stack st.0.stack st.2.stack)

  dropped_ruled : (a : ℕ) (d : Description) → slice_get ks a ≡ Some false → slice_get t' (moved ks a) ≡ Some (Some d) → Ruled a d
  dropped_ruled a d drop e =
      let g = again u.ops t a drop in
      let op = barrier g.access g.depth in
      let after = left (Tests g.access g.depth) d in
      let rule = h.settled a g.desc g.desc_at in
      let finds = (barrier_sends code a g.access g.depth g.desc rule.0 (ap (λ o. passed code o a g.desc) (sym g.op_at) ∙ rule.1)).0 in
      let enough = ap (nat_le (length (wanted (Tests g.access g.depth)))) (dropped_long a d g.desc g.desc_at e) ∙ finds in (
        (a + 1, after) ∷ [],
        ap (λ o. passed code o a d) g.op_at
            ∙ ap (λ c. option_map (sent (goes a op)) (changed c d)) (barrier_change code g.access g.depth)
            ∙ ap (λ b. option_map (sent (goes a op)) (if b then Some after else None)) enough
            ∙ ap (λ bs. Some (sent bs after)) (barrier_goes a g.access g.depth),
        (stands_back (a + 1) after (d, ap (slice_get t') (next_dropped ks a drop) ∙ e, barred_more g.access g.depth (copied_at (slice_get d.stack g.depth)) d), tt),
      )

  ruled : (a : ℕ) (d : Description) (k : Option Bool) → slice_get ks a ≡ k → slice_get t' (moved ks a) ≡ Some (Some d) → Ruled a d
  ruled a d None ek e = let found = get_within ks a (inside a d e) in none_some (sym ek ∙ found.1)
  ruled a d (Some true) ek e = kept_ruled a d ek e
  ruled a d (Some false) ek e = dropped_ruled a d ek e

  spread_describes : Describes code u s
  spread_describes =
      record {
        size = spread_long ks t' 0 ∙ staying_long u.ops t;
        started = all_back (starts u) (subst (AllStand Description Says t') (sym (starts_moved ks u)) h'.started);
        settled = λ a d e. ruled a d (slice_get ks a) refl (s_back a d e);
      }

  -- where the unit's rounds found d, those of the thinned unit found something that says no more
  pub no_more : descriptions code u ≡ Holds t → (a : ℕ) (d : Description) → slice_get t a ≡ Some (Some d) → (d' : Description) × (slice_get t' (moved ks a) ≡ Some (Some d')) × Says d d'
  no_more e a d ea =
      let up : Above Description Says t s = subst (λ o. OnFound ⊥ o (λ x. Above Description Says x s)) e (says_most code u s spread_describes) in
      let r = up.says a d ea in
      (r.0, s_back a r.0 r.1, r.2)
