-- What stood at the operations that stayed meets the rules of the thinned unit.
use Rattle.std.proofs.Common.{IsTrue, ◌≡◌, ℕ, zero, suc, ◌+◌, ◌≤◌, List, [], ◌∷◌, map, Bool, true, false, not, if◌then◌else◌, Option, Some, None, length, slice_get, option_map, refl, sym, ap, ap₂, ◌∙◌, subst, arith}
use Rattle.std.specs.Prelude.{nat_le}
use Rattle.std.proofs.lemmas.Bool.{true≢false}
use Rattle.std.proofs.lemmas.List.{length-map}
use Rattle.std.proofs.lemmas.Option.{slice_get-map, slice_get_within}
use Rattle.lam_bytecode.specs.Codes.{CodeTree, given}
use Rattle.lam_bytecode.specs.declared.unit.CodeUnit.{CodeUnit}
use Rattle.lam_bytecode.specs.declared.unit.UnitKind.{UnitKind}
use Rattle.lam_bytecode.specs.declared.unit.UnitKind.TheVariants.{Function, Region}
use Rattle.lam_bytecode.specs.declared.op.Op.{Op}
use Rattle.guarded_code.specs.Rounds.{Sent, Table, Stands, AllStand, Settled}
use Rattle.guarded_code.specs.declared.known.Access.{Access}
use Rattle.guarded_code.specs.declared.known.Operand.{Operand}
use Rattle.guarded_code.specs.Descriptions.{Description, is_tested, meet, entry_locals, catch_starts, starts}
use Rattle.guarded_code.specs.Changes.{Tests, wanted, left, change, changed, goes, sent, passed, passes}
use Rattle.guarded_code.specs.Breaks.{is_tested_at}
use Rattle.guarded_code.specs.Says.{Says, Describes}
use Rattle.guarded_code.proofs.Tables.{none_some, some_inj, get_within}
use Rattle.guarded_code.proofs.Order.{says_trans}
pub use Rattle.guarded_code.proofs.Passing.{if_some, map_some}
use Rattle.thinned_code.specs.Thinned.{tests_again, stays, staying, moved, moved_op, moved_kind, sifted, thin_unit, thin_code}
use Rattle.thinned_code.proofs.Keeping.{Kept}
use Rattle.thinned_code.proofs.Sifting.{moved_zero, next_kept, next_dropped, sift_get, origin, sifted_count, stay_count}
use Rattle.thinned_code.proofs.Coherent.{Coherent, barred_same}
use Rattle.thinned_code.proofs.Units.{given_kept}
use Rattle.thinned_code.proofs.Ops.{barrier, barrier_change, barrier_goes, again_of, pair_moved, passed_moved}

-- ---- which operations are left out
pub staying_long : (ops : List Op) (t : Table Description) → length (staying ops t) ≡ length ops
staying_long [] t = refl
staying_long (op ∷ ops) [] = ap suc (staying_long ops [])
staying_long (op ∷ ops) (o ∷ t) = ap suc (staying_long ops t)

-- a barrier stands there, whose operand was tested already
pub record Again (ops : List Op) (t : Table Description) (a : ℕ) : Type 0 where
  pub access : Access
  pub depth : ℕ
  pub desc : Description
  pub operand : Operand
  pub op_at : slice_get ops a ≡ Some (barrier access depth)
  pub desc_at : slice_get t a ≡ Some (Some desc)
  pub operand_at : slice_get desc.stack depth ≡ Some operand
  pub fact : IsTrue (is_tested access operand.known)

tested_some : (access : Access) (o : Option Operand) → IsTrue (is_tested_at access o) → (x : Operand) × (o ≡ Some x) × IsTrue (is_tested access x.known)
tested_some access None e = absurd (true≢false (sym e))
tested_some access (Some x) e = (x, refl, e)

unnot : (b : Bool) → not b ≡ false → b ≡ true
unnot true e = refl
unnot false e = absurd (true≢false e)

again_here : (op : Op) (ops : List Op) (o : Option Description) (t : Table Description) → stays op o ≡ false → Again (op ∷ ops) (o ∷ t) 0
again_here op ops None t e = absurd (true≢false e)
again_here op ops (Some d) t e =
    let b = again_of op d (unnot (tests_again op d) e) in
    let x = tested_some b.0 (slice_get d.stack b.1) b.3 in
    record { access = b.0; depth = b.1; desc = d; operand = x.0; op_at = ap (λ p. Some p) b.2; desc_at = refl; operand_at = x.1; fact = x.2 }

again_later : (op : Op) (ops : List Op) (o : Option Description) (t : Table Description) (a : ℕ) → Again ops t a → Again (op ∷ ops) (o ∷ t) (suc a)
again_later op ops o t a g =
    record { access = g.access; depth = g.depth; desc = g.desc; operand = g.operand; op_at = g.op_at; desc_at = g.desc_at; operand_at = g.operand_at; fact = g.fact }

staying_all : (ops : List Op) (a : ℕ) → slice_get (staying ops []) a ≡ Some false → ⊥
staying_all [] a e = none_some e
staying_all (op ∷ ops) zero e = true≢false (some_inj e)
staying_all (op ∷ ops) (suc a) e = staying_all ops a e

pub again : (ops : List Op) (t : Table Description) (a : ℕ) → slice_get (staying ops t) a ≡ Some false → Again ops t a
again [] t a e = none_some e
again (op ∷ ops) [] a e = absurd (staying_all (op ∷ ops) a e)
again (op ∷ ops) (o ∷ t) zero e = again_here op ops o t (some_inj e)
again (op ∷ ops) (o ∷ t) (suc a) e = again_later op ops o t a (again ops t a e)

-- ---- what a barrier sends on
-- it finds enough operands
pub barrier_sends : (code : CodeTree) (a : ℕ) (access : Access) (depth : ℕ) (d : Description) (ps : Sent Description) → passed code (Some (barrier access depth)) a d ≡ Some ps → (nat_le (length (wanted (Tests access depth))) (length d.stack) ≡ true) × (ps ≡ (a + 1, left (Tests access depth) d) ∷ [])
barrier_sends code a access depth d ps e =
    let op = barrier access depth in
    let is = map_some (sent (goes a op)) (changed (change code op) d) ps e in
    let y = if_some (nat_le (length (wanted (Tests access depth))) (length d.stack)) (left (Tests access depth) d) is.0 (ap (λ c. changed c d) (sym (barrier_change code access depth)) ∙ is.1) in
    (y.0, sym is.2 ∙ ap (λ bs. sent bs is.0) (barrier_goes a access depth) ∙ ap (λ x. (a + 1, x) ∷ []) (sym y.1))

-- ---- where a unit begins
catch_moved : (ks : List Bool) (locals : ℕ) (kind : UnitKind) → map (pair_moved ks) (catch_starts locals kind) ≡ catch_starts locals (moved_kind ks kind)
catch_moved ks locals (Function name takes gives_int) = refl
catch_moved ks locals (Region region captures catch_at) = refl

abbrev entry_at : ℕ → ℕ → ℕ → ℕ × Description
entry_at locals a given = (a, record { stack = []; locals = entry_locals given locals })

pub starts_moved : (ks : List Bool) (u : CodeUnit) → map (pair_moved ks) (starts u) ≡ starts (thin_unit ks u)
starts_moved ks u =
    ap₂ (λ (p : ℕ × Description) ps. p ∷ ps) (ap₂ (entry_at u.locals) (moved_zero ks) (sym (given_kept ks u.kind))) (catch_moved ks u.locals u.kind)

pub op_moved : (ks : List Bool) (ops : List Op) (a : ℕ) → slice_get ks a ≡ Some true → slice_get (sifted ks (map (moved_op ks) ops)) (moved ks a) ≡ option_map (moved_op ks) (slice_get ops a)
op_moved ks ops a keep = sift_get ks (map (moved_op ks) ops) a keep ∙ slice_get-map (moved_op ks) ops a

-- the descriptions that stayed, at their new addresses
module _ (code : CodeTree) (u : CodeUnit) (t : Table Description) (h : Describes code u t) (coherent : Kept Description meet (passes code u.ops) (λ a d. Coherent u.locals d) t) where
  abbrev ks : List Bool
  ks = staying u.ops t

  -- a barrier that tests again sends on what it was given
  dropped_stands : (a : ℕ) (e : Description) → slice_get ks a ≡ Some false → Stands Description Says t a e → Stands Description Says t (a + 1) e
  dropped_stands a e drop st =
      let g = again u.ops t a drop in
      let rule = h.settled a g.desc g.desc_at in
      let sends = barrier_sends code a g.access g.depth g.desc rule.0 (ap (λ o. passed code o a g.desc) (sym g.op_at) ∙ rule.1) in
      let same = sends.1 ∙ ap (λ x. (a + 1, x) ∷ []) (barred_same u.locals g.access g.depth g.desc g.operand (coherent a g.desc g.desc_at) g.operand_at g.fact) in
      let later = (subst (AllStand Description Says t) same rule.2).0 in
      let eq : st.0 ≡ g.desc = some_inj (some_inj (sym st.1 ∙ g.desc_at)) in
      (later.0, later.1, says_trans e g.desc later.0 (subst (λ y. Says e y) eq st.2) later.2)

  stands_kept : (a : ℕ) (e : Description) → slice_get ks a ≡ Some true → Stands Description Says t a e → Stands Description Says (sifted ks t) (moved ks a) e
  stands_kept a e keep st = (st.0, sift_get ks t a keep ∙ st.1, st.2)

  stands_by : (a : ℕ) (e : Description) (k : Option Bool) → slice_get ks a ≡ k → Stands Description Says t a e → (Stands Description Says t (a + 1) e → Stands Description Says (sifted ks t) (moved ks (a + 1)) e) → Stands Description Says (sifted ks t) (moved ks a) e
  stands_by a e None ek st go =
      let within = slice_get_within t a (Some st.0) st.1 in
      let found = get_within ks a (omega (arith, within, staying_long u.ops t, h.size)) in
      none_some (sym ek ∙ found.1)
  stands_by a e (Some true) ek st go = stands_kept a e ek st
  stands_by a e (Some false) ek st go =
      subst (λ b. Stands Description Says (sifted ks t) b e) (next_dropped ks a ek) (go (dropped_stands a e ek st))

  -- n is the number of addresses that are left
  pub stands_moved : (n a : ℕ) (e : Description) → length t ≤ a + n → Stands Description Says t a e → Stands Description Says (sifted ks t) (moved ks a) e
  stands_moved zero a e le st =
      let within = slice_get_within t a (Some st.0) st.1 in absurd (omega (arith, within, le))
  stands_moved (suc n) a e le st =
      stands_by a e (slice_get ks a) refl st (λ later. stands_moved n (a + 1) e (omega (arith, le)) later)

  all_moved : (ps : Sent Description) → AllStand Description Says t ps → AllStand Description Says (sifted ks t) (map (pair_moved ks) ps)
  all_moved [] st = tt
  all_moved (p ∷ ps) st = (stands_moved (length t) p.0 p.1 (omega arith) st.0, all_moved ps st.1)

  kept_settled : (a : ℕ) → slice_get ks a ≡ Some true → (d : Description) → slice_get t a ≡ Some (Some d) → (ps : Sent Description) × (passes (thin_code code) (thin_unit ks u).ops (moved ks a) d ≡ Some ps) × AllStand Description Says (sifted ks t) ps
  kept_settled a keep d e =
      let rule = h.settled a d e in (
        map (pair_moved ks) rule.0,
        ap (λ o. passed (thin_code code) o (moved ks a) d) (op_moved ks u.ops a keep) ∙ sym (passed_moved code ks (slice_get u.ops a) a (moved ks a) d (next_kept ks a keep)) ∙ ap (option_map (map (pair_moved ks))) rule.1,
        all_moved rule.0 rule.2,
      )

  thin_settled : (b : ℕ) → Settled Description (passes (thin_code code) (thin_unit ks u).ops) Says b (sifted ks t)
  thin_settled b d e =
      let o = origin ks t b (Some d) e in
      subst (λ x. (ps : Sent Description) × (passes (thin_code code) (thin_unit ks u).ops x d ≡ Some ps) × AllStand Description Says (sifted ks t) ps) o.same (kept_settled o.place o.kept d o.at)

  pub thin_long : length (thin_unit ks u).ops ≡ stay_count ks
  thin_long = sifted_count ks (map (moved_op ks) u.ops) (length-map u.ops (moved_op ks) ∙ sym (staying_long u.ops t))

  pub table_long : length (sifted ks t) ≡ stay_count ks
  table_long = sifted_count ks t (h.size ∙ sym (staying_long u.ops t))

  pub thin_describes : Describes (thin_code code) (thin_unit ks u) (sifted ks t)
  thin_describes =
      record {
        size = table_long ∙ sym thin_long;
        started = subst (AllStand Description Says (sifted ks t)) (starts_moved ks u) (all_moved (starts u) h.started);
        settled = thin_settled;
      }
