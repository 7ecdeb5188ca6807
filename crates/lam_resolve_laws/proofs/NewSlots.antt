-- In a typed tree the slots in scope differ, and each is below the number of its unit's slots.
use Rattle.std.proofs.Common.{◌≡◌, ℕ, zero, suc, ◌+◌, ◌<◌, ◌≤◌, Bool, true, false, cond, ◌||◌, List, [], ◌∷◌, length, Option, Some, None, refl, sym, ap, ◌∙◌, subst, arith, length-append}
use Rattle.std.proofs.lemmas.Bool.Decides.{nat_tests}
use Rattle.std.specs.Prelude.{nat_eq, slice_get}
use Rattle.lam_resolve_tree.specs.Tree.{ResolvedType, Statement, let_slot, if_block, while_block, sync_block, region_block, Block, block_end, block_more, OtherBlock, no_other, other_block, ResolvedFunction, ResolvedTree}
use Rattle.lam_resolve_tree.specs.Typing.{ResolvedSignatures, Use, a_local, a_monitor, Scope, with_use, local_if, locals_of, IsFree, Returning, AreCaptured, use_of, after, IsStatement, IsBlock, IsOther, AreFunctions, IsTypedTree}
use Rattle.lam_resolve_tree.specs.Regions.{count_up}
use Rattle.lam_resolve_tree.specs.Slots.{has_slot, IsNewSlot, AllInScope, scope_after, DeclaresNew, BlockDeclaresNew, OtherDeclaresNew, AllDeclareNew, SlotsDiffer}
use Rattle.lam_resolve_laws.proofs.Finding.{get_below}
use Rattle.lam_resolve_laws.proofs.ScopeSteps.{same_number}

-- the slots that have a use are those of the list
record AreSlots (env : Scope) (scope : List ℕ) : Type 0 where
  listed : (n : ℕ) (u : Use) → env n ≡ Some u → has_slot scope n ≡ true
  used : (n : ℕ) → has_slot scope n ≡ true → (u : Use) × (env n ≡ Some u)

new_slot : (env : Scope) (scope : List ℕ) (slots : List ResolvedType) (n : ℕ) (t : ResolvedType) → AreSlots env scope → IsFree slots env n t → IsNewSlot (length slots) scope n
new_slot env scope slots n t h (e, free) = (get_below slots n t e, by (has_slot scope n) refl)
  where
    by : (b : Bool) → has_slot scope n ≡ b → has_slot scope n ≡ false
    by false k = k
    by true k = absurd (let u = h.used n k in let both = sym free ∙ u.1 in cc)

more_slots : (env : Scope) (scope : List ℕ) (n : ℕ) (u : Use) → AreSlots env scope → AreSlots (with_use env n u) (n ∷ scope)
more_slots env scope n u h = record { listed = λ m v e. listed m v (nat_eq m n) e; used = λ m e. used m (nat_eq m n) e }
  where
    listed : (m : ℕ) (v : Use) (b : Bool) → cond b (Some u) (env m) ≡ Some v → (b || has_slot scope m) ≡ true
    listed m v true e = refl
    listed m v false e = h.listed m v e

    used : (m : ℕ) (b : Bool) → (b || has_slot scope m) ≡ true → (v : Use) × (cond b (Some u) (env m) ≡ Some v)
    used m true e = (u, refl)
    used m false e = h.used m e

captured_slots : (env : Scope) (scope : List ℕ) (ns : List ℕ) (ts : List ResolvedType) → AreSlots env scope → AreCaptured env ns ts → AllInScope scope ns × (length ns ≡ length ts)
captured_slots env scope [] [] h k = (tt, refl)
captured_slots env scope [] (t ∷ ts) h k = absurd k
captured_slots env scope (n ∷ ns) [] h k = absurd k
captured_slots env scope (n ∷ ns) (t ∷ ts) h (e, k) = let r = captured_slots env scope ns ts h k in ((h.listed n (a_local t) e, r.0), ap suc r.1)

-- the first slots

above : (n m : ℕ) → nat_eq m n ≡ false → n ≤ m → suc n ≤ m
above n m e le = grind (arith, nat_tests, e, le)

has_up : (n k m : ℕ) → n ≤ m → m < n + k → has_slot (count_up n k) m ≡ true
has_up n zero m le lt = absurd (omega (arith, le, lt))
has_up n (suc k) m le lt = by (nat_eq m n) refl (λ le'. has_up (suc n) k m le' (omega (arith, lt)))
  where
    by : (b : Bool) → nat_eq m n ≡ b → (suc n ≤ m → has_slot (count_up (suc n) k) m ≡ true) → (b || has_slot (count_up (suc n) k) m) ≡ true
    by true e again = refl
    by false e again = again (above n m e le)

up_has : (n k m : ℕ) → has_slot (count_up n k) m ≡ true → m < n + k
up_has n zero m e = absurd cc
up_has n (suc k) m e = by (nat_eq m n) refl e (λ h. up_has (suc n) k m h)
  where
    by : (b : Bool) → nat_eq m n ≡ b → (b || has_slot (count_up (suc n) k) m) ≡ true → (has_slot (count_up (suc n) k) m ≡ true → m < suc n + k) → m < n + suc k
    by true e h again = let same = same_number m n e in omega (arith, same)
    by false e h again = let lt = again h in omega (arith, lt)

get_within : (ts : List ResolvedType) (n : ℕ) → n < length ts → (t : ResolvedType) × (slice_get ts n ≡ Some t)
get_within [] n lt = absurd (omega (arith, lt))
get_within (t ∷ ts) zero lt = (t, refl)
get_within (t ∷ ts) (suc n) lt = get_within ts n (omega (arith, lt))

first_slots : (ts : List ResolvedType) → AreSlots (locals_of ts) (count_up 0 (length ts))
first_slots ts = record { listed = λ n u e. listed n u (slice_get ts n) refl e; used = λ n e. used n (get_within ts n (let lt = up_has 0 (length ts) n e in omega (arith, lt))) }
  where
    listed : (n : ℕ) (u : Use) (o : Option ResolvedType) → slice_get ts n ≡ o → local_if o ≡ Some u → has_slot (count_up 0 (length ts)) n ≡ true
    listed n u None k e = absurd cc
    listed n u (Some t) k e = let lt = get_below ts n t k in has_up 0 (length ts) n (omega arith) (omega (arith, lt))

    used : (n : ℕ) → (t : ResolvedType) × (slice_get ts n ≡ Some t) → (u : Use) × (locals_of ts n ≡ Some u)
    used n (t, e) = (a_local t, ap local_if e)

-- ---- statements

after_slots : (slots : List ResolvedType) (env : Scope) (scope : List ℕ) (s : Statement) (p : ResolvedSignatures) (ret : Returning) → AreSlots env scope → IsStatement p slots ret env s → AreSlots (after slots env s) (scope_after scope s)
after_slots slots env scope (let_slot n e) p ret h (t, k, f) = subst (λ (o : Option ResolvedType). AreSlots (use_of o env n) (n ∷ scope)) (sym k.0) (more_slots env scope n (a_local t) h)
after_slots slots env scope _ p ret h k = h

module _ (p : ResolvedSignatures) where
  mutual
    stmt_new : (s : Statement) (slots : List ResolvedType) (ret : Returning) (env : Scope) (scope : List ℕ) → AreSlots env scope → IsStatement p slots ret env s → DeclaresNew (length slots) scope s
    stmt_new (let_slot n e) slots ret env scope h (t, k, f) = new_slot env scope slots n t h k
    stmt_new (if_block e body other) slots ret env scope h (f, a, b) = (block_new body slots ret env scope h a, other_new other slots ret env scope h b)
    stmt_new (while_block e body) slots ret env scope h (f, a) = block_new body slots ret env scope h a
    stmt_new (sync_block n e body) slots ret env scope h (t, k, f, o, a) = (new_slot env scope slots n t h k, block_new body slots ret (with_use env n (a_monitor t)) (n ∷ scope) (more_slots env scope n (a_monitor t) h) a)
    stmt_new (region_block m l c from own body n handler) slots ret env scope h (ts, more, hl, hc, captured, is, a, free, b) =
        let k = captured_slots env scope from ts h captured in
        let first : AreSlots (locals_of ts) (count_up 0 (length from)) = subst (λ j. AreSlots (locals_of ts) (count_up 0 j)) (sym k.1) (first_slots ts) in
        let count = ap length is ∙ length-append ts more in
        let same = k.1 in (
          k.0,
          omega (arith, count, same),
          block_new body own _ (locals_of ts) (count_up 0 (length from)) first a,
          new_slot (locals_of ts) (count_up 0 (length from)) own n _ first free,
          block_new handler own _ (with_use (locals_of ts) n _) (n ∷ count_up 0 (length from)) (more_slots (locals_of ts) (count_up 0 (length from)) n _ first) b,
        )
    stmt_new _ slots ret env scope h k = tt

    block_new : (b : Block) (slots : List ResolvedType) (ret : Returning) (env : Scope) (scope : List ℕ) → AreSlots env scope → IsBlock p slots ret env b → BlockDeclaresNew (length slots) scope b
    block_new block_end slots ret env scope h k = tt
    block_new (block_more s rest) slots ret env scope h (a, b) = (stmt_new s slots ret env scope h a, block_new rest slots ret (after slots env s) (scope_after scope s) (after_slots slots env scope s p ret h a) b)

    other_new : (b : OtherBlock) (slots : List ResolvedType) (ret : Returning) (env : Scope) (scope : List ℕ) → AreSlots env scope → IsOther p slots ret env b → OtherDeclaresNew (length slots) scope b
    other_new no_other slots ret env scope h k = tt
    other_new (other_block body) slots ret env scope h k = block_new body slots ret env scope h k

  functions_new : (fs : List ResolvedFunction) → AreFunctions p fs → AllDeclareNew fs
  functions_new [] h = tt
  functions_new (f ∷ fs) (k, h) =
      let count = ap length k.slots ∙ length-append f.params k.more in
      (omega (arith, count), block_new f.body f.slots _ (locals_of f.params) (count_up 0 (length f.params)) (first_slots f.params) k.body, functions_new fs h)

pub slots_differ : (r : ResolvedTree) → IsTypedTree r → SlotsDiffer r
slots_differ r h = functions_new _ r.functions h.functions
