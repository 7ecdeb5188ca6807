-- Redundant barriers, operation by operation.
use Rattle.std.proofs.Common.{◌≡◌, ℕ, zero, suc, ◌+◌, ◌<◌, ◌≤◌, List, [], ◌∷◌, ◌++◌, Bool, true, false, Option, Some, None, length, get_or, slice_get, take, drop, refl, sym, ap, ◌∙◌, arith}
use Rattle.std.specs.Prelude.{◌||◌, replicate}
use Rattle.std.specs.List.{list_any}
use Rattle.std.proofs.lemmas.Bool.{or_parts}
use Rattle.std.proofs.lemmas.List.{drop_more, drop_all, take_more}
use Rattle.std.proofs.Math.Seq.{take-length}
use Rattle.lam_bytecode.specs.Codes.{CodeTree}
use Rattle.lam_bytecode.specs.declared.unit.CodeUnit.{CodeUnit}
use Rattle.lam_bytecode.specs.declared.op.Op.{Op}
use Rattle.lam_bytecode.specs.declared.op.Op.TheVariants.{ReadBarrier, WriteBarrier}
use Rattle.guarded_code.specs.Rounds.{Table, Found, Holds, Broke}
use Rattle.guarded_code.specs.Descriptions.{Description}
use Rattle.guarded_code.specs.Changes.{descriptions}
use Rattle.guarded_code.specs.Breaks.{tests_again}
use Rattle.code_verify.specs.Tables.{again_by}
use Rattle.code_verify.specs.Redundant.{is_barrier, is_redundant, redundant, redundant_by, redundant_in}

-- ---- a barrier among operations
any_at : {A : Type 0} (test : A → Bool) (xs : List A) (n : ℕ) (x : A) → x ≡ get_or xs n x → n < length xs → list_any test (drop n xs) ≡ test x || list_any test (drop (n + 1) xs)
any_at test xs n x e lt = ap (list_any test) (drop_more xs n x lt ∙ ap (λ y. y ∷ drop (n + 1) xs) (sym e))

pub any_skip : {A : Type 0} (test : A → Bool) (xs : List A) (n : ℕ) (x : A) → x ≡ get_or xs n x → n < length xs → test x ≡ false → list_any test (drop n xs) ≡ list_any test (drop (n + 1) xs)
any_skip test xs n x e lt never = any_at test xs n x e lt ∙ ap (λ b. b || list_any test (drop (n + 1) xs)) never

pub any_hit : {A : Type 0} (test : A → Bool) (xs : List A) (n : ℕ) (x : A) → x ≡ get_or xs n x → n < length xs → test x ≡ true → list_any test (drop n xs) ≡ true
any_hit test xs n x e lt hit = any_at test xs n x e lt ∙ ap (λ b. b || list_any test (drop (n + 1) xs)) hit

pub any_end : {A : Type 0} (test : A → Bool) (xs : List A) (n : ℕ) → length xs ≤ n → list_any test (drop n xs) ≡ false
any_end test xs n le = ap (list_any test) (drop_all n xs le)

-- ---- where none is redundant
one_false : (n : ℕ) → replicate (suc n) false ≡ replicate n false ++ false ∷ []
one_false zero = refl
one_false (suc n) = ap (λ r. false ∷ r) (one_false n)

pub one_more_false : (n : ℕ) → replicate (n + 1) false ≡ replicate n false ++ false ∷ []
one_more_false n = let e : n + 1 ≡ suc n = omega arith in ap (λ k. replicate k false) e ∙ one_false n

none_by : (ops : List Op) → redundant ops [] ≡ replicate (length ops) false
none_by [] = refl
none_by (op ∷ ops) = ap (λ r. false ∷ r) (none_by ops)

never_again : (op : Op) (d : Description) → is_barrier op ≡ false → tests_again op d ≡ false
never_again (ReadBarrier depth) d never = absurd (cc never)
never_again (WriteBarrier depth) d never = absurd (cc never)
never_again op d never = refl

never_redundant : (op : Op) (o : Option Description) → is_barrier op ≡ false → is_redundant op o ≡ false
never_redundant op None never = refl
never_redundant op (Some d) never = never_again op d never

no_barrier : (ops : List Op) (t : Table Description) → list_any is_barrier ops ≡ false → redundant ops t ≡ replicate (length ops) false
no_barrier [] t never = refl
no_barrier (op ∷ ops) [] never = none_by (op ∷ ops)
no_barrier (op ∷ ops) (o ∷ t) never =
    let each = or_parts (is_barrier op) (list_any is_barrier ops) never in
    ap (λ b. b ∷ redundant ops t) (never_redundant op o each.0) ∙ ap (λ r. false ∷ r) (no_barrier ops t each.1)

pub without_barrier : (code : CodeTree) (u : CodeUnit) (flags : List Bool) (n : ℕ) → list_any is_barrier u.ops ≡ false → n ≡ length u.ops → flags ≡ replicate n false → flags ≡ redundant_in code u
without_barrier code u flags n never count e = e ∙ ap (λ k. replicate k false) count ∙ sym (by (descriptions code u))
  where
    by : (o : Found Description) → redundant_by u.ops o ≡ replicate (length u.ops) false
    by (Holds t) = no_barrier u.ops t never
    by (Broke a) = none_by u.ops

pub where_broken : (code : CodeTree) (u : CodeUnit) (flags : List Bool) (n a : ℕ) → descriptions code u ≡ Broke a → n ≡ length u.ops → flags ≡ replicate n false → flags ≡ redundant_in code u
where_broken code u flags n a broke count e =
    e ∙ ap (λ k. replicate k false) count ∙ sym (ap (redundant_by u.ops) broke ∙ none_by u.ops)

pub where_found : (code : CodeTree) (u : CodeUnit) (flags : List Bool) (t : Table Description) → descriptions code u ≡ Holds t → flags ≡ redundant u.ops t → flags ≡ redundant_in code u
where_found code u flags t found e = e ∙ sym (ap (redundant_by u.ops) found)

-- ---- by a table
redundant_long : (ops : List Op) (t : Table Description) → length (redundant ops t) ≡ length ops
redundant_long [] t = refl
redundant_long (op ∷ ops) [] = ap suc (redundant_long ops [])
redundant_long (op ∷ ops) (o ∷ t) = ap suc (redundant_long ops t)

row_at : (ops : List Op) (t : Table Description) (a : ℕ) (op : Op) (b : Bool) → a < length ops → get_or (redundant ops t) a b ≡ again_by (Some (get_or ops a op)) (slice_get t a)
row_at [] t a op b lt = absurd (omega (arith, lt))
row_at (p ∷ ops) [] zero op b lt = refl
row_at (p ∷ ops) (None ∷ t) zero op b lt = refl
row_at (p ∷ ops) (Some d ∷ t) zero op b lt = refl
row_at (p ∷ ops) [] (suc a) op b lt = row_at ops [] a op b (omega (arith, lt))
row_at (p ∷ ops) (o ∷ t) (suc a) op b lt = row_at ops t a op b (omega (arith, lt))

-- the flags so far, after one more
pub flags_next : (ops : List Op) (t : Table Description) (a : ℕ) (op : Op) (b : Bool) (old new : List Bool) → a < length ops → b ≡ again_by (Some (get_or ops a op)) (slice_get t a) → old ≡ take a (redundant ops t) → new ≡ old ++ b ∷ [] → new ≡ take (a + 1) (redundant ops t)
flags_next ops t a op b old new lt e f g =
    g
    ∙ ap (λ l. l ++ b ∷ []) f
    ∙ ap (λ x. take a (redundant ops t) ++ x ∷ []) (e ∙ sym (row_at ops t a op true lt))
    ∙ sym (take_more (redundant ops t) a true (let long = redundant_long ops t in omega (arith, lt, long)))

pub flags_end : (ops : List Op) (t : Table Description) (flags : List Bool) → flags ≡ take (length ops) (redundant ops t) → flags ≡ redundant ops t
flags_end ops t flags e = e ∙ ap (λ n. take n (redundant ops t)) (sym (redundant_long ops t)) ∙ take-length (redundant ops t)
