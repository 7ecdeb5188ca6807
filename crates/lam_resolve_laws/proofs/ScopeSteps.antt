-- How a scope goes on: a name more, a slot more, the head of a unit.
use Rattle.std.proofs.Common.{◌≡◌, ℕ, suc, ◌+◌, ◌<◌, ◌≤◌, Bool, true, false, cond, ◌||◌, List, [], ◌∷◌, ◌++◌, length, map, Option, Some, None, refl, sym, ap, ◌∙◌, subst, arith}
use Rattle.std.proofs.lemmas.Bool.Decides.{nat_tests}
use Rattle.std.specs.Prelude.{nat_eq, nat_lt, if◌then◌else◌, slice_get}
use Rattle.std.specs.Str.{bytes_eq}
use Rattle.lam_syntax.specs.Tree.{IdTree, VarTree}
use Rattle.lam_operators.specs.Words.{Word}
use Rattle.lam_syntax.specs.Unplaced.{unplaced_ids}
use Rattle.lam_builtins.specs.Limits.{most_regions}
use Rattle.lam_builtins.specs.Types.{ValueType}
use Rattle.lam_types_kinds.specs.Written.{written}
use Rattle.lam_types_kinds.specs.Tables.{Names, find, typed_names}
use Rattle.region_check.specs.Stmts.{with_local as with_name_typed}
use Rattle.region_check.specs.Judgement.{AllInScope}
use Rattle.region_check.specs.Breaks.{has, with_name}
use Rattle.region_check.specs.Legal.{IsReached, AreReached, words}
use Rattle.lam_resolve_tree.specs.Tree.{ResolvedType}
use Rattle.lam_resolve_tree.specs.Typing.{Use, a_local, a_monitor, Scope, with_use, local_if, locals_of, AreCaptured}
use Rattle.lam_resolve_laws.specs.Resolved.{numbered, types_of, Local, Locals, with_local, locals_from, resolve_captures, enter_region, slots_of, taken_over}
use Rattle.lam_resolve_laws.specs.Names.{id_as, captures_named, var_words}
use Rattle.lam_resolve_laws.proofs.Has.{Has, done, next, known, weaker, some_is}
use Rattle.lam_resolve_laws.proofs.Finding.{same_word, get_map, get_below, word_is, local_has}
use Rattle.lam_resolve_laws.proofs.Parts.{IsPart}
use Rattle.lam_resolve_laws.proofs.Scopes.{IsLocalAt, InScope}

-- ---- numbers and words

pub same_number : (m n : ℕ) → nat_eq m n ≡ true → m ≡ n
same_number m n e = grind (arith, nat_tests, e)

pub number_self : (n : ℕ) → nat_eq n n ≡ true
number_self n = grind (arith, nat_tests)

number_apart : (m n : ℕ) → m < n → nat_eq m n ≡ false
number_apart m n h = grind (arith, nat_tests, h)

-- ---- a name at the end of a list

find_before : {A : Type 0} (y x : Word) (a v : A) (es : List (Word × A)) → find y es ≡ Some v → find y (es ++ (x, a) ∷ []) ≡ Some v
find_before y x a v [] h = absurd cc
find_before y x a v (e ∷ es) h = by (bytes_eq y e.0) h (λ k. find_before y x a v es k)
  where
    by : (b : Bool) → cond b (Some e.1) (find y es) ≡ Some v → (find y es ≡ Some v → find y (es ++ (x, a) ∷ []) ≡ Some v) → cond b (Some e.1) (find y (es ++ (x, a) ∷ [])) ≡ Some v
    by true h again = h
    by false h again = again h

find_last : {A : Type 0} (y x : Word) (a : A) (es : List (Word × A)) → find y es ≡ None → find y (es ++ (x, a) ∷ []) ≡ cond (bytes_eq y x) (Some a) None
find_last y x a [] h = refl
find_last y x a (e ∷ es) h = by (bytes_eq y e.0) h (λ k. find_last y x a es k)
  where
    by : (b : Bool) → cond b (Some e.1) (find y es) ≡ None → (find y es ≡ None → find y (es ++ (x, a) ∷ []) ≡ cond (bytes_eq y x) (Some a) None) → cond b (Some e.1) (find y (es ++ (x, a) ∷ [])) ≡ cond (bytes_eq y x) (Some a) None
    by true h again = absurd cc
    by false h again = again h

-- ---- own names of a region

has_both : (own : List Word) (x y : Word) → has (own ++ x ∷ []) y ≡ (has own y || bytes_eq y x)
has_both [] x y = last (bytes_eq y x)
  where
    last : (b : Bool) → (b || false) ≡ b
    last true = refl
    last false = refl
has_both (w ∷ own) x y = ap (λ b. bytes_eq y w || b) (has_both own x y) ∙ assoc (bytes_eq y w) (has own y) (bytes_eq y x)
  where
    assoc : (a b c : Bool) → (a || (b || c)) ≡ ((a || b) || c)
    assoc true b c = refl
    assoc false b c = refl

-- another name that is reached after a declaration was reached before it
reached_other : (i : Bool) (own : List Word) (x y : Word) → bytes_eq y x ≡ false → IsReached i (with_name own x) y → IsReached i own y
reached_other false own x y e h = tt
reached_other true own x y e h = by (has own x) h
  where
    none : (a : Bool) → (a || false) ≡ true → a ≡ true
    none true h = refl
    none false h = absurd cc

    by : (b : Bool) → has (cond b own (own ++ x ∷ [])) y ≡ true → has own y ≡ true
    by true h = h
    by false h = none (has own y) (sym (has_both own x y ∙ ap (λ b. has own y || b) e) ∙ h)

-- ---- a slot more

module _ (cs : List (Word × Unit {0})) (i : Bool) (own : List Word) (names : Names) (ls : Locals) (n : ℕ) (env : Scope) (ws : List Word) (c : InScope cs i own names ls n env ws) where
  pub in_later : (m : ℕ) → n ≤ m → InScope cs i own names ls m env ws
  in_later m le = record { reached = c.reached; unknown = c.unknown; below = λ k u e. let lt = c.below k u e in omega (arith, lt, le) }

  kept_use : (u : Use) (m : ℕ) (v : Use) → env m ≡ Some v → with_use env n u m ≡ Some v
  kept_use u m v e = ap (λ b. cond b (Some u) (env m)) (number_apart m n (c.below m v e)) ∙ e

  new_use : (u : Use) → with_use env n u n ≡ Some u
  new_use u = ap (λ b. cond b (Some u) (env n)) (number_self n)

  below_use : (u : Use) (m : ℕ) (v : Use) → with_use env n u m ≡ Some v → m < n + 1
  below_use u m v e = by (nat_eq m n) refl e
    where
      by : (b : Bool) → nat_eq m n ≡ b → cond b (Some u) (env m) ≡ Some v → m < n + 1
      by true k e = let same = same_number m n k in omega (arith, same)
      by false k e = let lt = c.below m v e in omega (arith, lt)

  kept_local : (u : Use) (x : Word) (ty : ValueType) (l : Local) → IsLocalAt cs env ws x ty l → IsLocalAt cs (with_use env n u) ws x ty l
  kept_local u x ty l h = record { typed = h.typed; in_scope = kept_use u l.slot (a_local l.ty) h.in_scope; named = h.named }

  -- slot n is free
  pub is_free : env n ≡ None
  is_free = by (env n) refl
    where
      by : (o : Option Use) → env n ≡ o → env n ≡ None
      by None e = e
      by (Some u) e = absurd (let lt = c.below n u e in omega (arith, lt))

  -- the slot of a monitor
  pub in_monitor : (t : ResolvedType) → InScope cs i own names ls (n + 1) (with_use env n (a_monitor t)) ws
  in_monitor t = record {
    reached = λ x ty f r. weaker (c.reached x ty f r) (λ l h. kept_local (a_monitor t) x ty l h);
    unknown = c.unknown;
    below = below_use (a_monitor t);
  }

  -- a name more, with the slot n
  pub in_let : (x : Word) (t : ValueType) (u : ResolvedType) → find x names ≡ None → numbered cs t ≡ Some u → slice_get ws n ≡ Some x →
      InScope cs i (with_name own x) (with_name_typed names x t) (with_local ls x n u) (n + 1) (with_use env n (a_local u)) ws
  in_let x t u new typed named = record { reached = λ y ty f r. reached y ty (find y names) refl f r; unknown = λ y f. unknown y (find y names) refl f; below = below_use (a_local u) }
    where
      last_local : Local
      last_local = record { slot = n; ty = u }

      unknown : (y : Word) (o : Option ValueType) → find y names ≡ o → find y (names ++ (x, t) ∷ []) ≡ None → find y (ls ++ (x, last_local) ∷ []) ≡ None
      unknown y None k e =
          let apart = sym (find_last y x t names k) ∙ e in
          find_last y x last_local ls (c.unknown y k) ∙ by (bytes_eq y x) apart
        where
          by : (b : Bool) → cond b (Some t) None ≡ None → cond b (Some last_local) None ≡ None
          by true e = absurd cc
          by false e = refl
      unknown y (Some v) k e = absurd (let same = sym (find_before y x t v names k) ∙ e in cc)

      reached : (y : Word) (ty : ValueType) (o : Option ValueType) → find y names ≡ o → find y (names ++ (x, t) ∷ []) ≡ Some ty → IsReached i (with_name own x) y →
          Has (find y (ls ++ (x, last_local) ∷ [])) (λ l. IsLocalAt cs (with_use env n (a_local u)) ws y ty l)
      reached y ty None k f r = by (bytes_eq y x) refl (sym (find_last y x t names k) ∙ f)
        where
          by : (b : Bool) → bytes_eq y x ≡ b → cond b (Some t) None ≡ Some ty → Has (find y (ls ++ (x, last_local) ∷ [])) (λ l. IsLocalAt cs (with_use env n (a_local u)) ws y ty l)
          by true e h =
              known last_local (find_last y x last_local ls (c.unknown y k) ∙ ap (λ b. cond b (Some last_local) None) e)
              (record { typed = ap (numbered cs) (sym (some_is t ty h)) ∙ typed; in_scope = new_use (a_local u); named = named ∙ ap Some (sym (same_word y x e)) })
          by false e h = absurd cc
      reached y ty (Some v) k f r =
          let same : v ≡ ty = some_is v ty (sym (find_before y x t v names k) ∙ f) in
          let h = c.reached y ty (k ∙ ap Some same) (reached_other i own x y (apart (bytes_eq y x) refl) r) in
          known h.it (find_before y x last_local h.it ls h.is) (kept_local (a_local u) y ty h.it h.holds)
        where
          apart : (b : Bool) → bytes_eq y x ≡ b → bytes_eq y x ≡ false
          apart true e = absurd (let same = sym k ∙ ap (λ (z : Word). find z names) (same_word y x e) ∙ new in cc)
          apart false e = e

-- ---- the first slots of a unit

pub record LocalFrom (n : ℕ) (vs : List (Word × ResolvedType)) (x : Word) (l : Local) : Type 0 where
  pub at : ℕ
  pub slot : l.slot ≡ n + at
  pub entry : slice_get vs at ≡ Some (x, l.ty)

-- the local that is found has the slot of its place
from_head : (v : Word × ResolvedType) (vs : List (Word × ResolvedType)) (n : ℕ) (x : Word) → bytes_eq x v.0 ≡ true → LocalFrom n (v ∷ vs) x (record { slot = n; ty = v.1 })
from_head v vs n x e = record { at = 0; slot = omega arith; entry = ap (λ (y : Word). Some (y, v.1)) (sym (same_word x v.0 e)) }

from_tail : (v : Word × ResolvedType) (vs : List (Word × ResolvedType)) (n : ℕ) (x : Word) (l : Local) → LocalFrom (n + 1) vs x l → LocalFrom n (v ∷ vs) x l
from_tail v vs n x l h = record { at = suc h.at; slot = (let s = h.slot in omega (arith, s)); entry = h.entry }

-- it is a local of its type and its name
pub local_from : (cs : List (Word × Unit {0})) (vs : List (Word × ResolvedType)) (ws : List Word) (x : Word) (ty : ValueType) (l : Local) → IsPart ws 0 (map (λ v. v.0) vs) → LocalFrom 0 vs x l → numbered cs ty ≡ Some l.ty →
    IsLocalAt cs (locals_of (types_of vs)) ws x ty l
local_from cs vs ws x ty l part h typed =
    let slot : l.slot ≡ h.at = (let s = h.slot in omega (arith, s)) in
    let zero_at : l.slot ≡ 0 + h.at = h.slot in
    record {
      typed = typed;
      in_scope = ap (λ k. local_if (slice_get (types_of vs) k)) slot ∙ ap local_if (get_map (λ v. v.1) vs h.at (x, l.ty) h.entry);
      named = ap (slice_get ws) zero_at ∙ part.at h.at x (get_map (λ v. v.0) vs h.at (x, l.ty) h.entry);
    }

pub below_locals : (ts : List ResolvedType) (m : ℕ) (u : Use) → locals_of ts m ≡ Some u → m < length ts
below_locals ts m u e = by (slice_get ts m) refl e
  where
    by : (o : Option ResolvedType) → slice_get ts m ≡ o → local_if o ≡ Some u → m < length ts
    by None k e = absurd cc
    by (Some t) k e = get_below ts m t k

-- ---- parameters, and fields

-- the variables with their types by number
abbrev pub SameVars : List (Word × Unit {0}) → List VarTree → List (Word × ResolvedType) → Type 0
SameVars cs [] [] = Unit {0}
SameVars cs [] (u ∷ us) = ⊥
SameVars cs (v ∷ vs) [] = ⊥
SameVars cs (v ∷ vs) (u ∷ us) = (v.name.word ≡ u.0) × (numbered cs (written v.ty) ≡ Some u.1) × SameVars cs vs us

pub vars_named_same : (cs : List (Word × Unit {0})) (vs : List VarTree) (us : List (Word × ResolvedType)) → SameVars cs vs us → map (λ u. u.0) us ≡ var_words vs
vars_named_same cs [] [] h = refl
vars_named_same cs [] (u ∷ us) h = absurd h
vars_named_same cs (v ∷ vs) [] h = absurd h
vars_named_same cs (v ∷ vs) (u ∷ us) (e, k, h) = ap (λ (x : Word). x ∷ map (λ u. u.0) us) (sym e) ∙ ap (λ (l : List Word). v.name.word ∷ l) (vars_named_same cs vs us h)

param_reached : (cs : List (Word × Unit {0})) (vs : List VarTree) (us : List (Word × ResolvedType)) (n : ℕ) (x : Word) (ty : ValueType) → SameVars cs vs us → find x (typed_names vs) ≡ Some ty →
    Has (find x (locals_from n us)) (λ l. LocalFrom n us x l × (numbered cs ty ≡ Some l.ty))
param_reached cs [] [] n x ty h f = absurd cc
param_reached cs [] (u ∷ us) n x ty h f = absurd h
param_reached cs (v ∷ vs) [] n x ty h f = absurd h
param_reached cs (v ∷ vs) (u ∷ us) n x ty (e, k, h) f = by (bytes_eq x u.0) refl (ap (λ (y : Word). cond (bytes_eq x y) (Some (written v.ty)) (find x (typed_names vs))) (sym e) ∙ f) (λ f. param_reached cs vs us (n + 1) x ty h f)
  where
    by : (b : Bool) → bytes_eq x u.0 ≡ b → cond b (Some (written v.ty)) (find x (typed_names vs)) ≡ Some ty → (find x (typed_names vs) ≡ Some ty → Has (find x (locals_from (n + 1) us)) (λ l. LocalFrom (n + 1) us x l × (numbered cs ty ≡ Some l.ty))) →
        Has (cond b (Some (record { slot = n; ty = u.1 })) (find x (locals_from (n + 1) us))) (λ l. LocalFrom n (u ∷ us) x l × (numbered cs ty ≡ Some l.ty))
    by true b f again = done (record { slot = n; ty = u.1 }) (from_head u us n x b, ap (numbered cs) (sym (some_is (written v.ty) ty f)) ∙ k)
    by false b f again = weaker (again f) (λ l p. (from_tail u us n x l p.0, p.1))

param_unknown : (cs : List (Word × Unit {0})) (vs : List VarTree) (us : List (Word × ResolvedType)) (n : ℕ) (x : Word) → SameVars cs vs us → find x (typed_names vs) ≡ None → find x (locals_from n us) ≡ None
param_unknown cs [] [] n x h f = refl
param_unknown cs [] (u ∷ us) n x h f = absurd h
param_unknown cs (v ∷ vs) [] n x h f = absurd h
param_unknown cs (v ∷ vs) (u ∷ us) n x (e, k, h) f = by (bytes_eq x u.0) (ap (λ (y : Word). cond (bytes_eq x y) (Some (written v.ty)) (find x (typed_names vs))) (sym e) ∙ f) (λ f. param_unknown cs vs us (n + 1) x h f)
  where
    by : (b : Bool) → cond b (Some (written v.ty)) (find x (typed_names vs)) ≡ None → (find x (typed_names vs) ≡ None → find x (locals_from (n + 1) us) ≡ None) → cond b (Some (record { slot = n; ty = u.1 })) (find x (locals_from (n + 1) us)) ≡ None
    by true f again = absurd cc
    by false f again = again f

-- the scope at the head of a function
pub in_params : (cs : List (Word × Unit {0})) (vs : List VarTree) (us : List (Word × ResolvedType)) (ws : List Word) → SameVars cs vs us → IsPart ws 0 (map (λ u. u.0) us) →
    InScope cs false [] (typed_names vs) (locals_from 0 us) (length (types_of us)) (locals_of (types_of us)) ws
in_params cs vs us ws h part = record {
  reached = λ x ty f r. weaker (param_reached cs vs us 0 x ty h f) (λ l p. local_from cs us ws x ty l part p.0 p.1);
  unknown = λ x f. param_unknown cs vs us 0 x h f;
  below = below_locals (types_of us);
}

-- ---- captures

-- each captured name is a local outside, of its type
abbrev pub AllCaptured : List (Word × Unit {0}) → Names → Locals → Type 0
AllCaptured cs names [] = Unit {0}
AllCaptured cs names (c ∷ caps) = ((ty : ValueType) × (find c.0 names ≡ Some ty) × (numbered cs ty ≡ Some c.1.ty)) × AllCaptured cs names caps

pub record AreCaptures (cs : List (Word × Unit {0})) (names : Names) (env : Scope) (ws : List Word) (xs : List IdTree) (caps : Locals) : Type 0 where
  pub named : map (λ v. v.0) (taken_over caps) ≡ words xs
  pub typed : AllCaptured cs names caps
  pub captured : AreCaptured env (slots_of caps) (types_of (taken_over caps))
  pub reads : captures_named ws (slots_of caps) ≡ unplaced_ids xs

pub captures_are : (cs : List (Word × Unit {0})) (i : Bool) (own : List Word) (names : Names) (ls : Locals) (n : ℕ) (env : Scope) (ws : List Word) → InScope cs i own names ls n env ws → (xs : List IdTree) → AllInScope names xs → AreReached i own xs →
    Has (resolve_captures ls xs) (λ caps. AreCaptures cs names env ws xs caps)
captures_are cs i own names ls n env ws c [] h r = done [] (record { named = refl; typed = tt; captured = tt; reads = refl })
captures_are cs i own names ls n env ws c (x ∷ xs) ((ty, f), h) (r, rs) =
    next (local_has ls x.word (c.reached x.word ty f r)) (λ l k. next (captures_are cs i own names ls n env ws c xs h rs) (λ caps ks.
    done ((x.word, l) ∷ caps)
    (record {
      named = ap (λ (l : List Word). x.word ∷ l) ks.named;
      typed = ((ty, f, k.typed), ks.typed);
      captured = (k.in_scope, ks.captured);
      reads = ap (λ (y : Word). id_as y ∷ captures_named ws (slots_of caps)) (word_is ws l.slot x.word k.named) ∙ ap (λ rest. id_as x.word ∷ rest) ks.reads;
    })))

-- where there are not too many regions
pub entered : {P : Locals → Type 0} (ls : Locals) (xs : List IdTree) (m : ℕ) → m < most_regions → Has (resolve_captures ls xs) P → Has (enter_region m ls xs) P
entered {P} ls xs m few h =
    let e : nat_lt m most_regions ≡ true = grind (arith, nat_tests, few) in
    subst (λ (b : Bool). Has (if b then resolve_captures ls xs else None) P) (sym e) h

capture_reached : (cs : List (Word × Unit {0})) (names : Names) (caps : Locals) (n : ℕ) (x : Word) (ty : ValueType) → AllCaptured cs names caps → find x names ≡ Some ty → has (map (λ v. v.0) (taken_over caps)) x ≡ true →
    Has (find x (locals_from n (taken_over caps))) (λ l. LocalFrom n (taken_over caps) x l × (numbered cs ty ≡ Some l.ty))
capture_reached cs names [] n x ty h f r = absurd cc
capture_reached cs names (c ∷ caps) n x ty ((ty', g, k), h) f r = by (bytes_eq x c.0) refl r (λ r. capture_reached cs names caps (n + 1) x ty h f r)
  where
    by : (b : Bool) → bytes_eq x c.0 ≡ b → (b || has (map (λ v. v.0) (taken_over caps)) x) ≡ true → (has (map (λ v. v.0) (taken_over caps)) x ≡ true → Has (find x (locals_from (n + 1) (taken_over caps))) (λ l. LocalFrom (n + 1) (taken_over caps) x l × (numbered cs ty ≡ Some l.ty))) →
        Has (cond b (Some (record { slot = n; ty = c.1.ty })) (find x (locals_from (n + 1) (taken_over caps)))) (λ l. LocalFrom n (taken_over (c ∷ caps)) x l × (numbered cs ty ≡ Some l.ty))
    by true b r again =
        let same : ty ≡ ty' = some_is ty ty' (sym f ∙ ap (λ (y : Word). find y names) (same_word x c.0 b) ∙ g) in
        done (record { slot = n; ty = c.1.ty }) (from_head (c.0, c.1.ty) (taken_over caps) n x b, ap (numbered cs) same ∙ k)
    by false b r again = weaker (again r) (λ l p. (from_tail (c.0, c.1.ty) (taken_over caps) n x l p.0, p.1))

capture_unknown : (cs : List (Word × Unit {0})) (names : Names) (caps : Locals) (n : ℕ) (x : Word) → AllCaptured cs names caps → find x names ≡ None → find x (locals_from n (taken_over caps)) ≡ None
capture_unknown cs names [] n x h f = refl
capture_unknown cs names (c ∷ caps) n x ((ty, g, k), h) f = by (bytes_eq x c.0) refl (capture_unknown cs names caps (n + 1) x h f)
  where
    by : (b : Bool) → bytes_eq x c.0 ≡ b → find x (locals_from (n + 1) (taken_over caps)) ≡ None → cond b (Some (record { slot = n; ty = c.1.ty })) (find x (locals_from (n + 1) (taken_over caps))) ≡ None
    by true b rest = absurd (let same = sym f ∙ ap (λ (y : Word). find y names) (same_word x c.0 b) ∙ g in cc)
    by false b rest = rest

-- the scope at the head of a region
pub in_captures : (cs : List (Word × Unit {0})) (names : Names) (env : Scope) (outer ws : List Word) (xs : List IdTree) (caps : Locals) → AreCaptures cs names env outer xs caps → IsPart ws 0 (words xs) →
    InScope cs true (words xs) names (locals_from 0 (taken_over caps)) (length (types_of (taken_over caps))) (locals_of (types_of (taken_over caps))) ws
in_captures cs names env outer ws xs caps h part = record {
  reached = λ x ty f r.
      weaker (capture_reached cs names caps 0 x ty h.typed f (ap (λ (own : List Word). has own x) h.named ∙ r))
      (λ l p. local_from cs (taken_over caps) ws x ty l (subst (λ (own : List Word). IsPart ws 0 own) (sym h.named) part) p.0 p.1);
  unknown = λ x f. capture_unknown cs names caps 0 x h.typed f;
  below = below_locals (types_of (taken_over caps));
}
