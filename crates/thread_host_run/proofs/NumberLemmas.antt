-- Names by number: each keeps its number, and none has two.
use Rattle.std.proofs.Common.{◌≡◌, ℕ, zero, suc, ◌+◌, Bool, true, false, cond, List, [], ◌∷◌, ◌++◌, Option, Some, None, length, refl, sym, ap, ◌∙◌, arith}
use Rattle.std.specs.Prelude.{not, nat_lt, slice_get, position, if◌then◌else◌}
use Rattle.std.specs.List.{IsDistinct, AllByRecursion, list_any, position_or_len}
use Rattle.std.proofs.lemmas.Bool.Decides.{nat_tests}
use Rattle.std.proofs.lemmas.Option.{slice_get_within}
use Rattle.lam_value.specs.declared.names.Name.{Name}
use Rattle.lam_value.specs.Names.{name_eq}
use Rattle.lam_value.proofs.Keys.{name_total, name_exact, name_ties}
use Rattle.lam_value.proofs.Rows.{itself, is_same}
use Rattle.lam_machine_laws.proofs.ThreadLemmas.{some_inj}
use Rattle.thread_host_run.specs.declared.waits.Touched.{Touched}
use Rattle.thread_host_run.specs.Waiting.{Extends, Touches, is_monitor}

pub name_same : (x y : Name) → name_eq x y ≡ true → x ≡ y
name_same = is_same name_eq name_total name_exact name_ties

-- ---- a name has one number

apart : (n : Name) (ns : List Name) (k : ℕ) → AllByRecursion (λ m. name_eq n m ≡ false) ns → slice_get ns k ≡ Some n → ⊥
apart n [] k a e = cc
apart n (x ∷ ns) zero a e =
    let same : x ≡ n = cc in
    let differs : true ≡ false = sym (itself name_eq name_total name_exact name_ties n) ∙ ap (name_eq n) (sym same) ∙ a.0 in cc
apart n (x ∷ ns) (suc k) a e = apart n ns k a.1 e

place_in : (x : Name) (ns : List Name) (k : ℕ) (n : Name) (b : Bool) → name_eq n x ≡ b → AllByRecursion (λ m. name_eq x m ≡ false) ns → slice_get ns k ≡ Some n → position_or_len (name_eq n) ns ≡ k
    → cond (not b) (1 + position_or_len (name_eq n) ns) 0 ≡ suc k
place_in x ns k n true f all e later = absurd (apart x ns k all (e ∙ ap (λ m. Some m) (name_same n x f)))
place_in x ns k n false f all e later = omega (arith, later)

place_is : (ns : List Name) (k : ℕ) (n : Name) → IsDistinct name_eq ns → slice_get ns k ≡ Some n → position_or_len (name_eq n) ns ≡ k
unfolding IsDistinct
place_is [] k n d e = absurd cc
place_is (x ∷ ns) zero n d e =
    let same : x ≡ n = cc in
    let equal : name_eq n x ≡ true = ap (name_eq n) same ∙ itself name_eq name_total name_exact name_ties n in
    ap (λ (b : Bool). cond (not b) (1 + position_or_len (name_eq n) ns) 0) equal
place_is (x ∷ ns) (suc k) n d e = place_in x ns k n (name_eq n x) refl d.0 e (place_is ns k n d.1 e)

-- ---- a name that is put in has a number, and the others keep theirs

pub same_names : (ns ms : List Name) → ms ≡ ns → Extends ns ms
same_names ns ms e k n at = ap (λ l. slice_get l k) e ∙ at

front : (ns ms : List Name) → Extends ns (ns ++ ms)
front [] ms k n e = absurd cc
front (x ∷ ns) ms zero n e = e
front (x ∷ ns) ms (suc k) n e = front ns ms k n e

pub put_extends : (ns ms : List Name) (n : Name) → ms ≡ (if list_any (name_eq n) ns then ns else ns ++ n ∷ []) → Extends ns ms
put_extends ns ms n e = by (list_any (name_eq n) ns) e
  where
    by : (b : Bool) → ms ≡ (if b then ns else ns ++ n ∷ []) → Extends ns ms
    by true f k m at = same_names ns ms f k m at
    by false f k m at = ap (λ l. slice_get l k) f ∙ front ns (n ∷ []) k m at

-- ---- a name that is looked up

pub place_found : (ns : List Name) (k : ℕ) (n : Name) → IsDistinct name_eq ns → slice_get ns k ≡ Some n → position (name_eq n) ns ≡ Some k
place_found ns k n d e =
    let less : nat_lt k (length ns) ≡ true = (let lt = slice_get_within ns k n e in grind (arith, nat_tests, lt)) in
    ap (λ (j : ℕ). cond (nat_lt j (length ns)) (Some j) None) (place_is ns k n d e) ∙ ap (λ (b : Bool). cond b (Some k) None) less

-- a name that has no number is not touched
pub touches_none : (ns : List Name) (o : Option Name) (t : Touched) → o ≡ None → Touches ns o t
touches_none ns o t e k n at f = absurd cc

pub touches_missing : (ns : List Name) (n : Name) (t : Touched) → IsDistinct name_eq ns → position (name_eq n) ns ≡ None → Touches ns (Some n) t
touches_missing ns n t d none k m at e =
    let same : n ≡ m = some_inj n m e in
    let found = place_found ns k n d (at ∙ ap (λ x. Some x) (sym same)) in
    absurd cc

pub touches_found : (ns : List Name) (n : Name) (t : Touched) (i : ℕ) → IsDistinct name_eq ns → position (name_eq n) ns ≡ Some i → is_monitor t i ≡ true → Touches ns (Some n) t
touches_found ns n t i d is stale k m at e =
    let same : n ≡ m = some_inj n m e in
    let found = place_found ns k n d (at ∙ ap (λ x. Some x) (sym same)) in
    let there : i ≡ k = some_inj i k (sym is ∙ found) in
    ap (is_monitor t) (sym there) ∙ stale
