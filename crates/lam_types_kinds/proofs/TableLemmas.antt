-- Look-up in a table is look-up in the list of its entries.
use Rattle.std.proofs.Common.{◌≡◌, ℕ, suc, ◌+◌, ◌<◌, Bool, true, false, cond, List, [], ◌∷◌, ◌++◌, length, map, drop, get_or, Option, Some, None, is_some, refl, sym, ap, ◌∙◌, subst, Bor, add-one}
use Rattle.std.proofs.Math.Seq.{drop-cons}
use Rattle.std.specs.Str.{bytes_eq}
use Rattle.std.specs.Map.{lookup}
use Rattle.std.specs.Option.{option_map}
use Rattle.std.proofs.lemmas.Slice.Eq.{bytes_eq-Decides}
use Rattle.lam_syntax.specs.declared.Var.{Var}
use Rattle.lam_syntax.specs.Tree.{IdTree, VarTree, var_tree, vars_tree}
use Rattle.lam_operators.specs.Words.{Word}
use Rattle.lam_builtins.specs.Types.{ValueType}
use Rattle.lam_types_kinds.specs.Written.{written}
use Rattle.lam_types_kinds.specs.Meets.{or_else}
use Rattle.lam_types_kinds.specs.Verdicts.{Fine, then_on}
use Rattle.lam_types_kinds.specs.Breaks.{Verdict}
use Rattle.lam_types_kinds.specs.Tables.{Names, Decls, typed_name, typed_names, with_field, with_fields, find, fresh, new_name, room, twice_if, with_var, vars_known}
use Rattle.lam_types_kinds.specs.Values.{keyed, Breaks}
use Rattle.lam_types_kinds.specs.declared.fault.TypeFault.{TypeFault}
use Rattle.lam_types_kinds.proofs.Steps.{stops}

abbrev pub key_is : Word → Bor Word → Bool
key_is x = λ k. bytes_eq x k.now

cond_map : {V A : Type 0} (see : V → A) (b : Bool) (v : V) (o : Option V) (p : Option A) → p ≡ option_map see o → cond b (Some (see v)) p ≡ option_map see (cond b (Some v) o)
cond_map see true v o p e = refl
cond_map see false v o p e = e

-- what a table has for a name
pub find_see : {V A : Type 0} (see : V → A) (x : Word) (es : List (Bor Word × V)) → find x (map (λ e. (e.0.now, see e.1)) es) ≡ option_map see (lookup (key_is x) es)
find_see see x [] = refl
find_see see x (e ∷ es) = cond_map see (bytes_eq x e.0.now) e.1 (lookup (key_is x) es) _ (find_see see x es)

is_some_map : {V A : Type 0} (see : V → A) (o : Option V) → is_some (option_map see o) ≡ is_some o
is_some_map see None = refl
is_some_map see (Some v) = refl

-- a name stands in a table exactly where it does in what is seen of it
pub has_see : {V A : Type 0} (see : V → A) (x : Word) (es : List (Bor Word × V)) → is_some (find x (map (λ e. (e.0.now, see e.1)) es)) ≡ is_some (lookup (key_is x) es)
has_see see x es = ap is_some (find_see see x es) ∙ is_some_map see (lookup (key_is x) es)

same_length : {V A B : Type 0} (f : V → A) (g : V → B) (es : List (Bor Word × V)) →
    length {A = Word × A} (map (λ e. (e.0.now, f e.1)) es) ≡ length {A = Word × B} (map (λ e. (e.0.now, g e.1)) es)
same_length f g [] = refl
same_length f g (e ∷ es) = ap suc (same_length f g es)

pub new_name_see : {V A : Type 0} (see : V → A) (limit : ℕ) (es : List (Bor Word × V)) (x : IdTree) → new_name limit (map (λ e. (e.0.now, see e.1)) es) x ≡ new_name limit (keyed es) x
new_name_see {V = V} {A = A} see limit es x =
    ap (λ b. then_on (twice_if b x.at) (λ _. room x.at limit (length {A = Word × A} (map (λ e. (e.0.now, see e.1)) es)))) (has_see see x.word es ∙ sym (has_see (λ v. v) x.word es)) ∙
    ap (λ n. then_on (fresh (keyed es) x) (λ _. room x.at limit n)) (same_length see (λ v. v) es)

none_of : {V : Type 0} (limit at n : ℕ) (o : Option V) → then_on (twice_if (is_some o) at) (λ _. room at limit n) ≡ Fine tt → o ≡ None
none_of limit at n None e = refl
none_of limit at n (Some v) e = absurd cc

-- a name that may be declared has no entry
pub new_none : {V : Type 0} (limit : ℕ) (es : List (Bor Word × V)) (x : IdTree) → new_name limit (keyed es) x ≡ Fine tt → find x.word (keyed es) ≡ None
new_none limit es x e = none_of limit x.at (length (keyed es)) (find x.word (keyed es)) e

is_none_map : {V : Type 0} (o : Option V) → option_map (λ (v : V). v) o ≡ None → o ≡ None
is_none_map None e = refl
is_none_map (Some v) e = absurd cc

pub lookup_none : {V : Type 0} (x : Word) (es : List (Bor Word × V)) → find x (keyed es) ≡ None → lookup (key_is x) es ≡ None
lookup_none x es e = is_none_map (lookup (key_is x) es) (sym (find_see (λ v. v) x es) ∙ e)

-- whether a name may be declared, by what the table says
pub fresh_is : {V : Type 0} (b : Bool) (t : Word) (es : List (Bor Word × V)) (x : IdTree) → t ≡ x.word → b ≡ is_some (lookup (key_is t) es) → fresh (keyed es) x ≡ twice_if b x.at
fresh_is b t es x w e =
    ap (λ b. twice_if b x.at) (has_see (λ v. v) x.word es ∙ ap (λ w. is_some (lookup (key_is w) es)) (sym w) ∙ sym e)

cond_else : {A : Type 0} (b : Bool) (v : A) (r o : Option A) → cond b (Some v) (or_else r o) ≡ or_else (cond b (Some v) r) o
cond_else true v r o = refl
cond_else false v r o = refl

-- what stands at the end counts where nothing before it has the name
pub find_both : {A : Type 0} (x : Word) (es fs : List (Word × A)) → find x (es ++ fs) ≡ or_else (find x es) (find x fs)
find_both x [] fs = refl
find_both x (e ∷ es) fs = ap (λ o. cond (bytes_eq x e.0) (Some e.1) o) (find_both x es fs) ∙ cond_else (bytes_eq x e.0) e.1 (find x es) (find x fs)

or_assoc : {A : Type 0} (o p q : Option A) → or_else (or_else o p) q ≡ or_else o (or_else p q)
or_assoc None p q = refl
or_assoc (Some a) p q = refl

or_none : {A : Type 0} (o : Option A) → or_else o None ≡ o
or_none None = refl
or_none (Some a) = refl

pub see_push : {V A : Type 0} (see : V → A) (es : List (Bor Word × V)) (k : Bor Word) (v : V) →
    ◌≡◌ {A = List (Word × A)} (map (λ e. (e.0.now, see e.1)) (es ++ (k, v) ∷ [])) (map (λ e. (e.0.now, see e.1)) es ++ (k.now, see v) ∷ [])
see_push see [] k v = refl
see_push see (e ∷ es) k v = ap (λ l. (e.0.now, see e.1) ∷ l) (see_push see es k v)

-- fields

one_field : (x : Word) (v : Word × ValueType) (rest : Names) → or_else (find x (v ∷ [])) (find x rest) ≡ find x (v ∷ rest)
one_field x v rest = sym (find_both x (v ∷ []) rest)

pub field_new : (old : Names) (v : VarTree) → is_some (find v.name.word old) ≡ false → with_field old v ≡ old ++ typed_name v ∷ []
field_new old v h = ap (λ b. cond b old (old ++ typed_name v ∷ [])) h

pub field_there : (old : Names) (v : VarTree) → is_some (find v.name.word old) ≡ true → with_field old v ≡ old
field_there old v h = ap (λ b. cond b old (old ++ typed_name v ∷ [])) h

there : {A : Type 0} (o : Option A) (p : Option A) → is_some o ≡ true → o ≡ or_else o p
there None p e = absurd cc
there (Some a) p e = refl

not_there : {A : Type 0} (o : Option A) (b : Bool) (v : A) → b ≡ false → o ≡ or_else o (cond b (Some v) None)
not_there None true v e = absurd cc
not_there None false v e = refl
not_there (Some a) b v e = refl

-- a name that is there is not found elsewhere
stays : (old : Names) (v : VarTree) → is_some (find v.name.word old) ≡ true → (x : Word) → find x old ≡ or_else (find x old) (find x (typed_name v ∷ []))
stays old v h x = by (bytes_eq x v.name.word) refl
  where
    by : (b : Bool) → bytes_eq x v.name.word ≡ b → find x old ≡ or_else (find x old) (find x (typed_name v ∷ []))
    by true e = there (find x old) (find x (typed_name v ∷ [])) (ap (λ w. is_some (find w old)) ((bytes_eq-Decides x v.name.word).0 e) ∙ h)
    by false e = not_there (find x old) (bytes_eq x v.name.word) (written v.ty) e

find_field : (x : Word) (old : Names) (v : VarTree) → find x (with_field old v) ≡ or_else (find x old) (find x (typed_name v ∷ []))
find_field x old v = by (is_some (find v.name.word old)) refl
  where
    by : (b : Bool) → is_some (find v.name.word old) ≡ b → find x (with_field old v) ≡ or_else (find x old) (find x (typed_name v ∷ []))
    by true e = ap (find x) (field_there old v e) ∙ stays old v e x
    by false e = ap (find x) (field_new old v e) ∙ find_both x old (typed_name v ∷ [])

find_fields : (x : Word) (old : Names) (vs : List VarTree) → find x (with_fields old vs) ≡ or_else (find x old) (find x (typed_names vs))
find_fields x old [] = sym (or_none (find x old))
find_fields x old (v ∷ vs) =
    find_fields x (with_field old v) vs ∙ ap (λ o. or_else o (find x (typed_names vs))) (find_field x old v) ∙
    or_assoc (find x old) (find x (typed_name v ∷ [])) (find x (typed_names vs)) ∙ ap (or_else (find x old)) (one_field x (typed_name v) (typed_names vs))

-- a field of a class has the type with which its name is declared first
pub find_declared : (x : Word) (vs : List VarTree) → find x (with_fields [] vs) ≡ find x (typed_names vs)
find_declared x vs = find_fields x [] vs

pub names_step : (vs : List Var) (i : ℕ) (v : Var) → i < length vs → v ≡ get_or vs i v → vars_tree (drop i vs) ≡ var_tree v ∷ vars_tree (drop (i + 1) vs)
names_step vs i v lt is = ap vars_tree (drop-cons vs i v lt ∙ ap (λ w. w ∷ drop (suc i) vs) (sym is) ∙ ap (λ k. v ∷ drop k vs) (sym (add-one i)))

-- the break of one name
pub vars_stop : (f : TypeFault) (d : Decls) (limit : ℕ) (es : Names) (vs : List Var) (i : ℕ) (v : Var) (r : Verdict Names) → i < length vs → v ≡ get_or vs i v → r ≡ vars_known d limit es (vars_tree (drop i vs)) →
    Breaks f (with_var d limit es (var_tree v)) → Breaks f r
vars_stop f d limit es vs i v r lt is e h =
    subst (λ (r : Verdict Names). Breaks f r) (sym (e ∙ ap (vars_known d limit es) (names_step vs i v lt is)))
    (stops f (with_var d limit es (var_tree v)) (λ es. vars_known d limit es (vars_tree (drop (i + 1) vs))) h)
