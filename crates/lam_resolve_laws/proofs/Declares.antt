-- The tables of a typed program exist, and tie its declarations to their numbers.
use Rattle.std.proofs.Common.{◌≡◌, ℕ, zero, suc, ◌+◌, Bool, true, false, cond, List, [], ◌∷◌, map, Option, Some, None, refl, sym, ap, ◌∙◌, subst, arith}
use Rattle.std.specs.Prelude.{slice_get}
use Rattle.std.specs.Str.{bytes_eq}
use Rattle.lam_syntax.specs.Tree.{TypeTree, type_node, class_type, array_type, VarTree, FunctionTree, class_item, function_item, ProgramTree}
use Rattle.lam_operators.specs.Words.{Word}
use Rattle.lam_builtins.specs.Types.{ValueType}
use Rattle.lam_types_kinds.specs.Written.{written}
use Rattle.lam_builtins.specs.Builtins.{Signature}
use Rattle.lam_types_kinds.specs.Tables.{Names, find, typed_names, fields_of, answer_of, places_of, signature_of, declared, declared_classes, declared_functions}
use Rattle.lam_types_kinds.proofs.TableLemmas.{find_declared}
use Rattle.lam_types_exprs.specs.Judgement.{IsDeclared}
use Rattle.region_check.specs.Judgement.{AllDeclared, IsResult, AllItems}
use Rattle.lam_resolve_tree.specs.Tree.{ResolvedType}
use Rattle.lam_resolve_tree.specs.Typing.{ResolvedSignature, ResolvedSignatures, exact_places}
use Rattle.lam_resolve_laws.specs.Resolved.{then_some, Found, found_from, found, class_names, numbered, resolve_type, resolve_result, resolve_vars, types_of, Tables, resolve_classes, resolve_head, resolve_heads, tables}
use Rattle.lam_resolve_laws.specs.Names.{class_words, field_words}
use Rattle.lam_resolve_laws.proofs.Has.{Has, done, next, from, weaker, back, some_is}
use Rattle.lam_resolve_laws.proofs.Finding.{same_word}
use Rattle.lam_resolve_laws.proofs.SameTypes.{SamePlaces}
use Rattle.lam_resolve_laws.proofs.Scopes.{SameResult, AreTied}
use Rattle.lam_resolve_laws.proofs.ScopeSteps.{SameVars, vars_named_same}

-- ---- what is resolved is the same by words and by numbers

pub vars_same : (cs : List (Word × Unit {0})) (vs : List VarTree) (us : List (Word × ResolvedType)) → resolve_vars cs vs ≡ Some us → SameVars cs vs us
vars_same cs [] us e = by us (some_is [] us e)
  where
    by : (us : List (Word × ResolvedType)) → [] ≡ us → SameVars cs [] us
    by [] e = tt
    by (u ∷ us) e = absurd cc
vars_same cs (v ∷ vs) us e =
    let b = back (resolve_type cs v.ty) (λ u. then_some (resolve_vars cs vs) (λ us. Some ((v.name.word, u) ∷ us))) us e in
    let c = back (resolve_vars cs vs) (λ us. Some ((v.name.word, b.it) ∷ us)) us b.next in
    subst (λ (us : List (Word × ResolvedType)). SameVars cs (v ∷ vs) us) (some_is ((v.name.word, b.it) ∷ c.it) us c.next) (refl, b.first, vars_same cs vs c.it c.first)

pub places_same : (cs : List (Word × Unit {0})) (vs : List VarTree) (us : List (Word × ResolvedType)) → SameVars cs vs us → SamePlaces cs (places_of vs) (exact_places (types_of us))
places_same cs [] [] h = tt
places_same cs [] (u ∷ us) h = absurd h
places_same cs (v ∷ vs) [] h = absurd h
places_same cs (v ∷ vs) (u ∷ us) (e, k, h) = (k, places_same cs vs us h)

pub result_same : (cs : List (Word × Unit {0})) (o : Option TypeTree) (r : Option ResolvedType) → resolve_result cs o ≡ Some r → SameResult cs (answer_of o) r
result_same cs None r e = sym (some_is None r e)
result_same cs (Some ty) r e = let b = back (resolve_type cs ty) (λ u. Some (Some u)) r e in (b.it, b.first, sym (some_is (Some b.it) r b.next))

-- the field that is found by name has its type by number
var_found : (cs : List (Word × Unit {0})) (vs : List VarTree) (us : List (Word × ResolvedType)) (n : ℕ) (x : Word) (ty : ValueType) → SameVars cs vs us → find x (typed_names vs) ≡ Some ty → Has (found_from n x us) (λ k. numbered cs ty ≡ Some k.it)
var_found cs [] [] n x ty h f = absurd cc
var_found cs [] (u ∷ us) n x ty h f = absurd h
var_found cs (v ∷ vs) [] n x ty h f = absurd h
var_found cs (v ∷ vs) (u ∷ us) n x ty (e, k, h) f = by (bytes_eq x u.0) (ap (λ (y : Word). cond (bytes_eq x y) (Some (written v.ty)) (find x (typed_names vs))) (sym e) ∙ f) (λ f. var_found cs vs us (n + 1) x ty h f)
  where
    by : (b : Bool) → cond b (Some (written v.ty)) (find x (typed_names vs)) ≡ Some ty → (find x (typed_names vs) ≡ Some ty → Has (found_from (n + 1) x us) (λ k. numbered cs ty ≡ Some k.it)) →
        Has (cond b (Some (record { number = n; it = u.1 })) (found_from (n + 1) x us)) (λ k. numbered cs ty ≡ Some k.it)
    by true f again = done _ (ap (numbered cs) (sym (some_is (written v.ty) ty f)) ∙ k)
    by false f again = again f

-- ---- the tables exist

class_found : (p : ProgramTree) (n : ℕ) (c : Word) (fields : Names) → find c (declared_classes p) ≡ Some fields → Has (found_from n c (class_names p)) (λ k. Unit {0})
class_found [] n c fields f = absurd cc
class_found (function_item q ∷ p) n c fields f = class_found p n c fields f
class_found (class_item k ∷ p) n c fields f = by (bytes_eq c k.name.word) f (λ f. class_found p (n + 1) c fields f)
  where
    by : (b : Bool) → cond b (Some (fields_of k)) (find c (declared_classes p)) ≡ Some fields → (find c (declared_classes p) ≡ Some fields → Has (found_from (n + 1) c (class_names p)) (λ k. Unit {0})) →
        Has (cond b (Some (record { number = n; it = tt })) (found_from (n + 1) c (class_names p))) (λ k. Unit {0})
    by true f again = done _ tt
    by false f again = again f

module _ (whole : ProgramTree) where
  declared_number : (ty : TypeTree) → IsDeclared (declared whole) ty → Has (numbered (class_names whole) (written ty)) (λ u. Unit {0})
  declared_number (type_node at (class_type c)) (fields, h) = next (class_found whole 0 c fields h) (λ n k. done _ tt)
  declared_number (type_node at (array_type ty)) h = next (declared_number ty h) (λ u k. done _ tt)
  declared_number (type_node at _) h = done _ tt

  pub vars_exist : (vs : List VarTree) → AllDeclared (declared whole) vs → Has (resolve_vars (class_names whole) vs) (λ us. Unit {0})
  vars_exist [] h = done _ tt
  vars_exist (v ∷ vs) (h, hs) = next (declared_number v.ty h) (λ u k. next (vars_exist vs hs) (λ us ks. done _ tt))

  pub result_exists : (o : Option TypeTree) → IsResult (declared whole) o → Has (resolve_result (class_names whole) o) (λ r. Unit {0})
  result_exists None h = done _ tt
  result_exists (Some ty) h = next (declared_number ty h) (λ u k. done _ tt)

  classes_exist : (p : ProgramTree) → AllItems (declared whole) p → Has (resolve_classes (class_names whole) p) (λ css. Unit {0})
  classes_exist [] h = done _ tt
  classes_exist (class_item c ∷ p) ((e, n, declared_types), hs) = next (vars_exist c.fields declared_types) (λ us k. next (classes_exist p hs) (λ css ks. done _ tt))
  classes_exist (function_item f ∷ p) (h, hs) = classes_exist p hs

  head_exists : (f : FunctionTree) → AllDeclared (declared whole) f.params → IsResult (declared whole) f.result → Has (resolve_head (class_names whole) f) (λ h. Unit {0})
  head_exists f h q = next (vars_exist f.params h) (λ us k. next (result_exists f.result q) (λ r m. done _ tt))

  heads_exist : (p : ProgramTree) → AllItems (declared whole) p → Has (resolve_heads (class_names whole) p) (λ hs. Unit {0})
  heads_exist [] h = done _ tt
  heads_exist (class_item c ∷ p) (h, hs) = heads_exist p hs
  heads_exist (function_item f ∷ p) ((e, (a, b, declared_types), q, body, slots), hs) =
      next (head_exists f declared_types q) (λ h k. next (heads_exist p hs) (λ hs ks. done _ tt))

abbrev pub tables_as : ProgramTree → List (List (Word × ResolvedType)) → List (Word × ResolvedSignature) → Tables
tables_as p css hs = record { names = class_names p; classes = css; functions = hs }

-- what the tables are
pub record TablesOf (p : ProgramTree) : Type 0 where
  pub css : List (List (Word × ResolvedType))
  pub hs : List (Word × ResolvedSignature)
  pub classes : resolve_classes (class_names p) p ≡ Some css
  pub functions : resolve_heads (class_names p) p ≡ Some hs
  pub are : tables p ≡ Some (tables_as p css hs)

pub tables_exist : (p : ProgramTree) → AllItems (declared p) p → TablesOf p
tables_exist p h =
    let css = classes_exist p p h in
    let hs = heads_exist p p h in
    let whole : Has (tables p) (λ t. t ≡ tables_as p css.it hs.it) = from _ css.it css.is (from _ hs.it hs.is (done _ refl)) in
    record { css = css.it; hs = hs.it; classes = css.is; functions = hs.is; are = whole.is ∙ ap (λ (t : Tables). Some t) whole.holds }

-- ---- and tie what is declared to its number

record ClassPlace (cs : List (Word × Unit {0})) (p : ProgramTree) (css : List (List (Word × ResolvedType))) (n : ℕ) (c : Word) (fields : Names) (k : Found (Unit {0})) : Type 0 where
  at : ℕ
  number : k.number ≡ n + at
  vars : List (Word × ResolvedType)
  in_tables : slice_get css at ≡ Some vars
  named : slice_get (class_words p) at ≡ Some c
  fields_named : slice_get (field_words p) at ≡ Some (map (λ v. v.0) vars)
  typed : (f : Word) (ty : ValueType) → find f fields ≡ Some ty → Has (found f vars) (λ k. numbered cs ty ≡ Some k.it)

class_place : (cs : List (Word × Unit {0})) (p : ProgramTree) (css : List (List (Word × ResolvedType))) (n : ℕ) (c : Word) (fields : Names) → resolve_classes cs p ≡ Some css → find c (declared_classes p) ≡ Some fields →
    Has (found_from n c (class_names p)) (λ k. ClassPlace cs p css n c fields k)
class_place cs [] css n c fields e f = absurd cc
class_place cs (function_item q ∷ p) css n c fields e f =
    weaker (class_place cs p css n c fields e f)
    (λ k h. record { at = h.at; number = h.number; vars = h.vars; in_tables = h.in_tables; named = h.named; fields_named = h.fields_named; typed = h.typed })
class_place cs (class_item q ∷ p) css n c fields e f =
    let b = back (resolve_vars cs q.fields) (λ us. then_some (resolve_classes cs p) (λ rest. Some (us ∷ rest))) css e in
    let d = back (resolve_classes cs p) (λ rest. Some (b.it ∷ rest)) css b.next in
    subst (λ (css : List (List (Word × ResolvedType))). Has (found_from n c (class_names (class_item q ∷ p))) (λ k. ClassPlace cs (class_item q ∷ p) css n c fields k)) (some_is (b.it ∷ d.it) css d.next)
    (by b.it d.it (vars_same cs q.fields b.it b.first) (bytes_eq c q.name.word) refl f (λ f. class_place cs p d.it (n + 1) c fields d.first f))
  where
    by : (us : List (Word × ResolvedType)) (css : List (List (Word × ResolvedType))) → SameVars cs q.fields us → (b : Bool) → bytes_eq c q.name.word ≡ b → cond b (Some (fields_of q)) (find c (declared_classes p)) ≡ Some fields →
        (find c (declared_classes p) ≡ Some fields → Has (found_from (n + 1) c (class_names p)) (λ k. ClassPlace cs p css (n + 1) c fields k)) →
        Has (cond b (Some (record { number = n; it = tt })) (found_from (n + 1) c (class_names p))) (λ k. ClassPlace cs (class_item q ∷ p) (us ∷ css) n c fields k)
    by us css same true m f again =
        let is : fields_of q ≡ fields = some_is (fields_of q) fields f in
        done _
        (record {
          at = 0;
          number = omega arith;
          vars = us;
          in_tables = refl;
          named = ap (λ (x : Word). Some x) (sym (same_word c q.name.word m));
          fields_named = ap (λ (l : List Word). Some l) (sym (vars_named_same cs q.fields us same));
          typed = λ x ty g. var_found cs q.fields us 0 x ty same (sym (find_declared x q.fields) ∙ ap (find x) is ∙ g);
        })
    by us css same false m f again =
        weaker (again f)
        (λ k h. record { at = suc h.at; number = (let s = h.number in omega (arith, s)); vars = h.vars; in_tables = h.in_tables; named = h.named; fields_named = h.fields_named; typed = h.typed })

-- the names of a program's functions
abbrev pub head_words : ProgramTree → List Word
head_words [] = []
head_words (class_item c ∷ p) = head_words p
head_words (function_item f ∷ p) = f.name.word ∷ head_words p

record FunctionPlace (cs : List (Word × Unit {0})) (p : ProgramTree) (hs : List (Word × ResolvedSignature)) (n : ℕ) (f : Word) (s : Signature) (k : Found ResolvedSignature) : Type 0 where
  at : ℕ
  number : k.number ≡ n + at
  in_heads : slice_get (map (λ h. h.1) hs) at ≡ Some k.it
  takes : SamePlaces cs s.takes (exact_places k.it.params)
  gives : SameResult cs s.answer k.it.result
  named : slice_get (head_words p) at ≡ Some f

pub record HeadFrom (cs : List (Word × Unit {0})) (f : FunctionTree) (h : ResolvedSignature) : Type 0 where
  pub vars : List (Word × ResolvedType)
  pub result : Option ResolvedType
  pub vars_are : resolve_vars cs f.params ≡ Some vars
  pub result_is : resolve_result cs f.result ≡ Some result
  pub is : record { params = types_of vars; result = result } ≡ h

pub head_from : (cs : List (Word × Unit {0})) (f : FunctionTree) (h : ResolvedSignature) → resolve_head cs f ≡ Some h → HeadFrom cs f h
head_from cs f h e =
    let b = back (resolve_vars cs f.params) (λ vs. then_some (resolve_result cs f.result) (λ r. Some (record { params = types_of vs; result = r }))) h e in
    let c = back (resolve_result cs f.result) (λ r. Some (record { params = types_of b.it; result = r })) h b.next in
    record { vars = b.it; result = c.it; vars_are = b.first; result_is = c.first; is = some_is _ h c.next }

function_place : (cs : List (Word × Unit {0})) (p : ProgramTree) (hs : List (Word × ResolvedSignature)) (n : ℕ) (f : Word) (s : Signature) → resolve_heads cs p ≡ Some hs → find f (declared_functions p) ≡ Some s →
    Has (found_from n f hs) (λ k. FunctionPlace cs p hs n f s k)
function_place cs [] hs n f s e g = absurd cc
function_place cs (class_item c ∷ p) hs n f s e g =
    weaker (function_place cs p hs n f s e g) (λ k h. record { at = h.at; number = h.number; in_heads = h.in_heads; takes = h.takes; gives = h.gives; named = h.named })
function_place cs (function_item q ∷ p) hs n f s e g =
    let b = back (resolve_head cs q) (λ h. then_some (resolve_heads cs p) (λ rest. Some ((q.name.word, h) ∷ rest))) hs e in
    let d = back (resolve_heads cs p) (λ rest. Some ((q.name.word, b.it) ∷ rest)) hs b.next in
    subst (λ (hs : List (Word × ResolvedSignature)). Has (found_from n f hs) (λ k. FunctionPlace cs (function_item q ∷ p) hs n f s k)) (some_is ((q.name.word, b.it) ∷ d.it) hs d.next)
    (by b.it d.it (head_from cs q b.it b.first) (bytes_eq f q.name.word) refl g (λ g. function_place cs p d.it (n + 1) f s d.first g))
  where
    by : (h : ResolvedSignature) (hs : List (Word × ResolvedSignature)) → HeadFrom cs q h → (b : Bool) → bytes_eq f q.name.word ≡ b → cond b (Some (signature_of q)) (find f (declared_functions p)) ≡ Some s →
        (find f (declared_functions p) ≡ Some s → Has (found_from (n + 1) f hs) (λ k. FunctionPlace cs p hs (n + 1) f s k)) →
        Has (cond b (Some (record { number = n; it = h })) (found_from (n + 1) f hs)) (λ k. FunctionPlace cs (function_item q ∷ p) ((q.name.word, h) ∷ hs) n f s k)
    by h hs k true m g again =
        let is : signature_of q ≡ s = some_is (signature_of q) s g in
        done _
        (record {
          at = 0;
          number = omega arith;
          in_heads = refl;
          takes =
              subst (λ (s : Signature). SamePlaces cs s.takes (exact_places h.params)) is
              (subst (λ (h : ResolvedSignature). SamePlaces cs (places_of q.params) (exact_places h.params)) k.is (places_same cs q.params k.vars (vars_same cs q.params k.vars k.vars_are)));
          gives =
              subst (λ (s : Signature). SameResult cs s.answer h.result) is (subst (λ (h : ResolvedSignature). SameResult cs (answer_of q.result) h.result) k.is (result_same cs q.result k.result k.result_is));
          named = ap (λ (x : Word). Some x) (sym (same_word f q.name.word m));
        })
    by h hs k false m g again =
        weaker (again g) (λ k h. record { at = suc h.at; number = (let s = h.number in omega (arith, s)); in_heads = h.in_heads; takes = h.takes; gives = h.gives; named = h.named })

-- how the functions and the fields of the tables show
abbrev pub heads_from : Tables → ResolvedSignatures
heads_from t = record { classes = map types_of t.classes; functions = map (λ h. h.1) t.functions }

get_types : (css : List (List (Word × ResolvedType))) (n : ℕ) (vs : List (Word × ResolvedType)) → slice_get css n ≡ Some vs → slice_get (map types_of css) n ≡ Some (types_of vs)
get_types [] n vs e = absurd cc
get_types (us ∷ css) zero vs e = ap (λ (l : List (Word × ResolvedType)). Some (types_of l)) (some_is us vs e)
get_types (us ∷ css) (suc n) vs e = get_types css n vs e

pub tied_tables : (p : ProgramTree) (css : List (List (Word × ResolvedType))) (hs : List (Word × ResolvedSignature)) → resolve_classes (class_names p) p ≡ Some css → resolve_heads (class_names p) p ≡ Some hs →
    AreTied (declared p) (tables_as p css hs) (heads_from (tables_as p css hs)) (class_words p) (field_words p) (head_words p)
tied_tables p css hs classes functions = record {
  class_at = λ c fields f.
      weaker (class_place (class_names p) p css 0 c fields classes f)
      (λ n h.
      let at : n.number ≡ h.at = (let s = h.number in omega (arith, s)) in
      record {
        vars = h.vars;
        in_tables = ap (slice_get css) at ∙ h.in_tables;
        in_heads = ap (slice_get (map types_of css)) at ∙ get_types css h.at h.vars h.in_tables;
        named = ap (slice_get (class_words p)) at ∙ h.named;
        fields_named = ap (slice_get (field_words p)) at ∙ h.fields_named;
        typed = h.typed;
      });
  function_at = λ f s g.
      weaker (function_place (class_names p) p hs 0 f s functions g)
      (λ k h.
      let at : k.number ≡ h.at = (let s = h.number in omega (arith, s)) in
      record { in_heads = ap (slice_get (map (λ h. h.1) hs)) at ∙ h.in_heads; takes = h.takes; gives = h.gives; named = ap (slice_get (head_words p)) at ∙ h.named });
}
