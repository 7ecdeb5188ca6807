-- A program is typed exactly where there is no break in it.
use Rattle.std.proofs.Common.{◌≡◌, ℕ, ◌+◌, ◌<◌, ◌≤◌, Bool, true, false, cond, not, ◌&&◌, List, [], ◌∷◌, ◌++◌, length, Option, Some, None, is_some, refl, sym, ap, ◌∙◌, arith, append_assoc}
use Rattle.lam_syntax.specs.Tree.{IdTree, TypeTree, VarTree, ClassTree, FunctionTree, class_item, function_item, ProgramTree, StmtList}
use Rattle.lam_operators.specs.Words.{Word}
use Rattle.lam_types_kinds.specs.Verdicts.{Fine, Stop, then_on, first_break}
use Rattle.lam_types_kinds.specs.Breaks.{no_return, Verdict}
use Rattle.lam_builtins.specs.Builtins.{Signature, builtin_named}
use Rattle.lam_types_kinds.specs.Tables.{Names, Decls, typed_name, typed_names, fresh, room, twice_if, new_name, with_class, class_table, function_name, with_function, function_table, tables_of, with_var, vars_known, type_known, with_fields, fields_of, signature_of, declared, declared_classes, declared_functions}
use Rattle.lam_types_kinds.proofs.TableLemmas.{field_new}
use Rattle.lam_types_exprs.proofs.Law.{on, then_back, fine_is, declared_fine, declared_back}
use Rattle.lam_types.specs.declared.stmts.Counts.{Counts}
use Rattle.lam_types.specs.Endings.{ends}
use Rattle.lam_types.specs.Stmts.{block_checked, stmts_checked}
use Rattle.lam_types.specs.Program.{result_type, result_known, returns, at_head, function_checked, class_checked, items_checked, program_checked, first_type_break}
use Rattle.lam_types.specs.Judgement.{slots_of, regions_of, regions_of_program, IsNew, Differ, AllDeclared, AreVars, IsResult, EndsWith, IsFunction, AllItems, NoBuiltin, AreTables, IsTyped}
use Rattle.lam_types.proofs.Law.{fresh_fine, fresh_back, room_fine, room_back, more, closed_fine, closed_back, after_all, block_fine, block_back}

-- ---- names that are declared once

new_fine : {A : Type 0} (limit : ℕ) (es : List (Word × A)) (x : IdTree) → IsNew x.word es → length es < limit → new_name limit es x ≡ Fine tt
new_fine limit es x n l = on (fresh es x) tt (λ _. room x.at limit (length es)) (Fine tt) (fresh_fine es x n) (room_fine x.at limit (length es) l)

new_back : {A : Type 0} (limit : ℕ) (es : List (Word × A)) (x : IdTree) (u : Unit {0}) → new_name limit es x ≡ Fine u → IsNew x.word es × (length es < limit)
new_back limit es x u e =
    let p = then_back (fresh es x) (λ _. room x.at limit (length es)) u e in (fresh_back es x p.0 p.1, room_back x.at limit (length es) u p.2)

length_push : {A : Type 0} (es : List A) (e : A) → length (es ++ e ∷ []) ≡ length es + 1
length_push [] e = refl
length_push (x ∷ es) e = omega (arith, length_push es e)

no_more : {A : Type 0} (xs : List A) → xs ++ [] ≡ xs
no_more [] = refl
no_more (x ∷ xs) = ap (λ l. x ∷ l) (no_more xs)

-- fields and parameters

pub vars_fine : (d : Decls) (limit : ℕ) (es : Names) (vs : List VarTree) → Differ es (typed_names vs) → length es + length vs ≤ limit → AllDeclared d vs → vars_known d limit es vs ≡ Fine (es ++ typed_names vs)
unfolding with_var
vars_fine d limit es [] n l h = ap Fine (sym (no_more es))
vars_fine d limit es (v ∷ vs) (n, m) l (t, h) =
    on (with_var d limit es v) (es ++ typed_name v ∷ []) (λ es. vars_known d limit es vs) (Fine (es ++ typed_names (v ∷ vs)))
    (on (new_name limit es v.name) tt (λ _. then_on (type_known d v.ty) (λ _. Fine (es ++ typed_name v ∷ []))) (Fine (es ++ typed_name v ∷ [])) (new_fine limit es v.name n (omega arith))
    (on (type_known d v.ty) tt (λ _. Fine (es ++ typed_name v ∷ [])) (Fine (es ++ typed_name v ∷ [])) (declared_fine d v.ty t) refl))
    (vars_fine d limit (es ++ typed_name v ∷ []) vs m (omega (arith, length_push es (typed_name v))) h ∙ ap Fine (append_assoc es (typed_name v ∷ []) (typed_names vs)))

pub vars_back : (d : Decls) (limit : ℕ) (es : Names) (vs : List VarTree) (new : Names) → length es ≤ limit → vars_known d limit es vs ≡ Fine new →
    Differ es (typed_names vs) × (length es + length vs ≤ limit) × AllDeclared d vs × (new ≡ es ++ typed_names vs)
unfolding with_var
vars_back d limit es [] new l e = (tt, omega arith, tt, sym (fine_is es new e) ∙ sym (no_more es))
vars_back d limit es (v ∷ vs) new l e =
    let p = then_back (with_var d limit es v) (λ es. vars_known d limit es vs) new e in
    let q = then_back (new_name limit es v.name) (λ _. then_on (type_known d v.ty) (λ _. Fine (es ++ typed_name v ∷ []))) p.0 p.1 in
    let r = then_back (type_known d v.ty) (λ _. Fine (es ++ typed_name v ∷ [])) p.0 q.2 in
    let n = new_back limit es v.name q.0 q.1 in
    let w = vars_back d limit (es ++ typed_name v ∷ []) vs new (omega (arith, n.1, length_push es (typed_name v))) (ap (λ (l : Names). vars_known d limit l vs) (fine_is (es ++ typed_name v ∷ []) p.0 r.2) ∙ p.2) in
    ((n.0, w.0), omega (arith, w.1, length_push es (typed_name v)), (declared_back d v.ty r.0 r.1, w.2), w.3 ∙ append_assoc es (typed_name v ∷ []) (typed_names vs))

-- how many names a list of fields or parameters makes
pub vars_few : (d : Decls) (limit : ℕ) (vs : List VarTree) (new : Names) → vars_known d limit [] vs ≡ Fine new → length vs ≤ limit
vars_few d limit vs new e = let w = vars_back d limit [] vs new (omega arith) e in omega (arith, w.1)

-- in a typed program the fields of a class are those that it declares, in their order
in_order : (es : Names) (vs : List VarTree) → Differ es (typed_names vs) → with_fields es vs ≡ es ++ typed_names vs
in_order es [] n = sym (no_more es)
in_order es (v ∷ vs) (n, m) =
    ap (λ (l : Names). with_fields l vs) (field_new es v (ap is_some n)) ∙ in_order (es ++ typed_name v ∷ []) vs m ∙ append_assoc es (typed_name v ∷ []) (typed_names vs)

-- classes

classes_fine : (es : List (Word × Names)) (p : ProgramTree) → Differ es (declared_classes p) → length es + length (declared_classes p) ≤ 1024 → class_table es p ≡ Fine (es ++ declared_classes p)
unfolding with_class
classes_fine es [] n l = ap Fine (sym (no_more es))
classes_fine es (class_item c ∷ p) (n, m) l =
    on (with_class es c) (es ++ (c.name.word, fields_of c) ∷ []) (λ es. class_table es p) (Fine (es ++ declared_classes (class_item c ∷ p)))
    (on (new_name 1024 es c.name) tt (λ _. Fine (es ++ (c.name.word, fields_of c) ∷ [])) (Fine (es ++ (c.name.word, fields_of c) ∷ [])) (new_fine 1024 es c.name n (omega arith)) refl)
    (classes_fine (es ++ (c.name.word, fields_of c) ∷ []) p m (omega (arith, length_push es (c.name.word, fields_of c))) ∙ ap Fine (append_assoc es ((c.name.word, fields_of c) ∷ []) (declared_classes p)))
classes_fine es (function_item f ∷ p) n l = classes_fine es p n l

classes_back : (es : List (Word × Names)) (p : ProgramTree) (new : List (Word × Names)) → length es ≤ 1024 → class_table es p ≡ Fine new →
    Differ es (declared_classes p) × (length es + length (declared_classes p) ≤ 1024) × (new ≡ es ++ declared_classes p)
unfolding with_class
classes_back es [] new l e = (tt, omega arith, sym (fine_is es new e) ∙ sym (no_more es))
classes_back es (class_item c ∷ p) new l e =
    let one : Word × Names = (c.name.word, fields_of c) in
    let q = then_back (with_class es c) (λ es. class_table es p) new e in
    let r = then_back (new_name 1024 es c.name) (λ _. Fine (es ++ one ∷ [])) q.0 q.1 in
    let n = new_back 1024 es c.name r.0 r.1 in
    let w = classes_back (es ++ one ∷ []) p new (omega (arith, n.1, length_push es one)) (ap (λ (l : List (Word × Names)). class_table l p) (fine_is (es ++ one ∷ []) q.0 r.2) ∙ q.2) in
    ((n.0, w.0), omega (arith, w.1, length_push es one), w.2 ∙ append_assoc es (one ∷ []) (declared_classes p))
classes_back es (function_item f ∷ p) new l e = classes_back es p new l e

-- functions

name_fine : (es : List (Word × Signature)) (x : IdTree) → builtin_named x.word ≡ None → IsNew x.word es → length es < 1024 → function_name es x ≡ Fine tt
name_fine es x b n l = ap (λ (o : Option _). then_on (twice_if (is_some o) x.at) (λ _. new_name 1024 es x)) b ∙ new_fine 1024 es x n l

none_there : {A : Type 0} (o : Option A) (at : ℕ) (u : Unit {0}) → twice_if (is_some o) at ≡ Fine u → o ≡ None
none_there None at u e = refl
none_there (Some a) at u e = absurd cc

name_back : (es : List (Word × Signature)) (x : IdTree) (u : Unit {0}) → function_name es x ≡ Fine u → (builtin_named x.word ≡ None) × IsNew x.word es × (length es < 1024)
name_back es x u e =
    let p = then_back (twice_if (is_some (builtin_named x.word)) x.at) (λ _. new_name 1024 es x) u e in
    let n = new_back 1024 es x u p.2 in (none_there (builtin_named x.word) x.at p.0 p.1, n.0, n.1)

functions_fine : (es : List (Word × Signature)) (p : ProgramTree) → NoBuiltin (declared_functions p) → Differ es (declared_functions p) → length es + length (declared_functions p) ≤ 1024 → function_table es p ≡ Fine (es ++ declared_functions p)
unfolding with_function
functions_fine es [] b n l = ap Fine (sym (no_more es))
functions_fine es (class_item c ∷ p) b n l = functions_fine es p b n l
functions_fine es (function_item f ∷ p) (b, c) (n, m) l =
    let one : Word × Signature = (f.name.word, signature_of f) in
    on (with_function es f) (es ++ one ∷ []) (λ es. function_table es p) (Fine (es ++ declared_functions (function_item f ∷ p)))
    (on (function_name es f.name) tt (λ _. Fine (es ++ one ∷ [])) (Fine (es ++ one ∷ [])) (name_fine es f.name b n (omega arith)) refl)
    (functions_fine (es ++ one ∷ []) p c m (omega (arith, length_push es one)) ∙ ap Fine (append_assoc es (one ∷ []) (declared_functions p)))

functions_back : (es : List (Word × Signature)) (p : ProgramTree) (new : List (Word × Signature)) → length es ≤ 1024 → function_table es p ≡ Fine new →
    NoBuiltin (declared_functions p) × Differ es (declared_functions p) × (length es + length (declared_functions p) ≤ 1024) × (new ≡ es ++ declared_functions p)
unfolding with_function
functions_back es [] new l e = (tt, tt, omega arith, sym (fine_is es new e) ∙ sym (no_more es))
functions_back es (class_item c ∷ p) new l e = functions_back es p new l e
functions_back es (function_item f ∷ p) new l e =
    let one : Word × Signature = (f.name.word, signature_of f) in
    let q = then_back (with_function es f) (λ es. function_table es p) new e in
    let r = then_back (function_name es f.name) (λ _. Fine (es ++ one ∷ [])) q.0 q.1 in
    let n = name_back es f.name r.0 r.1 in
    let w = functions_back (es ++ one ∷ []) p new (omega (arith, n.2, length_push es one)) (ap (λ (l : List (Word × Signature)). function_table l p) (fine_is (es ++ one ∷ []) q.0 r.2) ∙ q.2) in
    ((n.0, w.0), (n.1, w.1), omega (arith, w.2, length_push es one), w.3 ∙ append_assoc es (one ∷ []) (declared_functions p))

tables_fine : (p : ProgramTree) → AreTables (declared p) → tables_of p ≡ Fine (declared p)
tables_fine p (c, l, b, f, m) =
    on (class_table [] p) (declared_classes p) (λ cs. then_on (function_table [] p) (λ fs. Fine (record { classes = cs; functions = fs }))) (Fine (declared p)) (classes_fine [] p c (omega arith))
    (on (function_table [] p) (declared_functions p) (λ fs. Fine (record { classes = declared_classes p; functions = fs })) (Fine (declared p)) (functions_fine [] p b f (omega arith)) refl)

tables_back : (p : ProgramTree) (d : Decls) → tables_of p ≡ Fine d → AreTables (declared p) × (d ≡ declared p)
tables_back p d e =
    let q = then_back (class_table [] p) (λ cs. then_on (function_table [] p) (λ fs. Fine (record { classes = cs; functions = fs }))) d e in
    let r = then_back (function_table [] p) (λ fs. Fine (record { classes = q.0; functions = fs })) d q.2 in
    let c = classes_back [] p q.0 (omega arith) q.1 in
    let f = functions_back [] p r.0 (omega arith) r.1 in
    let i : d ≡ declared p =
    sym (fine_is (record { classes = q.0; functions = r.0 }) d r.2) ∙ ap (λ (cs : List (Word × Names)). record { classes = cs; functions = r.0 }) c.2 ∙ ap (λ (fs : List (Word × Signature)). record { classes = declared_classes p; functions = fs }) f.3 in
    ((c.0, omega (arith, c.1), f.0, f.1, omega (arith, f.2)), i)

-- ---- items

result_fine : (d : Decls) (r : Option TypeTree) → IsResult d r → result_known d r ≡ Fine tt
result_fine d None h = refl
result_fine d (Some t) h = declared_fine d t h

result_back : (d : Decls) (r : Option TypeTree) (u : Unit {0}) → result_known d r ≡ Fine u → IsResult d r
result_back d None u e = tt
result_back d (Some t) u e = declared_back d t u e

abbrev test_return : Option TypeTree → Bool → ℕ → Verdict (Unit {0})
test_return r b at = cond (is_some r && not b) (Stop (no_return at)) (Fine tt)

returns_fine : (r : Option TypeTree) (body : StmtList) (at : ℕ) → EndsWith r body → test_return r (ends body) at ≡ Fine tt
returns_fine None body at h = refl
returns_fine (Some t) body at h = ap (λ b. test_return (Some t) b at) h

ends_back : (t : TypeTree) (b : Bool) (at : ℕ) (u : Unit {0}) → test_return (Some t) b at ≡ Fine u → b ≡ true
ends_back t true at u e = refl
ends_back t false at u e = absurd cc

returns_back : (r : Option TypeTree) (body : StmtList) (at : ℕ) (u : Unit {0}) → test_return r (ends body) at ≡ Fine u → EndsWith r body
returns_back None body at u e = tt
returns_back (Some t) body at u e = ends_back t (ends body) at u e

function_fine : (d : Decls) (n : ℕ) (f : FunctionTree) → IsFunction d f → n + regions_of f.body ≤ 4096 → function_checked d n f ≡ Fine (n + regions_of f.body)
function_fine d n f (r, (v, l, a), t, b, s) m =
    let env = typed_names f.params in
    let last = more (at_head f n) (slots_of f.body) (regions_of f.body) in
    on (returns f) tt (λ _. then_on (vars_known d 64 [] f.params) (λ env. then_on (result_known d f.result) (λ _. then_on (block_checked d (result_type f.result) env (at_head f n) f.body) (λ c. Fine c.regions)))) (Fine (n + regions_of f.body))
    (returns_fine f.result f.body f.name.at r)
    (on (vars_known d 64 [] f.params) env (λ env. then_on (result_known d f.result) (λ _. then_on (block_checked d (result_type f.result) env (at_head f n) f.body) (λ c. Fine c.regions))) (Fine (n + regions_of f.body))
    (vars_fine d 64 [] f.params v (omega arith) a)
    (on (result_known d f.result) tt (λ _. then_on (block_checked d (result_type f.result) env (at_head f n) f.body) (λ c. Fine c.regions)) (Fine (n + regions_of f.body)) (result_fine d f.result t)
    (on (block_checked d (result_type f.result) env (at_head f n) f.body) last (λ c. Fine c.regions) (Fine (n + regions_of f.body))
    (closed_fine (stmts_checked d (result_type f.result) env (at_head f n) f.body) (after_all env f.body, last) (block_fine d (result_type f.result) env (at_head f n) f.body b s m)) refl)))

function_back : (d : Decls) (n m : ℕ) (f : FunctionTree) → n ≤ 4096 → function_checked d n f ≡ Fine m → IsFunction d f × (n + regions_of f.body ≤ 4096) × (m ≡ n + regions_of f.body)
function_back d n m f l e =
    let p = then_back (returns f) (λ _. then_on (vars_known d 64 [] f.params) (λ env. then_on (result_known d f.result) (λ _. then_on (block_checked d (result_type f.result) env (at_head f n) f.body) (λ c. Fine c.regions)))) m e in
    let q = then_back (vars_known d 64 [] f.params) (λ env. then_on (result_known d f.result) (λ _. then_on (block_checked d (result_type f.result) env (at_head f n) f.body) (λ c. Fine c.regions))) m p.2 in
    let r = then_back (result_known d f.result) (λ _. then_on (block_checked d (result_type f.result) q.0 (at_head f n) f.body) (λ c. Fine c.regions)) m q.2 in
    let s = then_back (block_checked d (result_type f.result) q.0 (at_head f n) f.body) (λ c. Fine c.regions) m r.2 in
    let v = vars_back d 64 [] f.params q.0 (omega arith) q.1 in
    let c = closed_back (stmts_checked d (result_type f.result) q.0 (at_head f n) f.body) s.0 s.1 in
    let few : length f.params ≤ 1024 = omega (arith, v.1) in
    let b = block_back d (result_type f.result) (typed_names f.params) (at_head f n) f.body (c.0, s.0) few l (ap (λ (env : Names). stmts_checked d (result_type f.result) env (at_head f n) f.body) (sym v.3) ∙ c.1) in
    ((returns_back f.result f.body f.name.at p.0 p.1, (v.0, omega (arith, v.1), v.2), result_back d f.result r.0 r.1, b.typed, b.fit.slots_fit), b.fit.regions_fit, sym (fine_is s.0.regions m s.2) ∙ ap (λ (k : Counts). k.regions) b.fit.counts)

class_fine : (d : Decls) (c : ClassTree) → AreVars d 256 c.fields → class_checked d c ≡ Fine tt
class_fine d c (v, l, a) = on (vars_known d 256 [] c.fields) (typed_names c.fields) (λ _. Fine tt) (Fine tt) (vars_fine d 256 [] c.fields v (omega arith) a) refl

class_back : (d : Decls) (c : ClassTree) (u : Unit {0}) → class_checked d c ≡ Fine u → AreVars d 256 c.fields
class_back d c u e =
    let p = then_back (vars_known d 256 [] c.fields) (λ _. Fine tt) u e in
    let v = vars_back d 256 [] c.fields p.0 (omega arith) p.1 in (v.0, omega (arith, v.1), v.2)

items_fine : (d : Decls) (n : ℕ) (p : ProgramTree) → AllItems d p → n + regions_of_program p ≤ 4096 → items_checked d n p ≡ Fine (n + regions_of_program p)
items_fine d n [] h l = ap Fine (plus_none n)
  where
    plus_none : (n : ℕ) → n ≡ n + 0
    plus_none n = omega arith
items_fine d n (class_item c ∷ p) (h, r) l =
    on (then_on (class_checked d c) (λ _. Fine n)) n (λ n. items_checked d n p) (Fine (n + regions_of_program p))
    (on (class_checked d c) tt (λ _. Fine n) (Fine n) (class_fine d c h) refl) (items_fine d n p r l)
items_fine d n (function_item f ∷ p) (h, r) l =
    on (function_checked d n f) (n + regions_of f.body) (λ n. items_checked d n p) (Fine (n + regions_of_program (function_item f ∷ p)))
    (function_fine d n f h (omega arith)) (items_fine d (n + regions_of f.body) p r (omega arith) ∙ ap Fine (assoc n (regions_of f.body) (regions_of_program p)))
  where
    assoc : (a b c : ℕ) → a + b + c ≡ a + (b + c)
    assoc a b c = omega arith

items_back : (d : Decls) (n m : ℕ) (p : ProgramTree) → n ≤ 4096 → items_checked d n p ≡ Fine m → AllItems d p × (n + regions_of_program p ≤ 4096)
items_back d n m [] l e = (tt, omega arith)
items_back d n m (class_item c ∷ p) l e =
    let q = then_back (then_on (class_checked d c) (λ _. Fine n)) (λ n. items_checked d n p) m e in
    let r = then_back (class_checked d c) (λ _. Fine n) q.0 q.1 in
    let w = items_back d n m p l (ap (λ (k : ℕ). items_checked d k p) (fine_is n q.0 r.2) ∙ q.2) in
    ((class_back d c r.0 r.1, w.0), w.1)
items_back d n m (function_item f ∷ p) l e =
    let q = then_back (function_checked d n f) (λ n. items_checked d n p) m e in
    let r = function_back d n q.0 f l q.1 in
    let fits : q.0 ≤ 4096 = omega (arith, r.1, r.2) in
    let w = items_back d q.0 m p fits q.2 in
    ((r.0, w.0), omega (arith, w.1, r.2))

program_fine : (p : ProgramTree) → IsTyped p → program_checked p ≡ Fine (0 + regions_of_program p)
program_fine p (t, i, r) = on (tables_of p) (declared p) (λ d. items_checked d 0 p) (Fine (0 + regions_of_program p)) (tables_fine p t) (items_fine (declared p) 0 p i (omega arith))

program_back : (p : ProgramTree) (n : ℕ) → program_checked p ≡ Fine n → IsTyped p
program_back p n e =
    let q = then_back (tables_of p) (λ d. items_checked d 0 p) n e in
    let t = tables_back p q.0 q.1 in
    let w = items_back (declared p) 0 n p (omega arith) (ap (λ (d : Decls). items_checked d 0 p) (sym t.1) ∙ q.2) in
    (t.0, w.0, omega (arith, w.1))

no_break : (v : Verdict ℕ) → first_break v ≡ None → (n : ℕ) × (v ≡ Fine n)
no_break (Fine n) e = (n, refl)
no_break (Stop b) e = absurd cc

-- a typed program has no break, and a program without a break is typed
pub typed_has_none : (p : ProgramTree) → IsTyped p → first_type_break p ≡ None
unfolding first_type_break
typed_has_none p h = ap first_break (program_fine p h)

pub none_is_typed : (p : ProgramTree) → first_type_break p ≡ None → IsTyped p
unfolding first_type_break
none_is_typed p e = let q = no_break (program_checked p) e in program_back p q.0 q.1
