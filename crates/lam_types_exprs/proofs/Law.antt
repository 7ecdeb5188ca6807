-- An expression is typed exactly where there is no break in it.
use Rattle.std.proofs.Common.{◌≡◌, ℕ, Bool, true, false, cond, List, [], ◌∷◌, length, nat_eq, Option, Some, None, is_some, refl, sym, ap, ◌∙◌, subst, arith, Result, Ok, Err, IfOk, eq-eqb}
use Rattle.std.proofs.lemmas.Bool.Decides.{nat_tests}
use Rattle.std.proofs.lemmas.Slice.Eq.{bytes_eq-Decides}
use Rattle.lam_syntax.specs.Tree.{CapTree, TypeTree, type_node, TypeForm, class_type, array_type, ExprTree, expr_node, ExprForm, binary_expr, unary_expr, field_expr, element_expr, number_expr, text_expr, bool_expr, null_expr, name_expr, call_expr, new_class_expr, new_array_expr, label_expr, caps_expr, spawn_expr, ExprList, no_exprs, exprs}
use Rattle.lam_operators.specs.Words.{Word}
use Rattle.lam_builtins.specs.Types.{ValueType, int, bool, bytes, tag, label, caps, thread, object, array, Given, a_value, a_null, nothing, given_type, Place, exactly, any_class, any_array, suits, wanted_type, comparable, same_type}
use Rattle.lam_types_kinds.specs.Written.{written}
use Rattle.lam_types_kinds.specs.Verdicts.{Fine, Stop, then_on}
use Rattle.lam_types_kinds.specs.Breaks.{Break, no_name, arity, Verdict, fit, unequal, mismatch_of}
use Rattle.lam_builtins.specs.Builtins.{Answer, answers, no_answer, as_first, Signature, answered}
use Rattle.lam_types_kinds.specs.Tables.{Names, Decls, find, signature_named, type_known, form_known, named_if}
use Rattle.lam_types_kinds.specs.Values.{Gives, Breaks, given}
use Rattle.lam_types_kinds.specs.declared.types.Got.{Got}
use Rattle.lam_types_kinds.specs.declared.fault.TypeFault.{TypeFault}
use Rattle.lam_types_exprs.specs.Exprs.{at_of, placed, operate, field_in, field_type, found_field, element_of, known, count, counted, called, spawnable, started, cap_tag, cap_tags, given_of, form_given, args_given, rest_given, tags_given}
use Rattle.lam_builtins.specs.Operators.{operand, operator_type, unary_type}
use Rattle.lam_types_exprs.specs.Judgement.{IsDeclared, IsDeclaredForm, Fits, Operates, AreTagNames, IsGiven, IsFormGiven, AreArgs, AreRest, AreTags}
use Rattle.lam_types_kinds.specs.Meets.{HasNoBreak}

-- ---- what is typed has no break

pub on : {A B : Type 0} (v : Verdict A) (a : A) (next : A → Verdict B) (r : Verdict B) → v ≡ Fine a → next a ≡ r → then_on v next ≡ r
on v a next r e f = ap (λ (v : Verdict _). then_on v next) e ∙ f

fit_fine : (at : ℕ) (p : Place) (g : Given) → suits p g ≡ true → fit at p g ≡ Fine g
fit_fine at p g h = ap (λ b. cond b (Fine g) (Stop (mismatch_of at (wanted_type p) (given_type g)))) h

pub placed_fine : (at : ℕ) (p : Place) (v : Verdict Given) (g : Given) → v ≡ Fine g → suits p g ≡ true → placed at p v ≡ Fine g
unfolding placed
placed_fine at p v g e h = on v g (λ g. fit at p g) (Fine g) e (fit_fine at p g h)

pub named_fine : {A : Type 0} (at : ℕ) (o : Option A) (a : A) → o ≡ Some a → named_if (is_some o) at ≡ Fine tt
named_fine at o a e = ap (λ (o : Option _). named_if (is_some o) at) e

mutual
  pub declared_fine : (d : Decls) (t : TypeTree) → IsDeclared d t → type_known d t ≡ Fine tt
  declared_fine d (type_node at form) h = declared_form d at form h

  declared_form : (d : Decls) (at : ℕ) (form : TypeForm) → IsDeclaredForm d form → form_known d at form ≡ Fine tt
  declared_form d at (class_type c) (fields, e) = named_fine at (find c d.classes) fields e
  declared_form d at (array_type t) h = declared_fine d t h
  declared_form d at _ h = refl

operate_fine : (o : Option ValueType) (t : ValueType) (la ra : ℕ) (v w : Verdict Given) (L R : Given → Type 0) → ((h : Given) → L h → v ≡ Fine h) → ((h : Given) → R h → w ≡ Fine h) →
    Operates o L R → then_on v (λ g. then_on w (λ h. operate o t la ra g h)) ≡ Fine (a_value t)
operate_fine None t la ra v w L R p q (g, h, l, r, c) =
    on v g (λ g. then_on w (λ h. operate None t la ra g h)) (Fine (a_value t)) (p g l)
    (on w h (λ h. operate None t la ra g h) (Fine (a_value t)) (q h r) (ap (λ b. cond b (Fine (a_value t)) (Stop (unequal la ra g h))) c))
operate_fine (Some u) t la ra v w L R p q (l, r) =
    on v l.0 (λ g. then_on w (λ h. operate (Some u) t la ra g h)) (Fine (a_value t)) (p l.0 l.1)
    (on w r.0 (λ h. operate (Some u) t la ra l.0 h) (Fine (a_value t)) (q r.0 r.1)
    (on (fit la (exactly u) l.0) l.0 (λ _. then_on (fit ra (exactly u) r.0) (λ _. Fine (a_value t))) (Fine (a_value t)) (fit_fine la (exactly u) l.0 l.2)
    (on (fit ra (exactly u) r.0) r.0 (λ _. Fine (a_value t)) (Fine (a_value t)) (fit_fine ra (exactly u) r.0 r.2) refl)))

counted_fine : (at m n : ℕ) → m ≡ n → counted at m n ≡ Fine tt
counted_fine at m n e = ap (λ b. cond b (Fine tt) (Stop (arity at))) (eq-eqb m n e)

field_fine : (d : Decls) (at : ℕ) (c f : Word) (fields : Names) (t : ValueType) → find c d.classes ≡ Some fields → find f fields ≡ Some t → found_field at (field_type d (a_value (object c)) f) ≡ Fine (a_value t)
field_fine d at c f fields t e h = ap (λ (o : Option Names). found_field at (field_in o f)) e ∙ ap (found_field at) h

cap_fine : (env : Names) (x : CapTree) → find x.name.word env ≡ Some tag → cap_tag env x ≡ Fine (a_value tag)
cap_fine env x e = placed_fine x.name.at (exactly tag) (known x.name.at (find x.name.word env)) (a_value tag) (ap (known x.name.at) e) refl

caps_fine : (env : Names) (xs : List CapTree) → AreTagNames env xs → cap_tags env xs ≡ Fine tt
caps_fine env [] h = refl
caps_fine env (x ∷ xs) (p, q) = on (cap_tag env x) (a_value tag) (λ _. cap_tags env xs) (Fine tt) (cap_fine env x p) (caps_fine env xs q)

spawn_fine : (at : ℕ) (o : Option Signature) (s : Signature) (n : ℕ) → o ≡ Some s → s.answer ≡ answers int → length s.takes ≡ n → spawnable at o n ≡ Fine (Some s)
spawn_fine at o s n e a l =
    ap (λ (o : Option Signature). spawnable at o n) e ∙
    on (fit at (exactly int) (answered s.answer nothing)) (a_value int) (λ _. then_on (counted at (length s.takes) n) (λ _. Fine (Some s))) (Fine (Some s)) (ap (λ (b : Answer). fit at (exactly int) (answered b nothing)) a)
    (on (counted at (length s.takes) n) tt (λ _. Fine (Some s)) (Fine (Some s)) (counted_fine at (length s.takes) n l) refl)

fits_is : (at : ℕ) (p : Place) (v : Verdict Given) (E : Given → Type 0) (h : Fits p E) → v ≡ Fine h.0 → placed at p v ≡ Fine h.0
fits_is at p v E (g, i, s) e = placed_fine at p v g e s

mutual
  pub given_fine : (d : Decls) (env : Names) (e : ExprTree) (g : Given) → IsGiven d env e g → given_of d env e ≡ Fine g
  given_fine d env (expr_node at form) g h = form_fine d env at form g h

  form_fine : (d : Decls) (env : Names) (at : ℕ) (form : ExprForm) (g : Given) → IsFormGiven d env form g → form_given d env at form ≡ Fine g
  form_fine d env at (binary_expr op l r) g (h, e) =
      operate_fine (operand op) (operator_type op) (at_of l) (at_of r) (given_of d env l) (given_of d env r) (λ h. IsGiven d env l h) (λ h. IsGiven d env r h) (λ g h. given_fine d env l g h) (λ g h. given_fine d env r g h) h ∙ ap Fine (sym e)
  form_fine d env at (unary_expr op e) g (h, q) =
      on (placed (at_of e) (exactly (unary_type op)) (given_of d env e)) h.0 (λ _. Fine (a_value (unary_type op))) (Fine g) (fits_is (at_of e) (exactly (unary_type op)) (given_of d env e) (λ g. IsGiven d env e g) h (given_fine d env e h.0 h.1)) (ap Fine (sym q))
  form_fine d env at (field_expr e f) g (c, fields, t, i, p, q, r) =
      on (placed (at_of e) any_class (given_of d env e)) (a_value (object c)) (λ g. found_field f.at (field_type d g f.word)) (Fine g)
      (placed_fine (at_of e) any_class (given_of d env e) (a_value (object c)) (given_fine d env e (a_value (object c)) i) refl) (field_fine d f.at c f.word fields t p q ∙ ap Fine (sym r))
  form_fine d env at (element_expr e i) g (t, p, q, r) =
      on (placed (at_of e) any_array (given_of d env e)) (a_value (array t)) (λ g. then_on (placed (at_of i) (exactly int) (given_of d env i)) (λ _. Fine (element_of g))) (Fine g)
      (placed_fine (at_of e) any_array (given_of d env e) (a_value (array t)) (given_fine d env e (a_value (array t)) p) refl)
      (on (placed (at_of i) (exactly int) (given_of d env i)) q.0 (λ _. Fine (a_value t)) (Fine g) (fits_is (at_of i) (exactly int) (given_of d env i) (λ g. IsGiven d env i g) q (given_fine d env i q.0 q.1)) (ap Fine (sym r)))
  form_fine d env at (name_expr x) g (t, f, e) = ap (known at) f ∙ ap Fine (sym e)
  form_fine d env at (call_expr f args) g (s, first, p, q, r) =
      ap (λ (o : Option Signature). called at o (count args) (λ ps. args_given d env ps args)) p ∙
      on (counted at (length s.takes) (count args)) tt (λ _. then_on (args_given d env s.takes args) (λ h. Fine (answered s.answer h))) (Fine g) (counted_fine at (length s.takes) (count args) (args_many d env s.takes args first q))
      (on (args_given d env s.takes args) first (λ h. Fine (answered s.answer h)) (Fine g) (args_fine d env s.takes args first q) (ap Fine (sym r)))
  form_fine d env at (new_class_expr c) g (fields, p, q) =
      on (named_if (is_some (find c.word d.classes)) c.at) tt (λ _. Fine (a_value (object c.word))) (Fine g) (named_fine c.at (find c.word d.classes) fields p) (ap Fine (sym q))
  form_fine d env at (new_array_expr t n) g (p, q, r) =
      on (type_known d t) tt (λ _. then_on (placed (at_of n) (exactly int) (given_of d env n)) (λ _. Fine (a_value (array (written t))))) (Fine g) (declared_fine d t p)
      (on (placed (at_of n) (exactly int) (given_of d env n)) q.0 (λ _. Fine (a_value (array (written t)))) (Fine g) (fits_is (at_of n) (exactly int) (given_of d env n) (λ g. IsGiven d env n g) q (given_fine d env n q.0 q.1)) (ap Fine (sym r)))
  form_fine d env at (label_expr s i) g (p, q, r) =
      on (tags_given d env s) tt (λ _. then_on (tags_given d env i) (λ _. Fine (a_value label))) (Fine g) (tags_fine d env s p)
      (on (tags_given d env i) tt (λ _. Fine (a_value label)) (Fine g) (tags_fine d env i q) (ap Fine (sym r)))
  form_fine d env at (caps_expr items) g (p, r) = on (cap_tags env items) tt (λ _. Fine (a_value caps)) (Fine g) (caps_fine env items p) (ap Fine (sym r))
  form_fine d env at (spawn_expr c f args) g (s, first, p, a, q, h, r) =
      on (spawnable at (find f.word d.functions) (count args)) (Some s) (λ o. then_on (placed (at_of c) (exactly caps) (given_of d env c)) (λ _. started f.at o (λ ps. args_given d env ps args))) (Fine g)
      (spawn_fine at (find f.word d.functions) s (count args) p a (args_many d env s.takes args first h))
      (on (placed (at_of c) (exactly caps) (given_of d env c)) q.0 (λ _. started f.at (Some s) (λ ps. args_given d env ps args)) (Fine g) (fits_is (at_of c) (exactly caps) (given_of d env c) (λ g. IsGiven d env c g) q (given_fine d env c q.0 q.1))
      (on (args_given d env s.takes args) first (λ _. Fine (a_value thread)) (Fine g) (args_fine d env s.takes args first h) (ap Fine (sym r))))
  form_fine d env at _ g e = ap Fine (sym e)

  args_many : (d : Decls) (env : Names) (ps : List Place) (es : ExprList) (first : Given) → AreArgs d env ps es first → length ps ≡ count es
  args_many d env [] no_exprs first h = refl
  args_many d env (p ∷ ps) (exprs e rest) first h = omega (arith, rest_many d env ps rest h.2)
  args_many d env [] (exprs e rest) first h = absurd h
  args_many d env (p ∷ ps) no_exprs first h = absurd h

  rest_many : (d : Decls) (env : Names) (ps : List Place) (es : ExprList) → AreRest d env ps es → length ps ≡ count es
  rest_many d env [] no_exprs h = refl
  rest_many d env (p ∷ ps) (exprs e rest) h = omega (arith, rest_many d env ps rest h.1)
  rest_many d env [] (exprs e rest) h = absurd h
  rest_many d env (p ∷ ps) no_exprs h = absurd h

  args_fine : (d : Decls) (env : Names) (ps : List Place) (es : ExprList) (first : Given) → AreArgs d env ps es first → args_given d env ps es ≡ Fine first
  args_fine d env [] no_exprs first h = ap Fine (sym h)
  args_fine d env (p ∷ ps) (exprs e rest) first (i, s, h) =
      on (placed (at_of e) p (given_of d env e)) first (λ g. then_on (rest_given d env ps rest) (λ _. Fine g)) (Fine first) (placed_fine (at_of e) p (given_of d env e) first (given_fine d env e first i) s)
      (on (rest_given d env ps rest) tt (λ _. Fine first) (Fine first) (rest_fine d env ps rest h) refl)
  args_fine d env [] (exprs e rest) first h = absurd h
  args_fine d env (p ∷ ps) no_exprs first h = absurd h

  rest_fine : (d : Decls) (env : Names) (ps : List Place) (es : ExprList) → AreRest d env ps es → rest_given d env ps es ≡ Fine tt
  rest_fine d env [] no_exprs h = refl
  rest_fine d env (p ∷ ps) (exprs e rest) (q, h) =
      on (placed (at_of e) p (given_of d env e)) q.0 (λ _. rest_given d env ps rest) (Fine tt) (fits_is (at_of e) p (given_of d env e) (λ g. IsGiven d env e g) q (given_fine d env e q.0 q.1)) (rest_fine d env ps rest h)
  rest_fine d env [] (exprs e rest) h = absurd h
  rest_fine d env (p ∷ ps) no_exprs h = absurd h

  tags_fine : (d : Decls) (env : Names) (es : ExprList) → AreTags d env es → tags_given d env es ≡ Fine tt
  tags_fine d env no_exprs h = refl
  tags_fine d env (exprs e rest) (q, h) =
      on (placed (at_of e) (exactly tag) (given_of d env e)) q.0 (λ _. tags_given d env rest) (Fine tt) (fits_is (at_of e) (exactly tag) (given_of d env e) (λ g. IsGiven d env e g) q (given_fine d env e q.0 q.1)) (tags_fine d env rest h)

-- ---- and back

pub fine_is : {A : Type 0} (a b : A) → ◌≡◌ {A = Verdict A} (Fine a) (Fine b) → a ≡ b
fine_is a b e = cc

pub then_back : {A B : Type 0} (v : Verdict A) (next : A → Verdict B) (b : B) → then_on v next ≡ Fine b → (a : A) × (v ≡ Fine a) × (next a ≡ Fine b)
then_back (Fine a) next b e = (a, refl, e)
then_back (Stop s) next b e = absurd cc

pub test_back : {A : Type 0} (t : Bool) (v : Verdict A) (s : Break) (b : A) → cond t v (Stop s) ≡ Fine b → (t ≡ true) × (v ≡ Fine b)
test_back true v s b e = (refl, e)
test_back false v s b e = absurd cc

fit_back : (at : ℕ) (p : Place) (g h : Given) → fit at p g ≡ Fine h → (suits p g ≡ true) × (g ≡ h)
fit_back at p g h e = let r = test_back (suits p g) (Fine g) (mismatch_of at (wanted_type p) (given_type g)) h e in (r.0, fine_is g h r.1)

pub placed_back : (at : ℕ) (p : Place) (v : Verdict Given) (g : Given) → placed at p v ≡ Fine g → (v ≡ Fine g) × (suits p g ≡ true)
unfolding placed
placed_back at p v g e =
    let r = then_back v (λ g. fit at p g) g e in
    let s = fit_back at p r.0 g r.2 in (r.1 ∙ ap Fine s.1, subst (λ (h : Given). suits p h ≡ true) s.1 s.0)

pub some_of : {A : Type 0} (o : Option A) → is_some o ≡ true → (a : A) × (o ≡ Some a)
some_of None e = absurd cc
some_of (Some a) e = (a, refl)

pub named_back : {A : Type 0} (at : ℕ) (o : Option A) (u : Unit {0}) → named_if (is_some o) at ≡ Fine u → (a : A) × (o ≡ Some a)
named_back at o u e = let r = test_back (is_some o) (Fine tt) (no_name at) u e in some_of o r.0

mutual
  pub declared_back : (d : Decls) (t : TypeTree) (u : Unit {0}) → type_known d t ≡ Fine u → IsDeclared d t
  declared_back d (type_node at form) u e = declared_form_back d at form u e

  declared_form_back : (d : Decls) (at : ℕ) (form : TypeForm) (u : Unit {0}) → form_known d at form ≡ Fine u → IsDeclaredForm d form
  declared_form_back d at (class_type c) u e = named_back at (find c d.classes) u e
  declared_form_back d at (array_type t) u e = declared_back d t u e
  declared_form_back d at _ u e = tt

operate_back : (o : Option ValueType) (t : ValueType) (la ra : ℕ) (g h k : Given) (L R : Given → Type 0) → L g → R h → operate o t la ra g h ≡ Fine k → Operates o L R × (k ≡ a_value t)
operate_back None t la ra g h k L R l r e =
    let p = test_back (comparable g h) (Fine (a_value t)) (unequal la ra g h) k e in ((g, h, l, r, p.0), sym (fine_is (a_value t) k p.1))
operate_back (Some u) t la ra g h k L R l r e =
    let p = then_back (fit la (exactly u) g) (λ _. then_on (fit ra (exactly u) h) (λ _. Fine (a_value t))) k e in
    let q = then_back (fit ra (exactly u) h) (λ _. Fine (a_value t)) k p.2 in
    (((g, l, (fit_back la (exactly u) g p.0 p.1).0), (h, r, (fit_back ra (exactly u) h q.0 q.1).0)), sym (fine_is (a_value t) k q.2))

nat_back : (m n : ℕ) → nat_eq m n ≡ true → m ≡ n
nat_back m n e = grind (arith, nat_tests)

counted_back : (at m n : ℕ) (u : Unit {0}) → counted at m n ≡ Fine u → m ≡ n
counted_back at m n u e = nat_back m n (test_back (nat_eq m n) (Fine tt) (arity at) u e).0

pub known_back : (at : ℕ) (o : Option ValueType) (g : Given) → known at o ≡ Fine g → (t : ValueType) × (o ≡ Some t) × (g ≡ a_value t)
known_back at None g e = absurd cc
known_back at (Some t) g e = (t, refl, sym (fine_is (a_value t) g e))

class_in_back : (at : ℕ) (o : Option Names) (f : Word) (k : Given) → found_field at (field_in o f) ≡ Fine k → (fields : Names) × (t : ValueType) × (o ≡ Some fields) × (find f fields ≡ Some t) × (k ≡ a_value t)
class_in_back at None f k e = absurd cc
class_in_back at (Some fields) f k e = let p = found_back (find f fields) e in (fields, p.0, refl, p.1, p.2)
  where
    found_back : (o : Option ValueType) → found_field at o ≡ Fine k → (t : ValueType) × (o ≡ Some t) × (k ≡ a_value t)
    found_back None e = absurd cc
    found_back (Some t) e = (t, refl, sym (fine_is (a_value t) k e))

field_back : (d : Decls) (at : ℕ) (g : Given) (f : Word) (k : Given) → suits any_class g ≡ true → found_field at (field_type d g f) ≡ Fine k →
    (c : Word) × (fields : Names) × (t : ValueType) × (g ≡ a_value (object c)) × (find c d.classes ≡ Some fields) × (find f fields ≡ Some t) × (k ≡ a_value t)
field_back d at (a_value (object c)) f k s e = let p = class_in_back at (find c d.classes) f k e in (c, p.0, p.1, refl, p.2, p.3, p.4)
field_back d at _ f k s e = absurd cc

array_back : (g : Given) → suits any_array g ≡ true → (t : ValueType) × (g ≡ a_value (array t))
array_back (a_value (array t)) s = (t, refl)
array_back _ s = absurd cc

pub type_back : (t u : ValueType) → same_type t u ≡ true → t ≡ u
type_back (object x) (object y) e = ap object ((bytes_eq-Decides x y).0 e)
type_back (array t) (array u) e = ap array (type_back t u e)
type_back _ int e = cc
type_back _ _ e = cc

answer_back : (a : Answer) → suits (exactly int) (answered a nothing) ≡ true → a ≡ answers int
answer_back (answers t) e = ap answers (sym (type_back int t e))
answer_back no_answer e = absurd cc
answer_back as_first e = absurd cc

-- a local in `caps`
tag_back : (at : ℕ) (o : Option ValueType) (g : Given) → placed at (exactly tag) (known at o) ≡ Fine g → o ≡ Some tag
tag_back at o g e =
    let p = placed_back at (exactly tag) (known at o) g e in
    let q = known_back at o g p.0 in
    q.1 ∙ ap Some (sym (type_back tag q.0 (subst (λ (h : Given). suits (exactly tag) h ≡ true) q.2 p.1)))

caps_back : (env : Names) (xs : List CapTree) (u : Unit {0}) → cap_tags env xs ≡ Fine u → AreTagNames env xs
caps_back env [] u e = tt
caps_back env (x ∷ xs) u e =
    let p = then_back (cap_tag env x) (λ _. cap_tags env xs) u e in
    (tag_back x.name.at (find x.name.word env) p.0 p.1, caps_back env xs u p.2)

called_back : (at : ℕ) (o : Option Signature) (n : ℕ) (args : List Place → Verdict Given) (k : Given) → called at o n args ≡ Fine k →
    (s : Signature) × (first : Given) × (o ≡ Some s) × (length s.takes ≡ n) × (args s.takes ≡ Fine first) × (k ≡ answered s.answer first)
called_back at None n args k e = absurd cc
called_back at (Some s) n args k e =
    let p = then_back (counted at (length s.takes) n) (λ _. then_on (args s.takes) (λ h. Fine (answered s.answer h))) k e in
    let q = then_back (args s.takes) (λ h. Fine (answered s.answer h)) k p.2 in
    (s, q.0, refl, counted_back at (length s.takes) n p.0 p.1, q.1, sym (fine_is (answered s.answer q.0) k q.2))

spawn_back : (at f_at : ℕ) (o : Option Signature) (n : ℕ) (c : Verdict Given) (args : List Place → Verdict Given) (k : Given) →
    then_on (spawnable at o n) (λ o. then_on c (λ _. started f_at o args)) ≡ Fine k →
    (s : Signature) × (first : Given) × (h : Given) × (o ≡ Some s) × (s.answer ≡ answers int) × (length s.takes ≡ n) × (c ≡ Fine h) × (args s.takes ≡ Fine first) × (k ≡ a_value thread)
spawn_back at f_at None n c args k e =
    let p = then_back c (λ _. started f_at None args) k e in absurd (stopped p.2)
  where
    stopped : ◌≡◌ {A = Verdict Given} (Stop (no_name f_at)) (Fine k) → ⊥
    stopped e = cc
spawn_back at f_at (Some s) n c args k e =
    let p = then_back (spawnable at (Some s) n) (λ o. then_on c (λ _. started f_at o args)) k e in
    let q = then_back (fit at (exactly int) (answered s.answer nothing)) (λ _. then_on (counted at (length s.takes) n) (λ _. Fine (Some s))) p.0 p.1 in
    let r = then_back (counted at (length s.takes) n) (λ _. Fine (Some s)) p.0 q.2 in
    let i : p.0 ≡ Some s = sym (fine_is (Some s) p.0 r.2) in
    let v = then_back c (λ _. started f_at p.0 args) k p.2 in
    let w = then_back (args s.takes) (λ _. Fine (a_value thread)) k (subst (λ (o : Option Signature). started f_at o args ≡ Fine k) i v.2) in
    (s, w.0, v.0, refl, answer_back s.answer (fit_back at (exactly int) (answered s.answer nothing) q.0 q.1).0, counted_back at (length s.takes) n r.0 r.1, v.1, w.1, sym (fine_is (a_value thread) k w.2))

mutual
  pub given_back : (d : Decls) (env : Names) (e : ExprTree) (g : Given) → given_of d env e ≡ Fine g → IsGiven d env e g
  given_back d env (expr_node at form) g h = form_back d env at form g h

  form_back : (d : Decls) (env : Names) (at : ℕ) (form : ExprForm) (g : Given) → form_given d env at form ≡ Fine g → IsFormGiven d env form g
  form_back d env at (binary_expr op l r) g e =
      let p = then_back (given_of d env l) (λ g. then_on (given_of d env r) (λ h. operate (operand op) (operator_type op) (at_of l) (at_of r) g h)) g e in
      let q = then_back (given_of d env r) (λ h. operate (operand op) (operator_type op) (at_of l) (at_of r) p.0 h) g p.2 in
      operate_back (operand op) (operator_type op) (at_of l) (at_of r) p.0 q.0 g (λ h. IsGiven d env l h) (λ h. IsGiven d env r h) (given_back d env l p.0 p.1) (given_back d env r q.0 q.1) q.2
  form_back d env at (unary_expr op e) g h =
      let p = then_back (placed (at_of e) (exactly (unary_type op)) (given_of d env e)) (λ _. Fine (a_value (unary_type op))) g h in
      ((p.0, given_back d env e p.0 (placed_back (at_of e) (exactly (unary_type op)) (given_of d env e) p.0 p.1).0, (placed_back (at_of e) (exactly (unary_type op)) (given_of d env e) p.0 p.1).1), sym (fine_is (a_value (unary_type op)) g p.2))
  form_back d env at (field_expr e f) g h =
      let p = then_back (placed (at_of e) any_class (given_of d env e)) (λ g. found_field f.at (field_type d g f.word)) g h in
      let q = placed_back (at_of e) any_class (given_of d env e) p.0 p.1 in
      let r = field_back d f.at p.0 f.word g q.1 p.2 in
      (r.0, r.1, r.2, given_back d env e (a_value (object r.0)) (q.0 ∙ ap Fine r.3), r.4, r.5, r.6)
  form_back d env at (element_expr e i) g h =
      let p = then_back (placed (at_of e) any_array (given_of d env e)) (λ g. then_on (placed (at_of i) (exactly int) (given_of d env i)) (λ _. Fine (element_of g))) g h in
      let q = placed_back (at_of e) any_array (given_of d env e) p.0 p.1 in
      let a = array_back p.0 q.1 in
      let r = then_back (placed (at_of i) (exactly int) (given_of d env i)) (λ _. Fine (element_of p.0)) g p.2 in
      (a.0, given_back d env e (a_value (array a.0)) (q.0 ∙ ap Fine a.1), (r.0, given_back d env i r.0 (placed_back (at_of i) (exactly int) (given_of d env i) r.0 r.1).0, (placed_back (at_of i) (exactly int) (given_of d env i) r.0 r.1).1), sym (fine_is (element_of p.0) g r.2) ∙ ap element_of a.1)
  form_back d env at (number_expr n) g e = sym (fine_is (a_value int) g e)
  form_back d env at (text_expr t) g e = sym (fine_is (a_value bytes) g e)
  form_back d env at (bool_expr b) g e = sym (fine_is (a_value bool) g e)
  form_back d env at null_expr g e = sym (fine_is a_null g e)
  form_back d env at (name_expr x) g e = known_back at (find x env) g e
  form_back d env at (call_expr f args) g e =
      let p = called_back at (signature_named d f.word) (count args) (λ ps. args_given d env ps args) g e in
      (p.0, p.1, p.2, args_back d env p.0.takes args p.1 p.3 p.4, p.5)
  form_back d env at (new_class_expr c) g e =
      let p = then_back (named_if (is_some (find c.word d.classes)) c.at) (λ _. Fine (a_value (object c.word))) g e in
      let q = named_back c.at (find c.word d.classes) p.0 p.1 in
      (q.0, q.1, sym (fine_is (a_value (object c.word)) g p.2))
  form_back d env at (new_array_expr t n) g e =
      let p = then_back (type_known d t) (λ _. then_on (placed (at_of n) (exactly int) (given_of d env n)) (λ _. Fine (a_value (array (written t))))) g e in
      let q = then_back (placed (at_of n) (exactly int) (given_of d env n)) (λ _. Fine (a_value (array (written t)))) g p.2 in
      (declared_back d t p.0 p.1, (q.0, given_back d env n q.0 (placed_back (at_of n) (exactly int) (given_of d env n) q.0 q.1).0, (placed_back (at_of n) (exactly int) (given_of d env n) q.0 q.1).1), sym (fine_is (a_value (array (written t))) g q.2))
  form_back d env at (label_expr s i) g e =
      let p = then_back (tags_given d env s) (λ _. then_on (tags_given d env i) (λ _. Fine (a_value label))) g e in
      let q = then_back (tags_given d env i) (λ _. Fine (a_value label)) g p.2 in
      (tags_back d env s p.0 p.1, tags_back d env i q.0 q.1, sym (fine_is (a_value label) g q.2))
  form_back d env at (caps_expr items) g e =
      let p = then_back (cap_tags env items) (λ _. Fine (a_value caps)) g e in
      (caps_back env items p.0 p.1, sym (fine_is (a_value caps) g p.2))
  form_back d env at (spawn_expr c f args) g e =
      let p = spawn_back at f.at (find f.word d.functions) (count args) (placed (at_of c) (exactly caps) (given_of d env c)) (λ ps. args_given d env ps args) g e in
      (p.0, p.1, p.3, p.4, (p.2, given_back d env c p.2 (placed_back (at_of c) (exactly caps) (given_of d env c) p.2 p.6).0, (placed_back (at_of c) (exactly caps) (given_of d env c) p.2 p.6).1), args_back d env p.0.takes args p.1 p.5 p.7, p.8)

  args_back : (d : Decls) (env : Names) (ps : List Place) (es : ExprList) (first : Given) → length ps ≡ count es → args_given d env ps es ≡ Fine first → AreArgs d env ps es first
  args_back d env [] no_exprs first n e = sym (fine_is nothing first e)
  args_back d env (p ∷ ps) (exprs e rest) first n h =
      let q = then_back (placed (at_of e) p (given_of d env e)) (λ g. then_on (rest_given d env ps rest) (λ _. Fine g)) first h in
      let r = then_back (rest_given d env ps rest) (λ _. Fine q.0) first q.2 in
      let i : q.0 ≡ first = fine_is q.0 first r.2 in
      let s = placed_back (at_of e) p (given_of d env e) first (q.1 ∙ ap Fine i) in
      (given_back d env e first s.0, s.1, rest_back d env ps rest (omega arith) r.0 r.1)
  args_back d env [] (exprs e rest) first n h = absurd (omega arith)
  args_back d env (p ∷ ps) no_exprs first n h = absurd (omega arith)

  rest_back : (d : Decls) (env : Names) (ps : List Place) (es : ExprList) → length ps ≡ count es → (u : Unit {0}) → rest_given d env ps es ≡ Fine u → AreRest d env ps es
  rest_back d env [] no_exprs n u e = tt
  rest_back d env (p ∷ ps) (exprs e rest) n u h =
      let q = then_back (placed (at_of e) p (given_of d env e)) (λ _. rest_given d env ps rest) u h in
      ((q.0, given_back d env e q.0 (placed_back (at_of e) p (given_of d env e) q.0 q.1).0, (placed_back (at_of e) p (given_of d env e) q.0 q.1).1), rest_back d env ps rest (omega arith) u q.2)
  rest_back d env [] (exprs e rest) n u h = absurd (omega arith)
  rest_back d env (p ∷ ps) no_exprs n u h = absurd (omega arith)

  tags_back : (d : Decls) (env : Names) (es : ExprList) (u : Unit {0}) → tags_given d env es ≡ Fine u → AreTags d env es
  tags_back d env no_exprs u e = tt
  tags_back d env (exprs e rest) u h =
      let q = then_back (placed (at_of e) (exactly tag) (given_of d env e)) (λ _. tags_given d env rest) u h in
      ((q.0, given_back d env e q.0 (placed_back (at_of e) (exactly tag) (given_of d env e) q.0 q.1).0, (placed_back (at_of e) (exactly tag) (given_of d env e) q.0 q.1).1), tags_back d env rest u q.2)

pub fits_fine : (d : Decls) (env : Names) (p : Place) (e : ExprTree) (h : Fits p (λ g. IsGiven d env e g)) → placed (at_of e) p (given_of d env e) ≡ Fine h.0
fits_fine d env p e h = fits_is (at_of e) p (given_of d env e) (λ g. IsGiven d env e g) h (given_fine d env e h.0 h.1)

pub fits_back : (d : Decls) (env : Names) (p : Place) (e : ExprTree) (g : Given) → placed (at_of e) p (given_of d env e) ≡ Fine g → Fits p (λ g. IsGiven d env e g)
fits_back d env p e g h = let q = placed_back (at_of e) p (given_of d env e) g h in (g, given_back d env e g q.0, q.1)

-- the two definitions, as a caller of the code meets them
pub ok_is_given : (r : Result Got TypeFault) (d : Decls) (env : Names) (e : ExprTree) → Gives r (given_of d env e) → IfOk r (λ g. IsGiven d env e (given g))
ok_is_given (Ok g) d env e m = given_back d env e (given g) m
ok_is_given (Err f) d env e m = tt

pub given_is_ok : (r : Result Got TypeFault) (d : Decls) (env : Names) (e : ExprTree) (g : Given) → Gives r (given_of d env e) → IsGiven d env e g → HasNoBreak r
given_is_ok (Ok k) d env e g m h = tt
given_is_ok (Err f) d env e g m h = subst (λ (v : Verdict Given). Breaks f v) (given_fine d env e g h) m
