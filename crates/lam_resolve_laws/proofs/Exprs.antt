-- Each typed expression whose names are reached resolves, to one that is typed without names, and that reads as it was.
use Rattle.std.proofs.Common.{◌≡◌, ℕ, Bool, true, List, [], ◌∷◌, map, Option, Some, None, refl, sym, ap, ◌∙◌, subst}
use Rattle.lam_operators.specs.declared.BinaryOp.{BinaryOp}
use Rattle.lam_operators.specs.declared.BinaryOp.TheVariants.{Or, Eq, Ne}
use Rattle.lam_operators.specs.declared.UnaryOp.{UnaryOp}
use Rattle.lam_operators.specs.declared.UnaryOp.TheVariants.{Not, Neg}
use Rattle.lam_syntax.specs.Tree.{IdTree, CapTree, TypeTree, type_node, class_type, array_type, ExprTree, expr_node, ExprForm, binary_expr, unary_expr, field_expr, element_expr, number_expr, text_expr, bool_expr, null_expr, name_expr, call_expr, new_class_expr, new_array_expr, label_expr, caps_expr, spawn_expr, ExprList, no_exprs, exprs}
use Rattle.lam_operators.specs.Words.{Word}
use Rattle.lam_syntax.specs.Unplaced.{unplaced_id, unplaced_type, unplaced_caps, unplaced_expr, unplaced_exprs}
use Rattle.lam_builtins.specs.declared.Builtin.{Builtin}
use Rattle.lam_builtins.specs.Types.{ValueType, int, tag, caps, object, array, Given, a_value, a_null, nothing, Place, exactly, suits}
use Rattle.lam_types_kinds.specs.Written.{written, plain}
use Rattle.lam_builtins.specs.Operators.{operand, operator_type, unary_type}
use Rattle.lam_builtins.specs.Builtins.{Signature, Answer, answers, no_answer, as_first, answered, row, row_by, builtin_named}
use Rattle.lam_types_kinds.specs.Tables.{Names, Decls, find, signature_or}
use Rattle.lam_types_exprs.specs.Judgement.{IsDeclared, Fits as FitsWords, Operates as OperatesWords, AreTagNames, IsGiven, IsFormGiven, AreArgs as AreArgsWords, AreRest as AreRestWords, AreTags as AreTagsWords}
use Rattle.region_check.specs.Legal.{ReachesCaps, Reaches, FormReaches, AllReach}
use Rattle.lam_resolve_tree.specs.Tree.{ResolvedType, ResolvedGiven, ResolvedPlace, CapSlot}
use Rattle.lam_resolve_tree.specs.Typing.{ResolvedSignatures, IsType, given_by, exact_places, a_local, Scope, FitsBy, Operates, AreTags, Gives, AreArgs, AreRest, AreTagArgs}
use Rattle.lam_resolve_laws.specs.Resolved.{then_some, Found, found, numbered, types_of, Tables, Locals, Value, Args, field_read, element_read, called, resolve_caps, resolve, resolve_form, resolve_args}
use Rattle.lam_resolve_laws.specs.Names.{Words, with_slots, word_at, words_at, id_as, worded, type_named, caps_named, args_named, expr_named}
use Rattle.lam_resolve_laws.proofs.Has.{Has, done, next, from, with_is, weaker, some_is}
use Rattle.lam_resolve_laws.proofs.Finding.{get_map, get_below, word_is, words_are, found_at, local_has, builtin_name}
use Rattle.lam_resolve_laws.proofs.SameTypes.{Shape, shape, SameGiven, SamePlace, SamePlaces, fits_same, compares_same, answered_same, same_row}
use Rattle.lam_resolve_laws.proofs.Scopes.{IsClassAt, SameResult, AreTied, InScope}

-- ---- types

-- a type with its classes' names put back is the written one
pub plain_written : (t : TypeTree) → unplaced_type t ≡ plain (written t)
plain_written (type_node at (array_type t)) = ap (λ u. type_node 0 (array_type u)) (plain_written t)
plain_written (type_node at _) = refl

module _ (d : Decls) (t : Tables) (p : ResolvedSignatures) (w : Words) (tied : AreTied d t p w.classes w.fields w.functions) where
  -- a type whose classes are declared: its numbers are those of classes, and its names can be put back
  pub record IsTypeFrom (v : ValueType) (u : ResolvedType) : Type 0 where
    pub fine : IsType p u
    pub back : worded w.classes u ≡ v

  pub declared_type : (ty : TypeTree) → IsDeclared d ty → Has (numbered t.names (written ty)) (λ u. IsTypeFrom (written ty) u)
  declared_type (type_node at (class_type c)) (fields, h) =
      next (tied.class_at c fields h) (λ n k. done (object n.number) (record { fine = get_below p.classes n.number _ k.in_heads; back = ap object (word_is w.classes n.number c k.named) }))
  declared_type (type_node at (array_type ty)) h = next (declared_type ty h) (λ u k. done (array u) (record { fine = k.fine; back = ap array k.back }))
  declared_type (type_node at _) h = done _ (record { fine = tt; back = refl })

  -- the type as it is written
  pub type_reads : (ty : TypeTree) (u : ResolvedType) → IsTypeFrom (written ty) u → type_named w.classes u ≡ unplaced_type ty
  type_reads ty u h = ap plain h.back ∙ sym (plain_written ty)

-- ---- operators

unary_same : (cs : List (Word × Unit {0})) (op : UnaryOp) → numbered cs (unary_type op) ≡ Some (unary_type op)
unary_same cs Not = refl
unary_same cs Neg = refl

operator_same : (cs : List (Word × Unit {0})) (op : BinaryOp) → numbered cs (operator_type op) ≡ Some (operator_type op)
operator_same cs Or = refl
operator_same cs _ = refl

abbrev SameOperand : List (Word × Unit {0}) → Option ValueType → Option ResolvedType → Type 0
SameOperand cs None None = Unit {0}
SameOperand cs (Some t) (Some u) = numbered cs t ≡ Some u
SameOperand cs _ _ = ⊥

operand_same : (cs : List (Word × Unit {0})) (op : BinaryOp) → SameOperand cs (operand op) (operand op)
operand_same cs Eq = tt
operand_same cs Ne = tt
operand_same cs _ = refl

-- the two operands
abbrev operands : (o : Option ValueType) (L R : Given → Type 0) → OperatesWords o L R → ((g : Given) × L g) × ((g : Given) × R g)
operands None L R (g, h, l, r, e) = ((g, l), (h, r))
operands (Some t) L R (l, r) = ((l.0, l.1), (r.0, r.1))

operates : (cs : List (Word × Unit {0})) (o : Option ValueType) (q : Option ResolvedType) (L R : Given → Type 0) → SameOperand cs o q → (h : OperatesWords o L R) → (A B : ResolvedGiven → Type 0) (x y : ResolvedGiven) →
    SameGiven cs (operands o L R h).0.0 x → SameGiven cs (operands o L R h).1.0 y → A x → B y → Operates q A B
operates cs None None L R s (g, h, l, r, e) A B x y k m a b = (x, y, a, b, compares_same cs g h x y e k m)
operates cs (Some t) (Some u) L R s (l, r) A B x y k m a b = ((x, a, fits_same cs (exactly t) (exactly u) l.0 x l.2 s k), (y, b, fits_same cs (exactly t) (exactly u) r.0 y r.2 s m))
operates cs None (Some u) L R s h A B x y k m a b = absurd s
operates cs (Some t) None L R s h A B x y k m a b = absurd s

as_type : (cs : List (Word × Unit {0})) (g : Given) (t : ValueType) (u : ResolvedType) → g ≡ a_value t → numbered cs t ≡ Some u → SameGiven cs g (a_value u)
as_type cs g t u e n = subst (λ (g : Given). SameGiven cs g (a_value u)) (sym e) (u, n, refl)

-- ---- expressions

-- the type that a value of a type has by number
pub value_type_is : (cs : List (Word × Unit {0})) (t : ValueType) (g : ResolvedGiven) → SameGiven cs (a_value t) g → (u : ResolvedType) × Shape cs t u × (g ≡ a_value u)
value_type_is cs t g (u, e, k) = (u, shape cs t u e, k)

module _ (d : Decls) (t : Tables) (p : ResolvedSignatures) (w : Words) (tied : AreTied d t p w.classes w.fields w.functions) where
  module _ (i : Bool) (own : List Word) (names : Names) (ls : Locals) (n : ℕ) (env : Scope) (ws : List Word) (c : InScope t.names i own names ls n env ws) where
    -- a value of what its source gives, typed by slots, that reads as its source
    pub record IsValue (e : ExprTree) (g : Given) (v : Value) : Type 0 where
      pub same : SameGiven t.names g v.gives
      pub typed : Gives p env v.it v.gives
      pub reads : expr_named (with_slots w ws) v.it ≡ unplaced_expr e

    -- the same at a place
    pub record IsStanding (q : ResolvedPlace) (e : ExprTree) (v : Value) : Type 0 where
      pub fits : FitsBy q (λ h. Gives p env v.it h)
      pub reads : expr_named (with_slots w ws) v.it ≡ unplaced_expr e

    pub record AreValues (qs : List ResolvedPlace) (es : ExprList) (first : Given) (a : Args) : Type 0 where
      pub same : SameGiven t.names first a.first
      pub typed : AreArgs p env qs a.it a.first
      pub reads : args_named (with_slots w ws) a.it ≡ unplaced_exprs es

    record AreOthers (qs : List ResolvedPlace) (es : ExprList) (a : Args) : Type 0 where
      typed : AreRest p env qs a.it
      reads : args_named (with_slots w ws) a.it ≡ unplaced_exprs es

    record AreTagValues (es : ExprList) (a : Args) : Type 0 where
      typed : AreTagArgs p env a.it
      reads : args_named (with_slots w ws) a.it ≡ unplaced_exprs es

    record AreCaps (xs : List CapTree) (cs : List CapSlot) : Type 0 where
      typed : AreTags env cs
      reads : caps_named ws cs ≡ unplaced_caps xs

    caps_are : (xs : List CapTree) → AreTagNames names xs → ReachesCaps i own xs → Has (resolve_caps ls xs) (λ cs. AreCaps xs cs)
    caps_are [] h r = done [] (record { typed = tt; reads = refl })
    caps_are (x ∷ xs) (h, hs) (r, rs) =
        next (local_has ls x.name.word (c.reached x.name.word tag h r)) (λ l k. next (caps_are xs hs rs) (λ cs ks.
        done (record { slot = l.slot; plus = x.plus } ∷ cs)
        (record {
          typed = (k.in_scope ∙ ap (λ u. Some (a_local u)) (shape t.names tag l.ty k.typed), ks.typed);
          reads = ap (λ y. record { name = id_as y; plus = x.plus } ∷ caps_named ws cs) (word_is ws l.slot x.name.word k.named) ∙ ap (λ rest. record { name = unplaced_id x.name; plus = x.plus } ∷ rest) ks.reads;
        })))

    field_is : (at : ℕ) (e : ExprTree) (f : IdTree) (x : Word) (n : ℕ) (v : Value) (fields : Names) (ty : ValueType) (g : Given) →
        IsValue e (a_value (object x)) v → v.gives ≡ a_value (object n) → IsClassAt t p w.classes w.fields x fields n → find f.word fields ≡ Some ty → g ≡ a_value ty →
        Has (field_read t v.it v.gives f.word) (λ v. IsValue (expr_node at (field_expr e f)) g v)
    field_is at x' f x n v fields ty g h is k found_field gives =
        subst (λ (q : ResolvedGiven). Has (field_read t v.it q f.word) (λ v. IsValue (expr_node at (field_expr x' f)) g v)) (sym is)
        (from _ k.vars k.in_tables
        (next (with_is (k.typed f.word ty found_field)) (λ m e.
        let place = found_at f.word k.vars m e.1 in
        done _
        (record {
          same = as_type t.names g ty m.it gives e.0;
          typed = (subst (λ (q : ResolvedGiven). Gives p env v.it q) is h.typed, (types_of k.vars, k.in_heads, get_map (λ v. v.1) k.vars m.number _ place), refl);
          reads =
              ap (λ form. expr_node 0 form)
              (ap (λ o. field_expr o (id_as (word_at (words_at w.fields n) m.number))) h.reads ∙
              ap (λ (y : Word). field_expr (unplaced_expr x') (id_as y)) (ap (λ (q : List Word). word_at q m.number) (words_are w.fields n _ k.fields_named) ∙ word_is (map (λ v. v.0) k.vars) m.number f.word (get_map (λ v. v.0) k.vars m.number _ place)));
        }))))

    numbered_class : (x : Word) (n : Found (Unit {0})) → found x t.names ≡ Some n → numbered t.names (object x) ≡ Some (object n.number)
    unfolding then_some
    numbered_class x n e = ap (λ o. then_some o (λ n. Some (object n.number))) e

    numbered_array : (ty : ValueType) (u : ResolvedType) → numbered t.names ty ≡ Some u → numbered t.names (array ty) ≡ Some (array u)
    unfolding then_some
    numbered_array ty u e = ap (λ o. then_some o (λ u. Some (array u))) e

    int_result : (s : Answer) (r : Option ResolvedType) → s ≡ answers int → SameResult t.names s r → r ≡ Some int
    int_result s r e h = let k = subst (λ (s : Answer). SameResult t.names s r) e h in k.2 ∙ ap Some (sym (some_is int k.0 k.1))

    element_is : (at : ℕ) (e j : ExprTree) (ty : ValueType) (v u : Value) (g : Given) → IsValue e (a_value (array ty)) v → IsStanding (exactly int) j u → g ≡ a_value ty →
        Has (element_read v.it v.gives u.it) (λ v. IsValue (expr_node at (element_expr e j)) g v)
    element_is at x' j ty v u g h k gives =
        let a = value_type_is t.names (array ty) v.gives h.same in
        let is : v.gives ≡ a_value (array a.1.0) = a.2 ∙ ap a_value a.1.2 in
        subst (λ (q : ResolvedGiven). Has (element_read v.it q u.it) (λ v. IsValue (expr_node at (element_expr x' j)) g v)) (sym is)
        (done _
        (record {
          same = as_type t.names g ty a.1.0 gives a.1.1;
          typed = (subst (λ (q : ResolvedGiven). Gives p env v.it q) is h.typed, k.fits, refl);
          reads = ap (λ o. expr_node 0 (element_expr o (expr_named (with_slots w ws) u.it))) h.reads ∙ ap (λ o. expr_node 0 (element_expr (unplaced_expr x') o)) k.reads;
        }))

    answer_is : (s : Answer) (r : Option ResolvedType) (first : Given) (g : Given) → SameResult t.names s r → g ≡ answered s first → SameGiven t.names g (given_by r)
    answer_is (answers ty) r first g (u, e, k) gives = subst (λ (r : Option ResolvedType). SameGiven t.names g (given_by r)) (sym k) (as_type t.names g ty u gives e)
    answer_is no_answer r first g k gives = subst (λ (r : Option ResolvedType). SameGiven t.names g (given_by r)) (sym k) (subst (λ (g : Given). SameGiven t.names g nothing) (sym gives) refl)
    answer_is as_first r first g k gives = absurd k

    pub stood : (q : Place) (u : ResolvedPlace) (e : ExprTree) (g : Given) → SamePlace t.names q u → suits q g ≡ true → Has (resolve t ls e) (λ v. IsValue e g v) → Has (resolve t ls e) (λ v. IsStanding u e v)
    stood q u e g s fits h = weaker h (λ v x. record { fits = (v.gives, x.typed, fits_same t.names q u g v.gives fits s x.same); reads = x.reads })

    call_is : (at : ℕ) (f : IdTree) (args : ExprList) (g : Given) (s : Signature) (first : Given) (b : Option Builtin) → builtin_named f.word ≡ b → signature_or b (find f.word d.functions) ≡ Some s →
        AreArgsWords d names s.takes args first → g ≡ answered s.answer first →
        ((ps : List Place) (qs : List ResolvedPlace) → SamePlaces t.names ps qs → AreArgsWords d names ps args first → Has (resolve_args t ls args) (λ a. AreValues qs args first a)) →
        Has (then_some (resolve_args t ls args) (λ args. called t b f.word args)) (λ v. IsValue (expr_node at (call_expr f args)) g v)
    call_is at f args g s first (Some b) is named h gives go =
        let same : (row b).signature ≡ s = some_is _ s named in
        let rows = same_row t.names b in
        next (go (row b).signature.takes (row_by ℕ b).signature.takes rows.takes (subst (λ (s : Signature). AreArgsWords d names s.takes args first) (sym same) h)) (λ a x.
        done _
        (record {
          same =
              subst (λ (g : Given). SameGiven t.names g (answered (row_by ℕ b).signature.answer a.first)) (sym (gives ∙ ap (λ (s : Signature). answered s.answer first) (sym same)))
              (answered_same t.names (row b).signature.answer (row_by ℕ b).signature.answer first a.first rows.answer x.same);
          typed = (a.first, x.typed, refl, refl);
          reads = ap (λ (q : Word). expr_node 0 (call_expr (id_as q) (args_named (with_slots w ws) a.it))) (builtin_name f.word b is) ∙ ap (λ q. expr_node 0 (call_expr (unplaced_id f) q)) x.reads;
        }))
    call_is at f args g s first None is named h gives go =
        let m = tied.function_at f.word s named in
        next (go s.takes (exact_places m.it.it.params) m.holds.takes h) (λ a x.
        from _ m.it m.is
        (done _
        (record {
          same = answer_is s.answer m.it.it.result first g m.holds.gives gives;
          typed = (m.it.it, a.first, m.holds.in_heads, x.typed, refl);
          reads = ap (λ (q : Word). expr_node 0 (call_expr (id_as q) (args_named (with_slots w ws) a.it))) (word_is w.functions m.it.number f.word m.holds.named) ∙ ap (λ q. expr_node 0 (call_expr (unplaced_id f) q)) x.reads;
        })))

    mutual
      pub expr_is : (e : ExprTree) (g : Given) → IsGiven d names e g → Reaches i own e → Has (resolve t ls e) (λ v. IsValue e g v)
      expr_is (expr_node at form) g h r = form_is at form g h r

      form_is : (at : ℕ) (form : ExprForm) (g : Given) → IsFormGiven d names form g → FormReaches i own form → Has (resolve_form t ls form) (λ v. IsValue (expr_node at form) g v)
      form_is at (binary_expr op l r) g (h, gives) (rl, rr) =
          let o = operands (operand op) (λ h. IsGiven d names l h) (λ h. IsGiven d names r h) h in
          next (expr_is l o.0.0 o.0.1 rl) (λ a x. next (expr_is r o.1.0 o.1.1 rr) (λ b y.
          done _
          (record {
            same = as_type t.names g (operator_type op) (operator_type op) gives (operator_same t.names op);
            typed = (operates t.names (operand op) (operand op) (λ h. IsGiven d names l h) (λ h. IsGiven d names r h) (operand_same t.names op) h (λ q. Gives p env a.it q) (λ q. Gives p env b.it q) a.gives b.gives x.same y.same x.typed y.typed, refl);
            reads = ap (λ q. expr_node 0 (binary_expr op q (expr_named (with_slots w ws) b.it))) x.reads ∙ ap (λ q. expr_node 0 (binary_expr op (unplaced_expr l) q)) y.reads;
          })))
      form_is at (unary_expr op e) g (h, gives) r =
          next (stood (exactly (unary_type op)) (exactly (unary_type op)) e h.0 (unary_same t.names op) h.2 (expr_is e h.0 h.1 r)) (λ a x.
          done _ (record { same = as_type t.names g (unary_type op) (unary_type op) gives (unary_same t.names op); typed = (x.fits, refl); reads = ap (λ q. expr_node 0 (unary_expr op q)) x.reads }))
      form_is at (field_expr e f) g (x, fields, ty, h, known_class, k, gives) r =
          next (expr_is e (a_value (object x)) h r) (λ a y.
          let n = tied.class_at x fields known_class in
          let v = value_type_is t.names (object x) a.gives y.same in
          let number : v.1.0 ≡ n.it = some_is v.1.0 n.it (sym v.1.1 ∙ n.is) in
          field_is at e f x n.it.number a fields ty g y (v.2 ∙ ap a_value (v.1.2 ∙ ap (λ (m : Found (Unit {0})). object m.number) number)) n.holds k gives)
      form_is at (element_expr e j) g (ty, h, k, gives) (r, u) =
          next (expr_is e (a_value (array ty)) h r) (λ a x. next (stood (exactly int) (exactly int) j k.0 refl k.2 (expr_is j k.0 k.1 u)) (λ b y. element_is at e j ty a b g x y gives))
      form_is at (number_expr n) g gives r = done _ (record { same = as_type t.names g int int gives refl; typed = refl; reads = refl })
      form_is at (text_expr bs) g gives r = done _ (record { same = as_type t.names g _ _ gives refl; typed = refl; reads = refl })
      form_is at (bool_expr b) g gives r = done _ (record { same = as_type t.names g _ _ gives refl; typed = refl; reads = refl })
      form_is at null_expr g gives r = done _ (record { same = subst (λ (g : Given). SameGiven t.names g a_null) (sym gives) refl; typed = refl; reads = refl })
      form_is at (name_expr x) g (ty, h, gives) r =
          next (local_has ls x (c.reached x ty h r)) (λ l k. done _ (record { same = as_type t.names g ty l.ty gives k.typed; typed = (l.ty, k.in_scope, refl); reads = ap (λ (y : Word). expr_node 0 (name_expr y)) (word_is ws l.slot x k.named) }))
      form_is at (call_expr f args) g (s, first, named, h, gives) r = call_is at f args g s first (builtin_named f.word) refl named h gives (λ ps qs k h. args_are ps qs args first k h r)
      form_is at (new_class_expr x) g (fields, h, gives) r =
          next (with_is (tied.class_at x.word fields h)) (λ n k.
          done _
          (record {
            same = as_type t.names g (object x.word) (object n.number) gives (numbered_class x.word n k.1);
            typed = (get_below p.classes n.number _ k.0.in_heads, refl);
            reads = ap (λ (y : Word). expr_node 0 (new_class_expr (id_as y))) (word_is w.classes n.number x.word k.0.named);
          }))
      form_is at (new_array_expr ty m) g (declared, h, gives) r =
          next (with_is (declared_type d t p w tied ty declared)) (λ u k. next (stood (exactly int) (exactly int) m h.0 refl h.2 (expr_is m h.0 h.1 r)) (λ a x.
          done _
          (record {
            same = as_type t.names g (array (written ty)) (array u) gives (numbered_array (written ty) u k.1);
            typed = (k.0.fine, x.fits, refl);
            reads = ap (λ q. expr_node 0 (new_array_expr q (expr_named (with_slots w ws) a.it))) (type_reads d t p w tied ty u k.0) ∙ ap (λ q. expr_node 0 (new_array_expr (unplaced_type ty) q)) x.reads;
          })))
      form_is at (label_expr s j) g (h, k, gives) (r, u) =
          next (tags_are s h r) (λ a x. next (tags_are j k u) (λ b y.
          done _
          (record {
            same = as_type t.names g _ _ gives refl;
            typed = (x.typed, y.typed, refl);
            reads = ap (λ q. expr_node 0 (label_expr q (args_named (with_slots w ws) b.it))) x.reads ∙ ap (λ q. expr_node 0 (label_expr (unplaced_exprs s) q)) y.reads;
          })))
      form_is at (caps_expr items) g (h, gives) r =
          next (caps_are items h r) (λ cs k. done _ (record { same = as_type t.names g _ _ gives refl; typed = (k.typed, refl); reads = ap (λ q. expr_node 0 (caps_expr q)) k.reads }))
      form_is at (spawn_expr e f args) g (s, first, named, an_int, h, k, gives) (r, u) =
          next (stood (exactly caps) (exactly caps) e h.0 refl h.2 (expr_is e h.0 h.1 r)) (λ a x. next (tied.function_at f.word s named) (λ m y. next (args_are s.takes (exact_places m.it.params) args first y.takes k u) (λ b z.
          done _
          (record {
            same = as_type t.names g _ _ gives refl;
            typed = (m.it, b.first, x.fits, y.in_heads, int_result s.answer m.it.result an_int y.gives, z.typed, refl);
            reads =
                ap (λ q. expr_node 0 (spawn_expr q (id_as (word_at w.functions m.number)) (args_named (with_slots w ws) b.it))) x.reads ∙
                ap (λ (q : Word). expr_node 0 (spawn_expr (unplaced_expr e) (id_as q) (args_named (with_slots w ws) b.it))) (word_is w.functions m.number f.word y.named) ∙ ap (λ q. expr_node 0 (spawn_expr (unplaced_expr e) (unplaced_id f) q)) z.reads;
          }))))

      args_are : (ps : List Place) (qs : List ResolvedPlace) (es : ExprList) (first : Given) → SamePlaces t.names ps qs → AreArgsWords d names ps es first → AllReach i own es → Has (resolve_args t ls es) (λ a. AreValues qs es first a)
      args_are [] [] no_exprs first s h r = done _ (record { same = subst (λ (g : Given). SameGiven t.names g nothing) (sym h) refl; typed = refl; reads = refl })
      args_are (q ∷ ps) (u ∷ qs) (exprs e rest) first (s, ss) (h, fits, hs) (r, rs) =
          next (expr_is e first h r) (λ v x. next (rest_are ps qs rest ss hs rs) (λ b y.
          done _
          (record {
            same = x.same;
            typed = (x.typed, fits_same t.names q u first v.gives fits s x.same, y.typed);
            reads = ap (λ q. exprs q (args_named (with_slots w ws) b.it)) x.reads ∙ ap (λ q. exprs (unplaced_expr e) q) y.reads;
          })))
      args_are [] [] (exprs e rest) first s h r = absurd h
      args_are (q ∷ ps) (u ∷ qs) no_exprs first s h r = absurd h
      args_are [] (u ∷ qs) es first s h r = absurd s
      args_are (q ∷ ps) [] es first s h r = absurd s

      rest_are : (ps : List Place) (qs : List ResolvedPlace) (es : ExprList) → SamePlaces t.names ps qs → AreRestWords d names ps es → AllReach i own es → Has (resolve_args t ls es) (λ a. AreOthers qs es a)
      rest_are [] [] no_exprs s h r = done _ (record { typed = tt; reads = refl })
      rest_are (q ∷ ps) (u ∷ qs) (exprs e rest) (s, ss) (h, hs) (r, rs) =
          next (stood q u e h.0 s h.2 (expr_is e h.0 h.1 r)) (λ v x. next (rest_are ps qs rest ss hs rs) (λ b y.
          done _ (record { typed = (x.fits, y.typed); reads = ap (λ q. exprs q (args_named (with_slots w ws) b.it)) x.reads ∙ ap (λ q. exprs (unplaced_expr e) q) y.reads })))
      rest_are [] [] (exprs e rest) s h r = absurd h
      rest_are (q ∷ ps) (u ∷ qs) no_exprs s h r = absurd h
      rest_are [] (u ∷ qs) es s h r = absurd s
      rest_are (q ∷ ps) [] es s h r = absurd s

      tags_are : (es : ExprList) → AreTagsWords d names es → AllReach i own es → Has (resolve_args t ls es) (λ a. AreTagValues es a)
      tags_are no_exprs h r = done _ (record { typed = tt; reads = refl })
      tags_are (exprs e rest) (h, hs) (r, rs) =
          next (stood (exactly tag) (exactly tag) e h.0 refl h.2 (expr_is e h.0 h.1 r)) (λ v x. next (tags_are rest hs rs) (λ b y.
          done _ (record { typed = (x.fits, y.typed); reads = ap (λ q. exprs q (args_named (with_slots w ws) b.it)) x.reads ∙ ap (λ q. exprs (unplaced_expr e) q) y.reads })))

    pub stands_is : (q : Place) (u : ResolvedPlace) (e : ExprTree) → SamePlace t.names q u → FitsWords q (λ g. IsGiven d names e g) → Reaches i own e → Has (resolve t ls e) (λ v. IsStanding u e v)
    stands_is q u e s (g, h, fits) r = stood q u e g s fits (expr_is e g h r)
