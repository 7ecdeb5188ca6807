-- What a typed expression gives is of its type, and it meets no operand of another kind.
use Rattle.std.proofs.Common.{◌≡◌, ℕ, zero, suc, ℤ, pos, negsuc, ◌+ℤ◌, ◌-ℤ◌, ◌*ℤ◌, List, [], ◌∷◌, Option, Some, refl, sym, ap, subst, map}
use Rattle.std.proofs.lemmas.Option.{same_Some}
use Rattle.std.specs.Prelude.{nat_le, int_div, int_rem, slice_get}
use Rattle.capabilities.specs.declared.Caps.{Caps}
use Rattle.lam_value.specs.declared.values.Value.{Value}
use Rattle.lam_value.specs.declared.values.Value.TheVariants.{Nothing, Obj, Arr, Tag, CapV}
use Rattle.lam_value.specs.declared.shapes.Shape.TheVariants.{Class, Array}
use Rattle.lam_operators.specs.declared.BinaryOp.{BinaryOp}
use Rattle.lam_operators.specs.declared.BinaryOp.TheVariants.{Or, And, Eq, Ne, Lt, Le, Gt, Ge, Add, Sub, Mul, Div, Rem}
use Rattle.lam_builtins.specs.Types.{int, bool, bytes, tag, label, caps, thread, object, array, a_value, a_null, exactly}
use Rattle.lam_builtins.specs.Operators.{operand, operator_type, unary_type}
use Rattle.lam_builtins.specs.Builtins.{row_by, answered}
use Rattle.lam_asks.specs.declared.fault.Fault.{Fault}
use Rattle.lam_asks.specs.declared.ask.Ask.{Ask}
use Rattle.lam_asks.specs.declared.ask.Ask.TheVariants as ask
use Rattle.lam_asks.specs.Suits.{numbers}
use Rattle.lam_meaning.specs.Operators.{Pure, operator, prefix, label_from, with_sign, by_divisor, number}
use Rattle.lam_meaning.specs.Builtins as calls
use Rattle.lam_meaning.specs.Builtins.{Calls, builtin}
use Rattle.lam_resolve_tree.specs.Tree.{ResolvedType, ResolvedGiven, ResolvedPlace, CapSlot, Expression, number_value, text_value, bool_value, null_value, local_value, unary_of, binary_of, field_of, element_of, call_of, builtin_of, new_object, new_array, label_of, caps_of, spawn_of, Expressions, args_end, args_more, ResolvedFunction, ResolvedTree}
use Rattle.lam_resolve_tree.specs.Typing.{ResolvedSignature, head_of, heads_of, given_by, exact_places, a_local, Scope, Fits, FitsBy, Operates, AreTags, Gives, AreArgs, AreRest, AreTagArgs}
use Rattle.lam_meaning.specs.Trees.{Own, local, Asked, End, goes, raises, leaves, Tree, and_then, purely, ask_value, asked, gained, nothing_gained}
use Rattle.lam_meaning.specs.Means.{sort_of, kind_of, At, may_read, Caller, class_fields, makes_array, result_sort, called_in, signed, two, eval, eval_all}
use Rattle.lam_meaning_typed.proofs.Sorts.{AreBy, Sorts, AsksFor, gives_plain, gives_own, IsWell}
use Rattle.lam_meaning_typed.proofs.Places.{an_int, a_truth, a_text, some_caps, GivesA, given_on, fits_a, RestAre, ArgsAre, exact_args}
use Rattle.lam_meaning_typed.proofs.Rows.{PureIs, divided_is, number_is, prefix_is, numbers_is, sign_is, AreTagValues, label_is, CallsIs, builtin_is}
use Rattle.lam_meaning_typed.proofs.Locals.{Fit, fit_on}
use Rattle.lam_meaning_typed.proofs.Trees.{EndBy, weaker, then_tree, value_tree, done_tree, unless_tree, object_tree, array_tree, truth_tree, number_tree, caps_tree, within_tree, if_tree, pure_tree}

abbrev pub Never : Value → Type 0
Never v = ⊥

-- it goes on with what has Q, and the locals in scope are of their types
abbrev pub Values : {A : Type 0} {r : ResolvedTree} (S : Sorts r) → ℕ → Scope → (S.Known → A → Type 0) → S.Known → End A → Type 0
Values S size env Q G = EndBy (λ a o. Q G a × Fit S G size env o.locals) (λ o. Fit S G size env o.locals) Never

-- calls with arguments of their parameters' types give what the function does
abbrev pub CallsWell : {r : ResolvedTree} (S : Sorts r) → Caller → Type 0
CallsWell {r = r} S call =
    (f : ℕ) (fn : ResolvedFunction) (vs : List Value) (p : At) (n size : ℕ) (env : Scope) (o : Own) (G : S.Known) → slice_get r.functions f ≡ Some fn → AreBy (S.Is G) fn.params vs → Fit S G size env o.locals → IsWell S (Values S size env (λ G v. GivesA S G (given_by fn.result) v)) G (call f vs p n o)

pub gained_same : (a : Ask) (v : Value) (o : Own) → (gained a v o).locals ≡ o.locals
gained_same ask.Mint (Tag t) o = refl
gained_same (ask.ReceiveCaps p) (CapV a b) o = refl
gained_same a v o = refl

pub head_at : (fs : List ResolvedFunction) (f : ℕ) (h : ResolvedSignature) → slice_get (map head_of fs) f ≡ Some h → (fn : ResolvedFunction) × (slice_get fs f ≡ Some fn) × (head_of fn ≡ h)
head_at [] f h e = absurd cc
head_at (fn ∷ fs) zero h e = (fn, refl, same_Some (head_of fn) h e)
head_at (fn ∷ fs) (suc f) h e = head_at fs f h e

module _ {r : ResolvedTree} (S : Sorts r) (size : ℕ) (env : Scope) where
  abbrev OfType : ResolvedType → S.Known → End Value → Type 0
  OfType t = Values S size env (λ G v. S.Is G t v)

  abbrev OfGiven : ResolvedGiven → S.Known → End Value → Type 0
  OfGiven g = Values S size env (λ G v. GivesA S G g v)

  pub keeps : (G : S.Known) (o : Own) → Fit S G size env o.locals → (H : S.Known) → S.Grows G H → Fit S H size env o.locals
  keeps G o l H more = fit_on S G H more size env o.locals l

  pub and_value : {A B : Type 0} (P : S.Known → A → Type 0) (E : S.Known → End B → Type 0) (G : S.Known) (t : Tree A) (go : A → ℕ → Own → Tree B) → ((H : S.Known) → S.Grows G H → (f : Fault) (n : ℕ) (o : Own) → Fit S H size env o.locals → E H (raises f n o)) → IsWell S (Values S size env P) G t → ((H : S.Known) → S.Grows G H → (a : A) (n : ℕ) (o : Own) → P H a → Fit S H size env o.locals → IsWell S E H (go a n o)) → IsWell S E G (and_then t go)
  and_value P E G t go rs h on = then_tree S (Values S size env P) E G t go h rs (λ H more v n o k. absurd k) (λ H more a n o k. on H more a n o k.0 k.1)

  pub at_place : (G : S.Known) (t : ResolvedType) (g : ResolvedGiven) (x : Tree Value) → Fits (exactly t) g → IsWell S (OfGiven g) G x → IsWell S (OfType t) G x
  at_place G t g x f h = weaker S (OfGiven g) (OfType t) G x each h
    where
      each : (H : S.Known) (e : End Value) → OfGiven g H e → OfType t H e
      each H (goes v n o) k = (fits_a S H t g v f k.0, k.1)
      each H (raises f n o) k = k
      each H (leaves v n o) k = k

  as_given : (G : S.Known) (g k : ResolvedGiven) (x : Tree Value) → g ≡ k → IsWell S (OfGiven k) G x → IsWell S (OfGiven g) G x
  as_given G g k x e h = subst (λ g. IsWell S (OfGiven g) G x) (sym e) h

  typed_pure : (G : S.Known) (t : ResolvedType) (n : ℕ) (o : Own) (x : Pure) → PureIs (λ v. S.Is G t v) x → Fit S G size env o.locals → IsWell S (OfType t) G (purely n o x)
  typed_pure G t n o x h l = pure_tree S (λ G v. S.Is G t v) (λ G o. Fit S G size env o.locals) Never G n o x h l

  tags_on : (G H : S.Known) → S.Grows G H → (vs : List Value) → AreTagValues S G vs → AreTagValues S H vs
  tags_on G H more [] h = tt
  tags_on G H more (v ∷ vs) h = (S.is_on G H more tag v h.0, tags_on G H more vs h.1)

  -- ---- operators

  ints_tree : (G : S.Known) (t : ResolvedType) (f : Value → Value → Pure) (L R : ResolvedGiven → Type 0) (x : Tree Value) (right : ℕ → Own → Tree Value) → FitsBy (exactly int) L → FitsBy (exactly int) R → ((g : ResolvedGiven) → L g → IsWell S (OfGiven g) G x) → ((g : ResolvedGiven) → R g → (H : S.Known) (n : ℕ) (o : Own) → Fit S H size env o.locals → IsWell S (OfGiven g) H (right n o)) → ((H : S.Known) (v w : Value) → S.Is H int v → S.Is H int w → PureIs (λ v. S.Is H t v) (f v w)) → IsWell S (OfType t) G (and_then x (λ v n o. and_then (right n o) (λ w n o. purely n o (f v w))))
  ints_tree G t f L R x right hl hr lt rt on =
      and_value (λ G v. S.Is G int v) (OfType t) G _ _ (λ H m f n o l. l) (at_place G int hl.0 x hl.2 (lt hl.0 hl.1)) (λ H m v n o iv l.
      and_value (λ G v. S.Is G int v) (OfType t) H _ _ (λ H m f n o l. l) (at_place H int hr.0 (right n o) hr.2 (rt hr.0 hr.1 H n o l)) (λ J m w n o iw l.
      typed_pure J t n o (f v w) (on J v w (S.is_on H J m int v iv) iw) l))

  truths_tree : (G : S.Known) (L : ResolvedGiven → Type 0) (x : Tree Value) (right : ℕ → Own → Tree Value) (op : BinaryOp) → FitsBy (exactly bool) L → ((g : ResolvedGiven) → L g → IsWell S (OfGiven g) G x) → ((H : S.Known) (v : Value) (n : ℕ) (o : Own) → S.Is H bool v → Fit S H size env o.locals → IsWell S (OfType bool) H (two op v right n o)) → IsWell S (OfType bool) G (and_then x (λ v n o. two op v right n o))
  truths_tree G L x right op hl lt on = and_value (λ G v. S.Is G bool v) (OfType bool) G _ _ (λ H m f n o l. l) (at_place G bool hl.0 x hl.2 (lt hl.0 hl.1)) (λ H m v n o iv l. on H v n o iv l)

  any_tree : (G : S.Known) (f : Value → Value → Pure) (L R : ResolvedGiven → Type 0) (x : Tree Value) (right : ℕ → Own → Tree Value) (g h : ResolvedGiven) → L g → R h → ((g : ResolvedGiven) → L g → IsWell S (OfGiven g) G x) → ((g : ResolvedGiven) → R g → (H : S.Known) (n : ℕ) (o : Own) → Fit S H size env o.locals → IsWell S (OfGiven g) H (right n o)) → ((H : S.Known) (v w : Value) → PureIs (λ v. S.Is H bool v) (f v w)) → IsWell S (OfType bool) G (and_then x (λ v n o. and_then (right n o) (λ w n o. purely n o (f v w))))
  any_tree G f L R x right g h hl hr lt rt on =
      and_value (λ G v. GivesA S G g v) (OfType bool) G _ _ (λ H m f n o l. l) (lt g hl) (λ H m v n o iv l.
      and_value (λ G v. GivesA S G h v) (OfType bool) H _ _ (λ H m f n o l. l) (rt h hr H n o l) (λ J m w n o iw l.
      typed_pure J bool n o (f v w) (on J v w) l))

  binary_tree : (G : S.Known) (op : BinaryOp) (L R : ResolvedGiven → Type 0) (x : Tree Value) (right : ℕ → Own → Tree Value) → Operates (operand op) L R → ((g : ResolvedGiven) → L g → IsWell S (OfGiven g) G x) → ((g : ResolvedGiven) → R g → (H : S.Known) (n : ℕ) (o : Own) → Fit S H size env o.locals → IsWell S (OfGiven g) H (right n o)) → IsWell S (OfType (operator_type op)) G (and_then x (λ v n o. two op v right n o))
  binary_tree G Or L R x right (hl, hr) lt rt =
      truths_tree G L x right Or hl lt (λ H v n o iv l. truth_tree S (OfType bool) H v _ _ iv (a_truth S H _, l) (at_place H bool hr.0 (right n o) hr.2 (rt hr.0 hr.1 H n o l)))
  binary_tree G And L R x right (hl, hr) lt rt =
      truths_tree G L x right And hl lt (λ H v n o iv l. truth_tree S (OfType bool) H v _ _ iv (at_place H bool hr.0 (right n o) hr.2 (rt hr.0 hr.1 H n o l)) (a_truth S H _, l))
  binary_tree G Eq L R x right (g, h, hl, hr, e) lt rt = any_tree G (λ v w. operator Eq v w) L R x right g h hl hr lt rt (λ H v w. a_truth S H _)
  binary_tree G Ne L R x right (g, h, hl, hr, e) lt rt = any_tree G (λ v w. operator Ne v w) L R x right g h hl hr lt rt (λ H v w. a_truth S H _)
  binary_tree G Lt L R x right (hl, hr) lt rt = ints_tree G bool (λ v w. operator Lt v w) L R x right hl hr lt rt (λ H v w iv iw. numbers_is S H (λ v. S.Is H bool v) _ v w iv iw (λ a b. a_truth S H _))
  binary_tree G Le L R x right (hl, hr) lt rt = ints_tree G bool (λ v w. operator Le v w) L R x right hl hr lt rt (λ H v w iv iw. numbers_is S H (λ v. S.Is H bool v) _ v w iv iw (λ a b. a_truth S H _))
  binary_tree G Gt L R x right (hl, hr) lt rt = ints_tree G bool (λ v w. operator Gt v w) L R x right hl hr lt rt (λ H v w iv iw. numbers_is S H (λ v. S.Is H bool v) _ v w iv iw (λ a b. a_truth S H _))
  binary_tree G Ge L R x right (hl, hr) lt rt = ints_tree G bool (λ v w. operator Ge v w) L R x right hl hr lt rt (λ H v w iv iw. numbers_is S H (λ v. S.Is H bool v) _ v w iv iw (λ a b. a_truth S H _))
  binary_tree G Add L R x right (hl, hr) lt rt = ints_tree G int (λ v w. operator Add v w) L R x right hl hr lt rt (λ H v w iv iw. numbers_is S H (λ v. S.Is H int v) (λ a b. number (a +ℤ b)) v w iv iw (λ a b. number_is S H (a +ℤ b)))
  binary_tree G Sub L R x right (hl, hr) lt rt = ints_tree G int (λ v w. operator Sub v w) L R x right hl hr lt rt (λ H v w iv iw. numbers_is S H (λ v. S.Is H int v) (λ a b. number (a -ℤ b)) v w iv iw (λ a b. number_is S H (a -ℤ b)))
  binary_tree G Mul L R x right (hl, hr) lt rt = ints_tree G int (λ v w. operator Mul v w) L R x right hl hr lt rt (λ H v w iv iw. numbers_is S H (λ v. S.Is H int v) (λ a b. number (a *ℤ b)) v w iv iw (λ a b. number_is S H (a *ℤ b)))
  binary_tree G Div L R x right (hl, hr) lt rt =
      ints_tree G int (λ v w. operator Div v w) L R x right hl hr lt rt (λ H v w iv iw. numbers_is S H (λ v. S.Is H int v) (λ a b. by_divisor b (number (int_div a b))) v w iv iw (λ a b. divided_is (λ v. S.Is H int v) b (number (int_div a b)) (number_is S H (int_div a b))))
  binary_tree G Rem L R x right (hl, hr) lt rt =
      ints_tree G int (λ v w. operator Rem v w) L R x right hl hr lt rt (λ H v w iv iw. numbers_is S H (λ v. S.Is H int v) (λ a b. by_divisor b (number (int_rem a b))) v w iv iw (λ a b. divided_is (λ v. S.Is H int v) b (number (int_rem a b)) (number_is S H (int_rem a b))))

  -- ---- asks

  asked_tree : (G : S.Known) (t : ResolvedType) (q : Asked) (n : ℕ) (o : Own) → AsksFor S G q t → Fit S G size env o.locals → IsWell S (OfType t) G (ask_value q n o)
  asked_tree G t q n o g l = value_tree S (OfType t) G q t nothing_gained n o g (λ H m f. keeps G o l H m) (λ H m v i. (i, keeps G o l H m))

  made_tree : (G : S.Known) (t : ResolvedType) (z : ℤ) (n : ℕ) (o : Own) → Fit S G size env o.locals → IsWell S (OfType (array t)) G (makes_array (kind_of t) z n o)
  made_tree G t (pos m) n o l = if_tree S (OfType (array t)) G (nat_le m 65536) _ _ (asked_tree G (array t) made n o (gives_own S G made (array t) refl refl (S.makes_elements G t m)) l) l
    where
      made : Asked
      made = asked numbers (ask.New (Array (kind_of t) m))
  made_tree G t (negsuc m) n o l = l

  called_tree : (G : S.Known) (t : Option ResolvedType) (n : ℕ) (o : Own) (g : ResolvedGiven) (c : Calls) → CallsIs S G g c → Fit S G size env o.locals → IsWell S (OfGiven g) G (called_in t n o c)
  called_tree G t n o g (calls.now v) h l = (h, l)
  called_tree G t n o g (calls.faults f) h l = l
  called_tree G t n o g (calls.asks a) h l =
      value_tree S (OfGiven g) G (asked (result_sort t) a) h.result (λ v o. gained a v o) n o (h.given (result_sort t)) (λ H m f. keeps G o l H m)
      (λ H m v i. (subst (λ g. GivesA S H g v) (sym h.same) i, subst (λ ls. Fit S H size env ls) (sym (gained_same a v o)) (keeps G o l H m)))
  called_tree G t n o g (calls.acts a) h l = done_tree S (OfGiven g) G a Nothing n o h.0 h.1 (λ H m f. keeps G o l H m) (λ H m. (given_on S G H m g Nothing h.2, keeps G o l H m))
  called_tree G t n o g calls.wrong h l = absurd h

  signed_tree : (G : S.Known) (xs : List CapSlot) (c : Value) (n : ℕ) (o : Own) → AreTags env xs → S.Is G caps c → Fit S G size env o.locals → IsWell S (OfType caps) G (signed xs c n o)
  signed_tree G [] c n o h i l = (i, l)
  signed_tree G (x ∷ xs) c n o h i l =
      and_value (λ G v. S.Is G caps v) (OfType caps) G _ _ (λ H m f n o l. l)
      (typed_pure G caps n o (with_sign x.plus c (local o x.slot)) (sign_is S G x.plus c (local o x.slot) i (l.typed x.slot (a_local tag) h.0)) l)
      (λ H m c n o i l. signed_tree H xs c n o h.1 i l)

  -- ---- expressions

  module _ (call : Caller) (well : CallsWell S call) where
    call_tree : (G : S.Known) (f : ℕ) (h : ResolvedSignature) (vs : List Value) (p : At) (n : ℕ) (o : Own) → slice_get (map head_of r.functions) f ≡ Some h → AreBy (S.Is G) h.params vs → Fit S G size env o.locals → IsWell S (OfGiven (given_by h.result)) G (call f vs p n o)
    call_tree G f h vs p n o e are l =
        let at = head_at r.functions f h e in
        subst (λ res. IsWell S (OfGiven (given_by res)) G (call f vs p n o)) (ap (λ h. h.result) at.2)
        (well f at.0 vs p n size env o G at.1 (subst (λ ts. AreBy (S.Is G) ts vs) (sym (ap (λ h. h.params) at.2)) are) l)

    spawned : (G : S.Known) (f : ℕ) (h : ResolvedSignature) (vs : List Value) (k : Caps) → slice_get (map head_of r.functions) f ≡ Some h → h.result ≡ Some int → AreBy (S.Is G) h.params vs → AsksFor S G (asked numbers (ask.Spawn f vs k)) thread
    spawned G f h vs k e res are =
        let at = head_at r.functions f h e in
        gives_plain S G int (asked numbers (ask.Spawn f vs k)) thread refl refl
        (S.spawns G f at.0 vs k at.1 (subst (λ z. z ≡ Some int) (sym (ap (λ h. h.result) at.2)) res) (subst (λ ts. AreBy (S.Is G) ts vs) (sym (ap (λ h. h.params) at.2)) are))

    mutual
      pub eval_tree : (G : S.Known) (e : Expression) (g : ResolvedGiven) → Gives (heads_of r) env e g → (p : At) (n : ℕ) (o : Own) → Fit S G size env o.locals → IsWell S (OfGiven g) G (eval r call e p n o)
      eval_tree G (number_value z) g h p n o l = as_given G g (a_value int) (eval r call (number_value z) p n o) h (an_int S G z, l)
      eval_tree G (text_value bs) g h p n o l = as_given G g (a_value bytes) (eval r call (text_value bs) p n o) h (a_text S G bs, l)
      eval_tree G (bool_value b) g h p n o l = as_given G g (a_value bool) (eval r call (bool_value b) p n o) h (a_truth S G b, l)
      eval_tree G null_value g h p n o l = as_given G g a_null (eval r call null_value p n o) h (refl, l)
      eval_tree G (local_value x) g (t, e, h) p n o l = as_given G g (a_value t) (eval r call (local_value x) p n o) h (l.typed x (a_local t) e, l)
      eval_tree G (unary_of op e) g (he, h) p n o l =
          let t = unary_type op in
          as_given G g (a_value t) (eval r call (unary_of op e) p n o) h
          (and_value (λ G v. S.Is G t v) (OfType t) G _ _ (λ H m f n o l. l) (at_place G t he.0 _ he.2 (eval_tree G e he.0 he.1 p n o l)) (λ H m v n o iv l.
          typed_pure H t n o (prefix op v) (prefix_is S H op v iv) l))
      eval_tree G (binary_of op a b) g (hab, h) p n o l =
          as_given G g (a_value (operator_type op)) (eval r call (binary_of op a b) p n o) h
          (binary_tree G op (λ h. Gives (heads_of r) env a h) (λ h. Gives (heads_of r) env b h) (eval r call a p n o) (λ n o. eval r call b p n o) hab (λ g k. eval_tree G a g k p n o l) (λ g k H n o l. eval_tree H b g k p n o l))
      eval_tree G (field_of e c f t) g (he, hf, h) p n o l =
          let E = OfType t in
          as_given G g (a_value t) (eval r call (field_of e c f t) p n o) h
          (and_value (λ G v. S.Is G (object c) v) E G _ _ (λ H m f n o l. l) (eval_tree G e (a_value (object c)) he p n o l) (λ H m v n o iv l.
          object_tree S E H c v n o _ iv l (λ x k. unless_tree S E H (may_read p x) n o _ (λ J m. keeps H o l J m)
          (asked_tree H t (asked (sort_of t) (ask.Read (Obj x) f)) n o (gives_own S H (asked (sort_of t) (ask.Read (Obj x) f)) t refl refl (S.reads_field H c f t x hf.0 hf.1 hf.2 k)) l))))
      eval_tree G (element_of e i t) g (he, hi, h) p n o l =
          let E = OfType t in
          as_given G g (a_value t) (eval r call (element_of e i t) p n o) h
          (and_value (λ G v. S.Is G (array t) v) E G _ _ (λ H m f n o l. l) (eval_tree G e (a_value (array t)) he p n o l) (λ H m v n o iv l.
          and_value (λ G v. S.Is G int v) E H _ _ (λ H m f n o l. l) (at_place H int hi.0 _ hi.2 (eval_tree H i hi.0 hi.1 p n o l)) (λ J m i n o ii l.
          array_tree S E J t v n o _ (S.is_on H J m (array t) v iv) l (λ x len k. unless_tree S E J (may_read p x) n o _ (λ K m. keeps J o l K m)
          (number_tree S E J i _ ii (λ z. within_tree S E J z len n o _ l (λ at lt. asked_tree J t (asked (sort_of t) (ask.Read (Arr x len) at)) n o (gives_own S J (asked (sort_of t) (ask.Read (Arr x len) at)) t refl refl (S.reads_element J t x len at lt k)) l)))))))
      eval_tree G (call_of f args) g (hd, first, e, ha, h) p n o l =
          as_given G g (given_by hd.result) (eval r call (call_of f args) p n o) h
          (and_value (λ G vs. ArgsAre S G (exact_places hd.params) first vs) (OfGiven (given_by hd.result)) G _ _ (λ H m f n o l. l) (args_tree G args (exact_places hd.params) first ha p n o l) (λ H m vs n o are l.
          call_tree H f hd vs p n o e (exact_args S H hd.params first vs are) l))
      eval_tree G (builtin_of b args t) g (first, ha, h, ht) p n o l =
          let k = answered (row_by ℕ b).signature.answer first in
          as_given G g k (eval r call (builtin_of b args t) p n o) h
          (and_value (λ G vs. ArgsAre S G (row_by ℕ b).signature.takes first vs) (OfGiven k) G _ _ (λ H m f n o l. l) (args_tree G args (row_by ℕ b).signature.takes first ha p n o l) (λ H m vs n o are l.
          called_tree H t n o k (builtin p.label o.caps b vs) (builtin_is S H p.label o.caps b first vs are) l))
      eval_tree G (new_object c) g (hc, h) p n o l =
          as_given G g (a_value (object c)) (eval r call (new_object c) p n o) h
          (asked_tree G (object c) (asked numbers (ask.New (Class c (class_fields (slice_get r.classes c))))) n o (gives_own S G (asked numbers (ask.New (Class c (class_fields (slice_get r.classes c))))) (object c) refl refl (S.makes_object G c)) l)
      eval_tree G (new_array t e) g (ht, he, h) p n o l =
          let E = OfType (array t) in
          as_given G g (a_value (array t)) (eval r call (new_array t e) p n o) h
          (and_value (λ G v. S.Is G int v) E G _ _ (λ H m f n o l. l) (at_place G int he.0 _ he.2 (eval_tree G e he.0 he.1 p n o l)) (λ H m v n o iv l. number_tree S E H v _ iv (λ z. made_tree H t z n o l)))
      eval_tree G (label_of s i) g (hs, hi, h) p n o l =
          let E = OfType label in
          as_given G g (a_value label) (eval r call (label_of s i) p n o) h
          (and_value (λ G vs. AreTagValues S G vs) E G _ _ (λ H m f n o l. l) (tags_tree G s hs p n o l) (λ H m s n o is l. and_value (λ G vs. AreTagValues S G vs) E H _ _ (λ H m f n o l. l) (tags_tree H i hi p n o l) (λ J m i n o ii l.
          typed_pure J label n o (label_from s i) (label_is S J s i (tags_on H J m s is) ii) l)))
      eval_tree G (caps_of items) g (hi, h) p n o l = as_given G g (a_value caps) (eval r call (caps_of items) p n o) h (signed_tree G items (CapV _ _) n o hi (some_caps S G _ _) l)
      eval_tree G (spawn_of c f args) g (hd, first, hc, e, hr, ha, h) p n o l =
          let E = OfType thread in
          as_given G g (a_value thread) (eval r call (spawn_of c f args) p n o) h
          (and_value (λ G v. S.Is G caps v) E G _ _ (λ H m f n o l. l) (at_place G caps hc.0 _ hc.2 (eval_tree G c hc.0 hc.1 p n o l)) (λ H m c n o ic l.
          and_value (λ G vs. ArgsAre S G (exact_places hd.params) first vs) E H _ _ (λ H m f n o l. l) (args_tree H args (exact_places hd.params) first ha p n o l) (λ J m vs n o are l.
          caps_tree S E J c n o _ (S.is_on H J m caps c ic) l (λ k. asked_tree J thread (asked numbers (ask.Spawn f vs k)) n o (spawned J f hd vs k e hr (exact_args S J hd.params first vs are)) l))))

      args_tree : (G : S.Known) (args : Expressions) (ws : List ResolvedPlace) (first : ResolvedGiven) → AreArgs (heads_of r) env ws args first → (p : At) (n : ℕ) (o : Own) → Fit S G size env o.locals → IsWell S (Values S size env (λ G vs. ArgsAre S G ws first vs)) G (eval_all r call args p n o)
      args_tree G args_end [] first h p n o l = (h, l)
      args_tree G args_end (w ∷ ws) first h p n o l = absurd h
      args_tree G (args_more e rest) [] first h p n o l = absurd h
      args_tree G (args_more e rest) (w ∷ ws) first (he, hf, hr) p n o l =
          let E = Values S size env (λ G vs. ArgsAre S G (w ∷ ws) first vs) in
          and_value (λ G v. GivesA S G first v) E G _ _ (λ H m f n o l. l) (eval_tree G e first he p n o l) (λ H m v n o iv l.
          and_value (λ G vs. RestAre S G ws vs) E H _ _ (λ H m f n o l. l) (rest_tree H rest ws hr p n o l) (λ J m vs n o are l. ((hf, given_on S H J m first v iv, are), l)))

      rest_tree : (G : S.Known) (args : Expressions) (ws : List ResolvedPlace) → AreRest (heads_of r) env ws args → (p : At) (n : ℕ) (o : Own) → Fit S G size env o.locals → IsWell S (Values S size env (λ G vs. RestAre S G ws vs)) G (eval_all r call args p n o)
      rest_tree G args_end [] h p n o l = (tt, l)
      rest_tree G args_end (w ∷ ws) h p n o l = absurd h
      rest_tree G (args_more e rest) [] h p n o l = absurd h
      rest_tree G (args_more e rest) (w ∷ ws) (he, hr) p n o l =
          let E = Values S size env (λ G vs. RestAre S G (w ∷ ws) vs) in
          and_value (λ G v. GivesA S G he.0 v) E G _ _ (λ H m f n o l. l) (eval_tree G e he.0 he.1 p n o l) (λ H m v n o iv l.
          and_value (λ G vs. RestAre S G ws vs) E H _ _ (λ H m f n o l. l) (rest_tree H rest ws hr p n o l) (λ J m vs n o are l. (((he.0, he.2, given_on S H J m he.0 v iv), are), l)))

      tags_tree : (G : S.Known) (args : Expressions) → AreTagArgs (heads_of r) env args → (p : At) (n : ℕ) (o : Own) → Fit S G size env o.locals → IsWell S (Values S size env (λ G vs. AreTagValues S G vs)) G (eval_all r call args p n o)
      tags_tree G args_end h p n o l = (tt, l)
      tags_tree G (args_more e rest) (he, hr) p n o l =
          let E = Values S size env (λ G vs. AreTagValues S G vs) in
          and_value (λ G v. S.Is G tag v) E G _ _ (λ H m f n o l. l) (at_place G tag he.0 _ he.2 (eval_tree G e he.0 he.1 p n o l)) (λ H m v n o iv l.
          and_value (λ G vs. AreTagValues S G vs) E H _ _ (λ H m f n o l. l) (tags_tree H rest hr p n o l) (λ J m vs n o are l. ((S.is_on H J m tag v iv, are), l)))
