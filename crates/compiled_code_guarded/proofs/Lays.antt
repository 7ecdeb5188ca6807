-- The shapes of nested code are legal where it stands.
use Rattle.std.proofs.Common.{◌≡◌, ℕ, suc, ◌+◌, ◌<◌, ◌≤◌, List, [], ◌∷◌, ◌++◌, Option, Some, None, length, slice_get, refl, sym, ap, ◌∙◌, subst, arith, ⊎_elim, length-append}
use Rattle.std.proofs.lemmas.Bool.{cases_lt, lt-ltb}
use Rattle.std.proofs.lemmas.Option.{slice_get_within}
use Rattle.lam_value.specs.declared.values.Value.{Value}
use Rattle.lam_bytecode.specs.Codes.{CodeTree}
use Rattle.lam_bytecode.specs.declared.op.Op.{Op}
use Rattle.lam_bytecode.specs.declared.op.Op.TheVariants.{Const, Jump, JumpIfFalse, EnterRegion}
use Rattle.lam_bytecode.specs.declared.unit.CodeUnit.{CodeUnit}
use Rattle.lam_meaning_laws.specs.Nested.{Nested, no_code, does, puts, both, when, either, loops, enters}
use Rattle.lam_meaning_laws.proofs.Stands.{width, op_here, PutsAt, Stands}
use Rattle.guarded_code.specs.Descriptions.{starts}
use Rattle.thread_steps.specs.Next.{ops_in}
use Rattle.guarded_code.specs.Changes.{Change, Trades, change, goes, kind_of_value, constant_kind}
use Rattle.guarded_code.proofs.Tables.{some_inj}
use Rattle.compiled_code_guarded.specs.Layouts.{Shape, Finds, Follows, Leads, AllLead, StartsFit, IsLegal, IsLayout}
use Rattle.compiled_code_guarded.proofs.Runs.{Weakens, weakens_same, weakens_trans, follows_less, Joins, joins_weakens, Branches, OnlyNext, Steps, Runs, shapes}

-- ---- a list that stands in another

abbrev pub AllAt : {A : Type 0} → List A → ℕ → List A → Type 0
AllAt all pc [] = Unit {0}
AllAt all pc (x ∷ xs) = (slice_get all pc ≡ Some x) × AllAt all (pc + 1) xs

all_after : {A : Type 0} (y : A) (all : List A) (pc : ℕ) (xs : List A) → AllAt all pc xs → AllAt (y ∷ all) (suc pc) xs
all_after y all pc [] h = tt
all_after y all pc (x ∷ xs) h =
    let e : suc (pc + 1) ≡ suc pc + 1 = omega arith in
    (h.0, subst (λ k. AllAt (y ∷ all) k xs) e (all_after y all (pc + 1) xs h.1))

pub all_whole : {A : Type 0} (xs : List A) → AllAt xs 0 xs
all_whole [] = tt
all_whole (x ∷ xs) =
    let e : suc 0 ≡ 0 + 1 = omega arith in
    (refl, subst (λ k. AllAt (x ∷ xs) k xs) e (all_after x xs 0 xs (all_whole xs)))

pub all_front : {A : Type 0} (all : List A) (pc : ℕ) (xs ys : List A) → AllAt all pc (xs ++ ys) → AllAt all pc xs
all_front all pc [] ys h = tt
all_front all pc (x ∷ xs) ys h = (h.0, all_front all (pc + 1) xs ys h.1)

pub all_back : {A : Type 0} (all : List A) (pc to : ℕ) (xs ys : List A) → pc + length xs ≡ to → AllAt all pc (xs ++ ys) → AllAt all to ys
all_back all pc to [] ys e h = let z : pc ≡ to = omega (arith, e) in subst (λ k. AllAt all k ys) z h
all_back all pc to (x ∷ xs) ys e h = all_back all (pc + 1) to xs ys (omega (arith, e)) h.1

-- ---- as many shapes as operations

pub shapes_long : (code : CodeTree) (locals : ℕ) (c : Nested) (s t : Shape) (h : Runs code locals c s t) → length (shapes code locals c s t h) ≡ width c
shapes_long code locals (both a b) s t h =
    omega (arith, length-append (shapes code locals a s h.0 h.1) (shapes code locals b h.0 t h.2), shapes_long code locals a s h.0 h.1, shapes_long code locals b h.0 t h.2)
shapes_long code locals (when a) s t h = omega (arith, shapes_long code locals a h.0 h.1 h.4)
shapes_long code locals (either a b) s t h =
    omega (arith, length-append (shapes code locals a h.0 h.2 h.6) (h.2 ∷ shapes code locals b h.1 h.3 h.8), shapes_long code locals a h.0 h.2 h.6, shapes_long code locals b h.1 h.3 h.8)
shapes_long code locals (loops x b) s t h =
    let body = shapes code locals b h.1 h.2 h.6 in
    omega (arith, length-append (shapes code locals x s h.0 h.3) (h.0 ∷ (body ++ (h.2 ∷ []))), length-append body (h.2 ∷ []), shapes_long code locals x s h.0 h.3, shapes_long code locals b h.1 h.2 h.6)
shapes_long code locals c s t h = refl

-- u: the number of the unit
module _ (code : CodeTree) (u : ℕ) (it : CodeUnit) (ss : List Shape) where
  -- a shape stands there that says no more than s
  abbrev pub At : ℕ → Shape → Type 0
  At pc s = (x : Shape) × (slice_get ss pc ≡ Some x) × Weakens s x

  here : (pc : ℕ) (s : Shape) → slice_get ss pc ≡ Some s → At pc s
  here pc s e = (s, e, weakens_same s)

  less : (pc : ℕ) (s t : Shape) → Weakens s t → At pc t → At pc s
  less pc s t w h = (h.0, h.1, weakens_trans s t h.0 w h.2)

  pub at_same : (pc to : ℕ) (s : Shape) → pc ≡ to → At pc s → At to s
  at_same pc to s e h = subst (λ k. At k s) e h

  -- so many addresses from there on are legal
  abbrev pub Range : ℕ → ℕ → Type 0
  Range pc n = (a : ℕ) → pc ≤ a → a < pc + n → (o : Op) (s : Shape) → op_here code u a ≡ Some o → slice_get ss a ≡ Some s → IsLegal code it ss a o s

  pub range_one : (pc : ℕ) (o : Op) (s : Shape) → op_here code u pc ≡ Some o → slice_get ss pc ≡ Some s → IsLegal code it ss pc o s → Range pc 1
  range_one pc o s eo es h a le lt o' s' eo' es' =
      let same : pc ≡ a = omega (arith, le, lt) in
      let one : o ≡ o' = some_inj (sym eo ∙ ap (op_here code u) same ∙ eo') in
      let two : s ≡ s' = some_inj (sym es ∙ ap (slice_get ss) same ∙ es') in
      subst (λ x. IsLegal code it ss a o' x) two (subst (λ x. IsLegal code it ss a x s) one (subst (λ x. IsLegal code it ss x o s) same h))

  pub range_add : (pc m n : ℕ) → Range pc m → Range (pc + m) n → Range pc (m + n)
  range_add pc m n p q a le lt o s eo es =
      ⊎_elim (λ below. p a le below o s eo es) (λ above. q a above (omega (arith, lt)) o s eo es) (cases_lt a (pc + m))

  -- the same addresses, counted otherwise
  pub range_same : (pc to m n : ℕ) → pc ≡ to → m ≡ n → Range pc m → Range to n
  range_same pc to m n e f r = subst (λ k. Range k n) e (subst (λ k. Range pc k) f r)

  -- ---- single operations

  leads_to : (c : Change) (s t : Shape) (b : ℕ) → Follows c s t → At b t → Leads ss c s b
  leads_to c s t b f h = (h.0, h.1, follows_less c s t h.0 f h.2)

  leads_next : (c : Change) (s t : Shape) (next : ℕ) (bs : List ℕ) → OnlyNext next (Follows c s t) bs → At next t → AllLead ss c s bs
  leads_next c s t next [] o h = tt
  leads_next c s t next (b ∷ bs) o h = (leads_to c s t b o.1 (at_same next b t (sym o.0) h), leads_next c s t next bs o.2 h)

  step_range : (pc : ℕ) (o : Op) (s t : Shape) → op_here code u pc ≡ Some o → slice_get ss pc ≡ Some s → Steps code it.locals o s t → At (pc + 1) t → Range pc 1
  step_range pc o s t eo es h next = range_one pc o s eo es (record { finds = h.0; leads = leads_next (change code o) s t (pc + 1) (goes pc o) (h.1 pc) next })

  put_range : (pc : ℕ) (v : Value) (s t : Shape) → PutsAt code u pc v → slice_get ss pc ≡ Some s → Follows (Trades [] (Some (kind_of_value v))) s t → At (pc + 1) t → Range pc 1
  put_range pc v s t p es f next =
      let within = slice_get_within code.constants p.0 v p.2 in
      let kind = sym (ap constant_kind p.2) in
      range_one pc (Const p.0) s p.1 es
      (record {
        finds = record { names = lt-ltb p.0 (length code.constants) within; takes = tt; compares = tt; behind = tt };
        leads = (leads_to (Trades [] (Some (constant_kind (slice_get code.constants p.0)))) s t (pc + 1) (subst (λ k. Follows (Trades [] (Some k)) s t) kind f) next, tt);
      })

  jump_range : (pc to : ℕ) (s t : Shape) → op_here code u pc ≡ Some (Jump to) → slice_get ss pc ≡ Some s → Joins s t → At to t → Range pc 1
  jump_range pc to s t eo es j h =
      range_one pc (Jump to) s eo es (record { finds = record { names = refl; takes = tt; compares = tt; behind = tt }; leads = (leads_to (Trades [] None) s t to j h, tt) })

  branch_range : (pc to : ℕ) (s t n : Shape) → op_here code u pc ≡ Some (JumpIfFalse to) → slice_get ss pc ≡ Some s → Branches s t → Branches s n → At (pc + 1) t → At to n → Range pc 1
  branch_range pc to s t n eo es b d next other =
      range_one pc (JumpIfFalse to) s eo es
      (record {
        finds = record { names = refl; takes = b.0; compares = tt; behind = tt };
        leads = (leads_to (change code (JumpIfFalse to)) s t (pc + 1) b.1 next, (leads_to (change code (JumpIfFalse to)) s n to d.1 other, tt));
      })

  -- ---- nested code

  abbrev Code : Nested → Shape → Shape → Type 0
  Code c s t = Runs code it.locals c s t

  abbrev table : (c : Nested) (s t : Shape) → Code c s t → List Shape
  table c s t h = shapes code it.locals c s t h

  long : (pc to : ℕ) (c : Nested) (s t : Shape) (h : Code c s t) → pc + width c ≡ to → pc + length (table c s t h) ≡ to
  long pc to c s t h e = omega (arith, e, shapes_long code it.locals c s t h)

  -- the shape at its first address, or at the one behind where it has none
  pub entry_at : (c : Nested) (pc : ℕ) (s t : Shape) (h : Code c s t) → AllAt ss pc (table c s t h) → At (pc + width c) t → At pc s
  entry_at no_code pc s t h all exit = subst (λ x. At pc x) (sym h) (at_same (pc + 0) pc t (omega arith) exit)
  entry_at (both a b) pc s t h all exit =
      let front = all_front ss pc (table a s h.0 h.1) (table b h.0 t h.2) all in
      let back = all_back ss pc (pc + width a) (table a s h.0 h.1) (table b h.0 t h.2) (long pc (pc + width a) a s h.0 h.1 refl) all in
      entry_at a pc s h.0 h.1 front (entry_at b (pc + width a) h.0 t h.2 back (at_same (pc + (width a + width b)) (pc + width a + width b) t (omega arith) exit))
  entry_at (loops x b) pc s t h all exit =
      let rest = h.0 ∷ (table b h.1 h.2 h.6 ++ (h.2 ∷ [])) in
      let back = all_back ss pc (pc + width x) (table x s h.0 h.3) rest (long pc (pc + width x) x s h.0 h.3 refl) all in
      entry_at x pc s h.0 h.3 (all_front ss pc (table x s h.0 h.3) rest all) (here (pc + width x) h.0 back.0)
  entry_at c pc s t h all exit = here pc s all.0

  -- where it stands, with what follows it behind, all its addresses are legal
  pub lays : (c : Nested) (pc : ℕ) (s t : Shape) (h : Code c s t) → Stands code u pc c → AllAt ss pc (table c s t h) → At (pc + width c) t → Range pc (width c)
  lays no_code pc s t h st all exit = λ a le lt o x eo ex. absurd (omega (arith, le, lt))
  lays (does o) pc s t h st all exit = step_range pc o s t st all.0 h exit
  lays (puts v) pc s t h st all exit = put_range pc v s t st all.0 h exit
  lays (both a b) pc s t h st all exit =
      let front = all_front ss pc (table a s h.0 h.1) (table b h.0 t h.2) all in
      let back = all_back ss pc (pc + width a) (table a s h.0 h.1) (table b h.0 t h.2) (long pc (pc + width a) a s h.0 h.1 refl) all in
      let end = at_same (pc + (width a + width b)) (pc + width a + width b) t (omega arith) exit in
      range_add pc (width a) (width b)
      (lays a pc s h.0 h.1 st.0 front (entry_at b (pc + width a) h.0 t h.2 back end))
      (lays b (pc + width a) h.0 t h.2 st.1 back end)
  lays (when a) pc s t h st all exit =
      let end = at_same (pc + (1 + width a)) (pc + 1 + width a) t (omega arith) exit in
      let inner = less (pc + 1 + width a) h.1 t (joins_weakens h.1 t h.5) end in
      range_add pc 1 (width a)
      (branch_range pc (pc + 1 + width a) s h.0 t st.0 all.0 h.2 h.3 (entry_at a (pc + 1) h.0 h.1 h.4 all.1 inner) end)
      (lays a (pc + 1) h.0 h.1 h.4 st.2 all.1 inner)
  lays (either a b) pc s t h st all exit =
      let jump = pc + 1 + width a in
      let front = all_front ss (pc + 1) (table a h.0 h.2 h.6) (h.2 ∷ table b h.1 h.3 h.8) all.1 in
      let back = all_back ss (pc + 1) jump (table a h.0 h.2 h.6) (h.2 ∷ table b h.1 h.3 h.8) (long (pc + 1) jump a h.0 h.2 h.6 refl) all.1 in
      let end = at_same (pc + (1 + width a + 1 + width b)) (jump + 1 + width b) t (omega arith) exit in
      let inner = here jump h.2 back.0 in
      let other = less (jump + 1 + width b) h.3 t (joins_weakens h.3 t h.9) end in
      range_same pc pc (1 + (width a + (1 + width b))) (1 + width a + 1 + width b) refl (omega arith)
      (range_add pc 1 (width a + (1 + width b))
      (branch_range pc (jump + 1) s h.0 h.1 st.0 all.0 h.4 h.5 (entry_at a (pc + 1) h.0 h.2 h.6 front inner) (entry_at b (jump + 1) h.1 h.3 h.8 back.1 other))
      (range_add (pc + 1) (width a) (1 + width b)
      (lays a (pc + 1) h.0 h.2 h.6 st.2 front inner)
      (range_add jump 1 (width b)
      (jump_range jump (jump + 1 + width b) h.2 t st.3 back.0 h.7 end)
      (lays b (jump + 1) h.1 h.3 h.8 st.5 back.1 other))))
  lays (loops x b) pc s t h st all exit =
      let test = pc + width x in
      let jump = test + 1 + width b in
      let body = table b h.1 h.2 h.6 ++ (h.2 ∷ []) in
      let front = all_front ss pc (table x s h.0 h.3) (h.0 ∷ body) all in
      let back = all_back ss pc test (table x s h.0 h.3) (h.0 ∷ body) (long pc test x s h.0 h.3 refl) all in
      let inside = all_front ss (test + 1) (table b h.1 h.2 h.6) (h.2 ∷ []) back.1 in
      let last = all_back ss (test + 1) jump (table b h.1 h.2 h.6) (h.2 ∷ []) (long (test + 1) jump b h.1 h.2 h.6 refl) back.1 in
      let end = at_same (pc + (width x + 1 + width b + 1)) (jump + 1) t (omega arith) exit in
      let first = entry_at x pc s h.0 h.3 front (here test h.0 back.0) in
      range_same pc pc (width x + (1 + (width b + 1))) (width x + 1 + width b + 1) refl (omega arith)
      (range_add pc (width x) (1 + (width b + 1))
      (lays x pc s h.0 h.3 st.0 front (here test h.0 back.0))
      (range_add test 1 (width b + 1)
      (branch_range test (jump + 1) h.0 h.1 t st.1 back.0 h.4 h.5 (entry_at b (test + 1) h.1 h.2 h.6 inside (here jump h.2 last.0)) end)
      (range_add (test + 1) (width b) 1
      (lays b (test + 1) h.1 h.2 h.6 st.3 inside (here jump h.2 last.0))
      (jump_range jump pc h.2 s st.4 last.0 h.7 first))))
  lays (enters number captures slots body handler) pc s t h st all exit = step_range pc (EnterRegion number) s t st.0 all.0 h exit

-- an operation that ends a unit or leaves it
abbrev pub Closes : CodeTree → ℕ → Op → Shape → Type 0
Closes code locals o s = Finds code locals o s × ((a : ℕ) → goes a o ≡ [])

-- ---- a unit of nested code and a last operation has a layout

module _ (code : CodeTree) (u : ℕ) (it : CodeUnit) (there : slice_get code.units u ≡ Some it) where
  abbrev pub whole : (c : Nested) (s t : Shape) → Runs code it.locals c s t → List Shape
  whole c s t h = shapes code it.locals c s t h ++ (t ∷ [])

  pub last_at : (c : Nested) (s t : Shape) (h : Runs code it.locals c s t) → AllAt (whole c s t h) (0 + width c) (t ∷ [])
  last_at c s t h =
      all_back (whole c s t h) 0 (0 + width c) (shapes code it.locals c s t h) (t ∷ []) (omega (arith, shapes_long code it.locals c s t h)) (all_whole (whole c s t h))

  pub front_at : (c : Nested) (s t : Shape) (h : Runs code it.locals c s t) → AllAt (whole c s t h) 0 (shapes code it.locals c s t h)
  front_at c s t h = all_front (whole c s t h) 0 (shapes code it.locals c s t h) (t ∷ []) (all_whole (whole c s t h))

  pub exit_at : (c : Nested) (s t : Shape) (h : Runs code it.locals c s t) → At code u it (whole c s t h) (0 + width c) t
  exit_at c s t h = (t, (last_at c s t h).0, weakens_same t)

  pub unit_laid_out : (c : Nested) (last : Op) (s t : Shape) (h : Runs code it.locals c s t) → Stands code u 0 c → op_here code u (0 + width c) ≡ Some last → Closes code it.locals last t → length it.ops ≡ width c + 1 →
      StartsFit it.locals (whole c s t h) (starts it) → IsLayout code it (whole c s t h)
  unit_laid_out c last s t h stands at_last closes size started =
      let ss = whole c s t h in
      let all = range_add code u it ss 0 (width c) 1
      (lays code u it ss c 0 s t h stands (front_at c s t h) (exit_at c s t h))
      (range_one code u it ss (0 + width c) last t at_last (last_at c s t h).0 (record { finds = closes.0; leads = subst (λ bs. AllLead ss (change code last) t bs) (sym (closes.1 (0 + width c))) tt })) in
      record {
        size = omega (arith, length-append (shapes code it.locals c s t h) (t ∷ []), shapes_long code it.locals c s t h, size);
        started = started;
        legal = λ a o x eo ex. let within = slice_get_within it.ops a o eo in
            all a (omega arith) (omega (arith, within, size)) o x (ap (λ (v : Option CodeUnit). slice_get (ops_in v) a) there ∙ eo) ex;
      }
