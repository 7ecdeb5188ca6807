-- A statement is typed exactly where there is no break in it, with the counts of the tree.
use Rattle.std.proofs.Common.{◌≡◌, ℕ, ◌+◌, ◌<◌, ◌≤◌, nat_lt, Bool, true, false, cond, List, [], ◌∷◌, length, Option, Some, None, is_some, refl, sym, ap, ◌∙◌, subst, arith}
use Rattle.std.proofs.lemmas.Bool.Decides.{nat_tests}
use Rattle.lam_syntax.specs.Tree.{IdTree, ExprTree, stmt_node, StmtForm, let_stmt, if_stmt, while_stmt, return_stmt, throw_stmt, sync_stmt, region_stmt, do_stmt, assign_stmt, StmtList, no_stmts, stmts, ElseTree, no_else, else_block}
use Rattle.lam_operators.specs.Words.{Word}
use Rattle.lam_builtins.specs.Types.{ValueType, int, bool, label, caps, Given, a_value, a_null, nothing, given_type, Place, exactly, any_object}
use Rattle.lam_types_kinds.specs.Written.{written}
use Rattle.lam_types_kinds.specs.Verdicts.{Fine, Stop, then_on}
use Rattle.lam_types_kinds.specs.Breaks.{Break, too_many, Verdict, mismatch_of}
use Rattle.lam_types_kinds.specs.Tables.{Names, Decls, find, fresh, twice_if, room, named_if, type_known}
use Rattle.lam_types_exprs.specs.Exprs.{at_of, placed, given_of}
use Rattle.lam_types_exprs.specs.Judgement.{IsGiven}
use Rattle.lam_types_exprs.proofs.Law.{on, then_back, fine_is, named_fine, named_back, declared_fine, declared_back, given_fine, given_back, fits_fine, fits_back}
use Rattle.lam_types.specs.declared.stmts.Counts.{Counts}
use Rattle.lam_types.specs.Stmts.{stands, one_slot, one_region, back_in, with_local, new_local, capture, captured, returned, is_place, place_type, assigned, State, head_checked, closed, form_checked, else_checked, stmts_checked}
use Rattle.lam_types.specs.Judgement.{slots_in, slots_or, slots_of, regions_in, regions_or, regions_of, IsNew, Stands, Returns, AllInScope, after, IsStmt, IsElse, IsBlock}

-- ---- pieces

pub stands_fine : (d : Decls) (env : Names) (p : Place) (e : ExprTree) → Stands d env p e → stands d env p e ≡ Fine tt
unfolding stands
stands_fine d env p e h = on (placed (at_of e) p (given_of d env e)) h.0 (λ _. Fine tt) (Fine tt) (fits_fine d env p e h) refl

pub stands_back : (d : Decls) (env : Names) (p : Place) (e : ExprTree) (u : Unit {0}) → stands d env p e ≡ Fine u → Stands d env p e
unfolding stands
stands_back d env p e u h = let q = then_back (placed (at_of e) p (given_of d env e)) (λ _. Fine tt) u h in fits_back d env p e q.0 q.1

lt_is : (n m : ℕ) → n < m → nat_lt n m ≡ true
lt_is n m h = grind (arith, nat_tests)

lt_back : (n m : ℕ) → nat_lt n m ≡ true → n < m
lt_back n m h = grind (arith, nat_tests)

pub room_fine : (at limit n : ℕ) → n < limit → room at limit n ≡ Fine tt
room_fine at limit n h = ap (λ b. cond b (Fine tt) (Stop (too_many at))) (lt_is n limit h)

test_is : (b : Bool) (s : Break) (u : Unit {0}) → cond b (Fine tt) (Stop s) ≡ Fine u → b ≡ true
test_is true s u e = refl
test_is false s u e = absurd cc

pub room_back : (at limit n : ℕ) (u : Unit {0}) → room at limit n ≡ Fine u → n < limit
room_back at limit n u e = lt_back n limit (test_is (nat_lt n limit) (too_many at) u e)

pub fresh_fine : {A : Type 0} (es : List (Word × A)) (x : IdTree) → IsNew x.word es → fresh es x ≡ Fine tt
fresh_fine es x e = ap (λ (o : Option _). twice_if (is_some o) x.at) e

none_of : {A : Type 0} (o : Option A) (at : ℕ) (u : Unit {0}) → twice_if (is_some o) at ≡ Fine u → o ≡ None
none_of None at u e = refl
none_of (Some a) at u e = absurd cc

pub fresh_back : {A : Type 0} (es : List (Word × A)) (x : IdTree) (u : Unit {0}) → fresh es x ≡ Fine u → IsNew x.word es
fresh_back es x u e = none_of (find x.word es) x.at u e

-- counts that go on by so many slots and regions
abbrev pub more : Counts → ℕ → ℕ → Counts
more c s r = record { slots = c.slots + s; regions = c.regions + r }

pub same_counts : (c e : Counts) → c.slots ≡ e.slots → c.regions ≡ e.regions → c ≡ e
same_counts c e p q = λ i. record { slots = p i; regions = q i }

slot_fine : (at : ℕ) (c : Counts) → c.slots < 1024 → one_slot at c ≡ Fine (record { slots = c.slots + 1; regions = c.regions })
slot_fine at c h = on (room at 1024 c.slots) tt (λ _. Fine (record { slots = c.slots + 1; regions = c.regions })) (Fine (record { slots = c.slots + 1; regions = c.regions })) (room_fine at 1024 c.slots h) refl

slot_back : (at : ℕ) (c e : Counts) → one_slot at c ≡ Fine e → (c.slots < 1024) × (e ≡ record { slots = c.slots + 1; regions = c.regions })
slot_back at c e h =
    let p = then_back (room at 1024 c.slots) (λ _. Fine (record { slots = c.slots + 1; regions = c.regions })) e h in
    (room_back at 1024 c.slots p.0 p.1, sym (fine_is (record { slots = c.slots + 1; regions = c.regions }) e p.2))

region_fine : (at : ℕ) (c : Counts) → c.regions < 4096 → one_region at c ≡ Fine (record { slots = 0; regions = c.regions + 1 })
region_fine at c h = on (room at 4096 c.regions) tt (λ _. Fine (record { slots = 0; regions = c.regions + 1 })) (Fine (record { slots = 0; regions = c.regions + 1 })) (room_fine at 4096 c.regions h) refl

region_back : (at : ℕ) (c e : Counts) → one_region at c ≡ Fine e → (c.regions < 4096) × (e ≡ record { slots = 0; regions = c.regions + 1 })
region_back at c e h =
    let p = then_back (room at 4096 c.regions) (λ _. Fine (record { slots = 0; regions = c.regions + 1 })) e h in
    (room_back at 4096 c.regions p.0 p.1, sym (fine_is (record { slots = 0; regions = c.regions + 1 }) e p.2))

local_fine : (env : Names) (c : Counts) (x : IdTree) → IsNew x.word env → c.slots < 1024 → new_local env c x ≡ Fine (record { slots = c.slots + 1; regions = c.regions })
local_fine env c x n h = on (fresh env x) tt (λ _. one_slot x.at c) (Fine (record { slots = c.slots + 1; regions = c.regions })) (fresh_fine env x n) (slot_fine x.at c h)

local_back : (env : Names) (c e : Counts) (x : IdTree) → new_local env c x ≡ Fine e → IsNew x.word env × (c.slots < 1024) × (e ≡ record { slots = c.slots + 1; regions = c.regions })
local_back env c e x h =
    let p = then_back (fresh env x) (λ _. one_slot x.at c) e h in
    let q = slot_back x.at c e p.2 in (fresh_back env x p.0 p.1, q.0, q.1)

captured_fine : (env : Names) (c : Counts) (xs : List IdTree) → AllInScope env xs → c.slots + length xs ≤ 1024 → captured env c xs ≡ Fine (record { slots = c.slots + length xs; regions = c.regions })
captured_fine env c [] h l = ap Fine (same_counts c (record { slots = c.slots + 0; regions = c.regions }) (omega arith) refl)
captured_fine env c (x ∷ xs) ((t, p), h) l =
    let one : Counts = record { slots = c.slots + 1; regions = c.regions } in
    on (capture env c x) one (λ c. captured env c xs) (Fine (record { slots = c.slots + length (x ∷ xs); regions = c.regions }))
    (on (named_if (is_some (find x.word env)) x.at) tt (λ _. one_slot x.at c) (Fine one) (named_fine x.at (find x.word env) t p) (slot_fine x.at c (omega arith)))
    (captured_fine env one xs h (omega arith) ∙ ap Fine (same_counts (record { slots = c.slots + 1 + length xs; regions = c.regions }) (record { slots = c.slots + length (x ∷ xs); regions = c.regions }) (omega arith) refl))

captured_back : (env : Names) (c e : Counts) (xs : List IdTree) → c.slots ≤ 1024 → captured env c xs ≡ Fine e →
    AllInScope env xs × (c.slots + length xs ≤ 1024) × (e ≡ record { slots = c.slots + length xs; regions = c.regions })
captured_back env c e [] l h = (tt, omega arith, sym (fine_is c e h) ∙ same_counts c (record { slots = c.slots + 0; regions = c.regions }) (omega arith) refl)
captured_back env c e (x ∷ xs) l h =
    let one : Counts = record { slots = c.slots + 1; regions = c.regions } in
    let p = then_back (capture env c x) (λ c. captured env c xs) e h in
    let q = then_back (named_if (is_some (find x.word env)) x.at) (λ _. one_slot x.at c) p.0 p.1 in
    let s = slot_back x.at c p.0 q.2 in
    let r = captured_back env one e xs (omega (arith, s.0)) (ap (λ (c : Counts). captured env c xs) (sym s.1) ∙ p.2) in
    ((named_back x.at (find x.word env) q.0 q.1, r.0), omega (arith, r.1), r.2 ∙ same_counts (record { slots = c.slots + 1 + length xs; regions = c.regions }) (record { slots = c.slots + length (x ∷ xs); regions = c.regions }) (omega arith) refl)

returned_fine : (d : Decls) (res : Option ValueType) (env : Names) (at : ℕ) (e : Option ExprTree) → Returns d res env e → returned d res env at e ≡ Fine tt
returned_fine d None env at None h = refl
returned_fine d (Some t) env at (Some e) h = stands_fine d env (exactly t) e h
returned_fine d None env at (Some e) h = absurd h
returned_fine d (Some t) env at None h = absurd h

returned_back : (d : Decls) (res : Option ValueType) (env : Names) (at : ℕ) (e : Option ExprTree) (u : Unit {0}) → returned d res env at e ≡ Fine u → Returns d res env e
returned_back d None env at None u h = tt
returned_back d (Some t) env at (Some e) u h = stands_back d env (exactly t) e u h
returned_back d None env at (Some e) u h =
    let p = then_back (given_of d env e) (λ g. Stop (mismatch_of (at_of e) None (given_type g))) u h in absurd (stopped p.0 p.2)
  where
    stopped : (g : Given) → ◌≡◌ {A = Verdict (Unit {0})} (Stop (mismatch_of (at_of e) None (given_type g))) (Fine u) → ⊥
    stopped g e = cc
returned_back d (Some t) env at None u h = absurd cc

assigned_back : (d : Decls) (env : Names) (at : ℕ) (b : Bool) (g : Given) (e : ExprTree) (u : Unit {0}) → assigned d env at g (place_type b g) e ≡ Fine u → (t : ValueType) × (b ≡ true) × (g ≡ a_value t) × Stands d env (exactly t) e
assigned_back d env at true (a_value t) e u h = (t, refl, refl, stands_back d env (exactly t) e u h)
assigned_back d env at true a_null e u h = absurd cc
assigned_back d env at true nothing e u h = absurd cc
assigned_back d env at false g e u h = absurd cc

pub closed_fine : (v : Verdict State) (s : State) → v ≡ Fine s → closed v ≡ Fine s.1
unfolding closed
closed_fine v s e = ap (λ (v : Verdict State). then_on v (λ s. Fine s.1)) e

pub closed_back : (v : Verdict State) (c : Counts) → closed v ≡ Fine c → (env : Names) × (v ≡ Fine (env, c))
unfolding closed
closed_back v c e = let p = then_back v (λ s. Fine s.1) c e in (p.0.0, p.1 ∙ ap (λ (k : Counts). Fine (p.0.0, k)) (fine_is p.0.1 c p.2))

abbrev pub after_all : Names → StmtList → Names
after_all env no_stmts = env
after_all env (stmts (stmt_node at form) rest) = after_all (after env form) rest

-- a last check, after which the names are those of before
keep : (env : Names) (v : Verdict Counts) (c : Counts) → v ≡ Fine c → then_on {B = State} v (λ c. Fine (env, c)) ≡ Fine (env, c)
keep env v c e = ap (λ (v : Verdict Counts). then_on {B = State} v (λ c. Fine (env, c))) e

keep_back : (env : Names) (v : Verdict Counts) (s : State) → then_on {B = State} v (λ c. Fine (env, c)) ≡ Fine s → (c : Counts) × (v ≡ Fine c) × (s ≡ (env, c))
keep_back env v s h = let p = then_back v (λ c. Fine (env, c)) s h in (p.0, p.1, sym (fine_is (env, p.0) s p.2))

-- the same where nothing is counted
stay : (env : Names) (c : Counts) (v : Verdict (Unit {0})) (u : Unit {0}) → v ≡ Fine u → then_on {B = State} v (λ _. Fine (env, c)) ≡ Fine (env, c)
stay env c v u e = ap (λ (v : Verdict (Unit {0})). then_on {B = State} v (λ _. Fine (env, c))) e

none_more : (env : Names) (c : Counts) → ◌≡◌ {A = Verdict State} (Fine (env, c)) (Fine (env, more c 0 0))
none_more env c = ap (λ (k : Counts). Fine (env, k)) (same_counts c (more c 0 0) (omega arith) (omega arith))

-- ---- what is typed has no break

pub assign_fine : (d : Decls) (env : Names) (c : Counts) (p e : ExprTree) → (t : ValueType) × (is_place p ≡ true) × IsGiven d env p (a_value t) × Stands d env (exactly t) e →
    then_on {B = State} (given_of d env p) (λ g. then_on {B = State} (assigned d env (at_of p) g (place_type (is_place p) g) e) (λ _. Fine (env, c))) ≡ Fine (env, c)
assign_fine d env c p e (t, i, g, s) =
    on (given_of d env p) (a_value t) (λ g. then_on {B = State} (assigned d env (at_of p) g (place_type (is_place p) g) e) (λ _. Fine (env, c))) (Fine (env, c)) (given_fine d env p (a_value t) g)
    (ap (λ b. then_on {B = State} (assigned d env (at_of p) (a_value t) (place_type b (a_value t)) e) (λ _. Fine (env, c))) i ∙ stay env c (stands d env (exactly t) e) tt (stands_fine d env (exactly t) e s))

mutual
  form_fine : (d : Decls) (res : Option ValueType) (env : Names) (c : Counts) (at : ℕ) (form : StmtForm) → IsStmt d res env form → c.slots + slots_in form ≤ 1024 → c.regions + regions_in form ≤ 4096 →
      form_checked d res env c at form ≡ Fine (after env form, more c (slots_in form) (regions_in form))
  form_fine d res env c at (let_stmt x e) (n, t, s) a b =
      let one : Counts = record { slots = c.slots + 1; regions = c.regions } in
      on (new_local env c x.name) one (λ c. then_on (type_known d x.ty) (λ _. then_on (stands d env (exactly (written x.ty)) e) (λ _. Fine (with_local env x.name.word (written x.ty), c)))) (Fine (with_local env x.name.word (written x.ty), more c 1 0))
      (local_fine env c x.name n (omega arith))
      (on (type_known d x.ty) tt (λ _. then_on (stands d env (exactly (written x.ty)) e) (λ _. Fine (with_local env x.name.word (written x.ty), one))) (Fine (with_local env x.name.word (written x.ty), more c 1 0)) (declared_fine d x.ty t)
      (on (stands d env (exactly (written x.ty)) e) tt (λ _. Fine (with_local env x.name.word (written x.ty), one)) (Fine (with_local env x.name.word (written x.ty), more c 1 0)) (stands_fine d env (exactly (written x.ty)) e s)
      (ap (λ (k : Counts). Fine (with_local env x.name.word (written x.ty), k)) (same_counts one (more c 1 0) refl (omega arith)))))
  form_fine d res env c at (if_stmt e first other) (s, y, n) a b =
      let mid = more c (slots_of first) (regions_of first) in
      on (then_on (stands d env (exactly bool) e) (λ _. closed (stmts_checked d res env c first))) mid (λ c. then_on (else_checked d res env c other) (λ c. Fine (env, c))) (Fine (env, more c (slots_of first + slots_or other) (regions_of first + regions_or other)))
      (on (stands d env (exactly bool) e) tt (λ _. closed (stmts_checked d res env c first)) (Fine mid) (stands_fine d env (exactly bool) e s)
      (closed_fine (stmts_checked d res env c first) (after_all env first, mid) (block_fine d res env c first y (omega arith) (omega arith))))
      (keep env (else_checked d res env mid other) (more mid (slots_or other) (regions_or other)) (else_fine d res env mid other n (omega arith) (omega arith)) ∙
      ap (λ (k : Counts). Fine (env, k)) (same_counts (more mid (slots_or other) (regions_or other)) (more c (slots_of first + slots_or other) (regions_of first + regions_or other)) (omega arith) (omega arith)))
  form_fine d res env c at (while_stmt e body) (s, y) a b =
      keep env (then_on (stands d env (exactly bool) e) (λ _. closed (stmts_checked d res env c body))) (more c (slots_of body) (regions_of body))
      (on (stands d env (exactly bool) e) tt (λ _. closed (stmts_checked d res env c body)) (Fine (more c (slots_of body) (regions_of body))) (stands_fine d env (exactly bool) e s)
      (closed_fine (stmts_checked d res env c body) (after_all env body, more c (slots_of body) (regions_of body)) (block_fine d res env c body y a b)))
  form_fine d res env c at (return_stmt e) h a b = stay env c (returned d res env at e) tt (returned_fine d res env at e h) ∙ none_more env c
  form_fine d res env c at (throw_stmt e) h a b = stay env c (stands d env (exactly int) e) tt (stands_fine d env (exactly int) e h) ∙ none_more env c
  form_fine d res env c at (sync_stmt e body) (s, y) a b =
      let one : Counts = record { slots = c.slots + 1; regions = c.regions } in
      let last = more one (slots_of body) (regions_of body) in
      keep env (then_on (one_slot at c) (λ c. then_on (stands d env any_object e) (λ _. closed (stmts_checked d res env c body)))) last
      (on (one_slot at c) one (λ c. then_on (stands d env any_object e) (λ _. closed (stmts_checked d res env c body))) (Fine last) (slot_fine at c (omega arith))
      (on (stands d env any_object e) tt (λ _. closed (stmts_checked d res env one body)) (Fine last) (stands_fine d env any_object e s)
      (closed_fine (stmts_checked d res env one body) (after_all env body, last) (block_fine d res env one body y (omega arith) (omega arith))))) ∙
      ap (λ (k : Counts). Fine (env, k)) (same_counts last (more c (1 + slots_of body) (regions_of body)) (omega arith) refl)
  form_fine d res env c at (region_stmt l k xs body x handler) (p, q, i, y, n, z, m) a b =
      let start : Counts = record { slots = 0; regions = c.regions + 1 } in
      let head : Counts = record { slots = 0 + length xs; regions = c.regions + 1 } in
      let inner = more head (slots_of body) (regions_of body) in
      let named : Counts = record { slots = inner.slots + 1; regions = inner.regions } in
      let last = more named (slots_of handler) (regions_of handler) in
      let inside = with_local env x.word int in
      let goal : Counts = more c 0 (1 + regions_of body + regions_of handler) in
      on (then_on (head_checked d env c at l k xs) (λ c. closed (stmts_checked d res env c body))) inner (λ inner. then_on (then_on (new_local env inner x) (λ c. closed (stmts_checked d res inside c handler))) (λ inner. Fine (env, back_in c inner))) (Fine (env, goal))
      (on (head_checked d env c at l k xs) head (λ c. closed (stmts_checked d res env c body)) (Fine inner)
      (on (one_region at c) start (λ c. then_on (stands d env (exactly label) l) (λ _. then_on (stands d env (exactly caps) k) (λ _. captured env c xs))) (Fine head) (region_fine at c (omega arith))
      (on (stands d env (exactly label) l) tt (λ _. then_on (stands d env (exactly caps) k) (λ _. captured env start xs)) (Fine head) (stands_fine d env (exactly label) l p)
      (on (stands d env (exactly caps) k) tt (λ _. captured env start xs) (Fine head) (stands_fine d env (exactly caps) k q) (captured_fine env start xs i (omega arith)))))
      (closed_fine (stmts_checked d res env head body) (after_all env body, inner) (block_fine d res env head body y (omega arith) (omega arith))))
      (on (then_on (new_local env inner x) (λ c. closed (stmts_checked d res inside c handler))) last (λ inner. Fine (env, back_in c inner)) (Fine (env, goal))
      (on (new_local env inner x) named (λ c. closed (stmts_checked d res inside c handler)) (Fine last) (local_fine env inner x n (omega arith))
      (closed_fine (stmts_checked d res inside named handler) (after_all inside handler, last) (block_fine d res inside named handler z (omega arith) (omega arith))))
      (ap (λ (k : Counts). Fine (env, k)) (same_counts (back_in c last) goal (omega arith) (omega arith))))
  form_fine d res env c at (do_stmt e) (g, h) a b =
      on (given_of d env e) g (λ _. Fine (env, c)) (Fine (env, more c 0 0)) (given_fine d env e g h) (none_more env c)
  form_fine d res env c at (assign_stmt p e) h a b = assign_fine d env c p e h ∙ none_more env c

  else_fine : (d : Decls) (res : Option ValueType) (env : Names) (c : Counts) (other : ElseTree) → IsElse d res env other → c.slots + slots_or other ≤ 1024 → c.regions + regions_or other ≤ 4096 →
      else_checked d res env c other ≡ Fine (more c (slots_or other) (regions_or other))
  else_fine d res env c no_else h a b = ap Fine (same_counts c (more c 0 0) (omega arith) (omega arith))
  else_fine d res env c (else_block body) h a b =
      closed_fine (stmts_checked d res env c body) (after_all env body, more c (slots_of body) (regions_of body)) (block_fine d res env c body h a b)

  pub block_fine : (d : Decls) (res : Option ValueType) (env : Names) (c : Counts) (body : StmtList) → IsBlock d res env body → c.slots + slots_of body ≤ 1024 → c.regions + regions_of body ≤ 4096 →
      stmts_checked d res env c body ≡ Fine (after_all env body, more c (slots_of body) (regions_of body))
  block_fine d res env c no_stmts h a b = none_more env c
  block_fine d res env c (stmts (stmt_node at form) rest) (h, r) a b =
      let mid = more c (slots_in form) (regions_in form) in
      on (form_checked d res env c at form) (after env form, mid) (λ s. stmts_checked d res s.0 s.1 rest) (Fine (after_all (after env form) rest, more c (slots_in form + slots_of rest) (regions_in form + regions_of rest)))
      (form_fine d res env c at form h (omega arith) (omega arith))
      (block_fine d res (after env form) mid rest r (omega arith) (omega arith) ∙
      ap (λ (k : Counts). Fine (after_all (after env form) rest, k)) (same_counts (more mid (slots_of rest) (regions_of rest)) (more c (slots_in form + slots_of rest) (regions_in form + regions_of rest)) (omega arith) (omega arith)))

-- ---- and back

-- the counts after a part fit, and are those before with the part's own
pub record Fit (c e : Counts) (s r : ℕ) : Type 0 where
  pub slots_fit : c.slots + s ≤ 1024
  pub regions_fit : c.regions + r ≤ 4096
  pub counts : e ≡ more c s r

none_fit : (c : Counts) → c.slots ≤ 1024 → c.regions ≤ 4096 → Fit c c 0 0
none_fit c a b = record { slots_fit = omega arith; regions_fit = omega arith; counts = same_counts c (more c 0 0) (omega arith) (omega arith) }

-- one part after the other
then_fit : (c mid e : Counts) (s r s2 r2 : ℕ) → Fit c mid s r → Fit mid e s2 r2 → Fit c e (s + s2) (r + r2)
then_fit c mid e s r s2 r2 p q =
    let i : mid.slots ≡ c.slots + s = ap (λ (k : Counts). k.slots) p.counts in
    let j : mid.regions ≡ c.regions + r = ap (λ (k : Counts). k.regions) p.counts in
    record {
      slots_fit = omega (arith, q.slots_fit);
      regions_fit = omega (arith, q.regions_fit);
      counts = q.counts ∙ same_counts (more mid s2 r2) (more c (s + s2) (r + r2)) (omega arith) (omega arith);
    }

after_slots : (c e : Counts) (s r : ℕ) → Fit c e s r → e.slots ≤ 1024
after_slots c e s r p = let i : e.slots ≡ c.slots + s = ap (λ (k : Counts). k.slots) p.counts in omega (arith, p.slots_fit)

after_regions : (c e : Counts) (s r : ℕ) → Fit c e s r → e.regions ≤ 4096
after_regions c e s r p = let i : e.regions ≡ c.regions + r = ap (λ (k : Counts). k.regions) p.counts in omega (arith, p.regions_fit)

slot_fit : (c e : Counts) → c.slots < 1024 → c.regions ≤ 4096 → e ≡ record { slots = c.slots + 1; regions = c.regions } → Fit c e 1 0
slot_fit c e a b i =
    record { slots_fit = omega arith; regions_fit = omega arith; counts = i ∙ same_counts (record { slots = c.slots + 1; regions = c.regions }) (more c 1 0) refl (omega arith) }

-- a slot, and then a part
then_fit_right : (c mid e : Counts) (s r : ℕ) → Fit c mid 1 0 → Fit mid e s r → Fit c e (1 + s) r
then_fit_right c mid e s r p q = subst (λ (k : ℕ). Fit c e (1 + s) k) (zero_left r) (then_fit c mid e 1 0 s r p q)
  where
    zero_left : (n : ℕ) → 0 + n ≡ n
    zero_left n = omega arith

start_slots : (c o : Counts) → o ≡ record { slots = 0; regions = c.regions + 1 } → o.slots ≤ 1024
start_slots c o e = let i : o.slots ≡ 0 = ap (λ (k : Counts). k.slots) e in omega arith

head_slots : (c o q : Counts) (n : ℕ) → o ≡ record { slots = 0; regions = c.regions + 1 } → o.slots + n ≤ 1024 → q ≡ record { slots = o.slots + n; regions = o.regions } → q.slots ≤ 1024
head_slots c o q n e l f = let i : q.slots ≡ o.slots + n = ap (λ (k : Counts). k.slots) f in omega arith

head_regions : (c o q : Counts) (n : ℕ) → c.regions < 4096 → o ≡ record { slots = 0; regions = c.regions + 1 } → q ≡ record { slots = o.slots + n; regions = o.regions } → q.regions ≤ 4096
head_regions c o q n l e f =
    let i : q.regions ≡ o.regions = ap (λ (k : Counts). k.regions) f in
    let j : o.regions ≡ c.regions + 1 = ap (λ (k : Counts). k.regions) e in omega arith

-- a region: its unit's slots fit, and outside only the regions count
region_fit : (c o q p m z : Counts) (n s r s2 r2 : ℕ) → c.slots ≤ 1024 → o ≡ record { slots = 0; regions = c.regions + 1 } → q ≡ record { slots = o.slots + n; regions = o.regions } →
    Fit q p s r → Fit p m 1 0 → Fit m z s2 r2 → (n + s + 1 + s2 ≤ 1024) × Fit c (back_in c z) 0 (1 + r + r2)
region_fit c o q p m z n s r s2 r2 a e f g h j =
    let o_slots : o.slots ≡ 0 = ap (λ (k : Counts). k.slots) e in
    let o_regions : o.regions ≡ c.regions + 1 = ap (λ (k : Counts). k.regions) e in
    let q_slots : q.slots ≡ o.slots + n = ap (λ (k : Counts). k.slots) f in
    let q_regions : q.regions ≡ o.regions = ap (λ (k : Counts). k.regions) f in
    let p_slots : p.slots ≡ q.slots + s = ap (λ (k : Counts). k.slots) g.counts in
    let p_regions : p.regions ≡ q.regions + r = ap (λ (k : Counts). k.regions) g.counts in
    let m_slots : m.slots ≡ p.slots + 1 = ap (λ (k : Counts). k.slots) h.counts in
    let m_regions : m.regions ≡ p.regions + 0 = ap (λ (k : Counts). k.regions) h.counts in
    let z_regions : z.regions ≡ m.regions + r2 = ap (λ (k : Counts). k.regions) j.counts in (
      omega (arith, j.slots_fit),
      record {
        slots_fit = omega arith;
        regions_fit = omega (arith, j.regions_fit);
        counts = same_counts (back_in c z) (more c 0 (1 + r + r2)) (omega arith) (omega arith);
      },
    )

-- what is known of a checked statement
pub record Sound (A : Type 0) (c : Counts) (env : Names) (s : State) (n r : ℕ) : Type 0 where
  pub typed : A
  pub fit : Fit c s.1 n r
  pub scope : s.0 ≡ env

kept : (A : Type 0) (c e : Counts) (env : Names) (s : State) (n r : ℕ) → A → Fit c e n r → s ≡ (env, e) → Sound A c env s n r
kept A c e env s n r a f i =
    record { typed = a; fit = subst (λ (k : Counts). Fit c k n r) (ap (λ (s : State). s.1) (sym i)) f; scope = ap (λ (s : State). s.0) i }

stayed : (A : Type 0) (env : Names) (c : Counts) (s : State) → c.slots ≤ 1024 → c.regions ≤ 4096 → A → ◌≡◌ {A = Verdict State} (Fine (env, c)) (Fine s) → Sound A c env s 0 0
stayed A env c s a b h e = kept A c c env s 0 0 h (none_fit c a b) (sym (fine_is (env, c) s e))

mutual
  form_back : (d : Decls) (res : Option ValueType) (env : Names) (c : Counts) (at : ℕ) (form : StmtForm) (s : State) → c.slots ≤ 1024 → c.regions ≤ 4096 → form_checked d res env c at form ≡ Fine s →
      Sound (IsStmt d res env form) c (after env form) s (slots_in form) (regions_in form)
  form_back d res env c at (let_stmt x e) s a b h =
      let p = then_back (new_local env c x.name) (λ c. then_on (type_known d x.ty) (λ _. then_on (stands d env (exactly (written x.ty)) e) (λ _. Fine (with_local env x.name.word (written x.ty), c)))) s h in
      let q = then_back (type_known d x.ty) (λ _. then_on (stands d env (exactly (written x.ty)) e) (λ _. Fine (with_local env x.name.word (written x.ty), p.0))) s p.2 in
      let r = then_back (stands d env (exactly (written x.ty)) e) (λ _. Fine (with_local env x.name.word (written x.ty), p.0)) s q.2 in
      let n = local_back env c p.0 x.name p.1 in
      kept (IsStmt d res env (let_stmt x e)) c p.0 (with_local env x.name.word (written x.ty)) s 1 0 (n.0, declared_back d x.ty q.0 q.1, stands_back d env (exactly (written x.ty)) e r.0 r.1)
      (slot_fit c p.0 n.1 b n.2) (sym (fine_is (with_local env x.name.word (written x.ty), p.0) s r.2))
  form_back d res env c at (if_stmt e first other) s a b h =
      let p = then_back (then_on (stands d env (exactly bool) e) (λ _. closed (stmts_checked d res env c first))) (λ c. then_on (else_checked d res env c other) (λ c. Fine (env, c))) s h in
      let q = then_back (stands d env (exactly bool) e) (λ _. closed (stmts_checked d res env c first)) p.0 p.1 in
      let v = closed_back (stmts_checked d res env c first) p.0 q.2 in
      let y = block_back d res env c first (v.0, p.0) a b v.1 in
      let w = keep_back env (else_checked d res env p.0 other) s p.2 in
      let n = else_back d res env p.0 other w.0 (after_slots c p.0 (slots_of first) (regions_of first) y.fit) (after_regions c p.0 (slots_of first) (regions_of first) y.fit) w.1 in
      kept (IsStmt d res env (if_stmt e first other)) c w.0 env s (slots_of first + slots_or other) (regions_of first + regions_or other) (stands_back d env (exactly bool) e q.0 q.1, y.typed, n.0)
      (then_fit c p.0 w.0 (slots_of first) (regions_of first) (slots_or other) (regions_or other) y.fit n.1) w.2
  form_back d res env c at (while_stmt e body) s a b h =
      let w = keep_back env (then_on (stands d env (exactly bool) e) (λ _. closed (stmts_checked d res env c body))) s h in
      let q = then_back (stands d env (exactly bool) e) (λ _. closed (stmts_checked d res env c body)) w.0 w.1 in
      let v = closed_back (stmts_checked d res env c body) w.0 q.2 in
      let y = block_back d res env c body (v.0, w.0) a b v.1 in
      kept (IsStmt d res env (while_stmt e body)) c w.0 env s (slots_of body) (regions_of body) (stands_back d env (exactly bool) e q.0 q.1, y.typed) y.fit w.2
  form_back d res env c at (return_stmt e) s a b h =
      let p = then_back (returned d res env at e) (λ _. Fine (env, c)) s h in stayed (Returns d res env e) env c s a b (returned_back d res env at e p.0 p.1) p.2
  form_back d res env c at (throw_stmt e) s a b h =
      let p = then_back (stands d env (exactly int) e) (λ _. Fine (env, c)) s h in stayed (Stands d env (exactly int) e) env c s a b (stands_back d env (exactly int) e p.0 p.1) p.2
  form_back d res env c at (sync_stmt e body) s a b h =
      let w = keep_back env (then_on (one_slot at c) (λ c. then_on (stands d env any_object e) (λ _. closed (stmts_checked d res env c body)))) s h in
      let o = then_back (one_slot at c) (λ c. then_on (stands d env any_object e) (λ _. closed (stmts_checked d res env c body))) w.0 w.1 in
      let q = then_back (stands d env any_object e) (λ _. closed (stmts_checked d res env o.0 body)) w.0 o.2 in
      let v = closed_back (stmts_checked d res env o.0 body) w.0 q.2 in
      let n = slot_back at c o.0 o.1 in
      let f = slot_fit c o.0 n.0 b n.1 in
      let y = block_back d res env o.0 body (v.0, w.0) (after_slots c o.0 1 0 f) (after_regions c o.0 1 0 f) v.1 in
      kept (IsStmt d res env (sync_stmt e body)) c w.0 env s (1 + slots_of body) (regions_of body) (stands_back d env any_object e q.0 q.1, y.typed)
      (then_fit_right c o.0 w.0 (slots_of body) (regions_of body) f y.fit) w.2
  form_back d res env c at (region_stmt l k xs body x handler) s a b h =
      let inside = with_local env x.word int in
      let p = then_back (then_on (head_checked d env c at l k xs) (λ c. closed (stmts_checked d res env c body))) (λ inner. then_on (then_on (new_local env inner x) (λ c. closed (stmts_checked d res inside c handler))) (λ inner. Fine (env, back_in c inner))) s h in
      let q = then_back (head_checked d env c at l k xs) (λ c. closed (stmts_checked d res env c body)) p.0 p.1 in
      let o = then_back (one_region at c) (λ c. then_on (stands d env (exactly label) l) (λ _. then_on (stands d env (exactly caps) k) (λ _. captured env c xs))) q.0 q.1 in
      let u = then_back (stands d env (exactly label) l) (λ _. then_on (stands d env (exactly caps) k) (λ _. captured env o.0 xs)) q.0 o.2 in
      let w = then_back (stands d env (exactly caps) k) (λ _. captured env o.0 xs) q.0 u.2 in
      let n = region_back at c o.0 o.1 in
      let g = captured_back env o.0 q.0 xs (start_slots c o.0 n.1) w.2 in
      let v = closed_back (stmts_checked d res env q.0 body) p.0 q.2 in
      let y = block_back d res env q.0 body (v.0, p.0) (head_slots c o.0 q.0 (length xs) n.1 g.1 g.2) (head_regions c o.0 q.0 (length xs) n.0 n.1 g.2) v.1 in
      let z = then_back (then_on (new_local env p.0 x) (λ c. closed (stmts_checked d res inside c handler))) (λ inner. Fine (env, back_in c inner)) s p.2 in
      let m = then_back (new_local env p.0 x) (λ c. closed (stmts_checked d res inside c handler)) z.0 z.1 in
      let i = local_back env p.0 m.0 x m.1 in
      let f = slot_fit p.0 m.0 i.1 (after_regions q.0 p.0 (slots_of body) (regions_of body) y.fit) i.2 in
      let t = closed_back (stmts_checked d res inside m.0 handler) z.0 m.2 in
      let j = block_back d res inside m.0 handler (t.0, z.0) (after_slots p.0 m.0 1 0 f) (after_regions p.0 m.0 1 0 f) t.1 in
      let r = region_fit c o.0 q.0 p.0 m.0 z.0 (length xs) (slots_of body) (regions_of body) (slots_of handler) (regions_of handler) a n.1 g.2 y.fit f j.fit in
      kept (IsStmt d res env (region_stmt l k xs body x handler)) c (back_in c z.0) env s 0 (1 + regions_of body + regions_of handler)
      (stands_back d env (exactly label) l u.0 u.1, stands_back d env (exactly caps) k w.0 w.1, g.0, y.typed, i.0, j.typed, r.0) r.1 (sym (fine_is (env, back_in c z.0) s z.2))
  form_back d res env c at (do_stmt e) s a b h =
      let p = then_back (given_of d env e) (λ _. Fine (env, c)) s h in stayed (IsStmt d res env (do_stmt e)) env c s a b (p.0, given_back d env e p.0 p.1) p.2
  form_back d res env c at (assign_stmt p e) s a b h =
      let q = then_back (given_of d env p) (λ g. then_on {B = State} (assigned d env (at_of p) g (place_type (is_place p) g) e) (λ _. Fine (env, c))) s h in
      let r = then_back (assigned d env (at_of p) q.0 (place_type (is_place p) q.0) e) (λ _. Fine (env, c)) s q.2 in
      let m = assigned_back d env (at_of p) (is_place p) q.0 e r.0 r.1 in
      stayed (IsStmt d res env (assign_stmt p e)) env c s a b (m.0, m.1, given_back d env p (a_value m.0) (q.1 ∙ ap Fine m.2), m.3) r.2

  else_back : (d : Decls) (res : Option ValueType) (env : Names) (c : Counts) (other : ElseTree) (e : Counts) → c.slots ≤ 1024 → c.regions ≤ 4096 → else_checked d res env c other ≡ Fine e →
      IsElse d res env other × Fit c e (slots_or other) (regions_or other)
  else_back d res env c no_else e a b h = (tt, subst (λ (k : Counts). Fit c k 0 0) (fine_is c e h) (none_fit c a b))
  else_back d res env c (else_block body) e a b h =
      let v = closed_back (stmts_checked d res env c body) e h in
      let y = block_back d res env c body (v.0, e) a b v.1 in (y.typed, y.fit)

  pub block_back : (d : Decls) (res : Option ValueType) (env : Names) (c : Counts) (body : StmtList) (s : State) → c.slots ≤ 1024 → c.regions ≤ 4096 → stmts_checked d res env c body ≡ Fine s →
      Sound (IsBlock d res env body) c (after_all env body) s (slots_of body) (regions_of body)
  block_back d res env c no_stmts s a b h = stayed (Unit {0}) env c s a b tt h
  block_back d res env c (stmts (stmt_node at form) rest) s a b h =
      let p = then_back (form_checked d res env c at form) (λ s. stmts_checked d res s.0 s.1 rest) s h in
      let y = form_back d res env c at form p.0 a b p.1 in
      let z = block_back d res (after env form) p.0.1 rest s (after_slots c p.0.1 (slots_in form) (regions_in form) y.fit) (after_regions c p.0.1 (slots_in form) (regions_in form) y.fit)
      (ap (λ (env : Names). stmts_checked d res env p.0.1 rest) (sym y.scope) ∙ p.2) in
      record { typed = (y.typed, z.typed); fit = then_fit c p.0.1 s.1 (slots_in form) (regions_in form) (slots_of rest) (regions_of rest) y.fit z.fit; scope = z.scope }
