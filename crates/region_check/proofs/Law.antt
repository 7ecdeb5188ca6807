-- A program keeps the region rules exactly where there is no break in it.
use Rattle.std.proofs.Common.{◌≡◌, ℕ, Bool, true, false, not, List, [], ◌∷◌, ◌++◌, Option, Some, None, refl, sym, ap, ◌∙◌, subst, append_assoc}
use Rattle.lam_syntax.specs.Tree.{IdTree, CapTree, ExprTree, expr_node, ExprForm, binary_expr, unary_expr, field_expr, element_expr, number_expr, text_expr, bool_expr, null_expr, name_expr, call_expr, new_class_expr, new_array_expr, label_expr, caps_expr, spawn_expr, ExprList, no_exprs, exprs, stmt_node, StmtForm, let_stmt, if_stmt, while_stmt, return_stmt, throw_stmt, sync_stmt, region_stmt, do_stmt, assign_stmt, StmtList, no_stmts, stmts, ElseTree, no_else, else_block, class_item, function_item, ProgramTree}
use Rattle.lam_operators.specs.Words.{Word}
use Rattle.lam_types_kinds.specs.Verdicts.{Fine, Stop, then_on, first_break}
use Rattle.region_check.specs.Breaks.{Break, outer_read, outer_write, return_in_region, capture_twice, Verdict, has, with_name, allowed, test, read_checked, caps_checked, both, expr_checked, form_checked, exprs_checked, capture_checked, captures_checked, value_checked, return_checked, place_form, closed, head_checked, stmt_form_checked, else_checked, stmts_checked, program_checked, first_region_break}
use Rattle.region_check.specs.Legal.{IsReached, ReachesCaps, Reaches, FormReaches, AllReach, AreReached, Differ, ValueReaches, words, after, IsLegalForm, IsLegalElse, IsLegalBlock, IsRegionLegal}

fine_is : {A : Type 0} (a b : A) → ◌≡◌ {A = Verdict A} (Fine a) (Fine b) → a ≡ b
fine_is a b e = cc

then_back : {A B : Type 0} (v : Verdict A) (next : A → Verdict B) (b : B) → then_on v next ≡ Fine b → (a : A) × (v ≡ Fine a) × (next a ≡ Fine b)
then_back (Fine a) next b e = (a, refl, e)
then_back (Stop s) next b e = absurd cc

test_back : (t : Bool) (s : Break) (u : Unit {0}) → test t s ≡ Fine u → t ≡ true
test_back true s u e = refl
test_back false s u e = absurd cc

test_fine : (t : Bool) (s : Break) → t ≡ true → test t s ≡ Fine tt
test_fine t s e = ap (λ (b : Bool). test b s) e

not_back : (b : Bool) → not b ≡ true → b ≡ false
not_back false e = refl
not_back true e = absurd cc

not_is : (b : Bool) → b ≡ false → not b ≡ true
not_is b e = ap not e

reach_back : (inside : Bool) (own : List Word) (x : Word) → allowed inside own x ≡ true → IsReached inside own x
reach_back false own x e = tt
reach_back true own x e = e

reach_is : (inside : Bool) (own : List Word) (x : Word) → IsReached inside own x → allowed inside own x ≡ true
reach_is false own x e = refl
reach_is true own x e = e

on : {A B : Type 0} (v : Verdict A) (a : A) (next : A → Verdict B) (r : Verdict B) → v ≡ Fine a → next a ≡ r → then_on v next ≡ r
on v a next r e f = ap (λ (v : Verdict _). then_on v next) e ∙ f

caps_back : (i : Bool) (own : List Word) (xs : List CapTree) (u : Unit {0}) → caps_checked i own xs ≡ Fine u → ReachesCaps i own xs
caps_back i own [] u h = tt
caps_back i own (x ∷ xs) u h =
    let p = then_back (read_checked i own x.name.at x.name.word) (λ _. caps_checked i own xs) u h in
    (reach_back i own x.name.word (test_back (allowed i own x.name.word) (outer_read x.name.at) p.0 p.1), caps_back i own xs u p.2)

caps_fine : (i : Bool) (own : List Word) (xs : List CapTree) → ReachesCaps i own xs → caps_checked i own xs ≡ Fine tt
caps_fine i own [] h = refl
caps_fine i own (x ∷ xs) (p, q) =
    on (read_checked i own x.name.at x.name.word) tt (λ _. caps_checked i own xs) (Fine tt) (test_fine (allowed i own x.name.word) (outer_read x.name.at) (reach_is i own x.name.word p)) (caps_fine i own xs q)

mutual
  ex_back : (i : Bool) (own : List Word) (e : ExprTree) (u : Unit {0}) → expr_checked i own e ≡ Fine u → Reaches i own e
  ex_back i own (expr_node at form) u h = form_back i own at form u h

  form_back : (i : Bool) (own : List Word) (at : ℕ) (form : ExprForm) (u : Unit {0}) → form_checked i own at form ≡ Fine u → FormReaches i own form
  form_back i own at (binary_expr op l r) u h =
      let p = then_back (expr_checked i own l) (λ _. expr_checked i own r) u h in (ex_back i own l p.0 p.1, ex_back i own r u p.2)
  form_back i own at (unary_expr op e) u h = ex_back i own e u h
  form_back i own at (field_expr e f) u h = ex_back i own e u h
  form_back i own at (element_expr e n) u h =
      let p = then_back (expr_checked i own e) (λ _. expr_checked i own n) u h in (ex_back i own e p.0 p.1, ex_back i own n u p.2)
  form_back i own at (number_expr n) u h = tt
  form_back i own at (text_expr t) u h = tt
  form_back i own at (bool_expr b) u h = tt
  form_back i own at null_expr u h = tt
  form_back i own at (name_expr x) u h = reach_back i own x (test_back (allowed i own x) (outer_read at) u h)
  form_back i own at (call_expr f args) u h = exs_back i own args u h
  form_back i own at (new_class_expr c) u h = tt
  form_back i own at (new_array_expr t n) u h = ex_back i own n u h
  form_back i own at (label_expr s t) u h =
      let p = then_back (exprs_checked i own s) (λ _. exprs_checked i own t) u h in (exs_back i own s p.0 p.1, exs_back i own t u p.2)
  form_back i own at (caps_expr items) u h = caps_back i own items u h
  form_back i own at (spawn_expr c f args) u h =
      let p = then_back (expr_checked i own c) (λ _. exprs_checked i own args) u h in (ex_back i own c p.0 p.1, exs_back i own args u p.2)

  exs_back : (i : Bool) (own : List Word) (es : ExprList) (u : Unit {0}) → exprs_checked i own es ≡ Fine u → AllReach i own es
  exs_back i own no_exprs u h = tt
  exs_back i own (exprs e rest) u h =
      let p = then_back (expr_checked i own e) (λ _. exprs_checked i own rest) u h in (ex_back i own e p.0 p.1, exs_back i own rest u p.2)

mutual
  ex_fine : (i : Bool) (own : List Word) (e : ExprTree) → Reaches i own e → expr_checked i own e ≡ Fine tt
  ex_fine i own (expr_node at form) h = form_fine i own at form h

  form_fine : (i : Bool) (own : List Word) (at : ℕ) (form : ExprForm) → FormReaches i own form → form_checked i own at form ≡ Fine tt
  form_fine i own at (binary_expr op l r) (p, q) = on (expr_checked i own l) tt (λ _. expr_checked i own r) (Fine tt) (ex_fine i own l p) (ex_fine i own r q)
  form_fine i own at (unary_expr op e) h = ex_fine i own e h
  form_fine i own at (field_expr e f) h = ex_fine i own e h
  form_fine i own at (element_expr e n) (p, q) = on (expr_checked i own e) tt (λ _. expr_checked i own n) (Fine tt) (ex_fine i own e p) (ex_fine i own n q)
  form_fine i own at (number_expr n) h = refl
  form_fine i own at (text_expr t) h = refl
  form_fine i own at (bool_expr b) h = refl
  form_fine i own at null_expr h = refl
  form_fine i own at (name_expr x) h = test_fine (allowed i own x) (outer_read at) (reach_is i own x h)
  form_fine i own at (call_expr f args) h = exs_fine i own args h
  form_fine i own at (new_class_expr c) h = refl
  form_fine i own at (new_array_expr t n) h = ex_fine i own n h
  form_fine i own at (label_expr s t) (p, q) = on (exprs_checked i own s) tt (λ _. exprs_checked i own t) (Fine tt) (exs_fine i own s p) (exs_fine i own t q)
  form_fine i own at (caps_expr items) h = caps_fine i own items h
  form_fine i own at (spawn_expr c f args) (p, q) = on (expr_checked i own c) tt (λ _. exprs_checked i own args) (Fine tt) (ex_fine i own c p) (exs_fine i own args q)

  exs_fine : (i : Bool) (own : List Word) (es : ExprList) → AllReach i own es → exprs_checked i own es ≡ Fine tt
  exs_fine i own no_exprs h = refl
  exs_fine i own (exprs e rest) (p, q) = on (expr_checked i own e) tt (λ _. exprs_checked i own rest) (Fine tt) (ex_fine i own e p) (exs_fine i own rest q)

both_back : (a b : Verdict (Unit {0})) (u : Unit {0}) → both a b ≡ Fine u → (v : Unit {0}) × (a ≡ Fine v) × (b ≡ Fine u)
unfolding both
both_back a b u e = then_back a (λ _. b) u e

both_fine : (a b : Verdict (Unit {0})) → a ≡ Fine tt → b ≡ Fine tt → both a b ≡ Fine tt
unfolding both
both_fine a b e f = on a tt (λ _. b) (Fine tt) e f

capture_back : (i : Bool) (own seen : List Word) (x : IdTree) (u : Unit {0}) → capture_checked i own seen x ≡ Fine u → IsReached i own x.word × (has seen x.word ≡ false)
capture_back i own seen x u h =
    let p = both_back (read_checked i own x.at x.word) (test (not (has seen x.word)) (capture_twice x.at)) u h in
    (reach_back i own x.word (test_back (allowed i own x.word) (outer_read x.at) p.0 p.1), not_back (has seen x.word) (test_back (not (has seen x.word)) (capture_twice x.at) u p.2))

capture_fine : (i : Bool) (own seen : List Word) (x : IdTree) → IsReached i own x.word → has seen x.word ≡ false → capture_checked i own seen x ≡ Fine tt
capture_fine i own seen x p q =
    both_fine (read_checked i own x.at x.word) (test (not (has seen x.word)) (capture_twice x.at)) (test_fine (allowed i own x.word) (outer_read x.at) (reach_is i own x.word p)) (test_fine (not (has seen x.word)) (capture_twice x.at) (not_is (has seen x.word) q))

no_more : (seen : List Word) → seen ++ [] ≡ seen
no_more [] = refl
no_more (w ∷ ws) = ap (λ l. w ∷ l) (no_more ws)

captures_back : (i : Bool) (own seen : List Word) (xs : List IdTree) (new : List Word) → captures_checked i own seen xs ≡ Fine new → AreReached i own xs × Differ seen xs × (new ≡ seen ++ words xs)
captures_back i own seen [] new h = (tt, tt, sym (fine_is seen new h) ∙ sym (no_more seen))
captures_back i own seen (x ∷ xs) new h =
    let p = then_back (capture_checked i own seen x) (λ _. captures_checked i own (seen ++ x.word ∷ []) xs) new h in
    let q = capture_back i own seen x p.0 p.1 in
    let r = captures_back i own (seen ++ x.word ∷ []) xs new p.2 in
    ((q.0, r.0), (q.1, r.1), r.2 ∙ append_assoc seen (x.word ∷ []) (words xs))

captures_fine : (i : Bool) (own seen : List Word) (xs : List IdTree) → AreReached i own xs → Differ seen xs → captures_checked i own seen xs ≡ Fine (seen ++ words xs)
captures_fine i own seen [] p q = ap Fine (sym (no_more seen))
captures_fine i own seen (x ∷ xs) p q =
    on (capture_checked i own seen x) tt (λ _. captures_checked i own (seen ++ x.word ∷ []) xs) (Fine (seen ++ words (x ∷ xs))) (capture_fine i own seen x p.0 q.0)
    (captures_fine i own (seen ++ x.word ∷ []) xs p.1 q.1 ∙ ap Fine (append_assoc seen (x.word ∷ []) (words xs)))

value_back : (i : Bool) (own : List Word) (e : Option ExprTree) (u : Unit {0}) → value_checked i own e ≡ Fine u → ValueReaches i own e
value_back i own None u h = tt
value_back i own (Some e) u h = ex_back i own e u h

value_fine : (i : Bool) (own : List Word) (e : Option ExprTree) → ValueReaches i own e → value_checked i own e ≡ Fine tt
value_fine i own None h = refl
value_fine i own (Some e) h = ex_fine i own e h

place_back : (i : Bool) (own : List Word) (at : ℕ) (form : ExprForm) (u : Unit {0}) → place_form i own at form ≡ Fine u → FormReaches i own form
place_back i own at (name_expr x) u h = reach_back i own x (test_back (allowed i own x) (outer_write at) u h)
place_back i own at form u h = form_back i own at form u h

place_fine : (i : Bool) (own : List Word) (at : ℕ) (form : ExprForm) → FormReaches i own form → place_form i own at form ≡ Fine tt
place_fine i own at (name_expr x) h = test_fine (allowed i own x) (outer_write at) (reach_is i own x h)
place_fine i own at form h = form_fine i own at form h

closed_back : (v : Verdict (List Word)) (u : Unit {0}) → closed v ≡ Fine u → (l : List Word) × (v ≡ Fine l)
unfolding closed
closed_back (Fine l) u e = (l, refl)
closed_back (Stop s) u e = absurd cc

closed_fine : (v : Verdict (List Word)) (l : List Word) → v ≡ Fine l → closed v ≡ Fine tt
unfolding closed
closed_fine v l e = ap (λ (v : Verdict (List Word)). then_on v (λ _. Fine tt)) e

abbrev pub after_all : List Word → StmtList → List Word
after_all own no_stmts = own
after_all own (stmts (stmt_node at form) rest) = after_all (after own form) rest

keep : (v : Verdict (Unit {0})) (own own2 : List Word) → then_on v (λ _. Fine own) ≡ Fine own2 → (u : Unit {0}) × (v ≡ Fine u) × (own ≡ own2)
keep v own own2 h = let p = then_back v (λ _. Fine own) own2 h in (p.0, p.1, fine_is own own2 p.2)

stay : (v : Verdict (Unit {0})) (own : List Word) → v ≡ Fine tt → then_on v (λ _. Fine own) ≡ Fine own
stay v own e = ap (λ (v : Verdict (Unit {0})). then_on v (λ _. Fine own)) e

mutual
  sk_back : (i : Bool) (own : List Word) (at : ℕ) (form : StmtForm) (new : List Word) → stmt_form_checked i own at form ≡ Fine new → IsLegalForm i own form × (after own form ≡ new)
  sk_back i own at (let_stmt x e) new h =
      let p = then_back (expr_checked i own e) (λ _. Fine (with_name own x.name.word)) new h in (ex_back i own e p.0 p.1, fine_is (with_name own x.name.word) new p.2)
  sk_back i own at (if_stmt e first other) new h =
      let p = then_back (both (expr_checked i own e) (closed (stmts_checked i own first))) (λ _. then_on (else_checked i own other) (λ _. Fine own)) new h in
      let q = both_back (expr_checked i own e) (closed (stmts_checked i own first)) p.0 p.1 in
      let c = closed_back (stmts_checked i own first) p.0 q.2 in
      let r = keep (else_checked i own other) own new p.2 in
      ((ex_back i own e q.0 q.1, sts_back i own first c.0 c.1, sto_back i own other r.0 r.1), r.2)
  sk_back i own at (while_stmt e body) new h =
      let p = keep (both (expr_checked i own e) (closed (stmts_checked i own body))) own new h in
      let q = both_back (expr_checked i own e) (closed (stmts_checked i own body)) p.0 p.1 in
      let c = closed_back (stmts_checked i own body) p.0 q.2 in
      ((ex_back i own e q.0 q.1, sts_back i own body c.0 c.1), p.2)
  sk_back i own at (return_stmt e) new h =
      let p = keep (return_checked i own at e) own new h in
      let q = then_back (test (not i) (return_in_region at)) (λ _. value_checked i own e) p.0 p.1 in
      ((not_back i (test_back (not i) (return_in_region at) q.0 q.1), value_back i own e p.0 q.2), p.2)
  sk_back i own at (throw_stmt e) new h = let p = keep (expr_checked i own e) own new h in (ex_back i own e p.0 p.1, p.2)
  sk_back i own at (sync_stmt e body) new h =
      let p = keep (both (expr_checked i own e) (closed (stmts_checked i own body))) own new h in
      let q = both_back (expr_checked i own e) (closed (stmts_checked i own body)) p.0 p.1 in
      let c = closed_back (stmts_checked i own body) p.0 q.2 in
      ((ex_back i own e q.0 q.1, sts_back i own body c.0 c.1), p.2)
  sk_back i own at (region_stmt l k xs body x handler) new h =
      let p = then_back (head_checked i own l k xs) (λ inner. then_on (both (closed (stmts_checked true inner body)) (closed (stmts_checked true (with_name inner x.word) handler))) (λ _. Fine own)) new h in
      let a = then_back (expr_checked i own l) (λ _. then_on (expr_checked i own k) (λ _. captures_checked i own [] xs)) p.0 p.1 in
      let b = then_back (expr_checked i own k) (λ _. captures_checked i own [] xs) p.0 a.2 in
      let d = captures_back i own [] xs p.0 b.2 in
      let q = keep (both (closed (stmts_checked true (words xs) body)) (closed (stmts_checked true (with_name (words xs) x.word) handler))) own new
      (ap (λ (inner : List Word). then_on (both (closed (stmts_checked true inner body)) (closed (stmts_checked true (with_name inner x.word) handler))) (λ _. Fine own)) (sym d.2) ∙ p.2) in
      let r = both_back (closed (stmts_checked true (words xs) body)) (closed (stmts_checked true (with_name (words xs) x.word) handler)) q.0 q.1 in
      let c1 = closed_back (stmts_checked true (words xs) body) r.0 r.1 in
      let c2 = closed_back (stmts_checked true (with_name (words xs) x.word) handler) q.0 r.2 in
      ((ex_back i own l a.0 a.1, ex_back i own k b.0 b.1, d.0, d.1, sts_back true (words xs) body c1.0 c1.1, sts_back true (with_name (words xs) x.word) handler c2.0 c2.1), q.2)
  sk_back i own at (do_stmt e) new h = let p = keep (expr_checked i own e) own new h in (ex_back i own e p.0 p.1, p.2)
  sk_back i own at (assign_stmt (expr_node pat form) e) new h =
      let p = keep (both (place_form i own pat form) (expr_checked i own e)) own new h in
      let q = both_back (place_form i own pat form) (expr_checked i own e) p.0 p.1 in
      ((place_back i own pat form q.0 q.1, ex_back i own e p.0 q.2), p.2)

  sto_back : (i : Bool) (own : List Word) (o : ElseTree) (u : Unit {0}) → else_checked i own o ≡ Fine u → IsLegalElse i own o
  sto_back i own no_else u h = tt
  sto_back i own (else_block b) u h = let c = closed_back (stmts_checked i own b) u h in sts_back i own b c.0 c.1

  sts_back : (i : Bool) (own : List Word) (b : StmtList) (new : List Word) → stmts_checked i own b ≡ Fine new → IsLegalBlock i own b
  sts_back i own no_stmts new h = tt
  sts_back i own (stmts (stmt_node at form) rest) new h =
      let p = then_back (stmt_form_checked i own at form) (λ own. stmts_checked i own rest) new h in
      let q = sk_back i own at form p.0 p.1 in
      (q.0, subst (λ (o : List Word). IsLegalBlock i o rest) (sym q.1) (sts_back i p.0 rest new p.2))

mutual
  sk_fine : (i : Bool) (own : List Word) (at : ℕ) (form : StmtForm) → IsLegalForm i own form → stmt_form_checked i own at form ≡ Fine (after own form)
  sk_fine i own at (let_stmt x e) h = on (expr_checked i own e) tt (λ _. Fine (with_name own x.name.word)) (Fine (with_name own x.name.word)) (ex_fine i own e h) refl
  sk_fine i own at (if_stmt e first other) (p, q, r) =
      on (both (expr_checked i own e) (closed (stmts_checked i own first))) tt (λ _. then_on (else_checked i own other) (λ _. Fine own)) (Fine own)
      (both_fine (expr_checked i own e) (closed (stmts_checked i own first)) (ex_fine i own e p) (closed_fine (stmts_checked i own first) (after_all own first) (sts_fine i own first q)))
      (stay (else_checked i own other) own (sto_fine i own other r))
  sk_fine i own at (while_stmt e body) (p, q) =
      stay (both (expr_checked i own e) (closed (stmts_checked i own body))) own
      (both_fine (expr_checked i own e) (closed (stmts_checked i own body)) (ex_fine i own e p) (closed_fine (stmts_checked i own body) (after_all own body) (sts_fine i own body q)))
  sk_fine i own at (return_stmt e) (p, q) =
      stay (return_checked i own at e) own
      (on (test (not i) (return_in_region at)) tt (λ _. value_checked i own e) (Fine tt) (test_fine (not i) (return_in_region at) (not_is i p)) (value_fine i own e q))
  sk_fine i own at (throw_stmt e) h = stay (expr_checked i own e) own (ex_fine i own e h)
  sk_fine i own at (sync_stmt e body) (p, q) =
      stay (both (expr_checked i own e) (closed (stmts_checked i own body))) own
      (both_fine (expr_checked i own e) (closed (stmts_checked i own body)) (ex_fine i own e p) (closed_fine (stmts_checked i own body) (after_all own body) (sts_fine i own body q)))
  sk_fine i own at (region_stmt l k xs body x handler) (a, b, c, d, p, q) =
      on (head_checked i own l k xs) (words xs) (λ inner. then_on (both (closed (stmts_checked true inner body)) (closed (stmts_checked true (with_name inner x.word) handler))) (λ _. Fine own)) (Fine own)
      (on (expr_checked i own l) tt (λ _. then_on (expr_checked i own k) (λ _. captures_checked i own [] xs)) (Fine (words xs)) (ex_fine i own l a)
      (on (expr_checked i own k) tt (λ _. captures_checked i own [] xs) (Fine (words xs)) (ex_fine i own k b) (captures_fine i own [] xs c d)))
      (stay (both (closed (stmts_checked true (words xs) body)) (closed (stmts_checked true (with_name (words xs) x.word) handler))) own
      (both_fine (closed (stmts_checked true (words xs) body)) (closed (stmts_checked true (with_name (words xs) x.word) handler))
      (closed_fine (stmts_checked true (words xs) body) (after_all (words xs) body) (sts_fine true (words xs) body p))
      (closed_fine (stmts_checked true (with_name (words xs) x.word) handler) (after_all (with_name (words xs) x.word) handler) (sts_fine true (with_name (words xs) x.word) handler q))))
  sk_fine i own at (do_stmt e) h = stay (expr_checked i own e) own (ex_fine i own e h)
  sk_fine i own at (assign_stmt (expr_node pat form) e) (p, q) =
      stay (both (place_form i own pat form) (expr_checked i own e)) own (both_fine (place_form i own pat form) (expr_checked i own e) (place_fine i own pat form p) (ex_fine i own e q))

  sto_fine : (i : Bool) (own : List Word) (o : ElseTree) → IsLegalElse i own o → else_checked i own o ≡ Fine tt
  sto_fine i own no_else h = refl
  sto_fine i own (else_block b) h = closed_fine (stmts_checked i own b) (after_all own b) (sts_fine i own b h)

  sts_fine : (i : Bool) (own : List Word) (b : StmtList) → IsLegalBlock i own b → stmts_checked i own b ≡ Fine (after_all own b)
  sts_fine i own no_stmts h = refl
  sts_fine i own (stmts (stmt_node at form) rest) (p, q) =
      on (stmt_form_checked i own at form) (after own form) (λ own. stmts_checked i own rest) (Fine (after_all (after own form) rest)) (sk_fine i own at form p) (sts_fine i (after own form) rest q)

program_back : (p : ProgramTree) (u : Unit {0}) → program_checked p ≡ Fine u → IsRegionLegal p
program_back [] u h = tt
program_back (class_item c ∷ p) u h = program_back p u h
program_back (function_item f ∷ p) u h =
    let q = then_back (closed (stmts_checked false [] f.body)) (λ _. program_checked p) u h in
    let c = closed_back (stmts_checked false [] f.body) q.0 q.1 in (sts_back false [] f.body c.0 c.1, program_back p u q.2)

program_fine : (p : ProgramTree) → IsRegionLegal p → program_checked p ≡ Fine tt
program_fine [] h = refl
program_fine (class_item c ∷ p) h = program_fine p h
program_fine (function_item f ∷ p) (a, b) =
    on (closed (stmts_checked false [] f.body)) tt (λ _. program_checked p) (Fine tt) (closed_fine (stmts_checked false [] f.body) (after_all [] f.body) (sts_fine false [] f.body a)) (program_fine p b)

no_break : (v : Verdict (Unit {0})) → first_break v ≡ None → v ≡ Fine tt
no_break (Fine u) e = refl
no_break (Stop b) e = absurd cc

-- a program keeps the rules exactly where it has no break
pub legal_has_none : (p : ProgramTree) → IsRegionLegal p → first_region_break p ≡ None
unfolding first_region_break
legal_has_none p h = ap first_break (program_fine p h)

pub none_is_legal : (p : ProgramTree) → first_region_break p ≡ None → IsRegionLegal p
unfolding first_region_break
none_is_legal p e = program_back p tt (no_break (program_checked p) e)
