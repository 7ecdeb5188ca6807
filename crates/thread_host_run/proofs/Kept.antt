-- The list of the ready threads from turn to turn: after a quiet turn it is as it was, or without the thread that moved.
use Rattle.std.proofs.Common.{◌≡◌, ℕ, Bool, true, false, List, [], ◌∷◌, length, refl, sym, ap, ◌∙◌}
use Rattle.std.specs.Prelude.{cond, ◌&&◌, not, eqb}
use Rattle.std.specs.List.{filter, range_with_len}
use Rattle.std.proofs.lemmas.Bool.{eqb-true, eqb-false}
use Rattle.lam_bytecode.specs.Codes.{CodeTree}
use Rattle.lam_machine_terms.specs.Worlds.{World}
use Rattle.lam_machine_terms.specs.Turns.{ready}
use Rattle.thread_host_run.specs.ReadyLists.{ready_threads, is_other, kept_list}
use Rattle.thread_host_run.proofs.Others.{Moved, others_ready, as_many}

-- ---- filters that agree

same_filter : (p q : ℕ → Bool) (xs : List ℕ) → ((u : ℕ) → q u ≡ p u) → filter q xs ≡ filter p xs
same_filter p q [] h = refl
same_filter p q (x ∷ xs) h =
    ap (λ b. cond b (x ∷ filter q xs) (filter q xs)) (h x) ∙ ap (λ (l : List ℕ). cond (p x) (x ∷ l) l) (same_filter p q xs h)

first_of : (r : ℕ → Bool) (x : ℕ) (ys : List ℕ) (b : Bool) → cond (b && r x) (x ∷ filter r ys) (filter r ys) ≡ filter r (cond b (x ∷ ys) ys)
first_of r x ys true = refl
first_of r x ys false = refl

both_filters : (p q r : ℕ → Bool) (xs : List ℕ) → ((u : ℕ) → q u ≡ (p u && r u)) → filter q xs ≡ filter r (filter p xs)
both_filters p q r [] h = refl
both_filters p q r (x ∷ xs) h =
    ap (λ b. cond b (x ∷ filter q xs) (filter q xs)) (h x)
    ∙ ap (λ (l : List ℕ). cond (p x && r x) (x ∷ l) l) (both_filters p q r xs h)
    ∙ first_of r x (filter p xs) (p x)

-- ---- a test that may change at one number alone

module _ (p q : ℕ → Bool) (t : ℕ) (others : (u : ℕ) → (t ≡ u → ⊥) → q u ≡ p u) where
  and_true : (b : Bool) → b ≡ (b && true)
  and_true true = refl
  and_true false = refl

  and_false : (b : Bool) → false ≡ (b && false)
  and_false true = refl
  and_false false = refl

  same_at : p t ≡ q t → (u : ℕ) (b : Bool) → eqb u t ≡ b → q u ≡ p u
  same_at e u true is = ap q (eqb-true u t is) ∙ sym e ∙ ap p (sym (eqb-true u t is))
  same_at e u false is = others u (λ f. eqb-false u t is (sym f))

  out_at : q t ≡ false → (u : ℕ) (b : Bool) → eqb u t ≡ b → q u ≡ (p u && not b)
  out_at e u true is = ap q (eqb-true u t is) ∙ e ∙ and_false (p u)
  out_at e u false is = others u (λ f. eqb-false u t is (sym f)) ∙ and_true (p u)

  stays_as : (xs : List ℕ) → p t ≡ q t → filter q xs ≡ filter p xs
  stays_as xs e = same_filter p q xs (λ u. same_at e u (eqb u t) refl)

  out_as : (xs : List ℕ) → q t ≡ false → filter q xs ≡ filter (is_other t) (filter p xs)
  out_as xs e = both_filters p q (is_other t) xs (λ u. out_at e u (eqb u t) refl)

  kept_as : (xs : List ℕ) (b : Bool) → p t ≡ true → q t ≡ b → filter q xs ≡ kept_list b t (filter p xs)
  kept_as xs true e f = stays_as xs (e ∙ sym f)
  kept_as xs false e f = out_as xs f

-- ---- the list of the ready threads

kept_moved : (code : CodeTree) (w : World) (t : ℕ) (after : World) → Moved w t after → ready code w t ≡ true → ready_threads code after ≡ kept_list (ready code after t) t (ready_threads code w)
kept_moved code w t after h old =
    ap (λ n. filter (ready code after) (range_with_len 0 n)) (as_many w t after h)
    ∙ kept_as (ready code w) (ready code after) t (others_ready code w t after h) (range_with_len 0 (length w.threads)) (ready code after t) old refl

pub kept_list_moved : (code : CodeTree) (w : World) (t : ℕ) (after : World) (xs ys : List ℕ) → Moved w t after → ready code w t ≡ true → xs ≡ ready_threads code w → ys ≡ kept_list (ready code after t) t xs → ys ≡ ready_threads code after
kept_list_moved code w t after xs ys moved old is new = new ∙ ap (kept_list (ready code after t) t) is ∙ sym (kept_moved code w t after moved old)
