-- How the threads of a start begin, one after the other.
use Rattle.std.proofs.Common.{◌≡◌, ℕ, ◌+◌, ◌≤◌, ◌⊎◌, List, [], ◌∷◌, ◌++◌, length, Some, refl, sym, ap, ◌∙◌, subst, inl, inr, arith}
use Rattle.std.specs.Prelude.{slice_get}
use Rattle.std.proofs.lemmas.Option.{slice_get_within, same_Some}
use Rattle.std.proofs.lemmas.List.{length_push}
use Rattle.lam_bytecode.specs.Codes.{CodeTree}
use Rattle.lam_resolve_tree.specs.Tree.{ResolvedTree}
use Rattle.thread_steps.specs.Threads.{Thread}
use Rattle.source_walk_run.proofs.Lists.{split_get}
use Rattle.source_walk_state.specs.declared.Beginning.{Beginning}
use Rattle.source_walk.specs.Starts.{BeginsAt, AreBeginnings}

-- up to a place
pub record AreUpTo (r : ResolvedTree) (code : CodeTree) (ths : List Thread) (at : ℕ) (bs : List Beginning) : Type 0 where
  pub many : length bs ≡ at
  pub each : (u : ℕ) (th : Thread) (b : Beginning) → slice_get ths u ≡ Some th → slice_get bs u ≡ Some b → BeginsAt r code th b

pub none_yet : (r : ResolvedTree) (code : CodeTree) (ths : List Thread) (bs : List Beginning) → bs ≡ [] → AreUpTo r code ths 0 bs
none_yet r code ths bs e =
    subst (λ (l : List Beginning). AreUpTo r code ths 0 l) (sym e) (record { many = refl; each = λ u th b h k. absurd cc })

module _ (r : ResolvedTree) (code : CodeTree) (ths : List Thread) (at : ℕ) (bs : List Beginning) (up : AreUpTo r code ths at bs) where
  pub one_more : (th : Thread) (b : Beginning) (all : List Beginning) → slice_get ths at ≡ Some th → BeginsAt r code th b → all ≡ bs ++ b ∷ [] → AreUpTo r code ths (at + 1) all
  one_more th b all there h e =
      subst (λ (l : List Beginning). AreUpTo r code ths (at + 1) l) (sym e)
      (record { many = length_push bs b ∙ ap (λ n. n + 1) up.many; each = λ u t x k m. by u t x k (split_get bs (b ∷ []) u x m) })
    where
      by : (u : ℕ) (t : Thread) (x : Beginning) → slice_get ths u ≡ Some t → (slice_get bs u ≡ Some x) ⊎ ((j : ℕ) × (u ≡ length bs + j) × (slice_get (b ∷ []) j ≡ Some x)) → BeginsAt r code t x
      by u t x k (inl m) = up.each u t x k m
      by u t x k (inr (j, f, m)) =
          let lt = slice_get_within (b ∷ []) j x m in
          let many = up.many in
          let here : at ≡ u = omega (arith, lt, f, many) in
          let first : j ≡ 0 = omega (arith, lt) in
          let same : th ≡ t = same_Some th t (sym there ∙ ap (slice_get ths) here ∙ k) in
          let it : b ≡ x = same_Some b x (sym (ap (slice_get (b ∷ [])) first) ∙ m) in
          subst (λ (y : Beginning). BeginsAt r code t y) it (subst (λ (y : Thread). BeginsAt r code y b) same h)

  pub all_begin : length ths ≤ at → at ≤ length ths → AreBeginnings r code ths bs
  all_begin least most = record { many = up.many ∙ omega (arith, least, most); each = up.each }
