-- A function, as the code meets it: xs are its parameters as the code reached them.
use Rattle.std.proofs.Common.{◌≡◌, ℕ, suc, ◌≤◌, List, [], ◌∷◌, length, Option, Bor, refl, sym, ap, ◌∙◌, subst, arith}
use Rattle.lam_syntax.specs.declared.Var.{Var}
use Rattle.lam_syntax.specs.Tree.{FunctionTree, VarTree, vars_tree}
use Rattle.lam_operators.specs.Words.{Word}
use Rattle.lam_builtins.specs.Types.{ValueType}
use Rattle.lam_types_kinds.specs.Verdicts.{Fine, then_on}
use Rattle.lam_types_kinds.specs.Breaks.{Verdict}
use Rattle.lam_types_kinds.specs.Tables.{Names, Decls, vars_known}
use Rattle.lam_types_kinds.specs.Values.{Breaks, names}
use Rattle.lam_types_kinds.specs.declared.types.TypeRef.{TypeRef}
use Rattle.lam_types_kinds.specs.declared.fault.TypeFault.{TypeFault}
use Rattle.lam_types_kinds.proofs.Steps.{stops}
use Rattle.lam_types.specs.declared.stmts.Counts.{Counts}
use Rattle.lam_types.specs.Stmts.{block_checked}
use Rattle.lam_types.specs.Program.{function_checked, returns, result_known, result_type, at_head}
use Rattle.lam_types.proofs.ProgramLaw.{vars_few}

pub length_vars : (vs : List Var) → length (vars_tree vs) ≡ length vs
length_vars [] = refl
length_vars (v ∷ vs) = ap suc (length_vars vs)

from_none : (d : Decls) (es : List (Bor Word × TypeRef)) (vs : List VarTree) (new : Names) → es ≡ [] → vars_known d 64 (names es) vs ≡ Fine new → vars_known d 64 [] vs ≡ Fine new
from_none d es vs new e h = subst (λ (es : List (Bor Word × TypeRef)). vars_known d 64 (names es) vs ≡ Fine new) e h

pub few : (d : Decls) (es : List (Bor Word × TypeRef)) (xs : List Var) (new : Names) (k : ℕ) → es ≡ [] → vars_known d 64 (names es) (vars_tree xs) ≡ Fine new → k ≡ length xs → k ≤ 64
few d es xs new k e h l =
    let n : length (vars_tree xs) ≤ 64 = vars_few d 64 (vars_tree xs) new (from_none d es (vars_tree xs) new e h) in
    let m : length (vars_tree xs) ≡ length xs = length_vars xs in
    omega arith

module _ (d : Decls) (n : ℕ) (f : FunctionTree) where
  pub head_stop : (h : TypeFault) → Breaks h (returns f) → Breaks h (function_checked d n f)
  head_stop h b =
      stops h (returns f) (λ _. then_on (vars_known d 64 [] f.params) (λ env. then_on (result_known d f.result) (λ _. then_on (block_checked d (result_type f.result) env (at_head f n) f.body) (λ c. Fine c.regions)))) b

  the_block : (env : Names) → returns f ≡ Fine tt → vars_known d 64 [] f.params ≡ Fine env → result_known d f.result ≡ Fine tt →
      function_checked d n f ≡ then_on (block_checked d (result_type f.result) env (at_head f n) f.body) (λ c. Fine c.regions)
  the_block env a b c =
      ap (λ (v : Verdict (Unit {0})). then_on v (λ _. then_on (vars_known d 64 [] f.params) (λ env. then_on (result_known d f.result) (λ _. then_on (block_checked d (result_type f.result) env (at_head f n) f.body) (λ c. Fine c.regions))))) a ∙
      ap (λ (v : Verdict Names). then_on v (λ env. then_on (result_known d f.result) (λ _. then_on (block_checked d (result_type f.result) env (at_head f n) f.body) (λ c. Fine c.regions)))) b ∙
      ap (λ (v : Verdict (Unit {0})). then_on v (λ _. then_on (block_checked d (result_type f.result) env (at_head f n) f.body) (λ c. Fine c.regions))) c

  same_head : (k : ℕ) (xs ys : List Var) → k ≡ length xs → xs ≡ ys → f.params ≡ vars_tree ys → record { slots = k; regions = n } ≡ at_head f n
  same_head k xs ys l e p =
      ap (λ (k : ℕ). record { slots = k; regions = n }) (l ∙ ap (λ (l : List Var). length l) e ∙ sym (length_vars ys) ∙ ap (λ (l : List VarTree). length l) (sym p))

  params_fine : (es : List (Bor Word × TypeRef)) (xs ys : List Var) (env : Names) → es ≡ [] → xs ≡ ys → f.params ≡ vars_tree ys → vars_known d 64 (names es) (vars_tree xs) ≡ Fine env → vars_known d 64 [] f.params ≡ Fine env
  params_fine es xs ys env e g p h =
      ap (vars_known d 64 []) p ∙ ap (λ (l : List Var). vars_known d 64 [] (vars_tree l)) (sym g) ∙ from_none d es (vars_tree xs) env e h

  pub body_stop : (h : TypeFault) (es : List (Bor Word × TypeRef)) (xs ys : List Var) (env : Names) (k : ℕ) (res : Option ValueType) → returns f ≡ Fine tt → es ≡ [] → xs ≡ ys → f.params ≡ vars_tree ys → vars_known d 64 (names es) (vars_tree xs) ≡ Fine env →
      result_known d f.result ≡ Fine tt → k ≡ length xs → res ≡ result_type f.result → Breaks h (block_checked d res env (record { slots = k; regions = n }) f.body) → Breaks h (function_checked d n f)
  body_stop h es xs ys env k res a e g p v r l t b =
      subst (λ (v : Verdict ℕ). Breaks h v) (sym (the_block env a (params_fine es xs ys env e g p v) r))
      (stops h (block_checked d (result_type f.result) env (at_head f n) f.body) (λ c. Fine c.regions)
      (subst (λ (res : Option ValueType). Breaks h (block_checked d res env (at_head f n) f.body)) t
      (subst (λ (c : Counts). Breaks h (block_checked d res env c f.body)) (same_head k xs ys l g p) b)))

  pub body_fine : (es : List (Bor Word × TypeRef)) (xs ys : List Var) (env : Names) (k : ℕ) (res : Option ValueType) (last : Counts) → returns f ≡ Fine tt → es ≡ [] → xs ≡ ys → f.params ≡ vars_tree ys → vars_known d 64 (names es) (vars_tree xs) ≡ Fine env →
      result_known d f.result ≡ Fine tt → k ≡ length xs → res ≡ result_type f.result → block_checked d res env (record { slots = k; regions = n }) f.body ≡ Fine last → function_checked d n f ≡ Fine last.regions
  body_fine es xs ys env k res last a e g p v r l t b =
      the_block env a (params_fine es xs ys env e g p v) r ∙
      ap (λ (v : Verdict Counts). then_on v (λ c. Fine c.regions))
      (subst (λ (res : Option ValueType). block_checked d res env (at_head f n) f.body ≡ Fine last) t
      (subst (λ (c : Counts). block_checked d res env c f.body ≡ Fine last) (same_head k xs ys l g p) b))
