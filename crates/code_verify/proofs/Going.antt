-- Targets, operation by operation.
use Rattle.std.proofs.Common.{◌≡◌, ℕ, ◌+◌, ◌<◌, ◌≤◌, Bool, true, false, List, ◌∷◌, Option, Some, None, is_some, length, get_or, drop, refl, sym, ap, ◌∙◌, cond}
use Rattle.std.proofs.lemmas.List.{drop_more, drop_all}
use Rattle.lam_bytecode.specs.declared.op.Op.{Op}
use Rattle.thread_steps.specs.Ops.{UnitAt, region_takes}
use Rattle.guarded_code.specs.Breaks.{first_failing_op}

pub takes_some : (o : Option UnitAt) → is_some (region_takes o) ≡ is_some o
takes_some None = refl
takes_some (Some u) = refl

pub op_passes : (test : ℕ → Op → Bool) (ops : List Op) (i : ℕ) (op : Op) → op ≡ get_or ops i op → i < length ops → test i op ≡ true → first_failing_op test i (drop i ops) ≡ first_failing_op test (i + 1) (drop (i + 1) ops)
op_passes test ops i op e lt h =
    let d : drop i ops ≡ op ∷ drop (i + 1) ops = drop_more ops i op lt ∙ ap (λ x. x ∷ drop (i + 1) ops) (sym e) in
    ap (first_failing_op test i) d ∙ ap (λ b. cond b (first_failing_op test (i + 1) (drop (i + 1) ops)) (Some i)) h

pub op_fails : (test : ℕ → Op → Bool) (ops : List Op) (i : ℕ) (op : Op) → op ≡ get_or ops i op → i < length ops → test i op ≡ false → first_failing_op test i (drop i ops) ≡ Some i
op_fails test ops i op e lt h =
    let d : drop i ops ≡ op ∷ drop (i + 1) ops = drop_more ops i op lt ∙ ap (λ x. x ∷ drop (i + 1) ops) (sym e) in
    ap (first_failing_op test i) d ∙ ap (λ b. cond b (first_failing_op test (i + 1) (drop (i + 1) ops)) (Some i)) h

pub ops_end : (test : ℕ → Op → Bool) (ops : List Op) (i : ℕ) → length ops ≤ i → first_failing_op test i (drop i ops) ≡ None
ops_end test ops i le = ap (first_failing_op test i) (drop_all i ops le)
