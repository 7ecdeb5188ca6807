-- There is room where nothing is full, and nothing fails where there is no fault.
use Rattle.std.proofs.Common.{◌≡◌, ℕ, ◌<◌, Bool, true, false, cond, Option, Some, None, refl, arith}
use Rattle.std.specs.Prelude.{nat_lt}
use Rattle.std.proofs.lemmas.Bool.Decides.{nat_tests}
use Rattle.labelled_files.specs.declared.files.FileFault.{FileFault}
use Rattle.lam_machine_effects.specs.Fault.{Fault}
use Rattle.lam_machine_effects.specs.Serves.{full}
use Rattle.lam_machine_effects.specs.Serving.{file_faults}

pub lt_true : (a b : ℕ) → nat_lt a b ≡ true → a < b
lt_true a b e = grind (arith, nat_tests)

pub by_test : {X : Type 0} (b : Bool) (f : X) → cond b None (Some f) ≡ None → b ≡ true
by_test true f e = refl
by_test false f e = absurd cc

pub not_full : (n limit : ℕ) (f : Fault) → full n limit f ≡ None → n < limit
not_full n limit f e = lt_true n limit (by_test (nat_lt n limit) f e)

pub no_fault : (x : Option FileFault) → file_faults x ≡ None → x ≡ None
no_fault None e = refl
no_fault (Some f) e = absurd cc
