-- a call whose number is not listed does not fail
use Rattle.std.proofs.Common.{◌≡◌, Bool, false, Result, IsErrOf, IsTrue, ◌↔◌}
use Rattle.lam_io.specs.declared.ShelfFault.{ShelfFault}
use Rattle.lam_io.specs.declared.ShelfFault.TheVariants.{Failed}

pub exactly_not : {T : Type 0} (r : Result T ShelfFault) (listed : Bool) → listed ≡ false → ¬ IsErrOf r Failed → IsErrOf r Failed ↔ IsTrue listed
exactly_not r listed off cannot = (λ e. absurd (cannot e), λ h. cc)
