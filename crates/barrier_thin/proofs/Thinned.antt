-- Thinned code where the code is guarded, and where it is not.
use Rattle.std.proofs.Common.{◌≡◌, Option, Some, None, refl, sym, subst}
use Rattle.lam_bytecode.specs.Codes.{CodeTree, IsCode}
use Rattle.guarded_code.specs.Breaks.{CodeBreak, first_code_break, IsGuarded}
use Rattle.thinned_code.specs.Thinned.{thinned_unless, thinned}
use Rattle.thinned_code.proofs.Thinned.{stays_code, stays_guarded}

-- a code with a break stays as it is
pub broken_stays : (code : CodeTree) → (IsGuarded code → ⊥) → code ≡ thinned code
unfolding thinned
broken_stays code broken = by (first_code_break code) refl
  where
    by : (o : Option CodeBreak) → first_code_break code ≡ o → code ≡ thinned_unless o code
    by None e = absurd (broken e)
    by (Some b) e = refl

pub thin_code_is : (code thin : CodeTree) → IsCode code → thin ≡ thinned code → IsCode thin
thin_code_is code thin is e = subst IsCode (sym e) (stays_code code is)

pub thin_guarded_is : (code thin : CodeTree) → IsGuarded code → thin ≡ thinned code → IsGuarded thin
thin_guarded_is code thin guarded e = subst IsGuarded (sym e) (stays_guarded code guarded)
