use Rattle.std.proofs.Common.{◌≡◌, IfOk, subst}
use Rattle.lam_machine_effects.specs.Meaning.{meaning}
use Rattle.lam_machine_rows.proofs.RowLemmas.{does_as}
use Rattle.lam_machine_rows.proofs.services.did.Goals as goal

pub returns-in-Ok : goal.returns-in-Ok
returns-in-Ok c = λ f h. does_as _ _ _ c.does.ensures (subst (λ r. IfOk r (λ e. meaning e ≡ f)) c.in-Ok.is h)
