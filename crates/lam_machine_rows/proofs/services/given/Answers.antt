use Rattle.std.proofs.Common.{◌≡◌, IfOk, refl, subst}
use Rattle.lam_machine_effects.specs.Meaning.{meaning}
use Rattle.lam_machine_rows.proofs.RowLemmas.{gives_as}
use Rattle.lam_machine_rows.proofs.services.given.Goals as goal

pub returns-in-Ok : goal.returns-in-Ok
returns-in-Ok c = λ f h. gives_as _ _ _ _ _ c.gives.ensures refl (subst (λ r. IfOk r (λ e. meaning e ≡ f)) c.in-Ok.is h)
