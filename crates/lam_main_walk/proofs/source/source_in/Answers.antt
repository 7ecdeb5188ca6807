use Rattle.std.proofs.Common.{sym, subst}
use Rattle.std.proofs.lemmas.Result.{err_from_is_err_and}
use Rattle.region_check.specs.Seen.{checked_tree}
use Rattle.lam_main_replay.specs.Inputs.{NoCode}
use Rattle.lam_main_walk.proofs.SourceLemmas.{source_found}
use Rattle.lam_main_walk.proofs.source.source_in.Goals as goal

pub returns-in_err-code-clause-refused : goal.returns-in_err-code-clause-refused
returns-in_err-code-clause-refused c = λ bytes is.
    let p = err_from_is_err_and c.from_residual.result c.from_residual.ensures.1 in
    rw p.1 (subst (NoCode bytes) (sym p.2) (c.in_err-code.ensures.refused bytes is))

pub returns-in-Ok-clause-found : goal.returns-in-Ok-clause-found
returns-in-Ok-clause-found c = λ bytes is.
    source_found bytes (checked_tree c.args.checked.now) (record { code = c.in_ok-code.code; program = c.in-Ok.program }) is (c.in_ok-code.ensures.run bytes is) c.in-Ok.ensures.resolved

pub returns-in-Ok-clause-sound : goal.returns-in-Ok-clause-sound
returns-in-Ok-clause-sound c = record { code = c.in_ok-code.ensures.sound; limits = c.in-Ok.ensures.limits }
