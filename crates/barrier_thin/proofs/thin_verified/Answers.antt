use Rattle.std.proofs.lemmas.Result.{IfOk-weaker}
use Rattle.barrier_thin.proofs.Acting.{stands_for_programs}
use Rattle.barrier_thin.proofs.thin_verified.Goals as goal

pub returns-clause-acts : goal.returns-clause-acts
returns-clause-acts c =
    IfOk-weaker c.thin_known.result _ _
    (λ made e. stands_for_programs c.args.code.now made c.compiled_code_is_guarded.ensures.scheme c.thinned_scheme_acts.ensures.acts c.requires e) c.thin_known.ensures.thinned
