use Rattle.std.proofs.Common.{◌≡◌, Ok, subst}
use Rattle.std.proofs.lemmas.Result.{err_from_is_err_and}
use Rattle.lam_bytecode.specs.Codes.{CodeTree}
use Rattle.guarded_code.specs.Breaks.{IsGuarded}
use Rattle.world_doc_terms.specs.Start.{start_of}
use Rattle.run_inputs.proofs.Faults.{not_read}
use Rattle.run_inputs.proofs.document.start_in.Goals as goal

pub returns-clause-start : goal.returns-clause-start
returns-clause-start c = subst (λ (lent : CodeTree). start_of c.args.bytes.now lent ≡ Ok c.in_ok-start.field-0) c.code.ensures.code c.in_ok-start.ensures

pub returns-clause-sound : goal.returns-clause-sound
returns-clause-sound c =
    c.starts_are_entered.ensures.sound c.args.code.now c.requires (subst IsGuarded c.code.ensures.code c.code.ensures.guarded) c.args.bytes.now c.in_ok-start.field-0 (returns-clause-start c)

pub returns-in_err-start-clause-refused : goal.returns-in_err-start-clause-refused
returns-in_err-start-clause-refused c =
    let p = err_from_is_err_and c.from_residual.result c.from_residual.ensures.1 in
    rw p.1 (not_read c.args.code.now c.args.bytes.now c.code.result.now c.in_err-start.field-0.0 p.0 c.code.ensures.code c.in_err-start.ensures p.2)
