use Rattle.std.proofs.Common.{◌≡◌, Ok}
use Rattle.std.proofs.lemmas.Result.{err_from_is_err_and}
use Rattle.lam_machine_terms.specs.Worlds.{World}
use Rattle.world_doc_terms.specs.Start.{start_of}
use Rattle.lam_main_replay.proofs.FileLemmas.{no_shelf_input}
use Rattle.lam_main_replay.proofs.RunLemmas.{no_start_found}
use Rattle.lam_main_replay.proofs.document.start_in.Goals as goal

pub returns-in_err-start_in-clause-finds : goal.returns-in_err-start_in-clause-finds
returns-in_err-start_in-clause-finds c =
    let p = err_from_is_err_and c.from_residual.result c.from_residual.ensures.1 in
    rw p.1 (no_start_found (λ (w : World). start_of c.args.bytes.now c.args.code.now ≡ Ok w) c.args.code.now c.args.bytes.now c.in_err-start_in.field-0.0 p.0 c.in_err-start_in.ensures.refused p.2)

pub returns-in_err-start_in-clause-no_fault : goal.returns-in_err-start_in-clause-no_fault
returns-in_err-start_in-clause-no_fault c =
    let p = err_from_is_err_and c.from_residual.result c.from_residual.ensures.1 in
    rw p.1 (no_shelf_input c.in_err-start_in.field-0.0 p.0 p.2)
