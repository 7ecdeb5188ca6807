use Rattle.std.proofs.Common.{Ok, Err, string_bytes}
use Rattle.std.proofs.lemmas.Result.{err_from_is_err_and}
use Rattle.lam_main_replay.proofs.FileLemmas.{no_code_found, no_shelf_input}
use Rattle.lam_main_walk.specs.Sources.{IsSourceOf}
use Rattle.lam_main_walk.proofs.SourceLemmas.{source_in_file}
use Rattle.lam_main_walk.proofs.source.read_source.Goals as goal

pub returns-clause-finds : goal.returns-clause-finds
returns-clause-finds g c = λ told.
    source_in_file (g.H.Shelf.files c.args.shelf.now (string_bytes c.args.program)) (string_bytes c.args.program) c.as_slice.result.now c.in_ok-bytes.bytes (Ok c.in_ok-source_of.field-0) (c.in_ok-bytes.ensures.read told) c.as_slice.ensures.value c.in_ok-source_of.ensures.found

pub returns-clause-found : goal.returns-clause-found
returns-clause-found g c = (c.as_slice.result.now, c.in_ok-source_of.ensures.found)

pub returns-in_err-source_of-clause-finds : goal.returns-in_err-source_of-clause-finds
returns-in_err-source_of-clause-finds g c = λ told.
    let p = err_from_is_err_and c.from_residual-in_err-source_of.result c.from_residual-in_err-source_of.ensures.1 in
    rw p.1
    (source_in_file (g.H.Shelf.files c.args.shelf.now (string_bytes c.args.program)) (string_bytes c.args.program) c.as_slice.result.now c.in_ok-bytes.bytes (Err p.0) (c.in_ok-bytes.ensures.read told) c.as_slice.ensures.value
    (no_code_found (IsSourceOf c.as_slice.result.now) c.as_slice.result.now c.in_err-source_of.field-0.0 p.0 c.in_err-source_of.ensures.refused p.2))

pub returns-in_err-source_of-clause-failed : goal.returns-in_err-source_of-clause-failed
returns-in_err-source_of-clause-failed g c =
    let p = err_from_is_err_and c.from_residual-in_err-source_of.result c.from_residual-in_err-source_of.ensures.1 in
    rw p.1 (λ e. absurd (no_shelf_input c.in_err-source_of.field-0.0 p.0 p.2 e))
