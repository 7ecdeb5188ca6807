use Rattle.std.proofs.lemmas.Result.{err_from_is_err_and}
use Rattle.serde_json.specs.View.{view}
use Rattle.world_doc_stores.specs.Seen.{members}
use Rattle.world_doc.specs.Called.{called_of}
use Rattle.world_doc.proofs.WorldLemmas.{not_filled, filled_by}
use Rattle.world_doc.proofs.document.fill.Goals as goal

pub returns-in_err-read_files : goal.returns-in_err-read_files
returns-in_err-read_files c =
    let p = err_from_is_err_and c.from_residual.result c.from_residual.ensures.1 in
    rw (p.1, p.2) (not_filled c.args.version c.in_err-read_files.field-0.0 c.args.stores.now (called_of c.args.called.now.entries) (members (view c.args.document.now)) c.in_err-read_files.ensures)

pub returns : goal.returns
returns c =
    filled_by c.args.version c.args.stores.now c.args.called.now.entries (members (view c.args.document.now)) c.read_files.new.files c.read_pipes.new.pipes c.read_pipes.new.called.entries c.read_pipes.result c.in_ok-read_files.ensures c.read_pipes.ensures
