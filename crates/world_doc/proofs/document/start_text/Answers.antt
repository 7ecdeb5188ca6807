use Rattle.std.proofs.lemmas.Result.{err_from_is_err_and}
use Rattle.serde_json.specs.View.{view}
use Rattle.serde_json.specs.Read.{read}
use Rattle.world_doc_terms.specs.Start.{world_of, world_or}
use Rattle.world_doc_stores.proofs.Steps.{gives_same}
use Rattle.world_doc.proofs.StartLemmas.{no_document, of_document}
use Rattle.world_doc.proofs.document.start_text.Goals as goal

pub returns-in_err-document : goal.returns-in_err-document
returns-in_err-document c =
    let p = err_from_is_err_and c.from_residual.result c.from_residual.ensures.1 in
    rw (p.1, p.2) (no_document c.in_err-document.field-0.0 (read c.args.text.now) c.args.code.now c.in_err-document.ensures)

pub returns : goal.returns
returns c =
    gives_same (λ w. w) c.read_world.result (world_of (view c.in_ok-document.document) c.args.code.now) (world_or (read c.args.text.now) c.args.code.now)
    (of_document (read c.args.text.now) c.args.code.now (view c.in_ok-document.document) c.in_ok-document.ensures) c.read_world.ensures
