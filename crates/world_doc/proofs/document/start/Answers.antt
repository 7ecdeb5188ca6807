use Rattle.serde_json.specs.Read.{read}
use Rattle.world_doc_terms.specs.Start.{start_of, world_or}
use Rattle.world_doc_stores.proofs.Steps.{gives_same}
use Rattle.world_doc.proofs.StartLemmas.{no_text, a_text}
use Rattle.world_doc.proofs.document.start.Goals as goal

pub returns-in-Ok : goal.returns-in-Ok
returns-in-Ok c =
    gives_same (λ w. w) c.start_text.result (world_or (read c.in-Ok.text.now) c.args.code.now) (start_of c.args.text.now c.args.code.now) (a_text c.args.text.now c.in-Ok.text.now c.args.code.now c.in-Ok.ensures.cases.0 c.in-Ok.ensures.cases.1) c.start_text.ensures

pub returns-in-Err : goal.returns-in-Err
returns-in-Err c = record { breaks = no_text c.args.text.now c.args.code.now c.in-Err.ensures.cases.0 }
