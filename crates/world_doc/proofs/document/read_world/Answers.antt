use Rattle.std.proofs.lemmas.Result.{err_from_is_err_and}
use Rattle.serde_json.specs.View.{view}
use Rattle.world_doc_terms.specs.Start.{world_of}
use Rattle.world_doc_stores.specs.Seen.{members, tags_seen}
use Rattle.world_doc_stores.proofs.Steps.{gives_same}
use Rattle.world_doc.specs.Document.{after_tags}
use Rattle.world_doc.proofs.WorldLemmas.{no_version, tags_broken, of_tags}
use Rattle.world_doc.proofs.document.read_world.Goals as goal

pub returns-in_err-version : goal.returns-in_err-version
returns-in_err-version c =
    let p = err_from_is_err_and c.from_residual-in_err-version.result c.from_residual-in_err-version.ensures.1 in
    rw (p.1, p.2) (no_version (view c.args.document.now) c.args.code.now (members (view c.args.document.now)) c.in_ok-object.ensures c.in_err-version.field-0.0 c.in_err-version.ensures)

pub returns-in_err-tags : goal.returns-in_err-tags
returns-in_err-tags c =
    let p = err_from_is_err_and c.from_residual-in_err-tags.result c.from_residual-in_err-tags.ensures.1 in
    rw (p.1, p.2) (tags_broken (view c.args.document.now) c.args.code.now (members (view c.args.document.now)) c.in_ok-object.ensures c.in_ok-version.version c.in_ok-version.ensures c.in_err-tags.field-0.0 c.in_err-tags.ensures)

pub returns : goal.returns
returns c =
    gives_same (λ w. w) c.after_tags.result (after_tags c.args.code.now c.in_ok-version.version (members (view c.args.document.now)) (tags_seen c.in_ok-tags.tags)) (world_of (view c.args.document.now) c.args.code.now)
    (of_tags (view c.args.document.now) c.args.code.now (members (view c.args.document.now)) c.in_ok-object.ensures c.in_ok-version.version c.in_ok-version.ensures (tags_seen c.in_ok-tags.tags) c.in_ok-tags.ensures) c.after_tags.ensures
