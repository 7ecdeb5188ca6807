use Rattle.std.proofs.Common.{sym}
use Rattle.std.proofs.lemmas.Result.{err_from_is_err_and}
use Rattle.serde_json.specs.View.{view, items_view}
use Rattle.world_doc_terms.specs.Tags.{no_tags, with_tags, tags_in}
use Rattle.world_doc_stores.specs.Seen.{members, tags_seen}
use Rattle.world_doc_stores.proofs.Steps.{says_fails, gives_same}
use Rattle.world_doc_stores.proofs.TagLemmas.{tags_few, tags_many, tags_off}
use Rattle.world_doc_stores.proofs.tags.read_tags.Goals as goal

pub returns-in_err-items : goal.returns-in_err-items
returns-in_err-items c =
    let p = err_from_is_err_and c.from_residual.result c.from_residual.ensures.1 in
    rw (p.1, p.2) (tags_off c.args.version (members (view c.args.document.now)) c.in_err-items.field-0.0 c.in_err-items.ensures)

pub returns-then-items-gt-TAG_LIMIT : goal.returns-then-items-gt-TAG_LIMIT
returns-then-items-gt-TAG_LIMIT c =
    says_fails c.bad_member.ensures (tags_many c.args.version (members (view c.args.document.now)) c.in_ok-items.items.now c.in_ok-items.ensures c.if-items-gt-TAG_LIMIT.true)

pub returns : goal.returns
returns c =
    gives_same tags_seen c.all_tags.result (with_tags c.args.version no_tags (items_view c.in_ok-items.items.now)) (tags_in c.args.version (members (view c.args.document.now)))
    (sym (tags_few c.args.version (members (view c.args.document.now)) c.in_ok-items.items.now c.in_ok-items.ensures c.if-items-gt-TAG_LIMIT.false)) c.all_tags.ensures
