use Rattle.std.proofs.Common.{ap, sym, ◌∙◌}
use Rattle.std.specs.Prelude.{codes}
use Rattle.std.proofs.lemmas.Result.{err_from_is_err_and}
use Rattle.serde_json.specs.View.{view}
use Rattle.serde_json.specs.Find.{as_str}
use Rattle.world_doc_terms.specs.Breaks.{formed}
use Rattle.world_doc_terms.specs.Entries.{entry_named}
use Rattle.world_doc_stores.specs.Seen.{members}
use Rattle.world_doc_stores.proofs.Steps.{says_fails}
use Rattle.world_doc_stores.proofs.MemberOn.{member_on, member_off}
use Rattle.world_doc.proofs.entry.read_entry.Goals as goal

pub returns-in_err-name : goal.returns-in_err-name
returns-in_err-name c =
    let p = err_from_is_err_and c.from_residual.result c.from_residual.ensures.1 in
    rw (p.1, p.2) (member_off (codes "run") as_str (entry_named c.args.code.now) c.in_err-name.field-0.0 (members (view c.args.thread.now)) c.in_err-name.ensures)

pub returns-in-Some : goal.returns-in-Some
returns-in-Some c =
    member_on (codes "run") as_str (entry_named c.args.code.now) (members (view c.args.thread.now)) c.in_ok-name.name.now c.in_ok-name.ensures ∙ ap (formed (codes "run")) (sym c.in-Some.ensures)

pub returns-in-None : goal.returns-in-None
returns-in-None c =
    says_fails c.bad_member.ensures (member_on (codes "run") as_str (entry_named c.args.code.now) (members (view c.args.thread.now)) c.in_ok-name.name.now c.in_ok-name.ensures ∙ ap (formed (codes "run")) (sym c.in-None.ensures))
