use Rattle.std.proofs.Common.{◌≡◌, ◌++◌, ◌∙◌, string_bytes, ap}
use Rattle.std.proofs.lemmas.Result.{on_ok_weaker}
use Rattle.capabilities.specs.declared.Caps.{Caps}
use Rattle.lam_machine_replay.specs.Audited.{taken}
use Rattle.audit_log.specs.Log.{note_line}
use Rattle.audit_log_lines.proofs.AuditLemmas.{audit_kept}
use Rattle.audit_log_lines.proofs.push_audit.Goals as goal

pub returns-in-Ok : goal.returns-in-Ok
returns-in-Ok c =
    let names = c.args.names.now in
    on_ok_weaker c.push_note.result
    (λ new.
    audit_kept names c.args.turn c.args.event c.args.world.now c.args.text.now c.push_note.new.text
    (new
    ∙ ap (λ by. string_bytes c.args.text.now ++ note_line names c.public_in.result.now c.args.turn c.args.event by) c.in-Ok.ensures
    ∙ ap (λ (public : Caps). string_bytes c.args.text.now ++ note_line names public c.args.turn c.args.event (taken c.args.event)) c.public_in.ensures))
    c.push_note.ensures
