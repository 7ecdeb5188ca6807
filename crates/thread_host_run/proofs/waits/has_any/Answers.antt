use Rattle.std.proofs.Common.{◌∙◌, ap}
use Rattle.lam_value.specs.declared.names.Name.{Name}
use Rattle.monitor_core.specs.Held.{is_free}
use Rattle.lam_machine_laws.proofs.ThreadLemmas.{some_inj}
use Rattle.thread_host_run.proofs.waits.has_any.Goals as goal

pub returns-in-None : goal.returns-in-None
returns-in-None c = λ n at. absurd (let none = c.in-None.ensures.key in cc)

pub returns-in-Some : goal.returns-in-Some
returns-in-Some c = λ n at.
    c.is_free_in.ensures ∙ ap (λ (m : Name). is_free c.args.world.now.monitors m c.args.thread) (some_inj c.in-Some.name.now n (c.in-Some.ensures.key ∙ at))
