use Rattle.thread_host_run.proofs.WaitingLemmas.{again_nobody, again_monitor, again_end}
use Rattle.thread_host_run.proofs.waits.look_again.Goals as goal

pub returns-in-Nobody-clause-tells : goal.returns-in-Nobody-clause-tells
returns-in-Nobody-clause-tells c = λ held but. again_nobody c.args.touched c.args.code.now c.args.world.now c.args.names.now.keys c.args.thread c.args.prospect c.in-Nobody.is but

pub returns-in-Monitor-clause-tells : goal.returns-in-Monitor-clause-tells
returns-in-Monitor-clause-tells c = λ held but.
    again_monitor c.args.touched c.args.code.now c.args.world.now c.args.names.now.keys c.args.thread c.args.prospect c.in-Monitor.number c.has_monitor.result c.in-Monitor.is but
    (λ n at. c.has_monitor.ensures n at held)

pub returns-in-End-clause-tells : goal.returns-in-End-clause-tells
returns-in-End-clause-tells c = λ held but.
    again_end c.args.touched c.args.code.now c.args.world.now c.args.names.now.keys c.args.thread c.args.prospect c.in-End.other c.has_end.result c.in-End.is but c.has_end.ensures

pub returns-in-Unknown-clause-tells : goal.returns-in-Unknown-clause-tells
returns-in-Unknown-clause-tells c = λ held but. c.look.ensures.tells
