use Rattle.std.proofs.lemmas.Result.{err_from_is_err_and}
use Rattle.world_doc.specs.Called.{pipes_of}
use Rattle.world_doc.proofs.PipeLemmas.{pipe_made, no_pipe_made}
use Rattle.world_doc.proofs.pipes.read_all.Goals as goal

pub loop-item-preserved : goal.loop-item-preserved
loop-item-preserved c =
    pipe_made c.args.names.now c.args.items.now c.loop-item.item-index c.item-item.result (pipes_of c.loop-item.pipes c.loop-item.called.entries) (pipes_of c.read_pipe.new.pipes c.read_pipe.new.called.entries) _ c.loop-item-test.true c.item-item.is c.loop-item.invariant
    c.in_ok-read_pipe.ensures

pub returns-in_err-read_pipe : goal.returns-in_err-read_pipe
returns-in_err-read_pipe c =
    let p = err_from_is_err_and c.from_residual.result c.from_residual.ensures.1 in
    rw (p.1, p.2)
    (no_pipe_made c.args.names.now c.in_err-read_pipe.field-0.0 c.args.items.now c.loop-item.item-index c.item-item.result (pipes_of c.loop-item.pipes c.loop-item.called.entries) _ c.loop-item-test.true c.item-item.is c.loop-item.invariant c.in_err-read_pipe.ensures)
