use Rattle.lam_value.specs.Homes.{home_of}
use Rattle.world_doc.proofs.CalledLemmas.{pipe_added}
use Rattle.world_doc.proofs.pipes.add_pipe.Goals as goal

pub returns-in_ok-insert-in-Ok : goal.returns-in_ok-insert-in-Ok
returns-in_ok-insert-in-Ok c =
    pipe_added c.args.pipes.now c.make.new.self c.args.called.now.entries c.insert.new.self.entries c.args.name c.in-Ok.pipe (home_of c.args.label.now c.args.label.now) c.next.result c.next.ensures.value c.next.ensures.bound c.if-next-eq-HOME_LIMIT.false c.requires c.in-Ok.ensures.name
    c.in-Ok.ensures.ok c.in_ok-insert-in-Ok.ensures.entries
