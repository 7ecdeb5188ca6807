use Rattle.std.proofs.Common.{string_bytes, subst}
use Rattle.lam_main_plan.specs.Reading.{WithFile, program_limit}
use Rattle.lam_main_plan.specs.Replays.{Reader}
use Rattle.lam_main_plan.specs.Threads.{RunsThreads}
use Rattle.lam_main_replay.specs.Halts.{Reports}
use Rattle.lam_main.proofs.written_answer.Goals as goal

pub returns-in-Run-clause-gives : goal.returns-in-Run-clause-gives
returns-in-Run-clause-gives g c = λ told.
    rw c.in-Run.is
    (subst (λ (r : Reader). Reports c.run.result (WithFile (g.H.Shelf.files c.args.shelf.now (string_bytes c.in-Run.program)) (string_bytes c.in-Run.program) program_limit (RunsThreads (g.H.Shelf.files c.args.shelf.now) (record { world = string_bytes c.in-Run.world; out = string_bytes c.in-Run.book_out }) c.in-Run.turns r)) (g.H.Shelf.files c.args.shelf.now) (g.H.Shelf.files c.run.new.shelf))
    c.observer-reader.ensures (c.run.ensures.gives told))

pub returns-in-Make-clause-gives : goal.returns-in-Make-clause-gives
returns-in-Make-clause-gives g c = λ told. rw c.in-Make.is (c.make.ensures.gives told)

pub returns-in-Next-clause-gives : goal.returns-in-Next-clause-gives
returns-in-Next-clause-gives g c = λ told. rw c.in-Next.is (c.next.ensures.gives told)
