use Rattle.std.proofs.Common.{string_bytes, subst}
use Rattle.closed_terms.specs.declared.End.{End}
use Rattle.lam_main_plan.specs.Reading.{WithFile, program_limit}
use Rattle.lam_main_plan.specs.Replays.{Reader}
use Rattle.lam_closed_plan.specs.Closes.{Closes}
use Rattle.lam_closed_rooms.specs.Reports as rooms
use Rattle.lam_closed_main.proofs.ReportLemmas.{run_reported}
use Rattle.lam_closed_main.proofs.command_answer.Goals as goal

pub returns-in-Run-clause-gives : goal.returns-in-Run-clause-gives
returns-in-Run-clause-gives g c = λ told.
    let files = g.H.Shelf.files c.args.shelf.now in
    let new = g.H.Shelf.files c.run.new.shelf in
    let program = string_bytes c.in-Run.program in
    let Of = λ (r : Reader) (e : End). WithFile (files program) program program_limit (Closes files (record { world = string_bytes c.in-Run.world; out = string_bytes c.in-Run.book_out }) (record { reader = r; base = string_bytes c.in-Run.base; turns = c.in-Run.turns }) e) in
    rw c.in-Run.is
    (run_reported c.run.result _ files new
    (subst (λ (r : Reader). rooms.Reports c.run.result (Of r) files new) c.observer-reader.ensures (c.run.ensures.gives told)))
