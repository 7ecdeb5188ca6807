use Rattle.std.proofs.Common.{map, string_bytes, ap}
use Rattle.lam_closed_words.specs.Words.{request_of}
use Rattle.lam_closed_plan.specs.Answer.{outside}
use Rattle.lam_closed_plan.specs.Plan.{IsPlan, written_by}
use Rattle.lam_closed_main.proofs.EndLemmas.{answer_of, unfailed_end, silent_memory, silent_shelf, shelf_failed_as, memory_ended_as, words_first}
use Rattle.lam_closed_main.proofs.lam_closed.Goals as goal

pub returns-clause-answer : goal.returns-clause-answer
returns-clause-answer g c = λ told.
    let ws = map string_bytes c.args.words.now in
    answer_of c.end_with.result (g.O.Sink.taken c.args.out.now) (g.O.Sink.taken c.end_with.new.out) (written_by (request_of ws)) (IsPlan ws (g.H.Shelf.files c.args.shelf.now)) (g.H.Shelf.files c.args.shelf.now) (g.H.Shelf.files c.answer_of-answer.new.shelf) (c.answer_of-answer.ensures.kept told) c.answer_of-answer.result
    (c.answer_of-answer.ensures.gives told) c.end_with.ensures.ends

pub returns-clause-spared : goal.returns-clause-spared
returns-clause-spared g c = λ told.
    memory_ended_as c.end_with.result (g.O.Sink.taken c.args.out.now) (g.O.Sink.taken c.end_with.new.out) c.answer_of-answer.result c.end_with.ensures.ends (c.answer_of-answer.ensures.spared told)

pub returns-clause-no_memory : goal.returns-clause-no_memory
returns-clause-no_memory g c = silent_memory c.end_with.result (g.O.Sink.taken c.args.out.now) (g.O.Sink.taken c.end_with.new.out) c.answer_of-answer.result c.end_with.ensures.ends

pub returns-clause-shelf_fault : goal.returns-clause-shelf_fault
returns-clause-shelf_fault g c = silent_shelf c.end_with.result (g.O.Sink.taken c.args.out.now) (g.O.Sink.taken c.end_with.new.out) c.answer_of-answer.result c.end_with.ensures.ends

pub returns-clause-shelf_rose : goal.returns-clause-shelf_rose
returns-clause-shelf_rose g c = shelf_failed_as c.end_with.result (g.O.Sink.taken c.args.out.now) (g.O.Sink.taken c.end_with.new.out) c.answer_of-answer.result c.end_with.ensures.ends c.answer_of-answer.ensures.failed

pub returns-clause-refused : goal.returns-clause-refused
returns-clause-refused g c = λ told.
    c.refusals_are_exact.ensures (map string_bytes c.args.words.now) c.end_with.result (outside (g.H.Shelf.files c.args.shelf.now) (g.O.Sink.taken c.args.out.now)) (outside (g.H.Shelf.files c.answer_of-answer.new.shelf) (g.O.Sink.taken c.end_with.new.out)) (returns-clause-answer g c told)

pub returns-clause-no_fault : goal.returns-clause-no_fault
returns-clause-no_fault g c = λ told quiet_shelf quiet_sink some plan is.
    let ws = map string_bytes c.args.words.now in
    let old = outside (g.H.Shelf.files c.args.shelf.now) (g.O.Sink.taken c.args.out.now) in
    let new = outside (g.H.Shelf.files c.answer_of-answer.new.shelf) (g.O.Sink.taken c.end_with.new.out) in
    unfailed_end (written_by (request_of ws)) c.end_with.result (IsPlan ws old.files) old new plan (λ p it. (returns-clause-refused g c told).alone p plan it is) some
    (λ e. quiet_shelf (returns-clause-shelf_rose g c e)) (λ e. quiet_sink (c.end_with.ensures.rose e)) (returns-clause-answer g c told)

pub returns-clause-orderly : goal.returns-clause-orderly
returns-clause-orderly g c = λ told.
    c.orderly_calls_end.ensures (map string_bytes c.args.words.now) c.end_with.result (outside (g.H.Shelf.files c.args.shelf.now) (g.O.Sink.taken c.args.out.now)) (outside (g.H.Shelf.files c.answer_of-answer.new.shelf) (g.O.Sink.taken c.end_with.new.out)) (returns-clause-answer g c told)

pub returns-clause-words_first : goal.returns-clause-words_first
returns-clause-words_first g c =
    words_first c.end_with.result (g.H.Shelf.files c.args.shelf.now) (g.H.Shelf.files c.answer_of-answer.new.shelf) (g.O.Sink.taken c.args.out.now) (g.O.Sink.taken c.end_with.new.out) (request_of (map string_bytes c.args.words.now)) c.answer_of-answer.result c.answer_of-answer.ensures.words_first
    (λ bad name. ap (λ shelf. g.H.Shelf.files shelf name) (c.answer_of-answer.ensures.untouched bad))
    c.end_with.ensures.ends

pub returns-clause-closed : goal.returns-clause-closed
returns-clause-closed g c = λ told.
    c.closed_runs_are_recorded.ensures (map string_bytes c.args.words.now) c.end_with.result (outside (g.H.Shelf.files c.args.shelf.now) (g.O.Sink.taken c.args.out.now)) (outside (g.H.Shelf.files c.answer_of-answer.new.shelf) (g.O.Sink.taken c.end_with.new.out)) (returns-clause-answer g c told)

pub returns-clause-broken_off : goal.returns-clause-broken_off
returns-clause-broken_off g c = λ told.
    c.broken_runs_are_recorded.ensures (map string_bytes c.args.words.now) c.end_with.result (outside (g.H.Shelf.files c.args.shelf.now) (g.O.Sink.taken c.args.out.now)) (outside (g.H.Shelf.files c.answer_of-answer.new.shelf) (g.O.Sink.taken c.end_with.new.out)) (returns-clause-answer g c told)

pub returns-clause-same : goal.returns-clause-same
returns-clause-same g c = λ told.
    c.closed_calls_show_the_same.ensures (map string_bytes c.args.words.now) c.end_with.result (outside (g.H.Shelf.files c.args.shelf.now) (g.O.Sink.taken c.args.out.now)) (outside (g.H.Shelf.files c.answer_of-answer.new.shelf) (g.O.Sink.taken c.end_with.new.out)) (returns-clause-answer g c told)

pub returns-clause-in_order : goal.returns-clause-in_order
returns-clause-in_order g c = λ told.
    c.closed_runs_end_in_order.ensures (map string_bytes c.args.words.now) c.end_with.result (outside (g.H.Shelf.files c.args.shelf.now) (g.O.Sink.taken c.args.out.now)) (outside (g.H.Shelf.files c.answer_of-answer.new.shelf) (g.O.Sink.taken c.end_with.new.out)) (returns-clause-answer g c told)

pub returns-clause-complete : goal.returns-clause-complete
returns-clause-complete g c = c.closed_runs_are_complete.ensures (map string_bytes c.args.words.now) (g.H.Shelf.files c.args.shelf.now)

pub returns-clause-checked : goal.returns-clause-checked
returns-clause-checked g c = c.checks_are_told.ensures (map string_bytes c.args.words.now) (g.H.Shelf.files c.args.shelf.now)
