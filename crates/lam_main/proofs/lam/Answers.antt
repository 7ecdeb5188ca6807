use Rattle.std.proofs.Common.{map, string_bytes, ap}
use Rattle.lam_main_words.specs.Words.{request_of}
use Rattle.lam_main_plan.specs.Answer.{outside}
use Rattle.lam_main_plan.specs.Plan.{IsPlan, written_by}
use Rattle.lam_main_plan.proofs.AnswerLemmas.{answers_to, status_of}
use Rattle.lam_main_plan.proofs.PlanLemmas.{plans_are_one}
use Rattle.lam_main_plan.proofs.FormatLemmas.{steady_of}
use Rattle.lam_main.proofs.EndLemmas.{planned_of, silent_memory, silent_shelf, shelf_failed_as, memory_ended_as, words_first}
use Rattle.lam_main.proofs.lam.Goals as goal

pub returns-clause-planned : goal.returns-clause-planned
returns-clause-planned g c = λ told.
    planned_of c.end_with.result (g.O.Sink.taken c.args.out.now) (g.O.Sink.taken c.end_with.new.out) (IsPlan (map string_bytes c.args.words.now) (g.H.Shelf.files c.args.shelf.now)) (g.H.Shelf.files c.args.shelf.now) (g.H.Shelf.files c.answer_of-answer.new.shelf) c.answer_of-answer.result
    (c.answer_of-answer.ensures.gives told) c.end_with.ensures.ends

pub returns-clause-answer : goal.returns-clause-answer
returns-clause-answer g c = λ told none plan is.
    let ws = map string_bytes c.args.words.now in
    let files = g.H.Shelf.files c.args.shelf.now in
    let old = outside files (g.O.Sink.taken c.args.out.now) in
    let new = outside (g.H.Shelf.files c.answer_of-answer.new.shelf) (g.O.Sink.taken c.end_with.new.out) in
    answers_to (written_by (request_of ws)) c.end_with.result (IsPlan ws files) old new plan (λ p given. plans_are_one ws files p plan none given is)
    (silent_memory c.end_with.result old.taken new.taken c.answer_of-answer.result c.end_with.ensures.ends)
    (silent_shelf c.end_with.result old.taken new.taken c.answer_of-answer.result c.end_with.ensures.ends)
    (c.answer_of-answer.ensures.kept told)
    (returns-clause-planned g c told)

pub returns-clause-spared : goal.returns-clause-spared
returns-clause-spared g c = λ told.
    memory_ended_as c.end_with.result (g.O.Sink.taken c.args.out.now) (g.O.Sink.taken c.end_with.new.out) c.answer_of-answer.result c.end_with.ensures.ends (c.answer_of-answer.ensures.spared told)

pub returns-clause-no_fault : goal.returns-clause-no_fault
returns-clause-no_fault g c = λ told none quiet_shelf quiet_sink some plan is.
    let old = outside (g.H.Shelf.files c.args.shelf.now) (g.O.Sink.taken c.args.out.now) in
    let new = outside (g.H.Shelf.files c.answer_of-answer.new.shelf) (g.O.Sink.taken c.end_with.new.out) in
    status_of (written_by (request_of (map string_bytes c.args.words.now))) c.end_with.result plan old new some (λ e. quiet_shelf (shelf_failed_as c.end_with.result old.taken new.taken c.answer_of-answer.result c.end_with.ensures.ends c.answer_of-answer.ensures.failed e)) (λ e. quiet_sink (c.end_with.ensures.rose e))
    (returns-clause-answer g c told none plan is)

pub returns-clause-steady : goal.returns-clause-steady
returns-clause-steady g c = steady_of (map string_bytes c.args.words.now) (g.H.Shelf.files c.args.shelf.now) c.canonical_text_is_lexed.ensures c.canonical_text_is_read_as_the_tree.ensures c.canonical_text_is_steady.ensures

pub returns-clause-words_first : goal.returns-clause-words_first
returns-clause-words_first g c =
    words_first c.end_with.result (g.H.Shelf.files c.args.shelf.now) (g.H.Shelf.files c.answer_of-answer.new.shelf) (g.O.Sink.taken c.args.out.now) (g.O.Sink.taken c.end_with.new.out) (request_of (map string_bytes c.args.words.now)) c.answer_of-answer.result c.answer_of-answer.ensures.words_first
    (λ bad name. ap (λ shelf. g.H.Shelf.files shelf name) (c.answer_of-answer.ensures.untouched bad))
    c.end_with.ensures.ends

pub returns-clause-replays_isolated : goal.returns-clause-replays_isolated
returns-clause-replays_isolated g c = c.replays_are_isolated.ensures (map string_bytes c.args.words.now) (g.H.Shelf.files c.args.shelf.now)

pub returns-clause-fronts : goal.returns-clause-fronts
returns-clause-fronts g c = c.fronts_are_printed.ensures (map string_bytes c.args.words.now) (g.H.Shelf.files c.args.shelf.now)

pub returns-clause-audited : goal.returns-clause-audited
returns-clause-audited g c = c.audits_are_printed.ensures (map string_bytes c.args.words.now) (g.H.Shelf.files c.args.shelf.now)

pub returns-clause-headline : goal.returns-clause-headline
returns-clause-headline g c = λ told.
    c.runs_are_recorded.ensures (map string_bytes c.args.words.now) c.end_with.result (outside (g.H.Shelf.files c.args.shelf.now) (g.O.Sink.taken c.args.out.now)) (outside (g.H.Shelf.files c.answer_of-answer.new.shelf) (g.O.Sink.taken c.end_with.new.out)) (returns-clause-planned g c told)

pub returns-clause-broken_off : goal.returns-clause-broken_off
returns-clause-broken_off g c = λ told.
    c.broken_runs_are_recorded.ensures (map string_bytes c.args.words.now) c.end_with.result (outside (g.H.Shelf.files c.args.shelf.now) (g.O.Sink.taken c.args.out.now)) (outside (g.H.Shelf.files c.answer_of-answer.new.shelf) (g.O.Sink.taken c.end_with.new.out)) (returns-clause-planned g c told)

pub returns-clause-in_order : goal.returns-clause-in_order
returns-clause-in_order g c = λ told.
    c.runs_end_in_order.ensures (map string_bytes c.args.words.now) c.end_with.result (outside (g.H.Shelf.files c.args.shelf.now) (g.O.Sink.taken c.args.out.now)) (outside (g.H.Shelf.files c.answer_of-answer.new.shelf) (g.O.Sink.taken c.end_with.new.out)) (returns-clause-planned g c told)

pub returns-clause-complete : goal.returns-clause-complete
returns-clause-complete g c = c.runs_are_complete.ensures (map string_bytes c.args.words.now) (g.H.Shelf.files c.args.shelf.now)

pub returns-clause-generated : goal.returns-clause-generated
returns-clause-generated g c = λ told.
    c.generated_runs_are_recorded.ensures (map string_bytes c.args.words.now) c.end_with.result (outside (g.H.Shelf.files c.args.shelf.now) (g.O.Sink.taken c.args.out.now)) (outside (g.H.Shelf.files c.answer_of-answer.new.shelf) (g.O.Sink.taken c.end_with.new.out)) (returns-clause-planned g c told)

pub returns-clause-meant : goal.returns-clause-meant
returns-clause-meant g c = c.calls_run_as_meant.ensures (map string_bytes c.args.words.now) (g.H.Shelf.files c.args.shelf.now)

pub returns-clause-refused : goal.returns-clause-refused
returns-clause-refused g c = λ told.
    c.refusals_are_exact.ensures (map string_bytes c.args.words.now) c.end_with.result (outside (g.H.Shelf.files c.args.shelf.now) (g.O.Sink.taken c.args.out.now)) (outside (g.H.Shelf.files c.answer_of-answer.new.shelf) (g.O.Sink.taken c.end_with.new.out)) (returns-clause-planned g c told)

pub returns-clause-orderly : goal.returns-clause-orderly
returns-clause-orderly g c = λ told.
    c.orderly_calls_are_done.ensures (map string_bytes c.args.words.now) c.end_with.result (outside (g.H.Shelf.files c.args.shelf.now) (g.O.Sink.taken c.args.out.now)) (outside (g.H.Shelf.files c.answer_of-answer.new.shelf) (g.O.Sink.taken c.end_with.new.out)) (returns-clause-planned g c told)

pub returns-clause-orderly_run : goal.returns-clause-orderly_run
returns-clause-orderly_run g c = λ told.
    c.orderly_runs_end.ensures (map string_bytes c.args.words.now) c.end_with.result (outside (g.H.Shelf.files c.args.shelf.now) (g.O.Sink.taken c.args.out.now)) (outside (g.H.Shelf.files c.answer_of-answer.new.shelf) (g.O.Sink.taken c.end_with.new.out)) (returns-clause-planned g c told)

pub returns-clause-orderly_make : goal.returns-clause-orderly_make
returns-clause-orderly_make g c = λ told.
    c.makes_end.ensures (map string_bytes c.args.words.now) c.end_with.result (outside (g.H.Shelf.files c.args.shelf.now) (g.O.Sink.taken c.args.out.now)) (outside (g.H.Shelf.files c.answer_of-answer.new.shelf) (g.O.Sink.taken c.end_with.new.out)) (returns-clause-planned g c told)

pub returns-clause-make_broken_off : goal.returns-clause-make_broken_off
returns-clause-make_broken_off g c = λ told.
    c.broken_makes_are_recorded.ensures (map string_bytes c.args.words.now) c.end_with.result (outside (g.H.Shelf.files c.args.shelf.now) (g.O.Sink.taken c.args.out.now)) (outside (g.H.Shelf.files c.answer_of-answer.new.shelf) (g.O.Sink.taken c.end_with.new.out)) (returns-clause-planned g c told)

pub returns-clause-paired : goal.returns-clause-paired
returns-clause-paired g c = c.pairs_are_told.ensures (map string_bytes c.args.words.now) (g.H.Shelf.files c.args.shelf.now)

pub returns-clause-saved : goal.returns-clause-saved
returns-clause-saved g c = c.saves_are_told.ensures (map string_bytes c.args.words.now) (g.H.Shelf.files c.args.shelf.now)

pub returns-clause-read_back : goal.returns-clause-read_back
returns-clause-read_back g c = c.next_worlds_are_read.ensures (map string_bytes c.args.words.now) (g.H.Shelf.files c.args.shelf.now)

pub returns-clause-walked : goal.returns-clause-walked
returns-clause-walked g c = c.walks_are_told.ensures (map string_bytes c.args.words.now) (g.H.Shelf.files c.args.shelf.now)
