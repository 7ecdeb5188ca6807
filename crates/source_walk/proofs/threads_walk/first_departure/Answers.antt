use Rattle.std.proofs.Common.{Some, length, refl, ◌∙◌, ap, arith}
use Rattle.std.proofs.lemmas.Option.{slice_get_read}
use Rattle.source_walk.proofs.Telling.{none_more, none_of}
use Rattle.source_walk.proofs.threads_walk.first_departure.Goals as goal

pub returns-in-Some : goal.returns-in-Some
returns-in-Some c = (
  c.loop-thread.invariant,
  slice_get_read c.args.departures.now.places.items (length c.args.departures.now.places.items) c.loop-thread.thread c.index.result.now refl (let end = c.len-thread-end.ensures in let many = c.args.departures.now.places.ok.0 in let lt = c.loop-thread-test.true in omega (arith, end, many, lt)) c.index.ensures ∙ ap (λ o. Some o) c.in-Some.is,
)

pub loop-thread-preserved : goal.loop-thread-preserved
loop-thread-preserved c =
    none_more c.args.departures.now c.loop-thread.thread c.index.result.now c.loop-thread.invariant
    (slice_get_read c.args.departures.now.places.items (length c.args.departures.now.places.items) c.loop-thread.thread c.index.result.now refl (let end = c.len-thread-end.ensures in let many = c.args.departures.now.places.ok.0 in let lt = c.loop-thread-test.true in omega (arith, end, many, lt)) c.index.ensures)
    (none_of c.index.result.now c.in_default.not-Some)

pub returns : goal.returns
returns c = (
  (λ u at lt e. c.loop-thread.invariant u at (let end = c.len-thread-end.ensures in let many = c.args.departures.now.places.ok.0 in let past = c.loop-thread-test.false in omega (arith, end, many, past, lt)) e),
  refl,
)
