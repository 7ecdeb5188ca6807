use Rattle.std.proofs.Common.{subst}
use Rattle.thread_host_run.specs.Books.{HasTaken}
use Rattle.thread_host_run.proofs.BookLemmas.{all_taken, stops_before}
use Rattle.thread_host_run.proofs.books.whole_or_stops.Goals as goal

pub returns-in-None : goal.returns-in-None
returns-in-None c = all_taken c.args.run c.args.turns.now c.turns-turns.ensures.whole (subst (HasTaken c.args.run c.args.turns.now) c.in-None.is c.requires)

pub returns-in-Some : goal.returns-in-Some
returns-in-Some c = stops_before c.args.run c.args.turns.now c.turns-turns.ensures.whole c.in-Some.turn (subst (HasTaken c.args.run c.args.turns.now) c.in-Some.is c.requires)
