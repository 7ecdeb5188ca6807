use Rattle.std.proofs.Common.{List, subst}
use Rattle.lam_resolve_tree.specs.Tree.{resolved_tree}
use Rattle.lam_machine_terms.specs.Turns.{moments, replay}
use Rattle.source_walk_state.specs.declared.Beginning.{Beginning}
use Rattle.source_walk_run.specs.Departures.{AreDepartures}
use Rattle.source_walk.proofs.Telling.{tells}
use Rattle.source_walk.proofs.threads_walk.walk_from.Goals as goal

pub returns-clause-ok : goal.returns-clause-ok
returns-clause-ok c =
    tells (resolved_tree c.args.program.now) c.args.code.now c.args.start (moments c.args.code.now c.args.turns.now c.args.start) (replay c.args.code.now c.args.turns.now c.args.start) c.args.starts.items c.in_ok-departures.departures c.requires.starts
    (subst (λ (l : List Beginning). AreDepartures (resolved_tree c.args.program.now) l (moments c.args.code.now c.args.turns.now c.args.start) c.in_ok-departures.departures) c.as_slice.ensures.value c.in_ok-departures.ensures.ok.0)
    (c.runs_have_threads.ensures c.args.code.now c.args.start c.args.turns.now) c.first_departure-walked.result c.first_departure-walked.ensures

pub first_departure-walked-requires : goal.first_departure-walked-requires
first_departure-walked-requires c = c.in_ok-departures.ensures.ok.1
