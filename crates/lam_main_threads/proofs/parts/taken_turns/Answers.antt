use Rattle.lam_main_threads.proofs.TakenLemmas.{parted_run, parted_book, parted_kept}
use Rattle.lam_main_threads.proofs.parts.taken_turns.Goals as goal

pub returns-in-Ok-clause-run : goal.returns-in-Ok-clause-run
returns-in-Ok-clause-run g c = parted_run c.in-Ok.done.finished c.parted-ended.result c.parted-ended.ensures c.args.code c.args.start c.args.bounds.turns c.in-Ok.ensures.start c.in-Ok.ensures.budget c.in-Ok.ensures.how

pub returns-in-Ok-clause-book : goal.returns-in-Ok-clause-book
returns-in-Ok-clause-book g c = parted_book c.in-Ok.done.finished c.parted-ended.result c.parted-ended.ensures

pub returns-in-Ok-clause-kept : goal.returns-in-Ok-clause-kept
returns-in-Ok-clause-kept g c = parted_kept c.in-Ok.done.finished c.parted-ended.result c.parted-ended.ensures (g.K.Keeps.AreKept c.args.who.now) c.in-Ok.done.kept c.in-Ok.ensures.kept
