use Rattle.examples_seats_many.proofs.callers.+all_act+fn-all_act-join+arg2+fn-all_act-join+arg3.Given as goal

abbrev pub decreases-all_act : goal.decreases-all_act
decreases-all_act g l = l.part.count

abbrev pub decreases-join+arg2 : goal.decreases-join+arg2
decreases-join+arg2 g l = l.front.count

abbrev pub decreases-join+arg3 : goal.decreases-join+arg3
decreases-join+arg3 g l = l.back.count
