use Rattle.std.proofs.Common.{◌≡◌, ℕ, take, sym, subst, arith}
use Rattle.std.proofs.lemmas.Bool.{iff_false}
use Rattle.pair_check_terms.specs.declared.answer.PairAnswer.{PairAnswer}
use Rattle.pair_check_terms.specs.Pairs.{IsMet}
use Rattle.pair_check_agenda.specs.Agendas.{items_in}
use Rattle.pair_check_agenda.proofs.MeetLemmas.{one_same, differ_here, go_together}
use Rattle.pair_check_agenda.proofs.common_part.meeting.Goals as goal

pub returns-then-not-same_entry : goal.returns-then-not-same_entry
returns-then-not-same_entry c =
    subst (λ (answer : PairAnswer). IsMet (items_in c.args.a.now) (items_in c.args.b.now) answer) (sym c.difference.ensures)
    (differ_here c.args.a.now c.args.b.now c.loop-at.at c.loop-at.invariant c.index-a-at.result c.index-b-at.result (omega arith) (omega arith) c.index-a-at.is c.index-b-at.is
    (iff_false c.same_entry.ensures c.if-not-same_entry.true))

pub loop-at-preserved : goal.loop-at-preserved
loop-at-preserved c =
    one_same c.args.a.now c.args.b.now c.loop-at.at c.loop-at.invariant c.index-a-at.result c.index-b-at.result (omega arith) (omega arith) c.index-a-at.is c.index-b-at.is
    (c.same_entry.ensures.0 c.if-not-same_entry.false)

pub returns : goal.returns
returns c =
    let last : c.loop-at.at ≡ c.shorter-both.result = omega arith in
    go_together c.args.a.now c.args.b.now c.shorter-both.result (subst (λ (k : ℕ). take k (items_in c.args.a.now) ≡ take k (items_in c.args.b.now)) last c.loop-at.invariant) c.shorter-both.ensures
