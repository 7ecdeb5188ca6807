use Rattle.std.proofs.Common.{refl, ap}
use Rattle.std.specs.Prelude.{slice_get}
use Rattle.flow_labels.proofs.ListLemmas.{alike_more, alike_all}
use Rattle.flow_labels.proofs.name_lists.begin_alike.Goals as goal

pub loop-at-preserved : goal.loop-at-preserved
loop-at-preserved c = alike_more c.args.a.now c.args.b.now c.loop-at.at c.loop-at.invariant (c.if-not-same_name.ensures.0 refl)

pub returns : goal.returns
returns c = (λ _. alike_all c.args.a.now c.args.b.now c.loop-at.at c.count-at-end.result c.loop-at-test.false c.count-at-end.ensures c.requires c.loop-at.invariant, λ _. refl)

pub returns-then-not-same_name : goal.returns-then-not-same_name
returns-then-not-same_name c = (λ f. cc, λ same. c.if-not-same_name.ensures.1 (ap (λ ns. slice_get ns c.loop-at.at) same))
