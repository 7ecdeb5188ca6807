use Rattle.flow_labels.specs.Failing.{read_test}
use Rattle.capabilities.specs.Changes.{joined, change_test}
use Rattle.labelled_heap.specs.Things.{most_things, slots_at}
use Rattle.lam_asks.specs.declared.fault.Fault.TheVariants.{HomeFull}
use Rattle.lam_machine_effects.specs.Serves.{adds_copy, full}
use Rattle.lam_machine_rows.specs.Rows.{with_heap}
use Rattle.std.proofs.Common.{◌++◌, ◌∙◌, ap}
use Rattle.lam_machine_effects.specs.Serving.{renamed, adds}
use Rattle.lam_value.specs.Homes.{home_of, name_of, count_in}
use Rattle.lam_machine_rows.proofs.RowLemmas.{refused_as, passes_as, fails_as, null_as, thing_as, makes_ok, passes_ok, holds_ok, thing_ok, whole}
use Rattle.lam_machine_rows.proofs.things.copy_to.Goals as goal

pub returns-in_default : goal.returns-in_default
returns-in_default c = λ w k. null_as _ _ _ _ _ c.failed.ensures c.in_default.ensures

pub returns-in-Some-copy_rule : goal.returns-in-Some-copy_rule
returns-in-Some-copy_rule c = λ w k. thing_as _ _ _ (λ n. read_test c.args.p.now n.own ++ (change_test (joined c.args.caps.now c.args.public.now) n.own c.args.own.now ++ change_test (joined c.args.caps.now c.args.public.now) c.args.p.now c.args.own.now)) (λ n. full (count_in c.args.heap.now.counts (home_of c.args.p.now c.args.own.now)) most_things HomeFull) (λ n. adds (with_heap c.args.heap.now w) (home_of c.args.p.now c.args.own.now) (slots_at c.args.heap.now n) (renamed c.args.r.now) (adds_copy n (home_of c.args.p.now c.args.own.now))) c.in-Some.ensures (refused_as _ _ _ _ c.refused.ensures (rw c.own.ensures at c.in-Some-copy_rule.ensures))

pub returns-in-Some-full : goal.returns-in-Some-full
returns-in-Some-full c = λ w k. thing_as _ _ _ (λ n. read_test c.args.p.now n.own ++ (change_test (joined c.args.caps.now c.args.public.now) n.own c.args.own.now ++ change_test (joined c.args.caps.now c.args.public.now) c.args.p.now c.args.own.now)) (λ n. full (count_in c.args.heap.now.counts (home_of c.args.p.now c.args.own.now)) most_things HomeFull) (λ n. adds (with_heap c.args.heap.now w) (home_of c.args.p.now c.args.own.now) (slots_at c.args.heap.now n) (renamed c.args.r.now) (adds_copy n (home_of c.args.p.now c.args.own.now))) c.in-Some.ensures (passes_as _ _ _ (rw c.own.ensures at c.in_default-copy_rule.ensures) (fails_as _ _ _ _ c.failed-in-Some-full.ensures (rw c.next-number.ensures.value at c.in-Some-full.ensures)))

pub returns : goal.returns
returns c = whole _ _ (λ w k. thing_ok _ _ _ (λ n. read_test c.args.p.now n.own ++ (change_test (joined c.args.caps.now c.args.public.now) n.own c.args.own.now ++ change_test (joined c.args.caps.now c.args.public.now) c.args.p.now c.args.own.now)) (λ n. full (count_in c.args.heap.now.counts (home_of c.args.p.now c.args.own.now)) most_things HomeFull) (λ n. adds (with_heap c.args.heap.now w) (home_of c.args.p.now c.args.own.now) (slots_at c.args.heap.now n) (renamed c.args.r.now) (adds_copy n (home_of c.args.p.now c.args.own.now))) c.in-Some.ensures (passes_ok _ _ _ (rw c.own.ensures at c.in_default-copy_rule.ensures) (holds_ok _ _ _ (rw c.next-number.ensures.value at c.in_default-full.ensures)
    (makes_ok _ _ _ _ _
    (c.renamed.ensures ∙ ap (λ m. renamed c.args.r.now m) (c.in_ok-copy.ensures ∙ ap (λ n. name_of (home_of c.args.p.now c.args.own.now) n) c.next-number.ensures.value))
    (c.given.ensures _ c.adds_copy.ensures)))))
