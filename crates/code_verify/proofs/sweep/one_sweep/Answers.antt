use Rattle.std.proofs.Common.{slice_get, refl, sym, ap, ◌∙◌, arith}
use Rattle.std.proofs.lemmas.Bool.{or_parts}
use Rattle.code_verify.proofs.Sweeps.{so_begins, so_on, so_lowers, so_ends}
use Rattle.code_verify.proofs.sweep.one_sweep.Goals as goal

pub loop-at-init : goal.loop-at-init
loop-at-init c = so_begins c.args.code.now c.args.ops.now c.args.kept.now.items c.args.ahead.now.items _ c.requires.len c.requires.blank c.clear.ensures.items

pub loop-at-preserved : goal.loop-at-preserved
loop-at-preserved c =
    so_on c.args.code.now c.args.ops.now c.args.kept.now.items _ _ _ _ _ c.loop-at.at _ _ _ _ c.loop-at.fallen _ _ _ _ _ _ _ _ _ _
    c.loop-at.invariant c.loop-at-test.true refl c.taken.ensures.is c.taken.ensures.left c.in_ok-landed.ensures
    (ap (λ x. slice_get x c.loop-at.at) (sym c.deref.ensures.value) ∙ c.in_ok-copied.ensures) c.in_ok-row.ensures
    c.is_redundant.ensures c.in_ok-note.ensures c.in_ok-left.ensures
    c.in_ok-anew.ensures.brought c.in_ok-anew.ensures.kept_len c.in_ok-anew.ensures.ahead_len c.in_ok-anew.ensures.same (λ f. or_parts _ _ (sym c.either-changed.ensures ∙ f)) c.onward-fallen.ensures

pub returns-clause-lowers : goal.returns-clause-lowers
returns-clause-lowers c = so_lowers _ _ _ _ _ _ _ _ _ c.loop-at.invariant

pub returns-clause-ends : goal.returns-clause-ends
returns-clause-ends c = λ f. so_ends _ _ _ _ _ c.loop-at.at _ _ _ c.loop-at.invariant (omega (arith, c.loop-at-test.false)) c.in_ok-nothing_falls.ensures f
