use Rattle.std.proofs.Common.{◌≡◌, take, length, Some, refl, sym, ap, ◌∙◌, subst, arith}
use Rattle.std.specs.Prelude.{slice_get}
use Rattle.std.proofs.lemmas.Option.{slice_get_read}
use Rattle.thread_steps.specs.Threads.{Context}
use Rattle.source_walk.proofs.Beginnings.{unit_there, unit_few, enough, begins, of_three}
use Rattle.source_walk.proofs.starts.beginning.Goals as goal
use Rattle.source_walk.proofs.starts.beginning.Goals.{After-index}

unit_same : (c : After-index) → c.context.inside.unit ≡ c.in-Some.context.now.inside.frame.unit
unit_same c = ap (λ (x : Context). x.inside.frame.unit) c.context.view_is

function_there : (c : After-index) → slice_get c.args.program.now.functions.items c.in-Some.context.now.inside.frame.unit ≡ Some c.index.result.now
function_there c =
    let there = unit_there c.args.program.now c.args.code.now c.args.thread.now c.requires.entry c.in-Some.context.now (sym c.in-Some.ensures) in
    let same = unit_same c in
    subst (λ n. slice_get c.args.program.now.functions.items n ≡ Some c.index.result.now) same
    (slice_get_read c.args.program.now.functions.items (length c.args.program.now.functions.items) c.context.inside.unit c.index.result.now refl (omega (arith, there, same)) c.index.ensures)

pub index-requires : goal.index-requires
index-requires c =
    let there = unit_there c.args.program.now c.args.code.now c.args.thread.now c.requires.entry c.in-Some.context.now (sym c.in-Some.ensures) in
    let same = ap (λ (x : Context). x.inside.frame.unit) c.context.view_is in
    let many = c.args.program.now.functions.ok.0 in
    omega (arith, there, same, many)

pub begun_with-requires-clause-unit : goal.begun_with-requires-clause-unit
begun_with-requires-clause-unit c = unit_few c.args.program.now c.args.code.now c.args.thread.now c.requires.entry c.in-Some.context.now (sym c.in-Some.ensures) c.requires.limits

pub begun_with-requires-clause-takes : goal.begun_with-requires-clause-takes
begun_with-requires-clause-takes c =
    let least = enough c.args.program.now c.args.code.now c.args.thread.now c.requires.entry c.in-Some.context.now c.index.result.now (sym c.in-Some.ensures) (function_there ((goal.at.begun_with-requires-clause-takes c).After-index)) in
    let takes = c.len-takes.ensures in
    let many = c.index.result.now.params.ok.0 in
    omega (arith, least, takes, many)

pub returns : goal.returns
returns c =
    let takes = c.len-takes.ensures in
    let many = c.index.result.now.params.ok.0 in
    let same : c.len-takes.result ≡ length c.index.result.now.params.items = omega (arith, takes, many) in
    of_three c.begun_with.result _ _ _ _
    (λ b function args caps. begins c.args.program.now c.args.code.now c.args.thread.now c.requires.entry c.in-Some.context.now c.index.result.now (sym c.in-Some.ensures) (function_there ((goal.at.returns c).After-index)) b function (args ∙ ap (λ n. take n c.in-Some.context.now.inside.frame.locals) same) caps)
    c.begun_with.ensures.function c.begun_with.ensures.args c.begun_with.ensures.caps
