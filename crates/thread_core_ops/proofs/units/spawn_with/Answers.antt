use Rattle.std.proofs.Common.{◌≡◌, ◌∙◌, suc, drop, sym, ap, add-one}
use Rattle.std.proofs.lemmas.Option.{slice_get_within}
use Rattle.thread_core_effects.specs.Acting.{spawns_with}
use Rattle.thread_core_calls.proofs.Heads.{drop_none, drop_some}
use Rattle.thread_core_ops.proofs.units.spawn_with.Goals as goal

pub returns-in-None : goal.returns-in-None
returns-in-None c = λ locals. sym (ap (λ s. spawns_with c.args.unit c.args.args.now s) (drop_none c.args.stack.now c.args.count (sym c.in-None.ensures)))

pub returns-in-Some : goal.returns-in-Some
returns-in-Some c =
    let d : drop c.after.result c.args.stack.now ≡ drop (suc c.args.count) c.args.stack.now = ap (λ n. drop n c.args.stack.now) (c.after.ensures ∙ add-one c.args.count) in
    λ locals. c.spawning.ensures locals c.args.stack.now (drop (suc c.args.count) c.args.stack.now) d
    ∙ sym (ap (λ s. spawns_with c.args.unit c.args.args.now s) (drop_some c.args.stack.now c.args.count c.in-Some.c.now (sym c.in-Some.ensures)))

pub after-requires : goal.after-requires
after-requires c = slice_get_within c.args.stack.now c.args.count c.in-Some.c.now (sym c.in-Some.ensures)
