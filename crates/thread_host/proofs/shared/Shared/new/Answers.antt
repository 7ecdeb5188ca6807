use Rattle.std.proofs.Common.{false, subst, sym, arith}
use Rattle.std.proofs.lemmas.List.Elements.{All-nil}
use Rattle.guarded_code_runs.specs.Worlds.{IsSound}
use Rattle.lam_bytecode.specs.Codes.{CodeTree}
use Rattle.lam_machine_terms.specs.Worlds.{World}
use Rattle.thread_host_run.specs.Courses.{Progress}
use Rattle.thread_host_run.specs.Kept.{Lists}
use Rattle.thread_host.specs.Sharing.{IsShared}
use Rattle.thread_host.proofs.shared.Shared.new.Goals as goal

pub invariant_of-result : goal.invariant_of-result
invariant_of-result g c =
    let own = g.J.Origin.code in
    let start = g.J.Origin.start in
    let ready = c.in_ok-ready.ready in
    let sound = subst (λ (code : CodeTree). IsSound code start) c.requires.of.0 (subst (IsSound c.args.code.now) c.requires.of.1 c.requires.sound) in
    let by_code = subst (λ (code : CodeTree). Lists code c.world.result.now ready) c.requires.of.0 c.in_ok-ready.ensures.lists in (
      subst (λ (p : Progress). IsShared g.J.Origin.AreKept own start g.J.Origin.budget p false c.args.nothing) (sym c.in_ok-course.ensures)
          (record {
            course = record { start = sound; run = tt; world = c.requires.of.1; book = record { few = omega arith; threads = All-nil _ } };
            within = omega arith;
            keeps = c.requires.nothing;
          }),
      subst (λ (w : World). Lists own w ready) c.world.ensures by_code,
      c.in_ok-ready.ensures.room,
    )
