use Rattle.std.proofs.Common.{[], None}
use Rattle.lam_machine_effects.specs.Serves.{does, gives_back}
use Rattle.lam_machine_rows.proofs.RowLemmas.{null_as, free_as, free_ok, clear_ok, thing_ok, whole}
use Rattle.lam_machine_rows.proofs.things.leave_monitor.Goals as goal
use Rattle.std.proofs.Common.{refl}

pub returns-in_default : goal.returns-in_default
returns-in_default c = λ w k. free_as _ c.args.r.now _ (null_as _ _ (λ n. []) _ _ c.failed.ensures c.in_default.ensures)

pub returns : goal.returns
returns c = whole _ _ (λ w k. free_ok _ c.args.r.now _ (thing_ok _ _ _ (λ n. []) (λ n. None) (λ n. does (gives_back n)) c.in-Some.ensures (clear_ok _ [] _ refl (c.did.ensures _ c.gives_back.ensures))))
