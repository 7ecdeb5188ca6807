use Rattle.lam_machine_rows.proofs.contexts.release.Goals as goal

pub returns : goal.returns
returns c = c.did.ensures _ c.drops.ensures
