use Rattle.std.proofs.Common.{refl, sym}
use Rattle.lam_machine_rows.specs.Parts.{world_of}
use Rattle.lam_machine_world.proofs.ReadLemmas.{at_one}
use Rattle.lam_machine_world.proofs.facts.served_of.Goals as goal

pub returns : goal.returns
returns c =
    at_one (world_of c.args.stores.now c.args.threads.now) c.args.c.now c.args.ask.now _ _ _ _ _
    (record { stores = refl; threads = refl; ended = c.joined-ended.ensures (world_of c.args.stores.now c.args.threads.now) refl; acting = sym c.acting-who.ensures })
    c.serve.ensures
