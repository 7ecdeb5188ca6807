use Rattle.std.proofs.Common.{length, refl, arith}
use Rattle.std.proofs.lemmas.Option.{slice_get_read}
use Rattle.lam_machine.proofs.steps.advance_at.Goals as goal

pub advance-requires : goal.advance-requires
advance-requires c =
    record { finds = c.requires.finds c.index_mut.result.now (slice_get_read c.args.threads.now.items (length c.args.threads.now.items) c.args.thread c.index_mut.result.now refl (omega arith) c.index_mut.ensures.value) }
