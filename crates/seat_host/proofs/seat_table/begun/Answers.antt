use Rattle.std.proofs.Common.{subst, sym}
use Rattle.lam_bytecode.specs.Codes.{IsCode}
use Rattle.seat_host.proofs.seat_table.begun.Goals as goal

pub told-requires : goal.told-requires
told-requires c = record { code = subst IsCode (sym c.code.ensures.code) c.requires.sound.code }
