use Rattle.std.proofs.Common.{All}
use Rattle.world_save_terms.specs.Compact.{IsLaidOut}
use Rattle.world_save_files.proofs.values.are_laid_out.Given as goal

-- where the numbers that are left stand so, all do
abbrev pub invariant-loop : goal.invariant-loop
invariant-loop l = All IsLaidOut l.reader → All IsLaidOut l.initial.reader
