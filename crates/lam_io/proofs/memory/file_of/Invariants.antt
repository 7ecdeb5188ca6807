use Rattle.std.proofs.Common.{◌≡◌, drop, map}
use Rattle.lam_io.specs.Memory.{file_in, seen}
use Rattle.lam_io.proofs.memory.file_of.Given as goal

abbrev pub invariant-loop-file : goal.invariant-loop-file
invariant-loop-file l = file_in (map seen l.files) l.name ≡ file_in (map seen (drop l.file-index l.files)) l.name
