use Rattle.std.proofs.Common.{◌≡◌, take}
use Rattle.labelled_files.specs.Entries.{entries_of}
use Rattle.labelled_files.proofs.directory.begin_alike.Given as goal

abbrev pub invariant-loop-at : goal.invariant-loop-at
invariant-loop-at l = entries_of (take l.at l.a.entries) ≡ entries_of (take l.at l.b.entries)
