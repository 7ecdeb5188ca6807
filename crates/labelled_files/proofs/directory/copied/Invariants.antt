use Rattle.std.proofs.Common.{◌≡◌, take}
use Rattle.indexmap.specs.IndexMap.{IsUnique}
use Rattle.labelled_files.specs.Entries.{vec_eq, entries_of}
use Rattle.labelled_files.proofs.directory.copied.Given as goal

abbrev pub invariant-loop-at : goal.invariant-loop-at
invariant-loop-at l = record {
  same : entries_of l.copy.entries ≡ entries_of (take l.at l.entries.entries);
  unique : IsUnique vec_eq l.copy;
}
