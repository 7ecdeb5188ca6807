-- A table of names, as a set of names.
use Rattle.std.specs.Prelude.{List}
use Rattle.std.specs.Borrow.{Bor}
use Rattle.std.specs.declared.hash.FoldHasher.{FoldHasher}
use Rattle.std.specs.declared.hash.BuildHasherDefault.{BuildHasherDefault}
use Rattle.indexmap.specs.IndexSet.{IndexSet}
use Rattle.lam_operators.specs.Words.{Word}
use Rattle.region_check.specs.Values.{texts}

abbrev pub see_names : IndexSet (Bor Word) (BuildHasherDefault FoldHasher) → List Word
see_names s = texts s.keys
