-- What a caller sees of the files of a folder.
use Rattle.std.specs.Prelude.{ℕ}

-- how many calls failed, and how many writes were refused for want of memory
pub record Counts : Type 0 where
  pub faults : ℕ
  pub refusals : ℕ

abbrev pub no_counts : Counts
no_counts = record { faults = 0; refusals = 0 }
