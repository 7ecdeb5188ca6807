-- How much a world may have, beside what the stores say of themselves. First tags and minted ones together are at most
-- `most_tags`.
use Rattle.std.specs.Prelude.{ℕ}
pub use Rattle.labelled_heap.specs.Limits.{most_tags}

-- those that have ended are counted too
abbrev pub most_threads : ℕ
most_threads = 4096
