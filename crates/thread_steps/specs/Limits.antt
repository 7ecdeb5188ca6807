-- The limits of threads and of what their operations make. The bytes of a value that an operation makes, and of a file that
-- are read at once, are at most `bytes_limit`.
use Rattle.std.specs.Prelude.{ℕ}
pub use Rattle.lam_asks.specs.Limits.{bytes_limit}

-- a context stands in at most this many regions
abbrev pub depth_limit : ℕ
depth_limit = 63

-- the open frames of a context, the acting one counted, are at most this many
abbrev pub frames_limit : ℕ
frames_limit = 256

-- the greatest length of an array
abbrev pub length_limit : ℕ
length_limit = 65536

-- the bytes of a message are at most this many
abbrev pub message_limit : ℕ
message_limit = 4096
