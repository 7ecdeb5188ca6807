-- What is asked of a run whose turns threads take.
use Rattle.std.specs.Prelude.{string_bytes}
use Rattle.lam_main_replay.specs.Threads.{ThreadFiles as PlainFiles}
pub use Rattle.lam_main_replay.specs.Asked.{reader_of}
use Rattle.lam_main_threads.specs.declared.ThreadFiles.{ThreadFiles}

abbrev pub files_of : ThreadFiles → PlainFiles
files_of files = record { world = string_bytes files.world; out = string_bytes files.book_out }
