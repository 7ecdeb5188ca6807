-- What is asked of a closed run.
use Rattle.std.specs.Prelude.{string_bytes}
use Rattle.lam_main_replay.specs.Asked.{reader_of}
use Rattle.lam_main_replay.specs.Threads.{ThreadFiles}
use Rattle.lam_closed_plan.specs.Closes.{Asked as Plain}
use Rattle.lam_closed_rooms.specs.declared.Asked.{Asked}
use Rattle.lam_closed_rooms.specs.declared.ClosedFiles.{ClosedFiles}

abbrev pub files_of : ClosedFiles → ThreadFiles
files_of files = record { world = string_bytes files.world; out = string_bytes files.book_out }

abbrev pub asked_of : Asked → Plain
asked_of asked = record { reader = reader_of asked.reader; base = string_bytes asked.base; turns = asked.turns }
