use Rattle.std.proofs.Common.{refl, string_bytes}
use Rattle.lam_main_threads.proofs.ReportLemmas.{book_reported}
use Rattle.lam_main_threads.proofs.output.written.Goals as goal

pub returns-in-Ok-clause-gives : goal.returns-in-Ok-clause-gives
returns-in-Ok-clause-gives g c = λ told.
    book_reported c.args.taken (record { how = c.args.taken.how; text = c.args.taken.text }) c.as_str.result.now (string_bytes c.args.book_out) c.as_slice.result.now (g.H.Shelf.files c.args.shelf.now) (g.H.Shelf.files c.write.new.self) refl refl c.as_str.ensures.value c.as_slice.ensures.value (c.in-Ok.ensures.set told) (c.in-Ok.ensures.others told)
