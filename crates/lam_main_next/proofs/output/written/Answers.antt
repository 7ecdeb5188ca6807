use Rattle.std.proofs.Common.{string_bytes}
use Rattle.lam_main_next.proofs.EndingLemmas.{document_reported}
use Rattle.lam_main_next.proofs.output.written.Goals as goal

pub returns-in-Ok-clause-gives : goal.returns-in-Ok-clause-gives
returns-in-Ok-clause-gives g c = λ told.
    document_reported c.args.ending c.as_str.result.now (string_bytes c.args.next_world) c.as_slice.result.now (g.H.Shelf.files c.args.shelf.now) (g.H.Shelf.files c.write.new.self) c.as_str.ensures.value c.as_slice.ensures.value (c.in-Ok.ensures.set told) (c.in-Ok.ensures.others told)
