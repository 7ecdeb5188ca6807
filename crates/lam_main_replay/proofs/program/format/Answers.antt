use Rattle.std.proofs.Common.{subst, string_bytes}
use Rattle.lam_main_words.specs.Words.{Text}
use Rattle.lam_main_plan.specs.Reading.{program_limit}
use Rattle.lam_main_plan.specs.Plan.{Formats}
use Rattle.lam_main_replay.specs.Halts.{Says}
use Rattle.lam_main_replay.proofs.FileLemmas.{from_file}
use Rattle.lam_main_replay.proofs.program.format.Goals as goal

pub returns-clause-gives : goal.returns-clause-gives
returns-clause-gives g c = λ told.
    from_file (g.H.Shelf.files c.args.shelf.now (string_bytes c.args.program)) (string_bytes c.args.program) program_limit Formats (g.H.Shelf.files c.args.shelf.now) (g.H.Shelf.files c.read_file.new.shelf) c.in_ok-bytes.bytes c.format_bytes.result (c.in_ok-bytes.ensures.read told) (c.in_ok-bytes.ensures.stay told)
    (subst (λ (bytes : Text). Says c.format_bytes.result (Formats bytes)) c.as_slice.ensures.value c.format_bytes.ensures.says)
