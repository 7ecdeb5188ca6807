use Rattle.std.proofs.Common.{subst, string_bytes}
use Rattle.lam_main_words.specs.Words.{Text}
use Rattle.lam_main_plan.specs.Reading.{Never, Compiles, IsRunCode, program_limit}
use Rattle.lam_main_replay.specs.Halts.{Finds}
use Rattle.lam_main_replay.proofs.FileLemmas.{found_in_file}
use Rattle.lam_main_replay.proofs.program.read_code.Goals as goal

pub returns-clause-finds : goal.returns-clause-finds
returns-clause-finds g c = λ told.
    found_in_file (g.H.Shelf.files c.args.shelf.now (string_bytes c.args.program)) (string_bytes c.args.program) program_limit (λ tree bytes. IsRunCode bytes tree) (Compiles Never) c.in_ok-bytes.bytes c.run_code_of.result (c.in_ok-bytes.ensures.read told)
    (subst (λ (bytes : Text). Finds c.run_code_of.result (λ tree. IsRunCode bytes tree) (Compiles Never bytes)) c.as_slice.ensures.value c.run_code_of.ensures.finds)
