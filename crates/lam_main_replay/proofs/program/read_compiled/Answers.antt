use Rattle.std.proofs.Common.{Ok, subst, string_bytes}
use Rattle.lam_main_words.specs.Words.{Text}
use Rattle.lam_main_plan.specs.Reading.{Never, IsCompiled, Compiles, program_limit}
use Rattle.lam_main_replay.specs.Halts.{Finds}
use Rattle.lam_main_replay.proofs.FileLemmas.{found_in_file}
use Rattle.lam_main_replay.proofs.program.read_compiled.Goals as goal

pub returns-clause-finds : goal.returns-clause-finds
returns-clause-finds g c = λ told.
    found_in_file (g.H.Shelf.files c.args.shelf.now (string_bytes c.args.program)) (string_bytes c.args.program) program_limit (λ tree bytes. IsCompiled bytes (Ok tree)) (Compiles Never) c.in_ok-bytes.bytes c.compiled.result (c.in_ok-bytes.ensures.read told)
    (subst (λ (bytes : Text). Finds c.compiled.result (λ tree. IsCompiled bytes (Ok tree)) (Compiles Never bytes)) c.as_slice.ensures.value c.compiled.ensures.finds)
