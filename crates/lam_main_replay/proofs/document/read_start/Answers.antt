use Rattle.std.proofs.Common.{◌≡◌, Ok, subst, string_bytes}
use Rattle.lam_machine_terms.specs.Worlds.{World}
use Rattle.world_doc_terms.specs.Start.{start_of}
use Rattle.lam_main_words.specs.Words.{Text}
use Rattle.lam_main_plan.specs.Reading.{world_limit}
use Rattle.lam_main_plan.specs.Replays.{NoStart}
use Rattle.lam_main_replay.specs.Halts.{Finds}
use Rattle.lam_main_replay.proofs.FileLemmas.{found_in_file, found_is}
use Rattle.lam_main_replay.specs.Asked.{IsStartOf}
use Rattle.lam_main_replay.proofs.document.read_start.Goals as goal

pub returns-clause-finds : goal.returns-clause-finds
returns-clause-finds g c = λ told.
    found_in_file (g.H.Shelf.files c.args.shelf.now (string_bytes c.args.world)) (string_bytes c.args.world) world_limit (λ (start : World) bytes. start_of bytes c.args.code.now ≡ Ok start) (NoStart c.args.code.now) c.in_ok-bytes.bytes c.start_in.result (c.in_ok-bytes.ensures.read told)
    (subst (λ (bytes : Text). Finds c.start_in.result (λ (start : World). start_of bytes c.args.code.now ≡ Ok start) (NoStart c.args.code.now bytes)) c.as_slice.ensures.value c.start_in.ensures.finds)

pub returns-clause-given : goal.returns-clause-given
returns-clause-given g c =
    found_is (λ (start : World). start_of c.as_slice.result.now c.args.code.now ≡ Ok start) (IsStartOf c.args.code.now) (NoStart c.args.code.now c.as_slice.result.now) (λ start is. (c.as_slice.result.now, is)) c.start_in.result c.start_in.ensures.finds
