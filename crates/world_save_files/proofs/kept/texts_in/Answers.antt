use Rattle.std.specs.Prelude.{codes}
use Rattle.serde_json.specs.Find.{get}
use Rattle.serde_json.specs.View.{view}
use Rattle.world_save_files.proofs.Members.{some_is, its_pipes, its_threads}
use Rattle.world_save_files.proofs.kept.texts_in.Goals as goal

pub member_text-requires : goal.member_text-requires
member_text-requires c =
    let d = view c.in_ok-document.document in
    some_is (get (codes "pipes") d) c.requires.0 (its_pipes c.args.text.now d c.in_ok-document.ensures c.requires.0 c.requires.1 c.requires.2)

pub member_text-requires-2 : goal.member_text-requires-2
member_text-requires-2 c =
    let d = view c.in_ok-document.document in
    some_is (get (codes "threads") d) c.requires.1 (its_threads c.args.text.now d c.in_ok-document.ensures c.requires.0 c.requires.1 c.requires.2)

pub returns : goal.returns
returns c = λ pipes threads k.
    let d = view c.in_ok-document.document in
    (c.in_ok-pipes.ensures pipes (its_pipes c.args.text.now d c.in_ok-document.ensures pipes threads k), c.in_ok-threads.ensures threads (its_threads c.args.text.now d c.in_ok-document.ensures pipes threads k))
