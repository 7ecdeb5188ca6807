use Rattle.std.proofs.Common.{◌≤◌, length, map}
use Rattle.world_save_terms.specs.Document.{most_document}
use Rattle.world_save_rows.specs.Seen.{home_seen}
use Rattle.world_save_text.specs.declared.document.Contents.{Contents}
use Rattle.world_save_files.specs.Saved.{IsTextOf, IsSaveFault}
use Rattle.world_save_files.specs.Bounds.{IsBounded, IsUnbounded}
use Rattle.world_save_files.proofs.Wording.{bounded_text, unbounded_fault, as_texts, if_ok, if_err}
use Rattle.world_save_files.proofs.document.saved_text.Goals as goal

pub returns-clause-ok : goal.returns-clause-ok
returns-clause-ok c =
    let contents : Contents = record { names = c.args.names; public = c.args.public; files = c.args.files; steps = c.args.steps; pipes = c.as_slice.result; threads = c.as_slice-2.result } in
    let homes = map home_seen c.args.homes.now in
    if_ok c.bounded.result (λ v. IsBounded contents homes v.items) (λ v. IsTextOf c.args.names.now c.args.public.now c.args.files.now c.args.old.now v.items × (length v.items ≤ most_document))
    (λ v b.
    bounded_text contents c.args.old.now homes c.requires.homes c.requires.text c.requires.kept (as_texts c.args.old.now _ _ c.as_slice.result.now c.as_slice-2.result.now c.as_slice.ensures.value c.as_slice-2.ensures.value c.in_ok-kept.ensures) v.items b)
    c.bounded.ensures.ok

pub returns-clause-err : goal.returns-clause-err
returns-clause-err c =
    let contents : Contents = record { names = c.args.names; public = c.args.public; files = c.args.files; steps = c.args.steps; pipes = c.as_slice.result; threads = c.as_slice-2.result } in
    let homes = map home_seen c.args.homes.now in
    if_err c.bounded.result (IsUnbounded contents homes) (IsSaveFault c.args.names.now c.args.public.now c.args.files.now c.args.old.now)
    (λ e b.
    unbounded_fault contents c.args.old.now homes c.requires.homes c.requires.text c.requires.kept (as_texts c.args.old.now _ _ c.as_slice.result.now c.as_slice-2.result.now c.as_slice.ensures.value c.as_slice-2.ensures.value c.in_ok-kept.ensures) e b)
    c.bounded.ensures.err
