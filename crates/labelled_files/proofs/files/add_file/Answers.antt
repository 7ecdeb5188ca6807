use Rattle.std.proofs.Common.{◌<◌, ◌+◌, ◌∙◌, sym, ap, subst, []}
use Rattle.std.specs.FinMap.{insert}
use Rattle.lam_value.specs.Homes.{home_of, raised}
use Rattle.labelled_files.specs.Trees.{changed_at, joined}
use Rattle.labelled_files.specs.declared.directory.Target.{Target}
use Rattle.labelled_files.specs.Seen.{dirs_of, files_of}
use Rattle.labelled_files.proofs.files.add_file.Goals as goal

pub list-requires-clause-room : goal.list-requires-clause-room
list-requires-clause-room c = subst (λ (t : Target). t.name.n < 65536) (sym c.in_ok-key.ensures.target) c.requires.room

pub returns-in-Ok-clause-dirs : goal.returns-in-Ok-clause-dirs
returns-in-Ok-clause-dirs c = c.in-Ok.ensures.dirs ∙ ap (λ (t : Target). changed_at (dirs_of c.args.dirs.now.entries) c.args.dir.now (joined c.args.entry.now t.kind t.name)) c.in_ok-key.ensures.target

pub returns-in-Ok-clause-files : goal.returns-in-Ok-clause-files
returns-in-Ok-clause-files c = c.put_file.ensures ∙ (λ i. insert (files_of (c.in_ok-reserve.ensures.entries i)) (c.in_ok-key.ensures.key i) [])

pub returns-in-Ok-clause-counters : goal.returns-in-Ok-clause-counters
returns-in-Ok-clause-counters c = c.in-Ok.ensures.counters ∙ ap (λ (t : Target). raised c.args.counters.now (home_of t.name.maker t.name.own) (t.name.n + 1)) c.in_ok-key.ensures.target
