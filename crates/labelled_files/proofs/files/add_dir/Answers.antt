use Rattle.std.proofs.Common.{◌<◌, ◌+◌, ◌∙◌, sym, ap, subst, [], length}
use Rattle.std.specs.Map.{lookup}
use Rattle.std.specs.FinMap.{insert}
use Rattle.lam_value.specs.Homes.{home_of, raised}
use Rattle.labelled_files.specs.Entries.{text_eq}
use Rattle.labelled_files.specs.Trees.{changed_at, joined}
use Rattle.labelled_files.specs.declared.directory.Target.{Target}
use Rattle.labelled_files.specs.Seen.{dirs_of, at}
use Rattle.labelled_files.proofs.files.add_dir.Goals as goal

pub list-requires-clause-room : goal.list-requires-clause-room
list-requires-clause-room c = subst (λ (t : Target). t.name.n < 65536) (sym c.in_ok-key.ensures.target) c.requires.room

pub list-requires-clause-few : goal.list-requires-clause-few
list-requires-clause-few c = subst (λ es. length (at es c.args.dir.now) < 4096) (sym c.in_ok-reserve.ensures.entries) c.requires.few

pub list-requires-clause-fresh : goal.list-requires-clause-fresh
list-requires-clause-fresh c = ap (λ es. lookup (text_eq c.args.entry.now) (at es c.args.dir.now)) c.in_ok-reserve.ensures.entries ∙ c.requires.fresh

pub returns-in-Ok-clause-dirs : goal.returns-in-Ok-clause-dirs
returns-in-Ok-clause-dirs c =
    c.put_dir.ensures
    ∙ ap (λ k. insert (dirs_of c.list.new.dirs.entries) k []) c.in_ok-key.ensures.key
    ∙ ap (λ m. insert m c.args.name.now [])
    (c.in-Ok.ensures.dirs ∙ (λ i. changed_at (dirs_of (c.in_ok-reserve.ensures.entries i)) c.args.dir.now (joined c.args.entry.now (c.in_ok-key.ensures.target i).kind (c.in_ok-key.ensures.target i).name)))

pub returns-in-Ok-clause-counters : goal.returns-in-Ok-clause-counters
returns-in-Ok-clause-counters c = c.in-Ok.ensures.counters ∙ ap (λ (t : Target). raised c.args.counters.now (home_of t.name.maker t.name.own) (t.name.n + 1)) c.in_ok-key.ensures.target
