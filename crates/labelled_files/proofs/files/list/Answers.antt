use Rattle.std.proofs.Common.{◌<◌, ◌∙◌, sym, ap, subst, length, []}
use Rattle.std.specs.Option.{option_copied_mut}
use Rattle.std.specs.Map.{lookup}
use Rattle.lam_value.proofs.Maps.{some_is, on_ok_so, on_err_so, on_ok, on_err}
use Rattle.labelled_files.specs.Entries.{text_eq}
use Rattle.labelled_files.specs.Trees.{joined}
use Rattle.labelled_files.specs.Seen.{shown, dirs_of}
use Rattle.labelled_files.proofs.TreeLemmas.{unwritten, written, rewritten, some_there}
use Rattle.labelled_files.proofs.files.list.Goals as goal

pub list_in-requires-clause-few : goal.list_in-requires-clause-few
list_in-requires-clause-few c = subst (λ es. length es < 4096) (sym (some_there shown c.args.dirs.now.entries c.args.dir.now [] c.in-Some.directory.now (sym c.get_mut.ensures.value ∙ ap option_copied_mut c.in-Some.is))) c.requires.few

pub list_in-requires-clause-fresh : goal.list_in-requires-clause-fresh
list_in-requires-clause-fresh c = ap (lookup (text_eq c.args.entry.now)) (some_there shown c.args.dirs.now.entries c.args.dir.now [] c.in-Some.directory.now (sym c.get_mut.ensures.value ∙ ap option_copied_mut c.in-Some.is)) ∙ c.requires.fresh

pub returns-in-None-clause-dirs : goal.returns-in-None-clause-dirs
returns-in-None-clause-dirs c =
    on_ok _ c.count_alone.result (unwritten shown c.args.dirs.now.entries c.get_mut.follows.lender-at-none.entries c.args.dir.now (joined c.args.entry.now c.args.target.kind c.args.target.name) (ap (λ m. m.entries) c.get_mut.follows.holds-at-none) (sym c.get_mut.ensures.value ∙ ap option_copied_mut c.in-None.is))

pub returns-in-None-clause-same_dirs : goal.returns-in-None-clause-same_dirs
returns-in-None-clause-same_dirs c = on_err _ c.count_alone.result (ap (λ m. dirs_of m.entries) c.get_mut.follows.holds-at-none)

pub returns-in-Some-clause-dirs : goal.returns-in-Some-clause-dirs
returns-in-Some-clause-dirs c =
    let there = (sym c.get_mut.ensures.value ∙ ap option_copied_mut c.in-Some.is) in
    let wrote = c.get_mut.follows.holds c.list_in.new.directory in
    on_ok_so _ _ c.list_in.result (λ new. written shown c.args.dirs.now.entries (c.get_mut.follows.lender c.list_in.new.directory).entries c.args.dir.now c.in-Some.directory.now c.list_in.new.directory (joined c.args.entry.now c.args.target.kind c.args.target.name) there new (wrote.3 (some_is _ c.in-Some.directory.now there)).0) c.list_in.ensures.entries

pub returns-in-Some-clause-same_dirs : goal.returns-in-Some-clause-same_dirs
returns-in-Some-clause-same_dirs c =
    let there = (sym c.get_mut.ensures.value ∙ ap option_copied_mut c.in-Some.is) in
    let wrote = c.get_mut.follows.holds c.list_in.new.directory in
    on_err_so _ _ c.list_in.result (λ same. rewritten shown c.args.dirs.now.entries (c.get_mut.follows.lender c.list_in.new.directory).entries c.args.dir.now c.in-Some.directory.now c.list_in.new.directory there same (wrote.3 (some_is _ c.in-Some.directory.now there)).0) c.list_in.ensures.same_entries
