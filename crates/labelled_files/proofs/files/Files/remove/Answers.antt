use Rattle.std.proofs.Common.{◌∙◌, sym, ap, subst, is_some}
use Rattle.std.specs.Option.{option_copied_mut}
use Rattle.std.specs.Map.{lookup}
use Rattle.lam_value.proofs.Maps.{some_is}
use Rattle.labelled_files.specs.Entries.{text_eq, without}
use Rattle.labelled_files.specs.Seen.{shown}
use Rattle.labelled_files.proofs.SeenLemmas.{no_entries, the_entries, dirs_changed}
use Rattle.labelled_files.proofs.TreeLemmas.{unwritten, written}
use Rattle.labelled_files.specs.Trees.{IsSound}
use Rattle.labelled_files.proofs.SoundLemmas.{sound_without}
use Rattle.labelled_files.proofs.files.Files.remove.Goals as goal

pub returns-in-None-clause-there : goal.returns-in-None-clause-there
returns-in-None-clause-there c = ap (λ es. is_some (lookup (text_eq c.args.entry.now) es)) (no_entries c.self.inside.dirs.entries c.self.inside.files.entries c.self.inside.counters c.self.inside.root c.args.self.now c.self.view_is c.args.dir.now (sym c.get_mut.ensures.value ∙ ap option_copied_mut c.in-None.is))

pub returns-in-None-clause-new : goal.returns-in-None-clause-new
returns-in-None-clause-new c =
    dirs_changed c.self.inside.dirs.entries c.self.inside.files.entries c.self.inside.counters c.self.inside.root c.args.self.now c.self.view_is c.get_mut.follows.lender-at-none.entries c.args.dir.now (without c.args.entry.now)
    (unwritten shown c.self.inside.dirs.entries c.get_mut.follows.lender-at-none.entries c.args.dir.now (without c.args.entry.now) (ap (λ m. m.entries) c.get_mut.follows.holds-at-none) (sym c.get_mut.ensures.value ∙ ap option_copied_mut c.in-None.is))

pub returns-in-Some-clause-there : goal.returns-in-Some-clause-there
returns-in-Some-clause-there c = c.leave.ensures.there ∙ ap (λ es. is_some (lookup (text_eq c.args.entry.now) es)) (the_entries c.self.inside.dirs.entries c.self.inside.files.entries c.self.inside.counters c.self.inside.root c.args.self.now c.self.view_is c.args.dir.now c.in-Some.directory.now (sym c.get_mut.ensures.value ∙ ap option_copied_mut c.in-Some.is))

pub returns-in-Some-clause-new : goal.returns-in-Some-clause-new
returns-in-Some-clause-new c =
    let there = (sym c.get_mut.ensures.value ∙ ap option_copied_mut c.in-Some.is) in
    let wrote = c.get_mut.follows.holds c.leave.new.self in
    dirs_changed c.self.inside.dirs.entries c.self.inside.files.entries c.self.inside.counters c.self.inside.root c.args.self.now c.self.view_is (c.get_mut.follows.lender c.leave.new.self).entries c.args.dir.now (without c.args.entry.now)
    (written shown c.self.inside.dirs.entries (c.get_mut.follows.lender c.leave.new.self).entries c.args.dir.now c.in-Some.directory.now c.leave.new.self (without c.args.entry.now) there c.leave.ensures.rest (wrote.3 (some_is _ c.in-Some.directory.now there)).0)

pub invariant_of-self-in-Some : goal.invariant_of-self-in-Some
invariant_of-self-in-Some c =
    let there = sym c.get_mut.ensures.value ∙ ap option_copied_mut c.in-Some.is in
    let put = ((c.get_mut.follows.holds c.leave.new.self).3 (some_is _ c.in-Some.directory.now there)).0 in
    let sound = subst IsSound c.self.view_is c.self.invariant in
    subst IsSound (sym (dirs_changed c.self.inside.dirs.entries c.self.inside.files.entries c.self.inside.counters c.self.inside.root c.args.self.now c.self.view_is (c.get_mut.follows.lender c.leave.new.self).entries c.args.dir.now (without c.args.entry.now) (written shown c.self.inside.dirs.entries (c.get_mut.follows.lender c.leave.new.self).entries c.args.dir.now c.in-Some.directory.now c.leave.new.self (without c.args.entry.now) there c.leave.ensures.rest put))) (sound_without c.args.self.now sound c.args.dir.now c.args.entry.now)
