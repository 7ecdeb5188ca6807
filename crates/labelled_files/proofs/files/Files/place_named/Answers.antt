use Rattle.std.proofs.Common.{◌∙◌, sym, subst}
use Rattle.labelled_files.specs.Trees.{IsSound}
use Rattle.labelled_files.proofs.MakeLemmas.{fine, new, room}
use Rattle.labelled_files.proofs.SeenLemmas.{file_placed, dir_placed}
use Rattle.labelled_files.proofs.SoundLemmas.{sound_placed_file, sound_placed_dir}
use Rattle.labelled_files.proofs.files.Files.place_named.Goals as goal

pub invariant_of-self-in-File : goal.invariant_of-self-in-File
invariant_of-self-in-File c =
    let clear = sym c.fault_at.ensures ∙ c.in_default.is in
    let sound = subst IsSound c.self.view_is c.self.invariant in
    subst IsSound (sym (file_placed c.self.inside.dirs.entries c.self.inside.files.entries c.self.inside.counters c.self.inside.root c.args.self.now c.self.view_is c.add_file.new.dirs.entries c.add_file.new.counters c.args.dir.now c.args.name.now c.args.entry.now c.requires.below c.in_ok-add_file-in-File.ensures.counters c.add_file.new.files.entries c.in_ok-add_file-in-File.ensures.dirs c.in_ok-add_file-in-File.ensures.files))
    (sound_placed_file c.args.self.now sound c.args.dir.now c.args.name.now c.args.entry.now c.requires.below (fine c.args.self.now c.args.dir.now c.args.entry.now 0 clear) (new c.args.self.now c.args.dir.now c.args.entry.now 0 clear) (room c.args.self.now c.args.dir.now c.args.entry.now 0 clear sound) c.requires.no_dir)

pub invariant_of-self-in-Dir : goal.invariant_of-self-in-Dir
invariant_of-self-in-Dir c =
    let clear = sym c.fault_at.ensures ∙ c.in_default.is in
    let sound = subst IsSound c.self.view_is c.self.invariant in
    subst IsSound (sym (dir_placed c.self.inside.dirs.entries c.self.inside.files.entries c.self.inside.counters c.self.inside.root c.args.self.now c.self.view_is c.add_dir.new.dirs.entries c.add_dir.new.counters c.args.dir.now c.args.name.now c.args.entry.now c.requires.below c.in_ok-add_dir-in-Dir.ensures.counters c.in_ok-add_dir-in-Dir.ensures.dirs))
    (sound_placed_dir c.args.self.now sound c.args.dir.now c.args.name.now c.args.entry.now c.requires.below (fine c.args.self.now c.args.dir.now c.args.entry.now 0 clear) (new c.args.self.now c.args.dir.now c.args.entry.now 0 clear) (room c.args.self.now c.args.dir.now c.args.entry.now 0 clear sound) c.requires.no_file)
