use Rattle.std.proofs.Common.{◌≡◌, ◌<◌, ◌∙◌, sym, ap, subst, None, refl}
use Rattle.lam_value.specs.declared.names.Name.{Name}
use Rattle.lam_value.specs.Homes.{home_of, name_of, count_in}
use Rattle.labelled_files.specs.Trees.{fault_at, with_dir, IsSound}
use Rattle.labelled_files.specs.Seen.{tree_of}
use Rattle.labelled_files.proofs.MakeLemmas.{fine, new, room, free, room_kept, new_kept}
use Rattle.labelled_files.proofs.SeenLemmas.{kept, dir_made, next_seen}
use Rattle.labelled_files.proofs.SoundLemmas.{sound_dir}
use Rattle.labelled_files.proofs.files.Files.make_dir.Goals as goal

pub add_dir-requires-clause-room : goal.add_dir-requires-clause-room
add_dir-requires-clause-room c =
    subst (λ (k : Name). k.n < 65536) (sym c.in_ok-name.ensures) (free c.args.self.now c.args.dir.now c.args.entry.now c.next-number.result (sym c.fault_at.ensures ∙ c.in_default.is) c.next-number.ensures.bound)

pub add_dir-requires-clause-few : goal.add_dir-requires-clause-few
add_dir-requires-clause-few c =
    room_kept c.args.self.now c.args.dir.now c.args.entry.now c.next-number.result (sym c.fault_at.ensures ∙ c.in_default.is) c.self.inside.dirs.entries c.self.inside.files.entries c.self.inside.counters c.self.inside.root c.self.view_is (subst IsSound c.self.view_is c.self.invariant)

pub add_dir-requires-clause-fresh : goal.add_dir-requires-clause-fresh
add_dir-requires-clause-fresh c = new_kept c.args.self.now c.args.dir.now c.args.entry.now c.next-number.result (sym c.fault_at.ensures ∙ c.in_default.is) c.self.inside.dirs.entries c.self.inside.files.entries c.self.inside.counters c.self.inside.root c.self.view_is

pub invariant_of-self-in-Err : goal.invariant_of-self-in-Err
invariant_of-self-in-Err c = subst IsSound (c.self.view_is ∙ sym (kept c.self.inside.dirs.entries c.self.inside.files.entries c.self.inside.counters c.self.inside.root c.args.self.now c.self.view_is c.add_dir.new.dirs.entries c.self.inside.files.entries c.add_dir.new.counters c.in-Err.ensures.same_dirs refl c.in-Err.ensures.same_counters)) c.self.invariant

pub invariant_of-self : goal.invariant_of-self
invariant_of-self c =
    let home = home_of c.args.maker.now c.args.own.now in
    let named = next_seen c.self.inside.dirs.entries c.self.inside.files.entries c.self.inside.counters c.self.inside.root c.args.self.now c.self.view_is home c.in_ok-name.name (c.in_ok-name.ensures ∙ ap (name_of home) c.next-number.ensures.value) in
    let clear : fault_at c.args.self.now c.args.dir.now c.args.entry.now (count_in c.args.self.now.counts home) ≡ None = sym (ap (fault_at c.args.self.now c.args.dir.now c.args.entry.now) c.next-number.ensures.value) ∙ sym c.fault_at.ensures ∙ c.in_default.is in
    let sound = subst IsSound c.self.view_is c.self.invariant in
    let made : tree_of c.add_dir.new.dirs.entries c.self.inside.files.entries c.add_dir.new.counters c.self.inside.root ≡ with_dir c.args.self.now c.args.dir.now c.args.entry.now home = dir_made c.self.inside.dirs.entries c.self.inside.files.entries c.self.inside.counters c.self.inside.root c.args.self.now c.self.view_is c.add_dir.new.dirs.entries c.add_dir.new.counters c.args.dir.now c.in_ok-name.name c.args.entry.now home named c.in-Ok.ensures.dirs c.in-Ok.ensures.counters in
    subst IsSound (sym made)
    (sound_dir c.args.self.now sound c.args.dir.now c.args.entry.now home (fine c.args.self.now c.args.dir.now c.args.entry.now _ clear) (new c.args.self.now c.args.dir.now c.args.entry.now _ clear) (room c.args.self.now c.args.dir.now c.args.entry.now _ clear sound)
    (free c.args.self.now c.args.dir.now c.args.entry.now _ clear (sound.within home)))

pub returns-in-Err-clause-err : goal.returns-in-Err-clause-err
returns-in-Err-clause-err c = (kept c.self.inside.dirs.entries c.self.inside.files.entries c.self.inside.counters c.self.inside.root c.args.self.now c.self.view_is c.add_dir.new.dirs.entries c.self.inside.files.entries c.add_dir.new.counters c.in-Err.ensures.same_dirs refl c.in-Err.ensures.same_counters)

pub returns-in-Ok-clause-ok : goal.returns-in-Ok-clause-ok
returns-in-Ok-clause-ok c =
    let home = home_of c.args.maker.now c.args.own.now in
    let named = next_seen c.self.inside.dirs.entries c.self.inside.files.entries c.self.inside.counters c.self.inside.root c.args.self.now c.self.view_is home c.in_ok-name.name (c.in_ok-name.ensures ∙ ap (name_of home) c.next-number.ensures.value) in
    dir_made c.self.inside.dirs.entries c.self.inside.files.entries c.self.inside.counters c.self.inside.root c.args.self.now c.self.view_is c.add_dir.new.dirs.entries c.add_dir.new.counters c.args.dir.now c.in_ok-name.name c.args.entry.now home named c.in-Ok.ensures.dirs c.in-Ok.ensures.counters
