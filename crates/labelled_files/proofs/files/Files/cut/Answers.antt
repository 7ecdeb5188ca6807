use Rattle.std.proofs.Common.{◌∙◌, sym, ap, subst, take}
use Rattle.std.specs.Option.{option_copied_mut}
use Rattle.lam_value.proofs.Maps.{some_is}
use Rattle.labelled_files.specs.Seen.{held}
use Rattle.labelled_files.proofs.SeenLemmas.{files_changed}
use Rattle.labelled_files.proofs.TreeLemmas.{unwritten, written}
use Rattle.labelled_files.specs.Trees.{IsSound}
use Rattle.labelled_files.proofs.SoundLemmas.{sound_bytes}
use Rattle.labelled_files.proofs.files.Files.cut.Goals as goal

pub returns-in-None : goal.returns-in-None
returns-in-None c =
    files_changed c.self.inside.dirs.entries c.self.inside.files.entries c.self.inside.counters c.self.inside.root c.args.self.now c.self.view_is c.get_mut.follows.lender-at-none.entries c.args.f.now (take c.args.len)
    (unwritten held c.self.inside.files.entries c.get_mut.follows.lender-at-none.entries c.args.f.now (take c.args.len) (ap (λ m. m.entries) c.get_mut.follows.holds-at-none) (sym c.get_mut.ensures.value ∙ ap option_copied_mut c.in-None.is))

pub returns-in-Some : goal.returns-in-Some
returns-in-Some c =
    let there = (sym c.get_mut.ensures.value ∙ ap option_copied_mut c.in-Some.is) in
    let wrote = c.get_mut.follows.holds c.cut.new.self in
    files_changed c.self.inside.dirs.entries c.self.inside.files.entries c.self.inside.counters c.self.inside.root c.args.self.now c.self.view_is (c.get_mut.follows.lender c.cut.new.self).entries c.args.f.now (take c.args.len)
    (written held c.self.inside.files.entries (c.get_mut.follows.lender c.cut.new.self).entries c.args.f.now c.in-Some.contents.now c.cut.new.self (take c.args.len) there c.cut.ensures (wrote.3 (some_is _ c.in-Some.contents.now there)).0)

pub invariant_of-self-in-Some : goal.invariant_of-self-in-Some
invariant_of-self-in-Some c =
    let there = sym c.get_mut.ensures.value ∙ ap option_copied_mut c.in-Some.is in
    let put = ((c.get_mut.follows.holds c.cut.new.self).3 (some_is _ c.in-Some.contents.now there)).0 in
    let sound = subst IsSound c.self.view_is c.self.invariant in
    subst IsSound (sym (files_changed c.self.inside.dirs.entries c.self.inside.files.entries c.self.inside.counters c.self.inside.root c.args.self.now c.self.view_is (c.get_mut.follows.lender c.cut.new.self).entries c.args.f.now (take c.args.len) (written held c.self.inside.files.entries (c.get_mut.follows.lender c.cut.new.self).entries c.args.f.now c.in-Some.contents.now c.cut.new.self (take c.args.len) there c.cut.ensures put))) (sound_bytes c.args.self.now sound c.args.f.now (take c.args.len))
