use Rattle.std.proofs.Common.{◌∙◌, sym, ap, subst, refl}
use Rattle.std.specs.Option.{option_copied_mut}
use Rattle.lam_value.proofs.Maps.{some_is, on_ok_so, on_err_so}
use Rattle.labelled_files.specs.Trees.{appended}
use Rattle.labelled_files.specs.Seen.{held}
use Rattle.labelled_files.proofs.SeenLemmas.{files_changed, kept}
use Rattle.labelled_files.proofs.TreeLemmas.{unwritten, written, rewritten}
use Rattle.labelled_files.specs.Trees.{IsSound}
use Rattle.labelled_files.proofs.SoundLemmas.{sound_bytes}
use Rattle.lam_value.proofs.CountLemmas.{either_way}
use Rattle.labelled_files.proofs.files.Files.append.Goals as goal

pub returns-in-None-clause-ok : goal.returns-in-None-clause-ok
returns-in-None-clause-ok c =
    files_changed c.self.inside.dirs.entries c.self.inside.files.entries c.self.inside.counters c.self.inside.root c.args.self.now c.self.view_is c.get_mut.follows.lender-at-none.entries c.args.f.now (appended c.args.bytes.now)
    (unwritten held c.self.inside.files.entries c.get_mut.follows.lender-at-none.entries c.args.f.now (appended c.args.bytes.now) (ap (λ m. m.entries) c.get_mut.follows.holds-at-none) (sym c.get_mut.ensures.value ∙ ap option_copied_mut c.in-None.is))

pub returns-in-Some-clause-ok : goal.returns-in-Some-clause-ok
returns-in-Some-clause-ok c =
    let there = (sym c.get_mut.ensures.value ∙ ap option_copied_mut c.in-Some.is) in
    let wrote = c.get_mut.follows.holds c.append.new.self in
    on_ok_so _ _ c.append.result (λ new. files_changed c.self.inside.dirs.entries c.self.inside.files.entries c.self.inside.counters c.self.inside.root c.args.self.now c.self.view_is (c.get_mut.follows.lender c.append.new.self).entries c.args.f.now (appended c.args.bytes.now)
    (written held c.self.inside.files.entries (c.get_mut.follows.lender c.append.new.self).entries c.args.f.now c.in-Some.contents.now c.append.new.self (appended c.args.bytes.now) there new (wrote.3 (some_is _ c.in-Some.contents.now there)).0)) c.append.ensures.ok

pub returns-in-Some-clause-err : goal.returns-in-Some-clause-err
returns-in-Some-clause-err c =
    let there = (sym c.get_mut.ensures.value ∙ ap option_copied_mut c.in-Some.is) in
    let wrote = c.get_mut.follows.holds c.append.new.self in
    on_err_so _ _ c.append.result (λ same. kept c.self.inside.dirs.entries c.self.inside.files.entries c.self.inside.counters c.self.inside.root c.args.self.now c.self.view_is c.self.inside.dirs.entries (c.get_mut.follows.lender c.append.new.self).entries c.self.inside.counters refl
    (rewritten held c.self.inside.files.entries (c.get_mut.follows.lender c.append.new.self).entries c.args.f.now c.in-Some.contents.now c.append.new.self there same (wrote.3 (some_is _ c.in-Some.contents.now there)).0) refl) c.append.ensures.err

pub invariant_of-self-in-Some : goal.invariant_of-self-in-Some
invariant_of-self-in-Some c =
    let there = sym c.get_mut.ensures.value ∙ ap option_copied_mut c.in-Some.is in
    let put = ((c.get_mut.follows.holds c.append.new.self).3 (some_is _ c.in-Some.contents.now there)).0 in
    let sound = subst IsSound c.self.view_is c.self.invariant in
    either_way _ c.append.result c.append.ensures.ok c.append.ensures.err
    (λ new. subst IsSound (sym (files_changed c.self.inside.dirs.entries c.self.inside.files.entries c.self.inside.counters c.self.inside.root c.args.self.now c.self.view_is (c.get_mut.follows.lender c.append.new.self).entries c.args.f.now (appended c.args.bytes.now) (written held c.self.inside.files.entries (c.get_mut.follows.lender c.append.new.self).entries c.args.f.now c.in-Some.contents.now c.append.new.self (appended c.args.bytes.now) there new put))) (sound_bytes c.args.self.now sound c.args.f.now (appended c.args.bytes.now)))
    (λ same. subst IsSound (sym (kept c.self.inside.dirs.entries c.self.inside.files.entries c.self.inside.counters c.self.inside.root c.args.self.now c.self.view_is c.self.inside.dirs.entries (c.get_mut.follows.lender c.append.new.self).entries c.self.inside.counters refl (rewritten held c.self.inside.files.entries (c.get_mut.follows.lender c.append.new.self).entries c.args.f.now c.in-Some.contents.now c.append.new.self there same put) refl)) sound)
