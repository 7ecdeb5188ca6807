use Rattle.std.proofs.Common.{sym, subst, refl}
use Rattle.lam_value.specs.Homes.{home_of}
use Rattle.lam_value.proofs.Maps.{on_ok_so, on_err_so}
use Rattle.lam_value.proofs.CountLemmas.{either_way}
use Rattle.labelled_files.specs.Trees.{IsSound}
use Rattle.labelled_files.proofs.SeenLemmas.{kept, recounted}
use Rattle.labelled_files.proofs.SoundLemmas.{sound_count}
use Rattle.labelled_files.proofs.files.Files.raise_counter.Goals as goal

pub invariant_of-self : goal.invariant_of-self
invariant_of-self c =
    let home = home_of c.args.maker.now c.args.own.now in
    let sound = subst IsSound c.self.view_is c.self.invariant in
    either_way _ c.raise.result c.raise.ensures.ok c.raise.ensures.err
    (λ new. subst IsSound (sym (recounted c.self.inside.dirs.entries c.self.inside.files.entries c.self.inside.counters c.self.inside.root c.args.self.now c.self.view_is c.raise.new.self home c.args.n new)) (sound_count c.args.self.now sound home c.args.n c.requires))
    (λ same. subst IsSound (sym (kept c.self.inside.dirs.entries c.self.inside.files.entries c.self.inside.counters c.self.inside.root c.args.self.now c.self.view_is c.self.inside.dirs.entries c.self.inside.files.entries c.raise.new.self refl refl same)) sound)

pub returns-clause-ok : goal.returns-clause-ok
returns-clause-ok c = on_ok_so _ _ c.raise.result (λ new. recounted c.self.inside.dirs.entries c.self.inside.files.entries c.self.inside.counters c.self.inside.root c.args.self.now c.self.view_is c.raise.new.self (home_of c.args.maker.now c.args.own.now) c.args.n new) c.raise.ensures.ok

pub returns-clause-err : goal.returns-clause-err
returns-clause-err c = on_err_so _ _ c.raise.result (λ same. kept c.self.inside.dirs.entries c.self.inside.files.entries c.self.inside.counters c.self.inside.root c.args.self.now c.self.view_is c.self.inside.dirs.entries c.self.inside.files.entries c.raise.new.self refl refl same) c.raise.ensures.err
