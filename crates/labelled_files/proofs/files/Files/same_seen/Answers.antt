use Rattle.lam_value.specs.Flow.{flows}
use Rattle.labelled_files.proofs.SeenLemmas.{dirs_where, files_where, where_dirs, where_files}
use Rattle.labelled_files.proofs.files.Files.same_seen.Goals as goal

pub returns : goal.returns
returns c = (
  λ t n s. (
    dirs_where c.self.inside.dirs.entries c.other.inside.dirs.entries c.self.inside.files.entries c.other.inside.files.entries c.self.inside.counters c.other.inside.counters c.self.inside.root c.other.inside.root c.args.self.now c.args.other.now c.self.view_is c.other.view_is (λ n. flows n.own c.args.observer.now) (c.same_things.ensures.0 t).0 n s,
    files_where c.self.inside.dirs.entries c.other.inside.dirs.entries c.self.inside.files.entries c.other.inside.files.entries c.self.inside.counters c.other.inside.counters c.self.inside.root c.other.inside.root c.args.self.now c.args.other.now c.self.view_is c.other.view_is (λ n. flows n.own c.args.observer.now) (c.same_things.ensures.0 t).1 n s,
  ),
  λ same. c.same_things.ensures.1 (
    where_dirs c.self.inside.dirs.entries c.other.inside.dirs.entries c.self.inside.files.entries c.other.inside.files.entries c.self.inside.counters c.other.inside.counters c.self.inside.root c.other.inside.root c.args.self.now c.args.other.now c.self.view_is c.other.view_is (λ n. flows n.own c.args.observer.now) (λ n s. (same n s).0),
    where_files c.self.inside.dirs.entries c.other.inside.dirs.entries c.self.inside.files.entries c.other.inside.files.entries c.self.inside.counters c.other.inside.counters c.self.inside.root c.other.inside.root c.args.self.now c.args.other.now c.self.view_is c.other.view_is (λ n. flows n.own c.args.observer.now) (λ n s. (same n s).1),
  ),
)
