use Rattle.std.proofs.Common.{◌≡◌, sym, subst}
use Rattle.lam_value.specs.Homes.{name_of}
use Rattle.labelled_files.specs.Trees.{root_alone, public_home, IsSound}
use Rattle.labelled_files.specs.Seen.{dirs_of, files_of, tree_of}
use Rattle.labelled_files.proofs.SoundLemmas.{sound_root}
use Rattle.labelled_files.proofs.TreeLemmas.{made_so}
use Rattle.labelled_files.proofs.files.Files.new.Goals as goal

made : (c : goal.After-new) → tree_of c.in_ok-root.dirs.entries c.new.result.entries c.in_ok-root.counters c.in_ok-root.root ≡ root_alone
made c =
    let root = made_so c.in_ok-root.ensures.0 (λ n. n ≡ name_of public_home 0) c.root_name.ensures in
    let dirs = made_so c.in_ok-root.ensures.1 (λ p. dirs_of p.0.entries ≡ root_alone.dirs) c.root_ground.ensures.dirs in
    let counters = made_so c.in_ok-root.ensures.1 (λ p. p.1 ≡ root_alone.counts) c.root_ground.ensures.counters in
    λ i. record { dirs = dirs i; files = files_of (c.new.ensures.empty i); counts = counters i; root = root i }

pub invariant_of-result : goal.invariant_of-result
invariant_of-result c = subst IsSound (sym (made c)) sound_root

pub returns : goal.returns
returns c = made c
