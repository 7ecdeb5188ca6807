-- The start of the next run, which goes on from the end of one.
use Rattle.std.specs.Prelude.{◌≡◌}
use Rattle.labelled_files.specs.Trees.{Tree}
use Rattle.lam_machine_terms.specs.Worlds.{World}
use Rattle.world_save_laws.specs.Reached.{HoldsReached}

-- All but its files and directories is as at the start of the run, and they are those that the root reached at the run's end.
pub record GoesOn (w : World) (t : Tree) (v : World) : Type 0 where
  pub names : v.names ≡ w.names
  pub public : v.public ≡ w.public
  pub next_tag : v.next_tag ≡ w.next_tag
  pub heap : v.heap ≡ w.heap
  pub monitors : v.monitors ≡ w.monitors
  pub pipes : v.pipes ≡ w.pipes
  pub threads : v.threads ≡ w.threads
  pub files : HoldsReached t v.files
