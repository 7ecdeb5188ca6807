-- What an observer sees of a world, part by part, and the first part in which two worlds differ.
use Rattle.std.specs.Prelude.{◌≡◌, ◌<◌, ℕ}
use Rattle.flow_labels.specs.declared.Label.{Label}
use Rattle.lam_machine_terms.specs.Worlds.{World}
use Rattle.lam_machine_terms.specs.Views.{view}
use Rattle.pair_check_terms.specs.declared.answer.Part.{Part}
use Rattle.pair_check_terms.specs.declared.answer.Part.TheVariants.{Tags, Public, Heap, Files, Pipes, Counters, Threads}

-- the names of the first tags, and where the public is seen the number of the next tag
pub record SameTags (o : Label) (s s' : World) : Type 0 where
  pub names : s.names ≡ s'.names
  pub next : (view o s).next_tag ≡ (view o s').next_tag

-- the slots of the things that are seen, and who holds their monitors
pub record SameThings (o : Label) (s s' : World) : Type 0 where
  pub slots : (view o s).slots ≡ (view o s').slots
  pub monitors : (view o s).monitors ≡ (view o s').monitors

-- the entries of the directories and the bytes of the files that are seen
pub record SameFiles (o : Label) (s s' : World) : Type 0 where
  pub dirs : (view o s).dirs ≡ (view o s').dirs
  pub files : (view o s).files ≡ (view o s').files

-- how many things, files and pipes each home with a seen maker has made
pub record SameCounters (o : Label) (s s' : World) : Type 0 where
  pub heap : (view o s).heap_counts ≡ (view o s').heap_counts
  pub files : (view o s).file_counts ≡ (view o s').file_counts
  pub pipes : (view o s).pipe_counts ≡ (view o s').pipe_counts

-- the seen contexts of each thread, and where the public is seen how many threads there are and how each ended
pub record SameThreads (o : Label) (s s' : World) : Type 0 where
  pub contexts : (view o s).contexts ≡ (view o s').contexts
  pub number : (view o s).threads ≡ (view o s').threads
  pub results : (view o s).results ≡ (view o s').results

-- two worlds are the same in a part, as far as an observer sees
abbrev pub IsSame : Label → World → World → Part → Type 0
IsSame o s s' Tags = SameTags o s s'
IsSame o s s' Public = s.public ≡ s'.public
IsSame o s s' Heap = SameThings o s s'
IsSame o s s' Files = SameFiles o s s'
IsSame o s s' Pipes = (view o s).pipes ≡ (view o s').pipes
IsSame o s s' Counters = SameCounters o s s'
IsSame o s s' Threads = SameThreads o s s'

-- the order in which parts are looked at
abbrev pub place : Part → ℕ
place Tags = 0
place Public = 1
place Heap = 2
place Files = 3
place Pipes = 4
place Counters = 5
place Threads = 6

-- two worlds differ in a part, and in none before it
pub record IsFirstPart (o : Label) (s s' : World) (part : Part) : Type 0 where
  pub before : (p : Part) → place p < place part → IsSame o s s' p
  pub differs : IsSame o s s' part → ⊥
