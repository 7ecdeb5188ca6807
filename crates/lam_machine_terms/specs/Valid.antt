-- Which worlds are valid: what is named lives, what is counted is within its limit, tags are known, and threads and
-- monitors fit together.
use Rattle.std.specs.Prelude.{◌≡◌, ℕ, ◌+◌, ◌<◌, ◌≤◌, IsTrue, Bool, true, false, List, [], ◌∷◌, Option, Some, None, is_none, length}
use Rattle.std.specs.List.{AllByRecursion}
use Rattle.std.specs.FinMap.{FinMap, get, contains_key}
use Rattle.std.specs.FinSet.{contains}
use Rattle.labelled_heap.specs.Tags.{Tags}
use Rattle.labelled_heap.specs.Label.{Label}
use Rattle.labelled_heap.specs.Flow.{public_label}
use Rattle.labelled_pipes.specs.Caps.{Caps}
use Rattle.labelled_files.specs.Name.{Name}
use Rattle.labelled_heap.specs.Names.{name_cmp}
use Rattle.labelled_files.specs.Homes.{Home, Counts}
use Rattle.thread_steps.specs.Value.{Value}
use Rattle.thread_steps.specs.Value.TheVariants.{Int, Bool as Truth, Bytes, Nothing, Obj, Arr, File, Dir, Pipe, Thread, Tag, Lab, CapV}
use Rattle.labelled_heap.specs.Things as heap
use Rattle.labelled_heap.specs.Things.{slots_at}
use Rattle.monitor_core.specs.Held as monitors
use Rattle.monitor_core.specs.Held.{takings, listings}
use Rattle.labelled_files.specs.declared.directory.Target.{Target}
use Rattle.labelled_files.specs.Entries.{Entries}
use Rattle.labelled_files.specs.Trees as files
use Rattle.labelled_files.specs.Trees.{lives_as, root_alone}
use Rattle.labelled_files.specs.declared.directory.EntryKind.TheVariants as kind
use Rattle.labelled_pipes.specs.declared.message.Message.{Message}
use Rattle.labelled_pipes.specs.declared.message.Message.TheVariants as message
use Rattle.labelled_pipes.specs.Queues as pipes
use Rattle.thread_steps.specs.Outcome.{Outcome}
use Rattle.thread_steps.specs.Outcome.TheVariants as outcome
use Rattle.thread_steps.specs.Threads.{Frame, Bottom, Context}
use Rattle.thread_steps.specs.Threads as threads
use Rattle.lam_machine_terms.specs.Limits.{most_tags, most_threads}
use Rattle.lam_machine_terms.specs.Worlds.{World, thread_at}
use Rattle.lam_machine_terms.specs.Turns.{is_bottom}

-- ---- tags

abbrev pub AreBelow : ℕ → Tags → Type 0
AreBelow n tags = (t : ℕ) → IsTrue (contains tags t) → t < n

abbrev pub IsKnown : World → Label → Type 0
IsKnown w l = AreBelow w.next_tag l.s × AreBelow w.next_tag l.i

abbrev pub AreKnown : World → Caps → Type 0
AreKnown w c = AreBelow w.next_tag c.plus × AreBelow w.next_tag c.minus

abbrev pub IsKnownName : World → Name → Type 0
IsKnownName w n = IsKnown w n.maker × IsKnown w n.own

-- the tags in the names of all that lives, and of all homes
abbrev pub AreKnownNames : {X : Type 0} → World → FinMap name_cmp X → Type 0
AreKnownNames w m = (n : Name) → IsTrue (contains_key m n) → IsKnownName w n

abbrev pub AreKnownHomes : World → Counts → Type 0
AreKnownHomes w m = (h : Home) → IsTrue (contains_key m h) → IsKnown w h.maker × IsKnown w h.own

-- ---- what is named

-- what a value names lives, its tags are known, and an array has as many slots as its reference says
abbrev pub Lives : World → Value → Type 0
Lives w (Int n) = Unit {0}
Lives w (Truth b) = Unit {0}
Lives w (Bytes bytes) = Unit {0}
Lives w Nothing = Unit {0}
Lives w (Obj n) = IsKnownName w n × IsTrue (contains_key w.heap.slots n)
Lives w (Arr n len) = IsKnownName w n × (IsTrue (contains_key w.heap.slots n) × (length (slots_at w.heap n) ≡ len))
Lives w (File n) = IsKnownName w n × IsTrue (lives_as kind.File w.files n)
Lives w (Dir n) = IsKnownName w n × IsTrue (lives_as kind.Dir w.files n)
Lives w (Pipe n) = IsKnownName w n × IsTrue (contains_key w.pipes.waiting n)
Lives w (Thread t) = t < length w.threads
Lives w (Tag t) = t < w.next_tag
Lives w (Lab l) = IsKnown w l
Lives w (CapV plus minus) = AreBelow w.next_tag plus × AreBelow w.next_tag minus

abbrev pub AllLive : World → List Value → Type 0
AllLive w vs = AllByRecursion (Lives w) vs

abbrev pub EntryLives : World → List ℕ × Target → Type 0
EntryLives w e = IsKnownName w e.1.name × IsTrue (lives_as e.1.kind w.files e.1.name)

abbrev pub MessageLives : World → Message → Type 0
MessageLives w (message.Bytes bytes) = Unit {0}
MessageLives w (message.Caps caps) = AreKnown w caps

abbrev pub OutcomeLives : World → Option Outcome → Type 0
OutcomeLives w None = Unit {0}
OutcomeLives w (Some (outcome.Value v)) = Lives w v
OutcomeLives w (Some (outcome.Failed f)) = Unit {0}

-- ---- the stores

pub record AreSoundStores (w : World) : Type 0 where
  pub heap : heap.IsSound w.heap
  pub monitors : monitors.IsSound w.monitors
  pub files : files.IsSound w.files
  pub root : w.files.root ≡ root_alone.root
  pub pipes : pipes.IsSound w.pipes

-- what stands in the stores lives, and the names of what lives have known tags
pub record StoresLive (w : World) : Type 0 where
  pub slots : (n : Name) (vs : List Value) → get w.heap.slots n ≡ Some vs → AllLive w vs
  pub entries : (n : Name) (es : Entries) → get w.files.dirs n ≡ Some es → AllByRecursion (EntryLives w) es
  pub messages : (n : Name) (ms : List Message) → get w.pipes.waiting n ≡ Some ms → AllByRecursion (MessageLives w) ms
  pub things : AreKnownNames w w.heap.slots
  pub held : AreKnownNames w w.monitors
  pub dirs : AreKnownNames w w.files.dirs
  pub files : AreKnownNames w w.files.files
  pub pipes : AreKnownNames w w.pipes.waiting
  pub heap_homes : AreKnownHomes w w.heap.counts
  pub file_homes : AreKnownHomes w w.files.counts
  pub pipe_homes : AreKnownHomes w w.pipes.counts

-- ---- threads

pub record FrameLives (w : World) (f : Frame) : Type 0 where
  pub locals : AllLive w f.locals
  pub stack : AllLive w f.stack

-- a monitor that a context lists is that of a living thing with the context's label, and the context's thread holds it
pub record IsListed (w : World) (t : ℕ) (c : Context) (n : Name) : Type 0 where
  pub lives : Lives w (Obj n)
  pub own : n.own ≡ c.label
  pub holder : (count : ℕ) × (get w.monitors n ≡ Some (record { thread = t; count = count }))

pub record ContextLives (w : World) (t : ℕ) (c : Context) : Type 0 where
  pub label : IsKnown w c.label
  pub caps : AreKnown w c.caps
  pub frame : FrameLives w c.inside.frame
  pub callers : AllByRecursion (FrameLives w) c.inside.callers
  pub held : AllByRecursion (IsListed w t c) c.held

-- the first context of a thread
pub record IsFirst (c : Context) : Type 0 where
  pub phase : c.phase ≡ Bottom
  pub label : c.label ≡ public_label
  pub depth : c.depth ≡ 0

abbrev pub StandsOn : Context → List Context → Type 0 → Type 0
StandsOn c [] Below = IsFirst c
StandsOn c (d ∷ ds) Below = (is_bottom c.phase ≡ false) × Below

-- the last of them is a first context, and no other is
abbrev pub AreStacked : List Context → Type 0
AreStacked [] = Unit {0}
AreStacked (c ∷ cs) = StandsOn c cs (AreStacked cs)

abbrev pub has_contexts : List Context → Bool
has_contexts [] = false
has_contexts (c ∷ cs) = true

-- how often contexts list a monitor
abbrev pub all_listings : Name → List Context → ℕ
all_listings n [] = 0
all_listings n (c ∷ cs) = listings n c.held + all_listings n cs

pub record IsValidThread (w : World) (t : ℕ) (th : threads.Thread) : Type 0 where
  pub contexts : AllByRecursion (ContextLives w t) th.contexts
  pub stacked : AreStacked th.contexts
  pub result : OutcomeLives w th.result
  -- it has ended exactly where it has no context
  pub ended : is_none th.result ≡ has_contexts th.contexts
  -- a monitor is held as often at least as it is listed
  pub counts : (n : Name) → all_listings n th.contexts ≤ takings w.monitors n

-- ---- worlds

pub record IsValid (w : World) : Type 0 where
  pub sound : AreSoundStores w
  pub live : StoresLive w
  pub public : AreKnown w w.public
  pub threads : (t : ℕ) (th : threads.Thread) → thread_at w t ≡ Some th → IsValidThread w t th
  pub tags : w.next_tag ≤ most_tags
  pub number : length w.threads ≤ most_threads
