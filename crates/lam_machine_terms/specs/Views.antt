-- What an observer sees of a world and of a run.
use Rattle.std.specs.Prelude.{◌≡◌, ℕ, Bool, false, cond, not, ◌&&◌, ◌||◌, List, ◌∷◌, map, length, filter, Option, Some, None}
use Rattle.std.specs.FinMap.{FinMap, retain_keys}
use Rattle.labelled_heap.specs.Label.{Label}
use Rattle.labelled_heap.specs.Flow.{flows, seen, public_label}
use Rattle.labelled_pipes.specs.Caps.{Caps}
use Rattle.labelled_pipes.specs.Changes.{used}
use Rattle.thread_steps.specs.Value.{Value}
use Rattle.labelled_files.specs.Name.{Name}
use Rattle.labelled_heap.specs.Names.{name_cmp}
use Rattle.labelled_files.specs.Homes.{Home, Counts, count_in}
use Rattle.monitor_core.specs.Held.{Held}
use Rattle.labelled_files.specs.Entries.{Entries}
use Rattle.labelled_pipes.specs.declared.message.Message.{Message}
use Rattle.thread_steps.specs.Outcome.{Outcome}
use Rattle.thread_steps.specs.Event.{Event}
use Rattle.thread_steps.specs.Threads.{Context}
use Rattle.lam_machine_terms.specs.Worlds.{World, contexts_at, result_at}
use Rattle.lam_machine_terms.specs.Serves.{Made, made_label}
use Rattle.lam_machine_terms.specs.Turns.{Moment}

-- ---- the view

-- what is seen of a world. What a thing is, its class or its elements' kind, is left out: no ask answers it
pub record View : Type 0 where
  pub slots : FinMap name_cmp (List Value)
  pub monitors : Held
  pub dirs : FinMap name_cmp Entries
  pub files : FinMap name_cmp (List ℕ)
  pub pipes : FinMap name_cmp (List Message)
  pub heap_counts : Home → ℕ
  pub file_counts : Home → ℕ
  pub pipe_counts : Home → ℕ
  pub contexts : ℕ → List Context
  pub next_tag : Option ℕ
  pub threads : Option ℕ
  pub results : ℕ → Option Outcome

-- of what has names, what has an own label that is seen
abbrev pub shown : {X : Type 0} → Label → FinMap name_cmp X → FinMap name_cmp X
shown o m = retain_keys m (λ (n : Name). seen n.own o)

-- how many things each home of a seen maker has made: a home that is counted at 0 and one that is not counted look the same
abbrev pub shown_counts : Label → Counts → Home → ℕ
shown_counts o m = λ h. cond (seen h.maker o) (count_in m h) 0

abbrev pub is_seen : Label → Context → Bool
is_seen o c = seen c.label o

-- what is public, where that is seen
abbrev pub where_public : {X : Type 0} → Label → Option X → Option X
where_public o x = cond (seen public_label o) x None

abbrev pub view : Label → World → View
view o w =
    record {
      slots = shown o w.heap.slots;
      monitors = shown o w.monitors;
      dirs = shown o w.files.dirs;
      files = shown o w.files.files;
      pipes = shown o w.pipes.waiting;
      heap_counts = shown_counts o w.heap.counts;
      file_counts = shown_counts o w.files.counts;
      pipe_counts = shown_counts o w.pipes.counts;
      contexts = λ t. filter (is_seen o) (contexts_at w t);
      next_tag = where_public o (Some w.next_tag);
      threads = where_public o (Some (length w.threads));
      results = λ t. where_public o (result_at w t);
    }

-- two starts with equal tag names and equal public capabilities look the same
pub record Agree (o : Label) (s s' : World) : Type 0 where
  pub names : s.names ≡ s'.names
  pub public : s.public ≡ s'.public
  pub views : view o s ≡ view o s'

-- ---- releases

abbrev pub goes_down : Label → Option Made → Bool
goes_down p None = false
goes_down p (Some m) = not (flows p (made_label m))

-- what is made is not above the acting label
abbrev pub is_release : Moment → Bool
is_release m = goes_down m.event.label m.made

abbrev pub shows : Label → Option Made → Bool
shows o None = false
shows o (Some m) = seen (made_label m) o

-- an observer does not see who acts, and sees what is made
abbrev pub is_past : Label → Moment → Bool
is_past o m = not (seen m.event.label o) && shows o m.made

abbrev pub used_by : Label → Option Made → Option Caps
used_by p None = None
used_by p (Some m) = Some (used p (made_label m))

-- who released what, by which capabilities
pub record Release : Type 0 where
  pub thread : ℕ
  pub content : Option Made
  pub by : Option Caps

abbrev pub release_of : Moment → Release
release_of m = record { thread = m.event.thread; content = m.made; by = used_by m.event.label m.made }

-- ---- the agenda and the trace

-- an observer notes the turns that it sees, and the releases past it
abbrev pub is_noted : Label → Moment → Bool
is_noted o m = seen m.event.label o || is_past o m

abbrev pub noted : Label → List Moment → List Moment
noted o ms = filter (is_noted o) ms

-- of a seen turn the agenda has its thread alone, and the trace all of it
pub data Item : Type 0 where
  turn : (thread : ℕ) → Item
  past : (release : Release) → Item

pub data Entry : Type 0 where
  event : (it : Event) → Entry
  release : (it : Release) → Entry

abbrev pub item_of : Label → Moment → Item
item_of o m = cond (seen m.event.label o) (turn m.event.thread) (past (release_of m))

abbrev pub entry_of : Label → Moment → Entry
entry_of o m = cond (seen m.event.label o) (event m.event) (release (release_of m))

abbrev pub agenda : Label → List Moment → List Item
agenda o ms = map (item_of o) (noted o ms)

abbrev pub trace : Label → List Moment → List Entry
trace o ms = map (entry_of o) (noted o ms)

-- the view of the start, and that after each turn that is noted
abbrev pub views : Label → World → List Moment → List View
views o w ms = view o w ∷ map (λ (m : Moment). view o m.world) (noted o ms)
