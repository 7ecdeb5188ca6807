-- Worlds: what the stores are seen as, and the threads.
use Rattle.std.specs.Prelude.{ℕ, List, [], Option, Some, None, slice_get, slice_set}
use Rattle.labelled_pipes.specs.Caps.{Caps}
use Rattle.labelled_heap.specs.Things.{Things}
use Rattle.monitor_core.specs.Held.{Held}
use Rattle.labelled_files.specs.Trees.{Tree}
use Rattle.labelled_pipes.specs.Queues.{Queues}
use Rattle.thread_steps.specs.Outcome.{Outcome}
use Rattle.thread_steps.specs.Threads.{Context, Thread}

pub record World : Type 0 where
  -- the names of the first tags: that of tag n stands at place n
  pub names : List (List ℕ)
  -- what every context counts as holding, by the kinds of the first tags; no context lists it for that reason
  pub public : Caps
  -- the number of the next tag that is made
  pub next_tag : ℕ
  pub heap : Things
  pub monitors : Held
  pub files : Tree
  pub pipes : Queues
  -- that of number n stands at place n
  pub threads : List Thread

abbrev pub thread_at : World → ℕ → Option Thread
thread_at w t = slice_get w.threads t

abbrev pub contexts_in : Option Thread → List Context
contexts_in None = []
contexts_in (Some th) = th.contexts

-- the contexts of a thread, the acting one first, and none where there is no such thread
abbrev pub contexts_at : World → ℕ → List Context
contexts_at w t = contexts_in (thread_at w t)

abbrev pub result_in : Option Thread → Option Outcome
result_in None = None
result_in (Some th) = th.result

-- how a thread ended, where it did
abbrev pub result_at : World → ℕ → Option Outcome
result_at w t = result_in (thread_at w t)

-- one thread is another one; all else stays
abbrev pub with_thread : World → ℕ → Thread → World
with_thread w t th = record w { threads = slice_set w.threads t th }
