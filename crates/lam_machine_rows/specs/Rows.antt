-- What is said of each row by itself: which parts of a world and of a context it reads, and that it serves its ask.
use Rattle.std.specs.Prelude.{ℕ, List, Option, Some, None}
use Rattle.flow_labels.specs.declared.Label.{Label}
use Rattle.capabilities.specs.declared.Caps.{Caps}
use Rattle.lam_value.specs.declared.names.Name.{Name}
use Rattle.lam_value.specs.declared.values.Value.{Value}
use Rattle.lam_value.specs.declared.values.Value.TheVariants.{Obj, Arr}
use Rattle.labelled_heap.specs.Things.{Things}
use Rattle.monitor_core.specs.Held.{Held}
use Rattle.labelled_files.specs.Trees.{Tree}
use Rattle.labelled_pipes.specs.Queues.{Queues}
use Rattle.lam_asks.specs.declared.answer.Answer.{Answer}
use Rattle.lam_asks.specs.declared.answer.Answer.TheVariants.{Val, Failed}
use Rattle.lam_asks.specs.declared.answer.Outcome.{Outcome}
use Rattle.lam_asks.specs.declared.answer.Outcome.TheVariants as outcome
use Rattle.lam_asks.specs.declared.fault.Fault.TheVariants.{Child}
use Rattle.lam_asks.specs.declared.ask.Ask.{Ask}
use Rattle.thread_steps.specs.Threads.{Context}
use Rattle.lam_machine_effects.specs.Worlds.{World}
use Rattle.lam_machine_effects.specs.Serving.{served_by}
use Rattle.lam_machine_effects.specs.declared.served.Served.{Served}
use Rattle.lam_machine_effects.specs.Meaning.{DoesAs}

-- ---- parts of a world and of a context

abbrev pub any_world : World → World
any_world w = w

abbrev pub with_tags : ℕ → World → World
with_tags n w = record w { next_tag = n }

abbrev pub with_heap : Things → World → World
with_heap h w = record w { heap = h }

abbrev pub with_monitors : Held → World → World
with_monitors m w = record w { monitors = m }

abbrev pub with_files : Tree → World → World
with_files f w = record w { files = f }

abbrev pub with_pipes : Queues → World → World
with_pipes q w = record w { pipes = q }

abbrev pub any_context : Context → Context
any_context c = c

abbrev pub at_label : Label → Context → Context
at_label p c = record c { label = p }

abbrev pub acting_by : Label → Caps → Context → Context
acting_by p k c = record c { label = p; caps = k }

abbrev pub at_depth : Label → Caps → ℕ → Context → Context
at_depth p k depth c = record c { label = p; caps = k; depth = depth }

abbrev pub holding : List Name → Context → Context
holding ns c = record c { held = ns }

-- the service is that of the ask, in each world and each context with these parts, where all that counts as held is among the
-- context's own capabilities
abbrev pub Serves : (World → World) → (Context → Context) → Ask → Served → Type 0
Serves world context a d = (w : World) (c : Context) → DoesAs d (served_by (world w) (context c) a)

-- ---- references

-- the name in a reference to an object or an array
abbrev pub thing_of : Value → Option Name
thing_of (Obj n) = Some n
thing_of (Arr n len) = Some n
thing_of v = None

-- ---- threads that ended

-- what a joined thread ended with
abbrev pub ended_with : Option Outcome → Answer
ended_with None = Failed Child
ended_with (Some (outcome.Value v)) = Val v
ended_with (Some (outcome.Failed f)) = Failed Child
