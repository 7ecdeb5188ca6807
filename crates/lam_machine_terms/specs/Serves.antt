-- What an ask is served by: an answer, what happens to one store, and what is made.
use Rattle.std.specs.Prelude.{ℕ, ◌+◌, List, [], ◌∷◌, ◌++◌, Option, Some, None, nat_lt, if◌then◌else◌}
use Rattle.labelled_heap.specs.Label.{Label}
use Rattle.labelled_pipes.specs.Denied.{Denied}
use Rattle.labelled_heap.specs.Flow.{public_label}
use Rattle.labelled_pipes.specs.Failing.{Test, first_failing}
use Rattle.labelled_pipes.specs.Caps.{Caps}
use Rattle.labelled_files.specs.Name.{Name}
use Rattle.thread_steps.specs.Value.{Value}
use Rattle.thread_steps.specs.Value.TheVariants.{Obj, Arr}
use Rattle.labelled_files.specs.Homes.{Home}
use Rattle.labelled_heap.specs.declared.heap.Sort.{Sort}
use Rattle.labelled_heap.specs.Things.{with_slot, with_thing, with_copy}
use Rattle.monitor_core.specs.Held.{entered, left, dropped}
use Rattle.labelled_files.specs.Trees.{with_file, with_dir, without_entry, with_more, with_first}
use Rattle.labelled_pipes.specs.declared.message.Message.{Message}
use Rattle.labelled_pipes.specs.declared.message.MessageKind.{MessageKind}
use Rattle.labelled_pipes.specs.Queues.{with_pipe, with_sent, with_received}
use Rattle.thread_steps.specs.Fault.{Fault}
use Rattle.thread_steps.specs.Fault.TheVariants.{Null}
use Rattle.thread_steps.specs.Answer.{Answer}
use Rattle.thread_steps.specs.Answer.TheVariants.{Done, Val, Refused, Failed}
use Rattle.thread_steps.specs.Codes.{CodeTree}
use Rattle.thread_steps.specs.Next.{started}
use Rattle.lam_machine_terms.specs.Worlds.{World}

-- what happens to one store. What is done to a name that does not live there changes nothing
pub data Effect : Type 0 where
  nothing : Effect
  takes_tag : Effect
  sets_slot : (thing : Name) (at : ℕ) (v : Value) → Effect
  adds_thing : (home : Home) (sort : Sort) (slots : List Value) → Effect
  adds_copy : (thing : Name) (home : Home) → Effect
  takes_monitor : (thing : Name) → Effect
  gives_back : (thing : Name) → Effect
  drops : (things : List Name) → Effect
  adds_file : (dir : Name) (text : List ℕ) (home : Home) → Effect
  adds_dir : (dir : Name) (text : List ℕ) (home : Home) → Effect
  removes : (dir : Name) (text : List ℕ) → Effect
  appends : (file : Name) (bytes : List ℕ) → Effect
  cuts : (file : Name) (len : ℕ) → Effect
  adds_pipe : (home : Home) → Effect
  sends : (pipe : Name) (m : Message) → Effect
  receives : (pipe : Name) (kind : MessageKind) → Effect
  adds_thread : (unit : ℕ) (args : List Value) (caps : Caps) → Effect

-- an effect that a thread has on the world
abbrev pub effect_of : CodeTree → ℕ → Effect → World → World
effect_of code t nothing w = w
effect_of code t takes_tag w = record w { next_tag = w.next_tag + 1 }
effect_of code t (sets_slot n at v) w = record w { heap = with_slot w.heap n at v }
effect_of code t (adds_thing home sort slots) w = record w { heap = with_thing w.heap home sort slots }
effect_of code t (adds_copy n home) w = record w { heap = with_copy w.heap n home }
effect_of code t (takes_monitor n) w = record w { monitors = entered w.monitors n t }
effect_of code t (gives_back n) w = record w { monitors = left w.monitors n t }
effect_of code t (drops ns) w = record w { monitors = dropped w.monitors ns t }
effect_of code t (adds_file dir text home) w = record w { files = with_file w.files dir text home }
effect_of code t (adds_dir dir text home) w = record w { files = with_dir w.files dir text home }
effect_of code t (removes dir text) w = record w { files = without_entry w.files dir text }
effect_of code t (appends file bytes) w = record w { files = with_more w.files file bytes }
effect_of code t (cuts file len) w = record w { files = with_first w.files file len }
effect_of code t (adds_pipe home) w = record w { pipes = with_pipe w.pipes home }
effect_of code t (sends pipe m) w = record w { pipes = with_sent w.pipes pipe m }
effect_of code t (receives pipe kind) w = record w { pipes = with_received w.pipes pipe kind }
effect_of code t (adds_thread unit args caps) w = record w { threads = w.threads ++ started code unit args caps ∷ [] }

-- what is made, by its content. The value that leads to a thing tells an object from an array: whoever is shown what was
-- made is shown that too
pub data Made : Type 0 where
  a_region : (label : Label) (caps : Caps) (depth region : ℕ) (args : List Value) → Made
  a_thing : (name : Name) (thing : Value) (slots : List Value) → Made
  a_file : (name : Name) → Made
  a_dir : (name : Name) → Made
  a_pipe : (name : Name) → Made
  a_thread : (number : ℕ) → Made

abbrev pub made_label : Made → Label
made_label (a_region l k depth region args) = l
made_label (a_thing n thing slots) = n.own
made_label (a_file n) = n.own
made_label (a_dir n) = n.own
made_label (a_pipe n) = n.own
made_label (a_thread t) = public_label

pub record Served : Type 0 where
  pub answer : Answer
  pub effect : Effect
  pub made : Option Made

-- an answer, and nothing else
abbrev pub answers : Answer → Served
answers x = record { answer = x; effect = nothing; made = None }

-- it is done
abbrev pub does : Effect → Served
does e = record { answer = Done; effect = e; made = None }

-- a value, for what is done
abbrev pub gives : Value → Effect → Served
gives v e = record { answer = Val v; effect = e; made = None }

-- a value, for what is made
abbrev pub makes : Value → Effect → Made → Served
makes v e m = record { answer = Val v; effect = e; made = Some m }

-- ---- what a service may stand under

abbrev pub unless_denied : Option Denied → Served → Served
unless_denied None d = d
unless_denied (Some denied) d = answers (Refused denied)

-- a test: where it fails, the first rule that does is the answer, and nothing is done
unfoldable pub under : Test → Served → Served
under t d = unless_denied (first_failing t) d

-- a fault: where there is one it is the answer, and nothing is done
unfoldable pub unless : Option Fault → Served → Served
unless None d = d
unless (Some f) d = answers (Failed f)

-- there is no room for one more
abbrev pub full : ℕ → ℕ → Fault → Option Fault
full n limit f = if nat_lt n limit then None else Some f

-- ---- rows

-- what is stated of an ask: its tests in their order, its fault, and what is done where it has neither
pub record Row : Type 0 where
  pub tests : Test
  pub fault : Option Fault
  pub done : Served

-- the first test that fails refuses it; else it has its fault; else it is done
abbrev pub judged : Row → Served
judged r = under r.tests (unless r.fault r.done)

-- a row, by its columns
abbrev pub tested : Test → Option Fault → Served → Row
tested t f d = record { tests = t; fault = f; done = d }

-- a row without a test
abbrev pub untested : Option Fault → Served → Row
untested f d = record { tests = []; fault = f; done = d }

-- ---- references

-- a test of the thing that a reference leads to
abbrev pub of_thing : Value → (Name → Test) → Test
of_thing (Obj n) test = test n
of_thing (Arr n len) test = test n
of_thing v test = []

-- a reference that leads to nothing raises Null
abbrev pub at_thing : Value → (Name → Option Fault) → Option Fault
at_thing (Obj n) fault = fault n
at_thing (Arr n len) fault = fault n
at_thing v fault = Some Null

-- the thing that a reference leads to. (Any name, for what leads nowhere: that has a fault)
abbrev pub name_in : Value → Name
name_in (Obj n) = n
name_in (Arr n len) = n
name_in v = record { maker = public_label; own = public_label; n = 0 }
