-- The row of each ask: its tests in their order, its fault, its effect and its answer.
use Rattle.std.specs.Prelude.{ℕ, pos, ◌+◌, ◌++◌, List, length, take, drop, Option, Some, None, unwrap_or, slice_get}
use Rattle.labelled_heap.specs.Flow.{public_label}
use Rattle.labelled_pipes.specs.Failing.{read_test, write_test, mint_test, same_test}
use Rattle.labelled_pipes.specs.Caps.{Caps}
use Rattle.labelled_pipes.specs.Changes.{joined, change_test, covers_test}
use Rattle.labelled_files.specs.Name.{Name}
use Rattle.thread_steps.specs.Value.{Value}
use Rattle.thread_steps.specs.Value.TheVariants.{Int, Bytes, Nothing, Obj, Arr, File, Dir, Pipe, Thread, Tag, CapV}
use Rattle.labelled_heap.specs.Shape.{Shape}
use Rattle.labelled_heap.specs.Shape.TheVariants.{Class, Array}
use Rattle.labelled_heap.specs.Shapes.{slots_of}
use Rattle.labelled_files.specs.Homes.{Home, home_of, name_of, count_in}
use Rattle.labelled_heap.specs.Things.{Things, most_things, slots_at, sort_of}
use Rattle.monitor_core.specs.Held.{takings, most_takings}
use Rattle.labelled_files.specs.declared.directory.Target.{Target}
use Rattle.labelled_files.specs.declared.directory.EntryKind.TheVariants as kind
use Rattle.labelled_files.specs.declared.files.FileFault.{FileFault}
use Rattle.labelled_files.specs.declared.files.FileFault.TheVariants as file_fault
use Rattle.labelled_files.specs.Entries.{name_of_kind}
use Rattle.labelled_files.specs.Trees.{target_at, bytes_at, first_fault, next_name}
use Rattle.labelled_pipes.specs.declared.message.Message.{Message}
use Rattle.labelled_pipes.specs.declared.message.Message.TheVariants as message
use Rattle.labelled_pipes.specs.declared.message.MessageKind.TheVariants as sort_of_message
use Rattle.labelled_pipes.specs.Messages.{front_of}
use Rattle.labelled_pipes.specs.Queues.{most_pipes, waiting_at}
use Rattle.thread_steps.specs.Fault.{Fault}
use Rattle.thread_steps.specs.Fault.TheVariants.{Deep, HomeFull, Exists, NoEntry, DirFull, BadName, Child}
use Rattle.thread_steps.specs.Outcome.{Outcome}
use Rattle.thread_steps.specs.Outcome.TheVariants as outcome
use Rattle.thread_steps.specs.Answer.TheVariants.{Done, Entered, Val}
use Rattle.thread_steps.specs.Ask.{Ask}
use Rattle.thread_steps.specs.Ask.TheVariants.{Read, Write, New, CopyTo, Mint, Enter, Leave, Barred, Caught, Suppressed, MonEnter, MonLeave, MakeFile, MakeDir, OpenFile, OpenDir, Remove, FileRead, FileLength, Append, Cut, MakePipe, Send, SendCaps, Receive, ReceiveCaps, Spawn, Join, Say, End}
use Rattle.thread_steps.specs.Limits.{depth_limit}
use Rattle.thread_steps.specs.Threads.{Context}
use Rattle.lam_machine_terms.specs.Limits.{most_tags, most_threads}
use Rattle.lam_machine_terms.specs.Worlds.{World, result_at}
use Rattle.lam_machine_terms.specs.Serves.{Effect, nothing, takes_tag, sets_slot, adds_thing, adds_copy, takes_monitor, gives_back, drops, adds_file, adds_dir, removes, appends, cuts, adds_pipe, sends, receives, adds_thread, a_region, a_thing, a_file, a_dir, a_pipe, a_thread, Served, answers, does, gives, makes, full, Row, judged, tested, untested, of_thing, at_thing, name_in}

-- the value in a slot; one that the thing does not have reads as null
abbrev pub slot_at : Things → Name → ℕ → Value
slot_at h n at = unwrap_or (slice_get (slots_at h n) at) Nothing

-- a reference to a new thing of a shape
abbrev pub reference : Shape → Name → Value
reference (Class class fields) n = Obj n
reference (Array kind len) n = Arr n len

-- a reference of the same sort to another thing
abbrev pub renamed : Value → Name → Value
renamed (Arr n len) m = Arr m len
renamed v m = Obj m

-- the next thing of a home
abbrev pub adds : World → Home → List Value → (Name → Value) → Effect → Served
adds w home slots refer e =
    makes (refer (name_of home (count_in w.heap.counts home))) e
    (a_thing (name_of home (count_in w.heap.counts home)) (refer (name_of home (count_in w.heap.counts home))) slots)

abbrev pub fault_of : FileFault → Fault
fault_of file_fault.BadName = BadName
fault_of file_fault.Exists = Exists
fault_of file_fault.DirFull = DirFull
fault_of file_fault.HomeFull = HomeFull
fault_of file_fault.NoMemory = HomeFull

abbrev pub file_faults : Option FileFault → Option Fault
file_faults None = None
file_faults (Some f) = Some (fault_of f)

abbrev pub where_none : {X : Type 0} → Option X → Fault → Option Fault
where_none None f = Some f
where_none (Some x) f = None

abbrev pub found : (Name → Value) → Option Name → Value
found refer None = Nothing
found refer (Some n) = refer n

abbrev pub absent : Option Target → Option Fault
absent None = Some NoEntry
absent (Some target) = None

-- what was taken from a pipe, or null
abbrev pub received : Option Message → Value
received None = Nothing
received (Some (message.Bytes bytes)) = Bytes bytes
received (Some (message.Caps caps)) = CapV caps.plus caps.minus

-- a thread that ended without a value, or not at all
abbrev pub child_fault : Option Outcome → Option Fault
child_fault None = Some Child
child_fault (Some (outcome.Value v)) = None
child_fault (Some (outcome.Failed f)) = Some Child

abbrev pub value_of_end : Option Outcome → Value
value_of_end (Some (outcome.Value v)) = v
value_of_end x = Nothing

-- the row of each ask: its tests in their order, its fault, and its effect with its answer
abbrev pub row : World → Context → Ask → Row
row w c (Read r at) = tested (of_thing r (λ n. read_test c.label n.own)) (at_thing r (λ n. None)) (answers (Val (slot_at w.heap (name_in r) at)))
row w c (Write r at v) = tested (of_thing r (λ n. write_test c.label n.own)) (at_thing r (λ n. None)) (does (sets_slot (name_in r) at v))
row w c (New shape) =
    untested (full (count_in w.heap.counts (home_of c.label c.label)) most_things HomeFull)
    (adds w (home_of c.label c.label) (slots_of shape) (reference shape) (adds_thing (home_of c.label c.label) (sort_of shape) (slots_of shape)))
row w c (CopyTo r l) =
    tested (of_thing r (λ n. read_test c.label n.own ++ (change_test c.caps n.own l ++ change_test c.caps c.label l)))
    (at_thing r (λ n. full (count_in w.heap.counts (home_of c.label l)) most_things HomeFull))
    (adds w (home_of c.label l) (slots_at w.heap (name_in r)) (renamed r) (adds_copy (name_in r) (home_of c.label l)))
row w c Mint = tested (mint_test c.label) (full w.next_tag most_tags HomeFull) (gives (Tag w.next_tag) takes_tag)
row w c (Enter l k region args) =
    tested (change_test c.caps c.label l ++ covers_test c.caps k) (full c.depth depth_limit Deep)
    (record { answer = Entered; effect = nothing; made = Some (a_region l k (c.depth + 1) region args) })
row w c Leave = untested None (answers Done)
row w c (Barred denied) = untested None (answers Done)
row w c (Caught f) = untested None (does (drops c.held))
row w c (Suppressed f) = untested None (does (drops c.held))
row w c (End out) = untested None (does (drops c.held))
row w c (MonEnter r) =
    tested (of_thing r (λ n. same_test c.label n.own)) (at_thing r (λ n. full (takings w.monitors n) most_takings Deep)) (does (takes_monitor (name_in r)))
row w c (MonLeave r) = untested (at_thing r (λ n. None)) (does (gives_back (name_in r)))
row w c (MakeFile d text l) =
    tested (read_test c.label d.own ++ (write_test c.label d.own ++ (write_test c.label l ++ change_test c.caps c.label l)))
    (file_faults (first_fault w.files d text (home_of c.label l)))
    (makes (File (next_name w.files (home_of c.label l))) (adds_file d text (home_of c.label l)) (a_file (next_name w.files (home_of c.label l))))
row w c (MakeDir d text l) =
    tested (read_test c.label d.own ++ (write_test c.label d.own ++ (write_test c.label l ++ change_test c.caps c.label l)))
    (file_faults (first_fault w.files d text (home_of c.label l)))
    (makes (Dir (next_name w.files (home_of c.label l))) (adds_dir d text (home_of c.label l)) (a_dir (next_name w.files (home_of c.label l))))
row w c (OpenFile d text) =
    tested (read_test c.label d.own) (where_none (name_of_kind kind.File (target_at w.files d text)) NoEntry)
    (answers (Val (found (λ n. File n) (name_of_kind kind.File (target_at w.files d text)))))
row w c (OpenDir d text) =
    tested (read_test c.label d.own) (where_none (name_of_kind kind.Dir (target_at w.files d text)) NoEntry)
    (answers (Val (found (λ n. Dir n) (name_of_kind kind.Dir (target_at w.files d text)))))
row w c (Remove d text) = tested (read_test c.label d.own ++ write_test c.label d.own) (absent (target_at w.files d text)) (does (removes d text))
row w c (FileRead f at n) = tested (read_test c.label f.own) None (answers (Val (Bytes (take n (drop at (bytes_at w.files f))))))
row w c (FileLength f) = tested (read_test c.label f.own) None (answers (Val (Int (pos (length (bytes_at w.files f))))))
row w c (Append f bytes) = tested (write_test c.label f.own) None (does (appends f bytes))
row w c (Cut f len) = tested (write_test c.label f.own) None (does (cuts f len))
row w c (MakePipe l) =
    tested (write_test c.label l ++ change_test c.caps c.label l) (full (count_in w.pipes.counts (home_of c.label l)) most_pipes HomeFull)
    (makes (Pipe (name_of (home_of c.label l) (count_in w.pipes.counts (home_of c.label l)))) (adds_pipe (home_of c.label l))
    (a_pipe (name_of (home_of c.label l) (count_in w.pipes.counts (home_of c.label l)))))
row w c (Send p bytes) = tested (write_test c.label p.own) None (does (sends p (message.Bytes bytes)))
row w c (SendCaps p caps) = tested (write_test c.label p.own ++ covers_test c.caps caps) None (does (sends p (message.Caps caps)))
row w c (Receive p) =
    tested (same_test c.label p.own) None (gives (received (front_of sort_of_message.Bytes (waiting_at w.pipes p))) (receives p sort_of_message.Bytes))
row w c (ReceiveCaps p) =
    tested (same_test c.label p.own) None (gives (received (front_of sort_of_message.Caps (waiting_at w.pipes p))) (receives p sort_of_message.Caps))
row w c (Spawn unit args caps) =
    tested (same_test c.label public_label ++ covers_test c.caps caps) (full (length w.threads) most_threads HomeFull)
    (makes (Thread (length w.threads)) (adds_thread unit args caps) (a_thread (length w.threads)))
row w c (Join t) = tested (read_test c.label public_label) (child_fault (result_at w t)) (answers (Val (value_of_end (result_at w t))))
row w c (Say bytes) = untested None (answers Done)

-- what a context is served by that holds all that counts as held
abbrev pub served_by : World → Context → Ask → Served
served_by w c a = judged (row w c a)

-- a context, holding the public capabilities beside its own
abbrev pub publicly : Caps → Context → Context
publicly k c = record c { caps = joined c.caps k }

-- what an ask is served by: in every test the public capabilities count as held
abbrev pub serve : World → Context → Ask → Served
serve w c a = served_by w (publicly w.public c) a
