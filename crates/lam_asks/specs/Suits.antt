-- Which answers an ask may get.
use Rattle.std.specs.Prelude.{Bool, true, false, ◌||◌, List, [], ◌∷◌}
use Rattle.lam_value.specs.declared.values.Value.{Value}
use Rattle.lam_value.specs.declared.values.Value.TheVariants.{Int, Bool as Truth, Bytes, Nothing, Obj, Arr, File, Dir, Pipe, Thread, Tag, Lab, CapV}
use Rattle.lam_value.specs.declared.shapes.Shape.{Shape}
use Rattle.lam_value.specs.declared.shapes.Shape.TheVariants.{Class, Array}
use Rattle.lam_asks.specs.declared.fault.Fault.{Fault}
use Rattle.lam_asks.specs.declared.fault.Fault.TheVariants.{HomeFull, Deep, BadName, Exists, DirFull, NoEntry, Child}
use Rattle.lam_asks.specs.declared.answer.Answer.{Answer}
use Rattle.lam_asks.specs.declared.answer.Answer.TheVariants.{Done, Entered, Val, Refused, Failed}
use Rattle.lam_asks.specs.declared.ask.Ask.{Ask}
use Rattle.lam_asks.specs.declared.ask.Ask.TheVariants.{Read, Write, New, CopyTo, Mint, Enter, Leave, Barred, Caught, Suppressed, MonEnter, MonLeave, MakeFile, MakeDir, OpenFile, OpenDir, Remove, FileRead, FileLength, Append, Cut, MakePipe, Send, SendCaps, Receive, ReceiveCaps, Spawn, Join, Say, End}

-- the sorts of values
pub data Sort : Type 0 where
  numbers truths byte_texts tags labels capabilities files directories pipes threads objects arrays : Sort

-- whether a value is of a sort: a number and a truth value are never null, and each other sort has null
abbrev pub is_of : Sort → Value → Bool
is_of numbers (Int n) = true
is_of truths (Truth b) = true
is_of byte_texts (Bytes bytes) = true
is_of byte_texts Nothing = true
is_of tags (Tag t) = true
is_of tags Nothing = true
is_of labels (Lab l) = true
is_of labels Nothing = true
is_of capabilities (CapV plus minus) = true
is_of capabilities Nothing = true
is_of files (File n) = true
is_of files Nothing = true
is_of directories (Dir n) = true
is_of directories Nothing = true
is_of pipes (Pipe n) = true
is_of pipes Nothing = true
is_of threads (Thread t) = true
is_of threads Nothing = true
is_of objects (Obj n) = true
is_of objects Nothing = true
is_of arrays (Arr n len) = true
is_of arrays Nothing = true
is_of _ _ = false

-- what is answered where nothing forbids and nothing fails: that it is done, that a region was entered, or a value
pub data Given : Type 0 where
  is_done : Given
  is_entered : Given
  is_value : (sort : Sort) → Given

-- what may be answered at a place
pub record Want : Type 0 where
  pub gives : Given
  -- whether a rule may forbid it
  pub refusable : Bool
  -- the faults that it may fail with
  pub faults : List Fault

-- never refused and never failing
abbrev pub always : Given → Want
always g = record { gives = g; refusable = false; faults = [] }

-- under a rule of the reference monitor
abbrev pub ruled : Given → List Fault → Want
ruled g fs = record { gives = g; refusable = true; faults = fs }

abbrev pub made_as : Shape → Sort
made_as (Class class fields) = objects
made_as (Array kind len) = arrays

-- the sort of a reference: what a copy of it is
abbrev pub copied_as : Value → Sort
copied_as (Arr n len) = arrays
copied_as v = objects

-- what may be answered to an ask, where its place wants a value of a sort. Only a read hangs on the place
abbrev pub want_of : Sort → Ask → Want
want_of s (Read r at) = always (is_value s)
want_of s (Write r at v) = always is_done
want_of s (New shape) = record { gives = is_value (made_as shape); refusable = false; faults = HomeFull ∷ [] }
want_of s (CopyTo r own) = ruled (is_value (copied_as r)) (HomeFull ∷ [])
want_of s Mint = ruled (is_value tags) (HomeFull ∷ [])
want_of s (Enter label caps region args) = ruled is_entered (Deep ∷ [])
want_of s Leave = always is_done
want_of s (Barred denied) = always is_done
want_of s (Caught fault) = always is_done
want_of s (Suppressed fault) = always is_done
want_of s (MonEnter r) = ruled is_done (Deep ∷ [])
want_of s (MonLeave r) = always is_done
want_of s (MakeFile dir entry own) = ruled (is_value files) (BadName ∷ Exists ∷ DirFull ∷ HomeFull ∷ [])
want_of s (MakeDir dir entry own) = ruled (is_value directories) (BadName ∷ Exists ∷ DirFull ∷ HomeFull ∷ [])
want_of s (OpenFile dir entry) = ruled (is_value files) (NoEntry ∷ [])
want_of s (OpenDir dir entry) = ruled (is_value directories) (NoEntry ∷ [])
want_of s (Remove dir entry) = ruled is_done (NoEntry ∷ [])
want_of s (FileRead file at n) = ruled (is_value byte_texts) []
want_of s (FileLength file) = ruled (is_value numbers) []
want_of s (Append file bytes) = ruled is_done []
want_of s (Cut file len) = ruled is_done []
want_of s (MakePipe own) = ruled (is_value pipes) (HomeFull ∷ [])
want_of s (Send pipe bytes) = ruled is_done []
want_of s (SendCaps pipe caps) = ruled is_done []
want_of s (Receive pipe) = ruled (is_value byte_texts) []
want_of s (ReceiveCaps pipe) = ruled (is_value capabilities) []
want_of s (Spawn unit args caps) = ruled (is_value threads) (HomeFull ∷ [])
want_of s (Join thread) = ruled (is_value numbers) (Child ∷ [])
want_of s (Say bytes) = always is_done
want_of s (End outcome) = always is_done

-- the same fault, of those that an ask may fail with
abbrev pub same_fault : Fault → Fault → Bool
same_fault HomeFull HomeFull = true
same_fault Deep Deep = true
same_fault BadName BadName = true
same_fault Exists Exists = true
same_fault DirFull DirFull = true
same_fault NoEntry NoEntry = true
same_fault Child Child = true
same_fault _ _ = false

abbrev pub is_among : Fault → List Fault → Bool
is_among f [] = false
is_among f (g ∷ fs) = same_fault f g || is_among f fs

-- whether an answer is one that may be given
abbrev pub gives : Given → Answer → Bool
gives is_done Done = true
gives is_entered Entered = true
gives (is_value s) (Val v) = is_of s v
gives _ _ = false

abbrev pub fits : Want → Answer → Bool
fits w (Refused denied) = w.refusable
fits w (Failed fault) = is_among fault w.faults
fits w answer = gives w.gives answer

-- whether an answer suits an ask whose place wants a value of a sort
abbrev pub suits : Sort → Ask → Answer → Bool
suits s ask answer = fits (want_of s ask) answer
