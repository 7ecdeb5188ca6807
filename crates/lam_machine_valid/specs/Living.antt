-- What stands in the inside of a context, in an ask and in what comes next lives.
use Rattle.std.specs.Prelude.{◌≡◌, ℕ, List, ◌∷◌, Some}
use Rattle.std.specs.List.{AllByRecursion}
use Rattle.lam_value.specs.declared.values.Value.{Value}
use Rattle.lam_value.specs.declared.values.Value.TheVariants.{File, Dir, Pipe, Thread}
use Rattle.lam_value.specs.Shapes.{slots_of}
use Rattle.lam_asks.specs.declared.ask.Ask.{Ask}
use Rattle.lam_asks.specs.declared.ask.Ask.TheVariants.{Read, Write, New, CopyTo, Enter, MonEnter, MonLeave, MakeFile, MakeDir, OpenFile, OpenDir, Remove, FileRead, FileLength, Append, Cut, MakePipe, Send, SendCaps, Receive, ReceiveCaps, Spawn, Join, End}
use Rattle.lam_bytecode.specs.Codes.{CodeTree, IsCode}
use Rattle.thread_steps.specs.Threads.{Inside, Context}
use Rattle.thread_steps.specs.Threads as threads
use Rattle.thread_steps.specs.Next.{Next, goes, asks, stuck, next_of}
use Rattle.lam_machine_laws.specs.Worlds.{World, thread_at}
use Rattle.lam_machine_laws.specs.Turns.{Moment, step}
use Rattle.lam_machine_laws.specs.Valid.{IsKnown, AreKnown, Lives, AllLive, OutcomeLives, FrameLives, AreSoundStores, IsValid}

pub record InsideLives (w : World) (i : Inside) : Type 0 where
  pub frame : FrameLives w i.frame
  pub callers : AllByRecursion (FrameLives w) i.callers

-- what stands in an ask
abbrev pub AskLives : World → Ask → Type 0
AskLives w (Read r at) = Lives w r
AskLives w (Write r at v) = Lives w r × Lives w v
AskLives w (New shape) = AllLive w (slots_of shape)
AskLives w (CopyTo r l) = Lives w r × IsKnown w l
AskLives w (Enter l caps region args) = IsKnown w l × (AreKnown w caps × AllLive w args)
AskLives w (End outcome) = OutcomeLives w (Some outcome)
AskLives w (MonEnter r) = Lives w r
AskLives w (MonLeave r) = Lives w r
AskLives w (MakeFile d text l) = Lives w (Dir d) × IsKnown w l
AskLives w (MakeDir d text l) = Lives w (Dir d) × IsKnown w l
AskLives w (OpenFile d text) = Lives w (Dir d)
AskLives w (OpenDir d text) = Lives w (Dir d)
AskLives w (Remove d text) = Lives w (Dir d)
AskLives w (FileRead f at n) = Lives w (File f)
AskLives w (FileLength f) = Lives w (File f)
AskLives w (Append f bytes) = Lives w (File f)
AskLives w (Cut f len) = Lives w (File f)
AskLives w (MakePipe l) = IsKnown w l
AskLives w (Send p bytes) = Lives w (Pipe p)
AskLives w (SendCaps p caps) = Lives w (Pipe p) × AreKnown w caps
AskLives w (Receive p) = Lives w (Pipe p)
AskLives w (ReceiveCaps p) = Lives w (Pipe p)
AskLives w (Spawn unit args caps) = AllLive w args × AreKnown w caps
AskLives w (Join t) = Lives w (Thread t)
AskLives w a = Unit {0}

abbrev pub NextLives : World → Next → Type 0
NextLives w (goes i) = InsideLives w i
NextLives w (asks a i) = AskLives w a × InsideLives w i
NextLives w stuck = Unit {0}

-- what the acting context of a thread does next names only what lives
abbrev pub NamesWhatLives : CodeTree → Type 0
NamesWhatLives code = IsCode code → (w : World) (t : ℕ) (th : threads.Thread) (c : Context) (rest : List Context) → IsValid w → thread_at w t ≡ Some th → th.contexts ≡ c ∷ rest → NextLives w (next_of code c)

-- what lives before a turn lives after it
abbrev pub LivingGoOn : CodeTree → Type 0
LivingGoOn code = (w : World) (t : ℕ) (m : Moment) → AreSoundStores w → step code w t ≡ Some m → (v : Value) → Lives w v → Lives m.world v
