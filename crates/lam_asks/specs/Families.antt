-- What an ask is about.
use Rattle.lam_asks.specs.declared.ask.Ask.{Ask}
use Rattle.lam_asks.specs.declared.ask.Ask.TheVariants.{Read, Write, New, CopyTo, Enter, MonEnter, MonLeave, MakeFile, MakeDir, OpenFile, OpenDir, Remove, FileRead, FileLength, Append, Cut, MakePipe, Send, SendCaps, Receive, ReceiveCaps, Spawn, Say, End}
use Rattle.lam_asks.specs.declared.family.Family.{Family}
use Rattle.lam_asks.specs.declared.family.Family.TheVariants as family

abbrev pub family_of : Ask → Family
family_of (Read r at) = family.Thing
family_of (Write r at v) = family.Thing
family_of (New shape) = family.Thing
family_of (CopyTo r own) = family.Thing
family_of (MonEnter r) = family.Thing
family_of (MonLeave r) = family.Thing
family_of (MakeFile dir entry own) = family.Entry
family_of (MakeDir dir entry own) = family.Entry
family_of (OpenFile dir entry) = family.Entry
family_of (OpenDir dir entry) = family.Entry
family_of (Remove dir entry) = family.Entry
family_of (FileRead file at n) = family.File
family_of (FileLength file) = family.File
family_of (Append file bytes) = family.File
family_of (Cut file len) = family.File
family_of (MakePipe own) = family.Pipe
family_of (Send pipe bytes) = family.Pipe
family_of (SendCaps pipe caps) = family.Pipe
family_of (Receive pipe) = family.Pipe
family_of (ReceiveCaps pipe) = family.Pipe
family_of (Enter label caps region args) = family.Thread
family_of (Spawn unit args caps) = family.Thread
family_of (Say bytes) = family.Thread
family_of (End result) = family.Thread
family_of a = family.Plain
