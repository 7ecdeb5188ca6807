-- Faults by number.
use Rattle.std.specs.Prelude.{ℤ, negsuc}
use Rattle.lam_asks.specs.declared.fault.Fault.{Fault}
use Rattle.lam_asks.specs.declared.fault.Fault.TheVariants.{Denied, Null, Index, Zero, Overflow, Deep, Long, Form, HomeFull, Exists, NoEntry, DirFull, BadName, Child, Thrown}

-- the number that a catch block gets; `negsuc n` is the number below 0 by n + 1
abbrev pub fault_number : Fault → ℤ
fault_number Denied = negsuc 0
fault_number Null = negsuc 1
fault_number Index = negsuc 2
fault_number Zero = negsuc 3
fault_number Overflow = negsuc 4
fault_number Deep = negsuc 5
fault_number Long = negsuc 6
fault_number Form = negsuc 7
fault_number HomeFull = negsuc 8
fault_number Exists = negsuc 9
fault_number NoEntry = negsuc 10
fault_number DirFull = negsuc 11
fault_number BadName = negsuc 12
fault_number Child = negsuc 13
fault_number (Thrown n) = n
