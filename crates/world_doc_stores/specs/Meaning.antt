-- What a reading in code gave, beside what the definition reads: the same value, or a fault that is the same break.
-- Want of memory is no break, and says nothing.
use Rattle.std.specs.Prelude.{◌≡◌, Option, Some, None, Result, Ok, Err, MatchOption}
use Rattle.world_doc_terms.specs.Breaks.{Break, break_seen, Reading}
use Rattle.world_doc_stores.specs.declared.fault.WorldFault.{WorldFault}
use Rattle.world_doc_stores.specs.declared.fault.WorldFault.TheVariants.{Broken, NoMemory}

-- the break that a fault is
abbrev pub break_of : WorldFault → Option Break
break_of (Broken breach) = Some (break_seen breach)
break_of NoMemory = None

-- a fault is this break, or want of memory
pub record Says (f : WorldFault) (b : Break) : Type 0 where
  pub said : MatchOption (break_of f) (Unit {0}) (λ c. c ≡ b)

-- the definition reads the break that the fault is
pub record Fails {X : Type 0} (f : WorldFault) (read : Reading X) : Type 0 where
  pub breaks : MatchOption (break_of f) (Unit {0}) (λ b. read ≡ Err b)

-- a result is what the definition reads
abbrev pub Gives : {X Y : Type 0} → (X → Y) → Result X WorldFault → Reading Y → Type 0
Gives view (Ok x) read = read ≡ Ok (view x)
Gives view (Err f) read = Fails f read

-- what was changed in its place is what the definition reads
abbrev pub GivesOnto : {X Y : Type 0} → Result X WorldFault → Y → Reading Y → Type 0
GivesOnto (Ok x) new read = read ≡ Ok new
GivesOnto (Err f) new read = Fails f read
