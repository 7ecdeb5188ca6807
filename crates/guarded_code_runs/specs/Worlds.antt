-- Worlds whose threads agree with the descriptions of their code, those from which runs start, and those from which
-- they are sound.
use Rattle.std.specs.Prelude.{◌≡◌, ℕ, List, Some}
use Rattle.capabilities.specs.declared.Caps.{Caps}
use Rattle.lam_value.specs.declared.values.Value.{Value}
use Rattle.lam_bytecode.specs.Codes.{CodeTree, IsCode}
use Rattle.thread_steps.specs.Threads.{Thread}
use Rattle.thread_steps.specs.Next.{started}
use Rattle.lam_machine_valid.specs.Worlds.{World, thread_at}
use Rattle.lam_machine_valid.specs.Valid.{IsValid}
use Rattle.guarded_code_threads.specs.Breaks.{IsGuarded}
use Rattle.guarded_code_threads.specs.Described.{IsDescribed}
use Rattle.guarded_code_threads.specs.Laws.{TakesAll}

-- each thread is described
abbrev pub AreDescribed : CodeTree → World → Type 0
AreDescribed code w = (t : ℕ) (th : Thread) → thread_at w t ≡ Some th → IsDescribed code th

-- a thread at the entry of a function, with all its arguments
pub record IsAtEntry (code : CodeTree) (th : Thread) : Type 0 where
  pub unit : ℕ
  pub args : List Value
  pub caps : Caps
  pub it : th ≡ started code unit args caps
  pub takes : TakesAll code unit args

-- each thread is at an entry
abbrev pub AreAtEntries : CodeTree → World → Type 0
AreAtEntries code w = (t : ℕ) (th : Thread) → thread_at w t ≡ Some th → IsAtEntry code th

-- a world from which runs of a code are sound: the code is guarded, the world valid, and its threads agree with the
-- descriptions of the code
pub record IsSound (tree : CodeTree) (w : World) : Type 0 where
  pub code : IsCode tree
  -- each access finds its reference tested by its rule
  pub guarded : IsGuarded tree
  -- what is named lives, and threads and monitors fit together
  pub valid : IsValid w
  -- where a thread stands, what it holds is as described
  pub described : AreDescribed tree w
