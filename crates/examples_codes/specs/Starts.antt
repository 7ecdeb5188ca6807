-- How a thread of a start stands.
use Rattle.std.specs.Prelude.{◌≡◌, []}
use Rattle.capabilities.specs.declared.Caps.{Caps}
use Rattle.lam_bytecode.specs.Codes.{CodeTree}
use Rattle.thread_steps.specs.Threads.{Thread}
use Rattle.thread_steps.specs.Next.{started}

-- at the first function, without arguments
pub record IsFirst (code : CodeTree) (th : Thread) : Type 0 where
  pub caps : Caps
  pub it : th ≡ started code 0 [] caps
