-- A thread that stands private, as it is told where no access is tested again.
use Rattle.std.proofs.Common.{◌≡◌, inl, inr, sym}
use Rattle.lam_bytecode.specs.Codes.{CodeTree}
use Rattle.thread_steps.specs.Threads.{Thread}
use Rattle.thread_steps.specs.Next as next
use Rattle.thread_core.specs.Untested.{StandsAs}

pub private_there : (code : CodeTree) (th : Thread) → StandsAs code th next.is_private → next.standing code th ≡ next.is_private
private_there code th (inl e) = sym e
private_there code th (inr e) = let clash = e.0 in absurd cc
