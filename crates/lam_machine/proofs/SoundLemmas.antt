-- What a step finds where runs of the code are sound.
use Rattle.std.proofs.Common.{◌≡◌, ℕ, Some, ap, ◌∙◌}
use Rattle.lam_bytecode.specs.Codes.{CodeTree}
use Rattle.thread_steps.specs.Threads.{Thread}
use Rattle.lam_machine_terms.specs.Worlds.{World, thread_at, contexts_in}
use Rattle.guarded_code_runs.specs.Worlds.{IsSound}
use Rattle.guarded_code_runs.proofs.Sound.{sound_finds}
use Rattle.thread_core_answers.specs.Untested.{ThreadFinds}
use Rattle.lam_machine.specs.Machine.{CopiesLive}
use Rattle.lam_machine.proofs.CopyLemmas.{copies_live}

-- what a turn copies lives
pub sound_lives : (code : CodeTree) (w : World) (t : ℕ) → IsSound code w → CopiesLive code w t
sound_lives code w t h = copies_live code h.code w t h.valid

-- an access at which a thread stands finds a reference that its rule allows
pub sound_thread : (code : CodeTree) (w : World) (t : ℕ) → IsSound code w → (th : Thread) → thread_at w t ≡ Some th → ThreadFinds code th
sound_thread code w t h th at c rest list op stands = sound_finds code w h t c rest op (ap contexts_in at ∙ list) stands
