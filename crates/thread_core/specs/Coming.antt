-- What comes next of a context, as the code sees it.
use Rattle.std.specs.Prelude.{◌≡◌, ◌+◌, ◌<◌, ◌^◌, None}
use Rattle.lam_bytecode.specs.Codes.{CodeTree}
use Rattle.thread_steps.specs.Threads.{Context}
use Rattle.thread_steps.specs.Next.{Next, stuck, raised, next_by}
use Rattle.thread_core_effects.specs.Acting.{did_of}
use Rattle.thread_core.specs.declared.next_turn.Coming.{Coming}
use Rattle.thread_core.specs.declared.next_turn.Coming.TheVariants as coming

abbrev pub next_from : CodeTree → Context → Coming → Next
next_from code c (coming.Handles f) = raised c.phase c.inside f
next_from code c (coming.Sees g) = next_by code c.phase c.inside (did_of g c.inside.frame.locals c.inside.frame.stack)
next_from code c coming.Nothing = stuck

-- an operation stands below the greatest address, where no fault was raised
abbrev pub HasPlace : Context → Coming → Type 0
HasPlace c (coming.Handles f) = Unit {0}
HasPlace c (coming.Sees g) = (c.inside.frame.at + 1 < 2 ^ 64) × (c.inside.fault ≡ None)
HasPlace c coming.Nothing = Unit {0}
