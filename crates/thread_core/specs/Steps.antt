-- How a context stands by a step that was made ready, and what the step leaves of it.
use Rattle.std.specs.Prelude.{◌+◌, ◌<◌, ◌^◌}
use Rattle.lam_bytecode.specs.Codes.{CodeTree}
use Rattle.thread_steps.specs.Threads.{Context}
use Rattle.thread_core_effects.specs.declared.acted.OpEffect.TheVariants as op_effect
use Rattle.thread_core.specs.declared.next_turn.Coming.TheVariants.{Sees}
use Rattle.thread_steps.specs.Next as next
use Rattle.thread_steps.specs.Next.{stands}
use Rattle.thread_core.specs.declared.step.Change.{Change}
use Rattle.thread_core.specs.declared.step.Change.TheVariants as change
use Rattle.thread_core.specs.declared.step.Step.{Step}
use Rattle.thread_core.specs.declared.step.Step.TheVariants as step
use Rattle.thread_core.specs.Coming.{next_from}
use Rattle.thread_core.specs.Turning.{standing_of, moved}
use Rattle.thread_core.specs.Moves.{dropped, put, jumped, called_with, failed}

abbrev pub changed : CodeTree → Context → Change → Context
changed code c (change.Drops takes) = dropped c takes
changed code c (change.Puts takes v) = put c takes v
changed code c (change.Jumps to takes) = jumped c to takes
changed code c (change.Calls unit count) = called_with code c unit count
changed code c (change.Fails f) = failed c f

abbrev pub stands_by : CodeTree → Context → Step → next.Standing
stands_by code c (step.Changes d) = next.is_private
stands_by code c (step.Sets local) = stands (next_from code c (Sees (op_effect.Sets local)))
stands_by code c step.Returns = stands (next_from code c (Sees op_effect.Returns))
stands_by code c (step.Keeps s) = standing_of s

abbrev pub moved_by : CodeTree → Context → Step → Context
moved_by code c (step.Changes d) = changed code c d
moved_by code c (step.Sets local) = moved c (next_from code c (Sees (op_effect.Sets local)))
moved_by code c step.Returns = moved c (next_from code c (Sees op_effect.Returns))
moved_by code c (step.Keeps s) = c

-- a change and a store go on at the next address
abbrev pub HasNext : Context → Step → Type 0
HasNext c (step.Changes d) = c.inside.frame.at + 1 < 2 ^ 64
HasNext c (step.Sets local) = c.inside.frame.at + 1 < 2 ^ 64
HasNext c s = Unit {0}
