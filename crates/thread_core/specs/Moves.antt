-- What the private turns of a context leave.
use Rattle.std.specs.Prelude.{ℕ, List, [], ◌∷◌, Option, Some, None, take, drop, reverse}
use Rattle.lam_value.specs.declared.values.Value.{Value}
use Rattle.lam_asks.specs.declared.fault.Fault.{Fault}
use Rattle.lam_asks.specs.declared.ask.Ask.{Ask}
use Rattle.lam_asks.specs.declared.ask.Ask.TheVariants as ask
use Rattle.lam_asks.specs.declared.answer.Outcome.TheVariants as outcome
use Rattle.lam_bytecode.specs.Codes.{CodeTree}
use Rattle.thread_steps.specs.Threads.{Frame, Phase, Bottom, Body, Catch, Context}
use Rattle.thread_steps.specs.Next.{past, called, faulted, with_inside, with_frame, frame_at}

abbrev pub dropped : Context → ℕ → Context
dropped c takes = with_inside c (past c.inside (drop takes c.inside.frame.stack))

abbrev pub put : Context → ℕ → Value → Context
put c takes v = with_inside c (past c.inside (v ∷ drop takes c.inside.frame.stack))

abbrev pub jumped : Context → ℕ → ℕ → Context
jumped c to takes = with_inside c (with_frame c.inside (frame_at c.inside.frame to c.inside.frame.locals (drop takes c.inside.frame.stack)))

abbrev pub called_with : CodeTree → Context → ℕ → ℕ → Context
called_with code c u n = with_inside c (called code c.inside u (reverse (take n c.inside.frame.stack)) (drop n c.inside.frame.stack))

-- a call that waited, with the result of the one that it waited for
abbrev pub with_result : Frame → Value → Frame
with_result f v = frame_at f f.at f.locals (v ∷ f.stack)

-- the first of the calls that wait, with a result
abbrev pub caller_with : Value → List Frame → Option Frame
caller_with v [] = None
caller_with v (f ∷ fs) = Some (with_result f v)

abbrev pub acting : Context → Frame → Context
acting c f = with_inside c (record { frame = f; callers = c.inside.callers; fault = None })

abbrev pub failed : Context → Fault → Context
failed c f = with_inside c (faulted c.inside f)

-- the ask by which a fault that was raised is handled
abbrev pub raised_ask : Phase → Fault → Ask
raised_ask Bottom f = ask.End (outcome.Failed f)
raised_ask (Body at) f = ask.Caught f
raised_ask Catch f = ask.Suppressed f
