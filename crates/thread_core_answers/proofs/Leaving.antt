-- What stands of a call when its ask was answered.
use Rattle.std.proofs.Common.{◌≡◌, ℕ, ◌+◌, Bool, Option, None, sym, ap, ◌∙◌}
use Rattle.lam_asks.specs.declared.fault.Fault.{Fault}
use Rattle.lam_asks.specs.declared.ask.Ask.{Ask}
use Rattle.thread_steps.specs.Threads.{Inside}
use Rattle.thread_steps.specs.Next.{asks, past, frame_at}
use Rattle.thread_core_effects.specs.Acting.{left_over}

-- past an operation that asks, where no fault was raised
pub wanted_left : (i j : Inside) (k a : Ask) (takes : ℕ) (b : Bool) → i.fault ≡ None
    → asks k (past i (left_over takes b i.frame.stack)) ≡ asks a j
    → j ≡ record { frame = frame_at i.frame (i.frame.at + 1) i.frame.locals (left_over takes b i.frame.stack); callers = i.callers; fault = i.fault }
wanted_left i j k a takes b n e =
    let p : past i (left_over takes b i.frame.stack) ≡ j = cc in
    sym p ∙ ap (λ (f : Option Fault). record { frame = frame_at i.frame (i.frame.at + 1) i.frame.locals (left_over takes b i.frame.stack); callers = i.callers; fault = f }) (sym n)
