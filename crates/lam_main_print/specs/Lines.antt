-- How a text goes to the sink in parts.
use Rattle.std.specs.Prelude.{◌≡◌, List, [], ◌∷◌, ◌++◌, Option, Result, Ok, Err, map}
use Rattle.std.specs.Borrow.{Bor}
use Rattle.lam_io.specs.Outside.{Took, TookFront}
use Rattle.lam_io.specs.declared.SinkFault.{SinkFault as Failure}
use Rattle.lam_main_words.specs.Words.{Text}
use Rattle.lam_main_plan.specs.declared.Status.{Status}
use Rattle.lam_main_plan.specs.declared.Status.TheVariants.{SinkFault}
use Rattle.lam_main_plan.specs.Refusals.{Plan}

-- the texts of parts, and all of them as one
abbrev pub texts : List (Bor Text) → List Text
texts parts = map (λ (part : Bor Text). part.now) parts

abbrev pub joined : List Text → Text
joined [] = []
joined (part ∷ parts) = part ++ joined parts

-- all of a text went out, or a front of it until the sink failed
abbrev pub Goes : {X : Type 0} → Result X Failure → Text → Option Text → Option Text → Type 0
Goes (Ok x) text old new = Took old new text
Goes (Err failure) text old new = TookFront old new text

-- and the call is to end with a plan's status, where it went out
abbrev pub Prints : Result Status Failure → Plan → Option Text → Option Text → Type 0
Prints (Ok status) plan old new = (status ≡ plan.status) × Took old new plan.text
Prints (Err failure) plan old new = TookFront old new plan.text

-- the status of what was printed, or that of a fault of the sink
abbrev pub ended : Result Status Failure → Status
ended (Ok status) = status
ended (Err failure) = SinkFault
