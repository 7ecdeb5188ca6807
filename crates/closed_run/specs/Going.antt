-- How a closed run goes on from where it stands: whether it does, private turns in a row, and one turn.
use Rattle.std.specs.Prelude.{◌≡◌, ℕ, not, List, [], ◌∷◌, ◌++◌, length, replicate, Some, None}
use Rattle.flow_labels.specs.declared.Label.{Label}
use Rattle.flow_labels.specs.Flow.{flows}
use Rattle.lam_asks.specs.declared.answer.Event.{Event}
use Rattle.lam_bytecode.specs.Codes.{CodeTree}
use Rattle.lam_machine_terms.specs.Worlds.{World}
use Rattle.lam_machine_terms.specs.Turns.{Moment}
use Rattle.lam_machine.specs.Privately.{ArePrivateSteps}
use Rattle.lam_machine.specs.Turned.{IsTurn}
use Rattle.lam_machine_replay.specs.Keeping.{KeepsOneMore}
use Rattle.closed_terms.specs.Schedule.{is_inside, next_slot}
use Rattle.closed_terms.specs.Ends.{end_at}
use Rattle.closed_run.specs.declared.places.Place.{Place}
use Rattle.closed_run.specs.declared.turns.Coming.{Coming}
use Rattle.closed_run.specs.declared.turns.Coming.TheVariants.{Next, Ends}
use Rattle.closed_run.specs.Places.{HasRoom, with_turns}

-- it does not end here, and this is the next slot; or it ends here so
abbrev pub Comes : Label → CodeTree → ℕ → World → Place → ℕ → Coming → Type 0
Comes b code n w p j (Next s) = (end_at b code n w p.slot p.open_turns j ≡ None) × (next_slot b code w p.slot ≡ Some s)
Comes b code n w p j (Ends e) = end_at b code n w p.slot p.open_turns j ≡ Some e

-- some private turns of the slot's thread, as many as there is room for at most
pub record TakesRow (b : Label) (code : CodeTree) (n : ℕ) (p q : Place) (ts us : List ℕ) (w after : World) : Type 0 where
  pub count : ℕ
  pub steps : ArePrivateSteps code p.slot.thread count w after
  pub room : HasRoom (not (is_inside b w p.slot.thread)) p n (length ts) count
  pub turns : us ≡ ts ++ replicate count p.slot.thread
  pub place : q ≡ with_turns (not (is_inside b w p.slot.thread)) p count

-- a turn of the slot's thread, of which is kept what there is
pub record TakesOne {X : Type 0} (b : Label) (code : CodeTree) (AreKept : List Moment → X → Type 0) (p q : Place) (ts us : List ℕ) (w after : World) (before kept : X) : Type 0 where
  pub event : Event
  pub turn : IsTurn code p.slot.thread w event after
  pub keeps : KeepsOneMore AreKept (length ts) (record { event = event; made = turn.made; world = after }) before kept
  pub turns : us ≡ ts ++ p.slot.thread ∷ []
  pub place : q ≡ with_turns (flows event.label b) p 1
