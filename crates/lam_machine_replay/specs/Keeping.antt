-- What a pass over the turns of a run keeps of them. `AreKept` says of moments, from the start of a run on, what is kept
-- of them.
use Rattle.std.specs.Prelude.{◌≡◌, ℕ, ◌+◌, ◌<◌, ◌≤◌, List, [], ◌∷◌, ◌++◌, length, get_or}
use Rattle.std.specs.List.{AllByRecursion}
use Rattle.flow_labels.specs.declared.Label.{Label}
use Rattle.lam_asks.specs.declared.answer.What.TheVariants.{Private}
use Rattle.lam_asks.specs.declared.answer.Event.{Event}
use Rattle.lam_bytecode.specs.Codes.{CodeTree}
use Rattle.lam_machine_terms.specs.Worlds.{World}
use Rattle.lam_machine_terms.specs.Turns.{Moment, moments, replay, IsRun}
use Rattle.lam_machine.specs.Turned.{IsTurn}
use Rattle.lam_machine.specs.Worlds.{IsSound}
use Rattle.lam_machine_replay.specs.Told.{product_label, IsToldBy}

-- this is kept of so many moments
abbrev pub KeptOfSoMany : {X : Type 0} → (List Moment → X → Type 0) → ℕ → X → Type 0
KeptOfSoMany AreKept n kept = (ms : List Moment) × (length ms ≡ n) × AreKept ms kept

-- what was kept of so many moments, and what is kept of them and of one more
abbrev pub KeepsOneMore : {X : Type 0} → (List Moment → X → Type 0) → ℕ → Moment → X → X → Type 0
KeepsOneMore AreKept n m before kept = (ms : List Moment) → length ms ≡ n → AreKept ms before → AreKept (ms ++ m ∷ []) kept

-- and of one more, of which this event and the world after it tell
abbrev pub KeepsEvent : {X : Type 0} → (List Moment → X → Type 0) → ℕ → Event → World → X → X → Type 0
KeepsEvent AreKept n e after before kept = (m : Moment) → m.event ≡ e → m.world ≡ after → IsToldBy m (product_label m.event.what) → KeepsOneMore AreKept n m before kept

-- and of a turn of a thread that has this event and leaves this world
abbrev pub KeepsTurn : {X : Type 0} → (List Moment → X → Type 0) → ℕ → Event → World → X → X → Type 0
KeepsTurn AreKept n e after before kept = (code : CodeTree) (t : ℕ) (w : World) (turn : IsTurn code t w e after) → KeepsOneMore AreKept n (record { event = e; made = turn.made; world = after }) before kept

-- of private moments nothing is kept
abbrev pub LeavesPrivate : {X : Type 0} → (List Moment → X → Type 0) → Type 0
LeavesPrivate {X} AreKept = (ms : List Moment) (m : Moment) (kept : X) → m.event.what ≡ Private → IsToldBy m (product_label m.event.what) → AreKept ms kept → AreKept (ms ++ m ∷ []) kept

-- ---- many turns of one thread

-- a private moment of a thread that acts at a label
pub record IsPrivateAt (t : ℕ) (l : Label) (m : Moment) : Type 0 where
  pub thread : m.event.thread ≡ t
  pub label : m.event.label ≡ l
  pub what : m.event.what ≡ Private
  pub told : IsToldBy m (product_label m.event.what)

-- what was kept of some moments, and what is kept of them and of so many private ones of a thread in a row
abbrev pub KeepsPrivate : {X : Type 0} → (List Moment → X → Type 0) → ℕ → Label → ℕ → X → X → Type 0
KeepsPrivate AreKept t l many before kept = (ms row : List Moment) → length row ≡ many → AllByRecursion (IsPrivateAt t l) row → AreKept ms before → AreKept (ms ++ row) kept

-- from a place on, so many turns are of one thread
pub record IsRow (turns : List ℕ) (place many t : ℕ) : Type 0 where
  pub within : place + many ≤ length turns
  pub each : (i : ℕ) → i < many → get_or turns (place + i) 0 ≡ t

-- these turns are a run, which leaves this world; and what was kept of so many moments, and what is kept of them and of those
-- of the turns
pub record Takes {X : Type 0} (AreKept : List Moment → X → Type 0) (code : CodeTree) (n : ℕ) (turns : List ℕ) (w : World) (before : X) (after : World) (kept : X) : Type 0 where
  pub run : IsRun code turns w
  pub left : replay code turns w ≡ after
  pub sound : IsSound code w → IsSound code after
  pub keeps : (ms : List Moment) → length ms ≡ n → AreKept ms before → AreKept (ms ++ moments code turns w) kept
