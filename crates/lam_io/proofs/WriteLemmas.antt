-- How a text is written, call by call.
use Rattle.std.proofs.Common.{◌≡◌, ℕ, ◌+◌, ◌-◌, ◌<◌, ◌≤◌, List, [], length, take, drop, Result, Ok, Err, arith, length-drop}
use Rattle.std.proofs.lemmas.List.{take_all, drop_all, drop-drop}
use Rattle.lam_io.specs.declared.SinkFault.{SinkFault}
use Rattle.lam_io.specs.Outside.{Writes}
use Rattle.lam_io.specs.Outside.Writes.{nothing_left, fails, takes}

-- to write a text is to write this rest of it, from this state on
abbrev pub GoesOn : {S : Type 0} → (S → List ℕ → Result ℕ SinkFault → S → Type 0) → S → List ℕ → S → List ℕ → Type 0
GoesOn {S} gives start text out rest = (answer : Result (Unit {0}) SinkFault) (after : S) → Writes gives out rest answer after → Writes gives start text answer after

-- a piece that is the whole rest
whole : (text : List ℕ) (done : ℕ) → take (length text - done) (drop done text) ≡ drop done text
whole text done = take_all _ _ (omega (arith, length-drop done text))

-- a call took some of the rest
pub goes_on : {S : Type 0} (gives : S → List ℕ → Result ℕ SinkFault → S → Type 0) (start out between : S) (text : List ℕ) (done count : ℕ) → done < length text → GoesOn gives start text out (drop done text) → gives out (take (length text - done) (drop done text)) (Ok count) between → GoesOn gives start text between (drop (done + count) text)
goes_on gives start out between text done count less so_far given answer after rest =
    let same : drop count (drop done text) ≡ drop (done + count) text = drop-drop count done text in
    so_far answer after (takes (omega (arith, length-drop done text)) (let all = whole text done in rw all at given) (rw same rest))

-- a call failed
pub stops : {S : Type 0} (gives : S → List ℕ → Result ℕ SinkFault → S → Type 0) (start out after : S) (text : List ℕ) (done : ℕ) (fault : SinkFault) → done < length text → GoesOn gives start text out (drop done text) → gives out (take (length text - done) (drop done text)) (Err fault) after → Writes gives start text (Err fault) after
stops gives start out after text done fault less so_far given = so_far (Err fault) after (fails (omega (arith, length-drop done text)) (let all = whole text done in rw all at given))

-- nothing is left
pub ends : {S : Type 0} (gives : S → List ℕ → Result ℕ SinkFault → S → Type 0) (start out : S) (text : List ℕ) (done : ℕ) → length text ≤ done → GoesOn gives start text out (drop done text) → Writes gives start text (Ok tt) out
ends gives start out text done all so_far = so_far (Ok tt) out (let none : drop done text ≡ [] = drop_all done text all in rw none nothing_left)
