-- Where a closed run stands between two turns, and how many turns may come in a row.
use Rattle.std.specs.Prelude.{◌≡◌, ◌+◌, ◌<◌, ◌≤◌, ℕ, Bool, true, false}
use Rattle.closed_terms.specs.declared.Slot.{Slot}
use Rattle.closed_terms.specs.Schedule.{quantum}
use Rattle.closed_terms.specs.Ends.{most_turns}
use Rattle.closed_run.specs.declared.places.Place.{Place}

-- so many turns of the slot's thread later, which count where they are open
abbrev pub slot_with : Bool → Slot → ℕ → Slot
slot_with true s i = record { thread = s.thread; used = s.used + i }
slot_with false s i = s

abbrev pub count_with : Bool → ℕ → ℕ → ℕ
count_with true k i = k + i
count_with false k i = k

abbrev pub with_turns : Bool → Place → ℕ → Place
with_turns o p i = record { slot = slot_with o p.slot i; open_turns = count_with o p.open_turns i }

-- a place within the limits, after so many turns
pub record Fits (n j : ℕ) (p : Place) : Type 0 where
  pub slot : p.slot.used ≤ quantum
  pub budget : p.open_turns ≤ n
  pub turns : j ≤ most_turns

-- so many turns more of the slot's thread leave it the slot, and the run does not end before the last of them
pub record HasRoom (open_label : Bool) (p : Place) (n j i : ℕ) : Type 0 where
  pub turns : j + i ≤ most_turns
  pub some : 0 < i → p.open_turns < n
  pub slot : open_label ≡ true → p.slot.used + i ≤ quantum
  pub budget : open_label ≡ true → p.open_turns + i ≤ n
