use Rattle.std.proofs.Common.{◌≡◌, ℕ, ◌+◌, ◌++◌}
use Rattle.std.specs.Prelude.{drop}
use Rattle.seat_host.specs.Places.{spread}
use Rattle.seat_host.proofs.book.places_in.Given as goal

abbrev pub invariant-loop-k : goal.invariant-loop-k
invariant-loop-k l =
    (rest : ℕ) × (l.k + rest ≡ l.count) × (l.places.items ++ spread l.k rest (drop l.next l.held) (drop l.next l.turns) ≡ spread 0 l.count l.held l.turns)
