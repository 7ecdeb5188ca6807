-- Where the rounds stop, and where an operation goes on.
use Rattle.std.specs.Prelude.{◌≡◌, ℕ, List, [], ◌∷◌}
use Rattle.guarded_code.specs.Rounds.{Found, Broke}
use Rattle.code_verify.specs.declared.rounds.RoundFault.{RoundFault}
use Rattle.code_verify.specs.declared.rounds.RoundFault.TheVariants.{Depth, NoMemory}
use Rattle.code_verify.specs.declared.targets.Next.{Next}
use Rattle.code_verify.specs.declared.targets.Next.TheVariants.{Nowhere, One, Two}

-- what a stop says of the rounds
abbrev pub Stops : {D : Type 0} → Found D → RoundFault → Type 0
Stops o (Depth at) = o ≡ Broke at
Stops o NoMemory = Unit {0}

abbrev pub next_seen : Next → List ℕ
next_seen Nowhere = []
next_seen (One a) = a ∷ []
next_seen (Two a b) = a ∷ b ∷ []
