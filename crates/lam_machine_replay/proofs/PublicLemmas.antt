-- What is public at the start of a run is public throughout it.
use Rattle.std.proofs.Common.{◌≡◌, ℕ, List, [], ◌∷◌, Option, Some, None, refl, subst}
use Rattle.std.specs.List.{AllByRecursion}
use Rattle.capabilities.specs.declared.Caps.{Caps}
use Rattle.lam_bytecode.specs.Codes.{CodeTree}
use Rattle.lam_machine_terms.specs.Worlds.{World}
use Rattle.lam_machine_terms.specs.Turns.{Moment, step, and_then, moments}
use Rattle.lam_machine_laws.specs.Laws.{PublicStay}
use Rattle.lam_machine_replay.specs.Laws.{PublicStayInRuns}

abbrev ArePublicIn : Caps → List Moment → Type 0
ArePublicIn public ms = AllByRecursion (λ (m : Moment). m.world.public ≡ public) ms

-- a turn, and those behind it, whatever world it leaves
after_turn : (code : CodeTree) → PublicStay code → (w : World) (t : ℕ) (ts : List ℕ) → ((v : World) → ArePublicIn v.public (moments code ts v)) → (x : Option Moment) → step code w t ≡ x → ArePublicIn w.public (and_then x (moments code ts))
after_turn code stay w t ts more None is = tt
after_turn code stay w t ts more (Some m) is =
    let same : m.world.public ≡ w.public = stay w t m is in
    (same, subst (λ (public : Caps). ArePublicIn public (moments code ts m.world)) same (more m.world))

pub public_in_runs : (code : CodeTree) → PublicStay code → PublicStayInRuns code
public_in_runs code stay [] w = tt
public_in_runs code stay (t ∷ ts) w = after_turn code stay w t ts (λ v. public_in_runs code stay ts v) (step code w t) refl
