-- The part of a run that moves: its turns, and the world that they leave.
use Rattle.std.specs.Prelude.{ℕ, Bool, true, List, [], ◌∷◌, ◌++◌, Option, Some, None, refl}
use Rattle.std.specs.Coded.{Coded, code_by, coded×, coded_ℕ, coded_list}
use Rattle.lam_asks.specs.declared.answer.Event.{Event}
use Rattle.lam_bytecode.specs.Codes.{CodeTree}
use Rattle.lam_machine_terms.specs.Worlds.{World}
use Rattle.lam_machine_equal.specs.Coding.{coded_world}
use Rattle.lam_machine_laws.specs.Turned.{IsTurn}
use Rattle.lam_machine.specs.Privately.{private_event}
use Rattle.thread_host_run.specs.Quiet.{is_quiet}
use Rattle.thread_host_run.specs.Runs.{Ran, IsWhole}

-- how far a run has come
pub record Progress : Type 0 where
  pub turns : List ℕ
  pub world : World

-- the run of a code from a start that has come so far
abbrev pub ran_to : CodeTree → World → Progress → Ran
ran_to code start p = record { code = code; start = start; turns = p.turns; world = p.world }

-- how far a run has come, without its code and start
abbrev pub progress_of : Ran → Progress
progress_of r = record { turns = r.turns; world = r.world }

-- it is a run
abbrev pub IsCourse : CodeTree → World → Progress → Type 0
IsCourse code start p = IsWhole (ran_to code start p)

-- one turn more, of a thread, which leaves a world
abbrev pub one_more : Progress → ℕ → World → Progress
one_more p t w = record { turns = p.turns ++ t ∷ []; world = w }

-- a turn of a thread leaves this world; no event was made of it where it is private
abbrev pub TookTurn : CodeTree → ℕ → World → Option Event → World → Type 0
TookTurn code t w None after = IsTurn code t w (private_event w t) after
TookTurn code t w (Some e) after = IsTurn code t w e after

abbrev pub was_quiet : Option Event → Bool
was_quiet None = true
was_quiet (Some e) = is_quiet e.what

-- how courses are stored, for what holds them
abbrev pub coded_progress : Coded Progress
coded_progress = code_by (List ℕ × World) (coded× (coded_list coded_ℕ) coded_world) (λ p. (p.turns, p.world)) (λ q. record { turns = q.0; world = q.1 }) (λ _. refl)
