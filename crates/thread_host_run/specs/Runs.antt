-- Runs: a code, a start, the turns in order, and the world that they leave.
use Rattle.std.specs.Prelude.{◌≡◌, ℕ, Bool, List, [], ◌∷◌, ◌++◌, refl}
use Rattle.std.specs.Coded.{Coded, code_by, coded×, coded_ℕ, coded_list}
use Rattle.lam_asks.specs.declared.answer.Event.{Event}
use Rattle.lam_bytecode.specs.Codes.{CodeTree, coded_code}
use Rattle.lam_machine_terms.specs.Worlds.{World}
use Rattle.lam_machine_terms.specs.Turns.{replay, IsRun}
use Rattle.lam_machine.specs.Worlds.{IsSound}
use Rattle.turn_book.specs.Book.{AreTurns}
use Rattle.lam_machine_equal.specs.Coding.{coded_world}
use Rattle.lam_machine_laws.specs.Turned.{IsTurn}
use Rattle.thread_host_run.specs.Quiet.{is_quiet}

-- a run as contracts see it: a code, a start, the threads of the turns in order, and the world that they leave
pub record Ran : Type 0 where
  pub code : CodeTree
  pub start : World
  pub turns : List ℕ
  pub world : World

-- the turns are a run of the code from a sound start, the world is their replay, and they are turns of a book
pub record IsWhole (r : Ran) : Type 0 where
  pub start : IsSound r.code r.start
  pub run : IsRun r.code r.turns r.start
  pub world : r.world ≡ replay r.code r.turns r.start
  pub book : AreTurns r.turns

-- no turn was taken
abbrev pub opened : CodeTree → World → Ran
opened code start = record { code = code; start = start; turns = []; world = start }

-- one turn more, of a thread, which leaves a world
abbrev pub with_turn : Ran → ℕ → World → Ran
with_turn r t w = record { code = r.code; start = r.start; turns = r.turns ++ t ∷ []; world = w }

-- a turn of a thread leaves this world, and was quiet or was not
pub record HasTurn (code : CodeTree) (t : ℕ) (w : World) (quiet : Bool) (after : World) : Type 0 where
  pub event : Event
  pub turn : IsTurn code t w event after
  pub kind : quiet ≡ is_quiet event.what

-- how runs are stored, for what holds them
abbrev pub coded_run : Coded Ran
coded_run =
    code_by (CodeTree × (World × (List ℕ × World))) (coded× coded_code (coded× coded_world (coded× (coded_list coded_ℕ) coded_world)))
    (λ r. (r.code, (r.start, (r.turns, r.world)))) (λ p. record { code = p.0; start = p.1.0; turns = p.1.1.0; world = p.1.1.1 }) (λ _. refl)
