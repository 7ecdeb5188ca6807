-- A course with one turn more.
use Rattle.std.proofs.Common.{◌≡◌, ℕ, ◌<◌, Bool, Option, Some, None, length, subst, sym}
use Rattle.lam_asks.specs.declared.answer.Event.{Event}
use Rattle.lam_bytecode.specs.Codes.{CodeTree}
use Rattle.lam_machine_terms.specs.Worlds.{World}
use Rattle.lam_machine.specs.Worlds.{IsSound}
use Rattle.lam_machine_laws.specs.Turned.{IsTurn}
use Rattle.lam_machine.specs.Privately.{private_event}
use Rattle.thread_host_run.specs.Courses.{Progress, IsCourse, ran_to, one_more, TookTurn, was_quiet}
use Rattle.thread_host_run.specs.Runs.{HasTurn}
use Rattle.thread_host_run.proofs.RunLemmas.{sound_now, whole_grows}

module _ (code : CodeTree) (t : ℕ) (w : World) where
  pub took_turn : (o : Option Event) (after : World) → TookTurn code t w o after → (e : Event) × IsTurn code t w e after
  took_turn None after h = (private_event w t, h)
  took_turn (Some e) after h = (e, h)

  pub has_turn : (o : Option Event) (after : World) (quiet : Bool) → TookTurn code t w o after → quiet ≡ was_quiet o → HasTurn code t w quiet after
  has_turn None after quiet h e = record { event = private_event w t; turn = h; kind = e }
  has_turn (Some x) after quiet h e = record { event = x; turn = h; kind = e }

pub course_grows : (code : CodeTree) (start : World) (p : Progress) (t : ℕ) (e : Event) (after : World) → IsCourse code start p → length p.turns < 1000000 → IsTurn code t p.world e after → IsCourse code start (one_more p t after)
course_grows code start p t e after h few turn = whole_grows (ran_to code start p) t e after h few turn

-- a course that is known to be one turn more
pub grown : (code : CodeTree) (start : World) (p q : Progress) (t : ℕ) (e : Event) (after : World) → IsCourse code start p → length p.turns < 1000000 → IsTurn code t p.world e after → q ≡ one_more p t after → IsCourse code start q
grown code start p q t e after h few turn is = subst (IsCourse code start) (sym is) (course_grows code start p t e after h few turn)

-- the world that it leaves is sound
pub course_sound : (code : CodeTree) (start : World) (p : Progress) → IsCourse code start p → IsSound code p.world
course_sound code start p h = sound_now (ran_to code start p) h
