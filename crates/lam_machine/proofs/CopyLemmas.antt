-- What a turn of a valid world copies lives.
use Rattle.std.proofs.Common.{◌≡◌, ℕ, List, Some, subst}
use Rattle.lam_value.specs.declared.values.Value.{Value}
use Rattle.lam_value.specs.declared.values.Value.TheVariants.{Obj, Arr}
use Rattle.lam_asks.specs.declared.ask.Ask.{Ask}
use Rattle.lam_asks.specs.declared.ask.Ask.TheVariants.{CopyTo}
use Rattle.lam_bytecode.specs.Codes.{CodeTree, IsCode}
use Rattle.thread_steps.specs.Threads.{Context, Thread}
use Rattle.thread_steps.specs.Next.{Next, goes, asks, stuck, next_of}
use Rattle.lam_machine_terms.specs.Worlds.{World}
use Rattle.lam_machine_terms.specs.Serving.{serve}
use Rattle.lam_machine_terms.specs.Turns.{Moment, is_ready, served, turn_by}
use Rattle.lam_machine_terms.specs.Valid.{Lives, IsValid}
use Rattle.lam_machine_laws.proofs.ThreadLemmas.{some_inj}
use Rattle.lam_machine_laws.proofs.TurnLemmas.{acts, only}
use Rattle.lam_machine_laws.specs.Sound.{ThingLives, CopiesLiving, FindsLiving}
use Rattle.guarded_code_runs.specs.Living.{AskLives, NextLives}
use Rattle.guarded_code_runs.proofs.PrivateLemmas.{name_what_lives}
use Rattle.lam_machine.specs.Machine.{CopiesLive}

thing_lives : (w : World) (r : Value) → Lives w r → ThingLives w r
thing_lives w (Obj n) h = h.1
thing_lives w (Arr n len) h = h.1.0
thing_lives w v h = tt

copies_living : (w : World) (a : Ask) → AskLives w a → CopiesLiving w a
copies_living w (CopyTo r l) h = thing_lives w r h.0
copies_living w a h = tt

next_living : (code : CodeTree) (w : World) (t : ℕ) (th : Thread) (c : Context) (rest : List Context) (nx : Next) (m : Moment) → NextLives w nx → turn_by code w t th c rest nx ≡ Some m → FindsLiving w m.event.what
next_living code w t th c rest (goes i) m l h = subst (λ (x : Moment). FindsLiving w x.event.what) (some_inj _ m h) tt
next_living code w t th c rest (asks a i) m l h =
    subst (λ (x : Moment). FindsLiving w x.event.what) (only (is_ready w t c a) (served code w t th c rest a i (serve w c a)) m h).1 (copies_living w a l.0)
next_living code w t th c rest stuck m l h = absurd cc

pub copies_live : (code : CodeTree) → IsCode code → (w : World) (t : ℕ) → IsValid w → CopiesLive code w t
copies_live code is w t valid m h =
    let a = acts code w t m h in
    next_living code w t a.thread a.top a.rest (next_of code a.top) m (name_what_lives code is w t a.thread a.top a.rest valid a.at a.list) a.gives
