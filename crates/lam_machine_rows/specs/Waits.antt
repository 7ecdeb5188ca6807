-- Which ask waits.
use Rattle.std.specs.Prelude.{◌≡◌, ℕ, Bool}
use Rattle.monitor_core.specs.Held.{Held}
use Rattle.lam_asks.specs.declared.ask.Ask.{Ask}
use Rattle.lam_asks.specs.declared.ask.Ask.TheVariants.{Join}
use Rattle.thread_steps.specs.Threads.{Context}
use Rattle.lam_machine_effects.specs.Worlds.{World, thread_at}
use Rattle.lam_machine_effects.specs.Turns.{is_living, is_ready}
use Rattle.lam_machine_rows.specs.Acting.{Acting, acting_of}

-- whether the thread lives that an ask joins
abbrev pub JoinsLiving : World → Ask → Bool → Type 0
JoinsLiving w (Join t) living = is_living (thread_at w t) ≡ living
JoinsLiving w a living = Unit {0}

-- whether an ask of a thread is ready, in each world with these monitors and each such context
abbrev pub IsReadiness : Held → ℕ → Bool → Acting → Ask → Bool → Type 0
IsReadiness monitors thread living who a answer =
    (w : World) (c : Context) → w.monitors ≡ monitors → acting_of c ≡ who → JoinsLiving w a living → answer ≡ is_ready w thread c a
