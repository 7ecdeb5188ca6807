-- What the serving of all asks reads.
use Rattle.std.specs.Prelude.{◌≡◌, ℕ, Option, length}
use Rattle.lam_asks.specs.declared.answer.Outcome.{Outcome}
use Rattle.lam_asks.specs.declared.ask.Ask.{Ask}
use Rattle.lam_asks.specs.declared.ask.Ask.TheVariants.{Join}
use Rattle.thread_steps.specs.Threads.{Context}
use Rattle.lam_machine_effects.specs.Worlds.{World, result_at}
use Rattle.lam_machine_effects.specs.declared.stores.Stores.{Stores}
use Rattle.lam_machine_effects.specs.Parts.{stores_of}
use Rattle.lam_machine_rows.specs.Acting.{Acting, acting_of}

-- how the thread that an ask joins ended
abbrev pub Joins : World → Ask → Option Outcome → Type 0
Joins w (Join t) ended = result_at w t ≡ ended
Joins w a ended = Unit {0}

-- all that the serving of an ask reads of a world and of a context
pub record ReadsWorld (w : World) (c : Context) (a : Ask) (s : Stores) (n : ℕ) (o : Option Outcome) (who : Acting) : Type 0 where
  pub stores : stores_of w ≡ s
  pub threads : length w.threads ≡ n
  pub ended : Joins w a o
  pub acting : acting_of c ≡ who
