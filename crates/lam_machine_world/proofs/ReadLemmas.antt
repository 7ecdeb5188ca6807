-- The serving of an ask and its readiness, at one world and one context.
use Rattle.std.proofs.Common.{ℕ, Option, Result, Ok, Err, IfOk}
use Rattle.want_of_memory.specs.declared.NoMemory.{NoMemory}
use Rattle.lam_asks.specs.declared.answer.Outcome.{Outcome}
use Rattle.lam_asks.specs.declared.ask.Ask.{Ask}
use Rattle.thread_core_state.specs.Threads.{Context}
use Rattle.lam_machine_rows.specs.Worlds.{World}
use Rattle.lam_machine_rows.specs.Serving.{serve}
use Rattle.lam_machine_rows.specs.Stores.{Stores}
use Rattle.lam_machine_rows.specs.Served.{Served}
use Rattle.lam_machine_rows.specs.Meaning.{DoesAs}
use Rattle.lam_machine_rows.specs.Acting.{Acting}
use Rattle.lam_machine_rows.specs.Serves.{ReadsWorld}

pub at_one : (w : World) (c : Context) (a : Ask) (s : Stores) (n : ℕ) (o : Option Outcome) (who : Acting) (r : Result Served NoMemory) → ReadsWorld w c a s n o who → IfOk r (λ d. (v : World) (k : Context) → ReadsWorld v k a s n o who → DoesAs d (serve v k a)) → IfOk r (λ d. DoesAs d (serve w c a))
at_one w c a s n o who (Ok d) h serves = serves w c h
at_one w c a s n o who (Err e) h serves = tt
