-- Turns after which every other thread is ready where it was.
use Rattle.std.specs.Prelude.{Bool, true, false, not}
use Rattle.lam_asks.specs.declared.ask.Ask.{Ask}
use Rattle.lam_asks.specs.declared.ask.Ask.TheVariants.{MonEnter, MonLeave, Caught, Suppressed, Spawn, End}
use Rattle.lam_asks.specs.declared.answer.What.{What}
use Rattle.lam_asks.specs.declared.answer.What.TheVariants.{Private, Asked}

-- with such an ask monitors may change their holders, a thread may be started, or one ends
abbrev pub touches_others : Ask → Bool
touches_others (MonEnter thing) = true
touches_others (MonLeave thing) = true
touches_others (Caught fault) = true
touches_others (Suppressed fault) = true
touches_others (Spawn unit args caps) = true
touches_others (End outcome) = true
touches_others ask = false

abbrev pub is_quiet : What → Bool
is_quiet Private = true
is_quiet (Asked ask answer) = not (touches_others ask)
