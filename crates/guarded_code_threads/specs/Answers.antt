-- The form of an answer: a value where the ask is for one.
use Rattle.lam_asks.specs.declared.answer.Answer.{Answer}
use Rattle.lam_asks.specs.declared.answer.Answer.TheVariants.{Done, Entered, Val, Refused, Failed}
use Rattle.lam_asks.specs.declared.ask.Ask.{Ask}
use Rattle.lam_asks.specs.Suits.{numbers, Given, is_done, is_entered, is_value, want_of}

-- that it was done, that a region was entered, or a value, as it is given; or a refusal or a fault
abbrev pub IsOfForm : Given → Answer → Type 0
IsOfForm g (Refused denied) = Unit {0}
IsOfForm g (Failed fault) = Unit {0}
IsOfForm is_done Done = Unit {0}
IsOfForm is_entered Entered = Unit {0}
IsOfForm (is_value sort) (Val v) = Unit {0}
IsOfForm g x = ⊥

-- what an ask gives, of whatever sort a value is
abbrev pub given_by : Ask → Given
given_by a = (want_of numbers a).gives

-- an answer of the form of its ask
abbrev pub Answers : Ask → Answer → Type 0
Answers a x = IsOfForm (given_by a) x
