-- An answer that suits its ask is of its form.
use Rattle.std.proofs.Common.{◌≡◌, true}
use Rattle.std.proofs.lemmas.Bool.{false≢true}
use Rattle.lam_value.specs.declared.values.Value.{Value}
use Rattle.lam_asks.specs.declared.answer.Answer.{Answer}
use Rattle.lam_asks.specs.declared.answer.Answer.TheVariants.{Done, Entered, Val}
use Rattle.lam_asks.specs.declared.ask.Ask.{Ask}
use Rattle.lam_asks.specs.Suits.{numbers, Given, is_done, is_entered, is_value, Want, want_of, gives, fits, suits}
use Rattle.guarded_code_threads.specs.Answers.{IsOfForm, Answers}

done_form : (g : Given) → gives g Done ≡ true → IsOfForm g Done
done_form is_done e = tt
done_form g e = absurd (false≢true e)

entered_form : (g : Given) → gives g Entered ≡ true → IsOfForm g Entered
entered_form is_entered e = tt
entered_form g e = absurd (false≢true e)

value_form : (g : Given) (v : Value) → gives g (Val v) ≡ true → IsOfForm g (Val v)
value_form (is_value sort) v e = tt
value_form g v e = absurd (false≢true e)

pub fits_form : (w : Want) (x : Answer) → fits w x ≡ true → IsOfForm w.gives x
fits_form w Done e = done_form w.gives e
fits_form w Entered e = entered_form w.gives e
fits_form w (Val v) e = value_form w.gives v e
fits_form w x e = tt

pub suits_form : (a : Ask) (x : Answer) → suits numbers a x ≡ true → Answers a x
suits_form a x e = fits_form (want_of numbers a) x e
