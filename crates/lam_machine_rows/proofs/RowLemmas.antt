-- What a row owes at each of its returns: what its service stands under, and the service itself.
use Rattle.std.proofs.Common.{◌≡◌, [], Option, Some, None, Result, Ok, Err, IfOk, refl, sym, ap, subst}
use Rattle.want_of_memory.specs.declared.NoMemory.{NoMemory}
use Rattle.flow_labels.specs.declared.Denied.{Denied}
use Rattle.flow_labels.specs.Failing.{Test, first_failing}
use Rattle.lam_value.specs.declared.names.Name.{Name}
use Rattle.lam_value.specs.declared.values.Value.{Value}
use Rattle.lam_value.specs.declared.values.Value.TheVariants.{Obj, Arr}
use Rattle.lam_asks.specs.declared.fault.Fault.{Fault}
use Rattle.lam_asks.specs.declared.fault.Fault.TheVariants.{Null}
use Rattle.lam_asks.specs.declared.answer.Outcome.{Outcome}
use Rattle.lam_asks.specs.declared.answer.Outcome.TheVariants as outcome
use Rattle.lam_asks.specs.declared.answer.Answer.{Answer}
use Rattle.lam_asks.specs.declared.answer.Answer.TheVariants.{Done, Val, Refused, Failed}
use Rattle.thread_steps.specs.Threads.{Context}
use Rattle.lam_machine_effects.specs.Worlds.{World}
use Rattle.lam_machine_effects.specs.Serves as told
use Rattle.lam_machine_effects.specs.Serves.{answers, does, gives, makes, unless_denied, under, unless, of_thing, at_thing, name_in, Made}
use Rattle.lam_machine_effects.specs.declared.served.Served.{Served}
use Rattle.lam_machine_effects.specs.declared.effect.Effect.{Effect}
use Rattle.lam_machine_effects.specs.declared.effect.Effect.TheVariants.{Nothing}
use Rattle.lam_machine_effects.specs.Meaning.{meaning, DoesAs}
use Rattle.lam_machine_effects.specs.Serving.{child_fault, value_of_end}
use Rattle.lam_machine_rows.specs.Rows.{thing_of, ended_with}

some_inj : {A : Type 0} (x y : A) → Some x ≡ Some y → x ≡ y
some_inj x y e = cc

-- ---- services

pub answers_as : (d : Served) (x y : Answer) → d ≡ record { answer = x; effect = Nothing } → x ≡ y → DoesAs d (answers y)
answers_as d x y is e = subst (λ (k : Served). DoesAs k (answers y)) (sym is) (record { answer = e; effect = refl })

pub does_as : (d : Served) (e : Effect) (f : told.Effect) → d ≡ record { answer = Done; effect = e } → meaning e ≡ f → DoesAs d (does f)
does_as d e f is same = subst (λ (k : Served). DoesAs k (does f)) (sym is) (record { answer = refl; effect = same })

pub gives_as : (d : Served) (v u : Value) (e : Effect) (f : told.Effect) → d ≡ record { answer = Val v; effect = e } → v ≡ u → meaning e ≡ f → DoesAs d (gives u f)
gives_as d v u e f is value same = subst (λ (k : Served). DoesAs k (gives u f)) (sym is) (record { answer = ap Val value; effect = same })

-- ---- what they stand under

pub refused_as : (d : Served) (t : Test) (e : told.Served) (x : Denied) → d ≡ record { answer = Refused x; effect = Nothing } → Some x ≡ first_failing t → DoesAs d (under t e)
unfolding under
refused_as d t e x is first = subst (λ (y : Option Denied). DoesAs d (unless_denied y e)) first (answers_as d (Refused x) (Refused x) is refl)

pub passes_as : (d : Served) (t : Test) (e : told.Served) → None ≡ first_failing t → DoesAs d e → DoesAs d (under t e)
unfolding under
passes_as d t e first h = subst (λ (y : Option Denied). DoesAs d (unless_denied y e)) first h

pub fails_as : (d : Served) (o : Option Fault) (e : told.Served) (f : Fault) → d ≡ record { answer = Failed f; effect = Nothing } → Some f ≡ o → DoesAs d (unless o e)
unfolding unless
fails_as d o e f is there = subst (λ (y : Option Fault). DoesAs d (unless y e)) there (answers_as d (Failed f) (Failed f) is refl)

pub holds_as : (d : Served) (o : Option Fault) (e : told.Served) → None ≡ o → DoesAs d e → DoesAs d (unless o e)
unfolding unless
holds_as d o e there h = subst (λ (y : Option Fault). DoesAs d (unless y e)) there h

-- a row without a fault, and one without a test
pub clear_as : (d : Served) (t : Test) (e : told.Served) → None ≡ first_failing t → DoesAs d e → DoesAs d (under t (unless None e))
clear_as d t e first h = passes_as d t (unless None e) first (holds_as d None e refl h)

pub untested_as : (d : Served) (e : told.Served) → DoesAs d e → DoesAs d (under [] e)
untested_as d e h = passes_as d [] e refl h

pub plain_as : (d : Served) (e : told.Served) → DoesAs d e → DoesAs d (under [] (unless None e))
plain_as d e h = clear_as d [] e refl h

-- a row of a reference
pub null_as : (d : Served) (r : Value) (test : Name → Test) (f : Name → Option Fault) (e : told.Served) → d ≡ record { answer = Failed Null; effect = Nothing } → None ≡ thing_of r → DoesAs d (under (of_thing r test) (unless (at_thing r f) e))
null_as d (Obj n) test f e is there = absurd cc
null_as d (Arr n len) test f e is there = absurd cc
null_as d r test f e is there = passes_as d [] (unless (Some Null) e) refl (fails_as d (Some Null) e Null is refl)

pub thing_as : (d : Served) (r : Value) (n : Name) (test : Name → Test) (f : Name → Option Fault) (go : Name → told.Served) → Some n ≡ thing_of r → DoesAs d (under (test n) (unless (f n) (go n))) → DoesAs d (under (of_thing r test) (unless (at_thing r f) (go (name_in r))))
thing_as d (Obj m) n test f go e h = subst (λ k. DoesAs d (under (test k) (unless (f k) (go k)))) (some_inj n m e) h
thing_as d (Arr m len) n test f go e h = subst (λ k. DoesAs d (under (test k) (unless (f k) (go k)))) (some_inj n m e) h
thing_as d r n test f go e h = absurd cc

-- a row of a reference without a test
no_test : (r : Value) → of_thing r (λ n. []) ≡ []
no_test (Obj n) = refl
no_test (Arr n len) = refl
no_test r = refl

pub free_as : (d : Served) (r : Value) (e : told.Served) → DoesAs d (under (of_thing r (λ n. [])) e) → DoesAs d (under [] e)
free_as d r e h = subst (λ t. DoesAs d (under t e)) (no_test r) h

pub joined_as : (d : Served) (x : Option Outcome) → DoesAs d (answers (ended_with x)) → DoesAs d (unless (child_fault x) (answers (Val (value_of_end x))))
unfolding unless
joined_as d None h = h
joined_as d (Some (outcome.Value v)) h = h
joined_as d (Some (outcome.Failed f)) h = h

-- ---- the same of a service that memory may have been refused to

pub passes_ok : (r : Result Served NoMemory) (t : Test) (e : told.Served) → None ≡ first_failing t → IfOk r (λ d. DoesAs d e) → IfOk r (λ d. DoesAs d (under t e))
passes_ok (Ok d) t e first h = passes_as d t e first h
passes_ok (Err x) t e first h = tt

pub holds_ok : (r : Result Served NoMemory) (o : Option Fault) (e : told.Served) → None ≡ o → IfOk r (λ d. DoesAs d e) → IfOk r (λ d. DoesAs d (unless o e))
holds_ok (Ok d) o e there h = holds_as d o e there h
holds_ok (Err x) o e there h = tt

pub clear_ok : (r : Result Served NoMemory) (t : Test) (e : told.Served) → None ≡ first_failing t → IfOk r (λ d. DoesAs d e) → IfOk r (λ d. DoesAs d (under t (unless None e)))
clear_ok (Ok d) t e first h = clear_as d t e first h
clear_ok (Err x) t e first h = tt

pub untested_ok : (r : Result Served NoMemory) (e : told.Served) → IfOk r (λ d. DoesAs d e) → IfOk r (λ d. DoesAs d (under [] e))
untested_ok r e h = passes_ok r [] e refl h

pub free_ok : (x : Result Served NoMemory) (r : Value) (e : told.Served) → IfOk x (λ d. DoesAs d (under (of_thing r (λ n. [])) e)) → IfOk x (λ d. DoesAs d (under [] e))
free_ok x r e h = subst (λ t. IfOk x (λ d. DoesAs d (under t e))) (no_test r) h

pub thing_ok : (r : Result Served NoMemory) (v : Value) (n : Name) (test : Name → Test) (f : Name → Option Fault) (go : Name → told.Served) → Some n ≡ thing_of v → IfOk r (λ d. DoesAs d (under (test n) (unless (f n) (go n)))) → IfOk r (λ d. DoesAs d (under (of_thing v test) (unless (at_thing v f) (go (name_in v)))))
thing_ok (Ok d) v n test f go e h = thing_as d v n test f go e h
thing_ok (Err x) v n test f go e h = tt

pub gives_ok : (r : Result Served NoMemory) (v u : Value) (f : told.Effect) → v ≡ u → IfOk r (λ d. DoesAs d (gives v f)) → IfOk r (λ d. DoesAs d (gives u f))
gives_ok r v u f value h = subst (λ x. IfOk r (λ d. DoesAs d (gives x f))) value h

pub makes_ok : (r : Result Served NoMemory) (v u : Value) (f : told.Effect) (m : Made) → v ≡ u → IfOk r (λ d. DoesAs d (gives v f)) → IfOk r (λ d. DoesAs d (makes u f m))
makes_ok (Ok d) v u f m value h = let k : DoesAs d (gives u f) = subst (λ x. DoesAs d (gives x f)) value h in record { answer = k.answer; effect = k.effect }
makes_ok (Err x) v u f m value h = tt

-- what it is in each world and each context
pub whole : (r : Result Served NoMemory) (g : World → Context → told.Served) → ((w : World) (c : Context) → IfOk r (λ d. DoesAs d (g w c))) → IfOk r (λ d. (w : World) (c : Context) → DoesAs d (g w c))
whole (Ok d) g h = h
whole (Err x) g h = tt

pub whole_where : (r : Result Served NoMemory) (H : World → Context → Type 0) (g : World → Context → told.Served) → ((w : World) (c : Context) → H w c → IfOk r (λ d. DoesAs d (g w c))) → IfOk r (λ d. (w : World) (c : Context) → H w c → DoesAs d (g w c))
whole_where (Ok d) H g h = h
whole_where (Err x) H g h = tt
