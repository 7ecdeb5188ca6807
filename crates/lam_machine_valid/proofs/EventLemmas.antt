-- A test that fails is an event.
use Rattle.std.proofs.Common.{◌≡◌, ℕ, Bool, true, false, cond, List, ◌∷◌, Option, Some, None, refl, ap, subst, ◌∙◌}
use Rattle.std.specs.Prelude.{is_none, not, ◌&&◌}
use Rattle.flow_labels.specs.declared.Denied.{Denied}
use Rattle.flow_labels.specs.Flow.{public_label}
use Rattle.flow_labels.specs.Failing.{first_failing, same_test, read_test}
use Rattle.capabilities.specs.declared.Caps.{Caps}
use Rattle.lam_value.specs.declared.values.Value.{Value}
use Rattle.lam_value.specs.declared.values.Value.TheVariants.{Obj, Arr}
use Rattle.monitor_core.specs.Held.{is_free}
use Rattle.lam_asks.specs.declared.answer.Answer.TheVariants.{Done, Refused}
use Rattle.lam_asks.specs.declared.answer.What.TheVariants.{Asked}
use Rattle.lam_asks.specs.declared.ask.Ask.{Ask}
use Rattle.lam_asks.specs.declared.ask.Ask.TheVariants as ask
use Rattle.lam_bytecode.specs.Codes.{CodeTree}
use Rattle.thread_steps.specs.Threads.{Inside, Context, Thread}
use Rattle.thread_steps.specs.Next.{asks, past, next_of}
use Rattle.lam_machine_laws.specs.Worlds.{World, thread_at, contexts_in, contexts_at}
use Rattle.lam_machine_laws.specs.Serves.{under, unless}
use Rattle.lam_machine_laws.specs.Serving.{publicly, serve}
use Rattle.lam_machine_laws.specs.Turns.{may_ask, is_taken, is_living, waits, served, turn_by, turn_on, turn_in, step}
use Rattle.lam_machine_valid.proofs.NextLemmas.{what_it_may, barred_at}
use Rattle.lam_machine_laws.specs.Tests.{tests_of}
use Rattle.lam_machine_laws.specs.Judged.{fault_by}
use Rattle.lam_machine_laws.proofs.RefusalLemmas.{change_nothing}
use Rattle.lam_machine_valid.specs.Events.{IsDenied, FailingTestsAreEvents}
use Rattle.lam_machine_valid.specs.Faults.{Says}
use Rattle.lam_machine_valid.proofs.AnswerLemmas.{follow_the_rows}

-- ---- an ask that a test refuses does not wait

not_first : (x : Option Denied) (d : Denied) (b : Bool) → x ≡ Some d → (is_none x && b) ≡ false
not_first None d b e = absurd cc
not_first (Some y) d b e = refl

taken_not : (w : World) (t : ℕ) (c : Context) (r : Value) (d : Denied) → first_failing (tests_of w c (ask.MonEnter r)) ≡ Some d → is_taken w t c.label r ≡ false
taken_not w t c (Obj n) d e = not_first (first_failing (same_test c.label n.own)) d (not (is_free w.monitors n t)) e
taken_not w t c (Arr n len) d e = not_first (first_failing (same_test c.label n.own)) d (not (is_free w.monitors n t)) e
taken_not w t c r d e = refl

goes_at_once : (w : World) (t : ℕ) (c : Context) (public : Caps) (a : Ask) (d : Denied) → first_failing (tests_of w (publicly public c) a) ≡ Some d → waits w t c a ≡ false
goes_at_once w t c public (ask.MonEnter r) d e = taken_not w t c r d e
goes_at_once w t c public (ask.Join u) d e = not_first (first_failing (read_test c.label public_label)) d (is_living (thread_at w u)) e
goes_at_once w t c public a d e = refl

-- ---- turns

-- a thread that has these contexts
the_thread : (x : Option Thread) (c : Context) (rest : List Context) → contexts_in x ≡ c ∷ rest → (th : Thread) × (x ≡ Some th) × (th.contexts ≡ c ∷ rest)
the_thread None c rest e = absurd cc
the_thread (Some th) c rest e = (th, refl, e)

both : (a b : Bool) → a ≡ true → b ≡ false → (a && not b) ≡ true
both a b e f = ap (λ k. k && not b) e ∙ ap not f

module _ (code : CodeTree) (w : World) (t : ℕ) (c : Context) (rest : List Context) (list : contexts_at w t ≡ c ∷ rest) where
  -- the turn of an ask that does not wait
  asked_turn : (a : Ask) (i : Inside) → next_of code c ≡ asks a i → waits w t c a ≡ false → (th : Thread) × (thread_at w t ≡ Some th) × (th.contexts ≡ c ∷ rest) × (step code w t ≡ Some (served code w t th c rest a i (serve w c a)))
  unfolding step
  asked_turn a i e quick =
      let h = the_thread (thread_at w t) c rest list in
      let th = h.0 in (
        th,
        h.1,
        h.2,
        ap (turn_in code w t) h.1 ∙ ap (turn_on code w t th) h.2 ∙ ap (turn_by code w t th c rest) e
            ∙ ap (λ b. cond b (Some (served code w t th c rest a i (serve w c a))) None) (both (may_ask c a) (waits w t c a) (what_it_may code c a i e) quick),
      )

  refused_turn : (a : Ask) (i : Inside) (d : Denied) → next_of code c ≡ asks a i → first_failing (tests_of w (publicly w.public c) a) ≡ Some d → IsDenied code w t a (Refused d)
  refused_turn a i d e f =
      let h = asked_turn a i e (goes_at_once w t c w.public a d f) in
      let m = served code w t h.0 c rest a i (serve w c a) in
      let what : m.event.what ≡ Asked a (Refused d) = ap (Asked a) (subst (λ x. Says x (fault_by w c a) (serve w c a).answer) f (follow_the_rows w c a)) in
      (m, h.3, what, (change_nothing code).refused w t m a d h.3 what)

  barred_turn : (d : Denied) (i : Inside) → next_of code c ≡ asks (ask.Barred d) i → IsDenied code w t (ask.Barred d) Done
  unfolding under unless
  barred_turn d i e =
      let h = asked_turn (ask.Barred d) i e refl in (
        served code w t h.0 c rest (ask.Barred d) i (serve w c (ask.Barred d)),
        h.3,
        refl,
        record { thread = h.0; top = c; rest = rest; at = h.1; list = h.2; made = refl; world = refl },
      )

pub failing_events : (code : CodeTree) → FailingTestsAreEvents code
failing_events code =
    record {
      of_asks = λ w t c rest a after d list e f. refused_turn code w t c rest list a after d e f;
      of_barriers = λ w t c rest op d list s b. barred_turn code w t c rest list d (past c.inside c.inside.frame.stack) (barred_at code c op d s b);
    }
