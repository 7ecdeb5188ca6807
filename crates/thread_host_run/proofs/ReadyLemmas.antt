-- Whether a thread is ready, by how it stands.
use Rattle.std.proofs.Common.{◌≡◌, ℕ, Bool, true, false, not, ◌&&◌, List, [], ◌∷◌, Option, Some, None, refl, ap, ◌∙◌}
use Rattle.std.specs.Prelude.{is_some, is_none, if◌then◌else◌}
use Rattle.flow_labels.specs.declared.Label.{Label}
use Rattle.flow_labels.specs.Flow.{public_label}
use Rattle.flow_labels.specs.Failing.{first_failing, read_test, same_test}
use Rattle.lam_value.specs.declared.values.Value.{Value}
use Rattle.lam_value.specs.declared.values.Value.TheVariants.{Obj, Arr}
use Rattle.lam_asks.specs.declared.answer.Outcome.{Outcome}
use Rattle.lam_asks.specs.declared.ask.Ask.{Ask}
use Rattle.lam_asks.specs.declared.ask.Ask.TheVariants.{MonEnter, Join}
use Rattle.lam_bytecode.specs.Codes.{CodeTree}
use Rattle.thread_steps.specs.Threads.{Context, Thread}
use Rattle.thread_steps.specs.Next.{Next, Standing, goes, asks, stuck, next_of, stands, standing_in, standing}
use Rattle.thread_core_effects.specs.Reading.{thing_in}
use Rattle.thread_core_stretches.specs.Turning.{Awaited, nobody, a_monitor, a_thread, asked, monitor_of, awaited, awaited_in, awaited_of}
use Rattle.lam_machine.proofs.NextLemmas.{what_it_may}
use Rattle.lam_machine_terms.specs.Worlds.{World, thread_at}
use Rattle.lam_machine_terms.specs.Serving.{serve}
use Rattle.lam_machine_terms.specs.Turns.{Moment, is_taken, waits, is_ready, served, turn_by, turn_in, step, ready}
use Rattle.thread_host_run.specs.Readiness.{waits_on, ready_by}

-- ---- what an ask waits for

where_ruled : (w : World) (t : ℕ) (b : Bool) (on : Awaited) → (b && waits_on w t on) ≡ waits_on w t (if b then on else nobody)
where_ruled w t true on = refl
where_ruled w t false on = refl

taken_on : (w : World) (t : ℕ) (p : Label) (r : Value) → is_taken w t p r ≡ waits_on w t (monitor_of p (thing_in r))
taken_on w t p (Obj n) = where_ruled w t (is_none (first_failing (same_test p n.own))) (a_monitor n)
taken_on w t p (Arr n len) = where_ruled w t (is_none (first_failing (same_test p n.own))) (a_monitor n)
taken_on w t p r = refl

waits_is : (w : World) (t : ℕ) (c : Context) (a : Ask) → waits w t c a ≡ waits_on w t (awaited c.label (Some a))
waits_is w t c (MonEnter r) = taken_on w t c.label r
waits_is w t c (Join u) = where_ruled w t (is_none (first_failing (read_test c.label public_label))) (a_thread u)
waits_is w t c a = refl

tested : (b : Bool) (m : Moment) → is_some (if b then Some m else None) ≡ b
tested true m = refl
tested false m = refl

-- ---- how a thread stands

module _ (code : CodeTree) (w : World) (t : ℕ) where
  step_at : (th : Option Thread) → thread_at w t ≡ th → step code w t ≡ turn_in code w t th
  unfolding step
  step_at th e = ap (λ x. turn_in code w t x) e

  by_next : (c : Context) (rest : List Context) (r : Option Outcome) (n : Next) → thread_at w t ≡ Some (record { contexts = c ∷ rest; result = r }) → next_of code c ≡ n
      → ready code w t ≡ ready_by (stands n) (waits_on w t (awaited c.label (asked n)))
  unfolding ready
  by_next c rest r n e f =
      let th : Thread = record { contexts = c ∷ rest; result = r } in
      ap is_some (step_at (Some th) e ∙ ap (λ x. turn_by code w t th c rest x) f) ∙ by th n f
    where
      by : (th : Thread) (n : Next) → next_of code c ≡ n → is_some (turn_by code w t th c rest n) ≡ ready_by (stands n) (waits_on w t (awaited c.label (asked n)))
      by th (goes i) f = refl
      by th (asks a i) f =
          tested (is_ready w t c a) (served code w t th c rest a i (serve w c a))
          ∙ ap (λ b. b && not (waits w t c a)) (what_it_may code c a i f)
          ∙ ap not (waits_is w t c a)
      by th stuck f = refl

  by_contexts : (cs : List Context) (r : Option Outcome) → thread_at w t ≡ Some (record { contexts = cs; result = r })
      → ready code w t ≡ ready_by (standing_in code cs) (waits_on w t (awaited_in code cs))
  unfolding ready
  by_contexts [] r e = ap is_some (step_at (Some (record { contexts = []; result = r })) e)
  by_contexts (c ∷ rest) r e = by_next c rest r (next_of code c) e refl

  pub ready_there : (th : Thread) → thread_at w t ≡ Some th → ready code w t ≡ ready_by (standing code th) (waits_on w t (awaited_of code th))
  ready_there th e = by_contexts th.contexts th.result e

  pub ready_absent : thread_at w t ≡ None → ready code w t ≡ false
  unfolding ready
  ready_absent e = ap is_some (step_at None e)

-- as what was seen of it tells
pub seen_ready : (code : CodeTree) (w : World) (t : ℕ) (th : Thread) (stands : Standing) (waits : Awaited) → (stands ≡ standing code th) → waits ≡ awaited_of code th → ready_by stands (waits_on w t waits) ≡ ready_by (standing code th) (waits_on w t (awaited_of code th))
seen_ready code w t th stands waits s a = ap (λ x. ready_by x (waits_on w t waits)) s ∙ ap (λ x. ready_by (standing code th) (waits_on w t x)) a
