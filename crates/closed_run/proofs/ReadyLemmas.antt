-- Who is ready, who is inside, and who has ended.
use Rattle.std.proofs.Common.{◌≡◌, ℕ, zero, suc, ◌≤◌, Bool, true, false, List, [], ◌∷◌, Option, Some, None, length, MatchOption, refl, sym, ap, ◌∙◌, subst}
use Rattle.std.specs.Prelude.{not, ◌&&◌, is_some, is_none, slice_get}
use Rattle.std.proofs.lemmas.Option.{slice_get_past}
use Rattle.flow_labels.specs.declared.Label.{Label}
use Rattle.flow_labels.specs.Flow.{flows}
use Rattle.lam_asks.specs.declared.answer.Outcome.{Outcome}
use Rattle.lam_bytecode.specs.Codes.{CodeTree}
use Rattle.thread_steps.specs.Threads.{Thread}
use Rattle.lam_machine_terms.specs.Worlds.{World, thread_at, contexts_in, contexts_at}
use Rattle.lam_machine_terms.specs.Turns.{Moment, is_living, turn_in, step, ready, IsDone}
use Rattle.lam_machine_runs.specs.declared.How.TheVariants.{Done, Budget}
use Rattle.lam_machine_runs.proofs.EndLemmas.{one_end}
use Rattle.lam_machine.specs.Worlds.{IsSound}
use Rattle.lam_machine_laws.proofs.TurnLemmas.{acts, turned}
use Rattle.closed_terms.specs.Schedule.{stand_inside, is_inside}
use Rattle.closed_terms.specs.Ends.{all_ended}
use Rattle.closed_laws.proofs.StartLemmas.{ended_done}

-- ---- readiness

pub absent_waits : (code : CodeTree) (w : World) (t : ℕ) → length w.threads ≤ t → ready code w t ≡ false
unfolding ready step
absent_waits code w t h = ap (λ x. is_some (turn_in code w t x)) (slice_get_past w.threads t h)

pub taken_ready : (code : CodeTree) (w : World) (t : ℕ) (m : Moment) → step code w t ≡ Some m → ready code w t ≡ true
unfolding ready
taken_ready code w t m e = ap is_some e

pub ready_steps : (code : CodeTree) (w : World) (t : ℕ) → ready code w t ≡ true → step code w t ≡ None → ⊥
unfolding ready
ready_steps code w t e none = let no : true ≡ false = sym e ∙ ap is_some none in cc

-- ---- who has ended

no_other : Budget ≡ Done → ⊥
no_other e = cc

-- where a thread is ready, not all have ended
pub not_all_ended : (code : CodeTree) (w : World) (t : ℕ) → IsSound code w → ready code w t ≡ true → all_ended w.threads ≡ false
not_all_ended code w t sound h = go (all_ended w.threads) refl
  where
    go : (x : Bool) → all_ended w.threads ≡ x → all_ended w.threads ≡ false
    go false e = e
    go true e = absurd (no_other (one_end code w 0 0 Done sound.valid ((ended_done w).0 e) 0 0 Budget ((t, h), refl)))

pub one_lives : (ths : List Thread) (t : ℕ) → is_living (slice_get ths t) ≡ true → all_ended ths ≡ false
one_lives [] t e = absurd cc
one_lives (th ∷ ths) zero e = by th.result e
  where
    by : (x : Option Outcome) → is_none x ≡ true → (is_some x && all_ended ths) ≡ false
    by None e = refl
    by (Some r) e = absurd cc
one_lives (th ∷ ths) (suc t) e = by (is_some th.result) (one_lives ths t e)
  where
    by : (x : Bool) → all_ended ths ≡ false → (x && all_ended ths) ≡ false
    by true e = e
    by false e = refl

pub all_done : (w : World) → IsDone w → all_ended w.threads ≡ true
all_done w done = (ended_done w).1 done

module _ (w : World) (o : Option ℕ) where
  abbrev IsFound : Option ℕ → Type 0
  IsFound x = MatchOption x (IsDone w) (λ t. is_living (thread_at w t) ≡ true)

  pub none_found : o ≡ None → IsFound o → true ≡ all_ended w.threads
  none_found e h = sym (all_done w (subst IsFound e h))

  pub one_found : (t : ℕ) → o ≡ Some t → IsFound o → false ≡ all_ended w.threads
  one_found t e h = sym (one_lives w.threads t (subst IsFound e h))

-- ---- the label of a turn

-- a thread that takes a turn is inside where the label of the turn is not open
pub inside_label : (code : CodeTree) (b : Label) (w : World) (t : ℕ) (m : Moment) → step code w t ≡ Some m → is_inside b w t ≡ not (flows m.event.label b)
inside_label code b w t m h =
    let a = acts code w t m h in
    let label = (turned code w t a.thread a.top a.rest _ m a.gives).label in
    let stack : contexts_at w t ≡ a.top ∷ a.rest = ap contexts_in a.at ∙ a.list in
    ap (stand_inside b) stack ∙ ap (λ x. not (flows x b)) (sym label)
