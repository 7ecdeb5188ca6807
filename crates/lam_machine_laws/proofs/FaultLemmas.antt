-- A fault that was raised is the first that its thread has handled.
use Rattle.std.proofs.Common.{◌≡◌, ℕ, Bool, true, false, cond, List, [], ◌∷◌, Option, Some, None, refl, sym, ap, subst, ◌∙◌}
use Rattle.std.specs.Prelude.{nat_eq, filter}
use Rattle.flow_labels.specs.declared.Denied.{Denied}
use Rattle.lam_machine_effects.specs.Fault.{Fault}
use Rattle.lam_machine_effects.specs.Fault.TheVariants as fault
use Rattle.lam_machine_effects.specs.Answer.TheVariants.{Done, Refused, Failed}
use Rattle.lam_machine_effects.specs.What.{What}
use Rattle.lam_machine_effects.specs.What.TheVariants.{Asked}
use Rattle.lam_machine_effects.specs.Ask.{Ask}
use Rattle.lam_machine_effects.specs.Codes.{CodeTree}
use Rattle.lam_machine_effects.specs.Threads.{Phase, Bottom, Body, Catch, Context, Thread}
use Rattle.lam_machine_effects.specs.Next.{asks, next_of, with_inside, faulted}
use Rattle.lam_machine_effects.specs.Worlds.{World, thread_at, contexts_in, contexts_at}
use Rattle.lam_machine_effects.specs.Serves.{under, unless}
use Rattle.lam_machine_effects.specs.Serving.{serve}
use Rattle.lam_machine_effects.specs.Turns.{Moment, is_ready, served, turn_by, step, and_then, moments}
use Rattle.lam_machine_laws.proofs.ThreadLemmas.{some_inj}
use Rattle.lam_machine_laws.proofs.TurnLemmas.{acts, only, turn_thread, first_two}
use Rattle.lam_machine_laws.proofs.BackLemmas.{fault_next}
use Rattle.lam_machine_laws.proofs.RefusalLemmas.{change_nothing}
use Rattle.lam_machine_laws.proofs.OwnLemmas.{set_here, touch, same_number, other_number, whats}
use Rattle.lam_machine_laws.specs.Laws.{IsActing, handling, BeginWith, IsHandledFirst, FaultsAreHandled}
use Rattle.lam_machine_laws.specs.Tests.{OnlyFaults}
use Rattle.lam_machine_laws.specs.Own.{done_by}

-- to have a fault handled is always done
handling_done : (w : World) (c : Context) (ph : Phase) (f : Fault) → (serve w c (handling ph f)).answer ≡ Done
unfolding under unless
handling_done w c Bottom f = refl
handling_done w c (Body at) f = refl
handling_done w c Catch f = refl

handled_moment : (code : CodeTree) (w : World) (t : ℕ) (th : Thread) (c : Context) (rest : List Context) (f : Fault) (m : Moment) → c.inside.fault ≡ Some f → turn_by code w t th c rest (next_of code c) ≡ Some m → m.event.what ≡ Asked (handling c.phase f) Done
handled_moment code w t th c rest f m e h =
    let a = handling c.phase f in
    let asked = subst (λ nx. turn_by code w t th c rest nx ≡ Some m) (fault_next code c f e) h in
    let one = only (is_ready w t c a) (served code w t th c rest a c.inside (serve w c a)) m asked in
    sym (ap (λ (k : Moment). k.event.what) one.1) ∙ ap (Asked a) (handling_done w c c.phase f)

module _ (code : CodeTree) (u : ℕ) (f : Fault) where
  handled_by : (th : Thread) (c : Context) (rest : List Context) → th.contexts ≡ c ∷ rest → c.inside.fault ≡ Some f → (turns : List ℕ) (w : World) → thread_at w u ≡ Some th → BeginWith (Asked (handling c.phase f) Done) (done_by u (moments code turns w))
  handled_by th c rest list e [] w at = tt
  handled_by th c rest list e (t ∷ ts) w at = by (step code w t) refl (λ v h. handled_by th c rest list e ts v h)
    where
      one : (m : Moment) → step code w t ≡ Some m → (b : Bool) → nat_eq m.event.thread u ≡ b → ((v : World) → thread_at v u ≡ Some th → BeginWith (Asked (handling c.phase f) Done) (done_by u (moments code ts v))) → BeginWith (Asked (handling c.phase f) Done) (whats (cond b (m ∷ filter (λ (k : Moment). nat_eq k.event.thread u) (moments code ts m.world)) (filter (λ (k : Moment). nat_eq k.event.thread u) (moments code ts m.world))))
      one m h true q more =
          let a = acts code w t m h in
          let its_own : t ≡ u = sym (turn_thread code w t m h) ∙ same_number m.event.thread u q in
          let same : a.thread ≡ th = some_inj a.thread th (sym a.at ∙ ap (thread_at w) its_own ∙ at) in
          let top = (first_two a.top c a.rest rest (sym a.list ∙ ap (λ (x : Thread). x.contexts) same ∙ list)).0 in
          subst (λ (d : Context). m.event.what ≡ Asked (handling d.phase f) Done) top
          (handled_moment code w t a.thread a.top a.rest f m (subst (λ (d : Context). d.inside.fault ≡ Some f) (sym top) e) a.gives)
      one m h false q more = more m.world ((touch code w t m h).others u th (λ s. other_number m.event.thread u q (s ∙ sym (turn_thread code w t m h))) at)

      by : (o : Option Moment) → step code w t ≡ o → ((v : World) → thread_at v u ≡ Some th → BeginWith (Asked (handling c.phase f) Done) (done_by u (moments code ts v))) → BeginWith (Asked (handling c.phase f) Done) (done_by u (and_then o (moments code ts)))
      by None h more = tt
      by (Some m) h more = one m h (nat_eq m.event.thread u) refl more

  handled_first : (w : World) (c : Context) (rest : List Context) → IsActing w u c rest → c.inside.fault ≡ Some f → IsHandledFirst code w u c.phase f
  handled_first w c rest acting e turns = by (thread_at w u) refl acting
    where
      by : (x : Option Thread) → thread_at w u ≡ x → contexts_in x ≡ c ∷ rest → BeginWith (Asked (handling c.phase f) Done) (done_by u (moments code turns w))
      by None at list = absurd cc
      by (Some th) at list = handled_by th c rest list e turns w at

  -- of a thread that only got a fault
  faulted_first : (w : World) (m : Moment) (c : Context) (rest : List Context) → OnlyFaults w u f m → IsActing w u c rest → IsHandledFirst code m.world u c.phase f
  faulted_first w m c rest k acting turns =
      let d = with_inside k.top (faulted k.top.inside f) in
      let to : Thread = record { contexts = d ∷ k.rest; result = k.thread.result } in
      let at = ap (λ (v : World). thread_at v u) k.world ∙ set_here u w.threads to k.thread k.at in
      let top = (first_two k.top c k.rest rest (sym k.list ∙ sym (ap contexts_in k.at) ∙ acting)).0 in
      subst (λ (x : Context). BeginWith (Asked (handling x.phase f) Done) (done_by u (moments code turns m.world))) top
      (handled_by to d k.rest refl refl turns m.world at)

pub faults_handled : (code : CodeTree) → FaultsAreHandled code
faults_handled code =
    record {
      next = fault_next code;
      first = λ w t c rest f acting e. handled_first code t f w c rest acting e;
      refused = λ w t m a x c rest h e acting. faulted_first code t fault.Denied w m c rest ((change_nothing code).refused w t m a x h e) acting;
      failed = λ w t m a f c rest h e acting. faulted_first code t f w m c rest ((change_nothing code).failed w t m a f h e) acting;
    }
