-- What is known of a thread, from one world to the next, and what is read off who holds the monitor for which it waits.
use Rattle.std.proofs.Common.{◌≡◌, ℕ, Bool, true, false, not, List, [], ◌∷◌, Option, Some, None, refl, sym, ap, ◌∙◌, subst}
use Rattle.std.specs.Prelude.{slice_get, if◌then◌else◌}
use Rattle.std.specs.FinMap.{get}
use Rattle.lam_value.specs.declared.names.Name.{Name}
use Rattle.monitor_core.specs.declared.Holder.{Holder}
use Rattle.monitor_core.specs.Held.{is_free, is_free_of}
use Rattle.lam_machine_laws.proofs.ThreadLemmas.{some_inj}
use Rattle.lam_machine_laws.proofs.OwnLemmas.{same_number}
use Rattle.lam_bytecode.specs.Codes.{CodeTree}
use Rattle.thread_steps.specs.Threads.{Context, Thread}
use Rattle.thread_steps.specs.Next.{Next, goes, asks, stuck, next_of, is_shared, stands, standing_in, standing}
use Rattle.thread_core_stretches.specs.Turning.{Awaited, nobody, a_monitor, a_thread, asked, awaited, awaited_in, awaited_of}
use Rattle.lam_machine_terms.specs.Worlds.{World, thread_at}
use Rattle.lam_machine_terms.specs.Turns.{ready, is_living}
use Rattle.thread_host_run.specs.Readiness.{waits_on, ready_by}
use Rattle.thread_host_run.specs.Waiting.{awaited_at, IsAwaited, Extends, Tells, TellsBut, IsHeldSo, is_number, is_stale, is_monitor, is_everything}
use Rattle.thread_host_run.specs.declared.waits.Awaits.{Awaits}
use Rattle.thread_host_run.specs.declared.waits.Awaits.TheVariants.{Nobody, Monitor, End, Unknown}
use Rattle.thread_host_run.specs.declared.waits.Prospect.{Prospect}
use Rattle.thread_host_run.specs.declared.waits.Touched.{Touched}
use Rattle.thread_host_run.specs.declared.waits.Touched.TheVariants.{OneMonitor}
use Rattle.thread_host_run.proofs.ReadyLemmas.{ready_there, ready_absent}

-- ---- a thread that waits for something asks

shared_next : (c : Context) (n : Next) → (awaited c.label (asked n) ≡ nobody → ⊥) → stands n ≡ is_shared
shared_next c (goes i) h = absurd (h refl)
shared_next c (asks a i) h = refl
shared_next c stuck h = absurd (h refl)

shared_in : (code : CodeTree) (cs : List Context) → (awaited_in code cs ≡ nobody → ⊥) → standing_in code cs ≡ is_shared
shared_in code [] h = absurd (h refl)
shared_in code (c ∷ rest) h = shared_next c (next_of code c) h

-- ---- whether a thread is ready, by what it waits for

ready_waits : (code : CodeTree) (w : World) (u : ℕ) (o : Option Thread) (a : Awaited) → thread_at w u ≡ o → awaited_at code o ≡ a → (a ≡ nobody → ⊥) → ready code w u ≡ not (waits_on w u a)
ready_waits code w u None a at is ne = absurd (ne (sym is))
ready_waits code w u (Some th) a at is ne =
    ready_there code w u th at
    ∙ ap (λ s. ready_by s (waits_on w u (awaited_of code th))) (shared_in code th.contexts (λ e. ne (sym is ∙ e)))
    ∙ ap (λ x. not (waits_on w u x)) is

not_not : (b : Bool) → not (not b) ≡ b
not_not true = refl
not_not false = refl

pub ready_monitor : (code : CodeTree) (w : World) (u : ℕ) (n : Name) → awaited_at code (thread_at w u) ≡ a_monitor n → ready code w u ≡ is_free w.monitors n u
ready_monitor code w u n e = ready_waits code w u (thread_at w u) (a_monitor n) refl e (λ f. cc) ∙ not_not (is_free w.monitors n u)

pub ready_end : (code : CodeTree) (w : World) (u v : ℕ) → awaited_at code (thread_at w u) ≡ a_thread v → ready code w u ≡ not (is_living (thread_at w v))
ready_end code w u v e = ready_waits code w u (thread_at w u) (a_thread v) refl e (λ f. cc)

-- ---- a thread that has not moved

module _ (code : CodeTree) (w v : World) (u : ℕ) where
  ready_as : (o : Option Thread) → thread_at w u ≡ o → thread_at v u ≡ o → waits_on v u (awaited_at code o) ≡ waits_on w u (awaited_at code o) → ready code v u ≡ ready code w u
  ready_as None a b e = ready_absent code v u b ∙ sym (ready_absent code w u a)
  ready_as (Some th) a b e = ready_there code v u th b ∙ ap (ready_by (standing code th)) e ∙ sym (ready_there code w u th a)

  pub ready_still : thread_at v u ≡ thread_at w u → waits_on v u (awaited_at code (thread_at w u)) ≡ waits_on w u (awaited_at code (thread_at w u)) → ready code v u ≡ ready code w u
  ready_still same e = ready_as (thread_at w u) refl same e

-- ---- by more names

pub awaited_more : (ns ms : List Name) (x : Awaits) (a : Awaited) → Extends ns ms → IsAwaited ns x a → IsAwaited ms x a
awaited_more ns ms Nobody a more h = h
awaited_more ns ms (Monitor k) a more h = (h.0, more k h.0 h.1, h.2)
awaited_more ns ms (End u) a more h = h
awaited_more ns ms Unknown a more h = tt

pub tells_more : (code : CodeTree) (w : World) (ns ms : List Name) (u : ℕ) (p : Prospect) → Extends ns ms → Tells code w ns u p → Tells code w ms u p
tells_more code w ns ms u p more h = record { awaits = awaited_more ns ms p.awaits (awaited_at code (thread_at w u)) more h.awaits; ready = h.ready }

pub but_more : (t : Touched) (code : CodeTree) (w : World) (ns ms : List Name) (u : ℕ) (p : Prospect) → Extends ns ms → TellsBut t code w ns u p → TellsBut t code w ms u p
but_more t code w ns ms u p more h = record { awaits = awaited_more ns ms p.awaits (awaited_at code (thread_at w u)) more h.awaits; ready = h.ready }

-- ---- what is told again

module _ (touched : Touched) (code : CodeTree) (w : World) (ns : List Name) (u : ℕ) where
  -- of nobody
  pub again_nobody : (p : Prospect) → p.awaits ≡ Nobody → TellsBut touched code w ns u p → Tells code w ns u p
  again_nobody p e h = record { awaits = h.awaits; ready = h.ready (ap (is_stale touched) e) }

  stale_monitor : (k : ℕ) (n : Name) (was new : Bool) (b : Bool) → is_monitor touched k ≡ b → (is_monitor touched k ≡ false → was ≡ ready code w u) → ready code w u ≡ is_free w.monitors n u → new ≡ (if is_monitor touched k then is_free w.monitors n u else was) → new ≡ ready code w u
  stale_monitor k n was new true e old free is = is ∙ ap (λ b. if b then is_free w.monitors n u else was) e ∙ sym free
  stale_monitor k n was new false e old free is = is ∙ ap (λ b. if b then is_free w.monitors n u else was) e ∙ old e

  stale_end : (v : ℕ) (was new : Bool) (b : Bool) → is_everything touched ≡ b → (is_everything touched ≡ false → was ≡ ready code w u) → ready code w u ≡ not (is_living (thread_at w v)) → new ≡ (if is_everything touched then not (is_living (thread_at w v)) else was) → new ≡ ready code w u
  stale_end v was new true e old free is = is ∙ ap (λ b. if b then not (is_living (thread_at w v)) else was) e ∙ sym free
  stale_end v was new false e old free is = is ∙ ap (λ b. if b then not (is_living (thread_at w v)) else was) e ∙ old e

  -- of a monitor by its number
  monitor_again : (k : ℕ) (was new : Bool) → TellsBut touched code w ns u (record { awaits = Monitor k; ready = was })
      → ((n : Name) → slice_get ns k ≡ Some n → new ≡ (if is_monitor touched k then is_free w.monitors n u else was))
      → Tells code w ns u (record { awaits = Monitor k; ready = new })
  monitor_again k was new h is =
      let n = h.awaits.0 in
      record { awaits = h.awaits; ready = stale_monitor k n was new (is_monitor touched k) refl h.ready (ready_monitor code w u n h.awaits.2) (is n h.awaits.1) }

  pub again_monitor : (p : Prospect) (k : ℕ) (new : Bool) → p.awaits ≡ Monitor k → TellsBut touched code w ns u p
      → ((n : Name) → slice_get ns k ≡ Some n → new ≡ (if is_monitor touched k then is_free w.monitors n u else p.ready))
      → Tells code w ns u (record { awaits = p.awaits; ready = new })
  again_monitor p k new e h is =
      subst (λ (a : Awaits). Tells code w ns u (record { awaits = a; ready = new })) (sym e)
      (monitor_again k p.ready new (subst (λ (a : Awaits). TellsBut touched code w ns u (record { awaits = a; ready = p.ready })) e h) is)

  -- of the end of a thread
  end_again : (v : ℕ) (was new : Bool) → TellsBut touched code w ns u (record { awaits = End v; ready = was })
      → new ≡ (if is_everything touched then not (is_living (thread_at w v)) else was)
      → Tells code w ns u (record { awaits = End v; ready = new })
  end_again v was new h is =
      record { awaits = h.awaits; ready = stale_end v was new (is_everything touched) refl h.ready (ready_end code w u v h.awaits) is }

  pub again_end : (p : Prospect) (v : ℕ) (new : Bool) → p.awaits ≡ End v → TellsBut touched code w ns u p
      → new ≡ (if is_everything touched then not (is_living (thread_at w v)) else p.ready)
      → Tells code w ns u (record { awaits = p.awaits; ready = new })
  again_end p v new e h is =
      subst (λ (a : Awaits). Tells code w ns u (record { awaits = a; ready = new })) (sym e)
      (end_again v p.ready new (subst (λ (a : Awaits). TellsBut touched code w ns u (record { awaits = a; ready = p.ready })) e h) is)

-- ---- the one monitor that was touched

module _ (w : World) (ns : List Name) (o : Option ℕ) (holder : Option Holder) (k u : ℕ) (was : Bool) (n : Name) where
  holder_is : (p : Option ℕ) → is_number p k ≡ true → slice_get ns k ≡ Some n → IsHeldSo ns w (OneMonitor p holder) → holder ≡ get w.monitors n
  holder_is None e at held = absurd cc
  holder_is (Some j) e at held =
      let same : n ≡ held.0 = some_inj n held.0 (sym at ∙ ap (slice_get ns) (sym (same_number j k e)) ∙ held.1) in
      held.2 ∙ ap (λ (m : Name). get w.monitors m) (sym same)

  one_by : (b : Bool) → is_number o k ≡ b → slice_get ns k ≡ Some n → IsHeldSo ns w (OneMonitor o holder) → (if is_number o k then is_free_of holder u else was) ≡ (if is_number o k then is_free w.monitors n u else was)
  one_by true e at held = (λ i. if e i then is_free_of holder u else was) ∙ ap (λ (h : Option Holder). is_free_of h u) (holder_is o e at held) ∙ sym (ap (λ (b : Bool). if b then is_free w.monitors n u else was) e)
  one_by false e at held = (λ i. if e i then is_free_of holder u else was) ∙ sym (ap (λ (b : Bool). if b then is_free w.monitors n u else was) e)

  pub one_is : slice_get ns k ≡ Some n → IsHeldSo ns w (OneMonitor o holder) → (if is_number o k then is_free_of holder u else was) ≡ (if is_number o k then is_free w.monitors n u else was)
  one_is at held = one_by (is_number o k) refl at held

-- a monitor that has a number
pub is_named : (ns : List Name) (k : ℕ) (n : Name) (o : Option Name) → o ≡ slice_get ns k → slice_get ns k ≡ Some n → o ≡ Some n
is_named ns k n o e at = e ∙ at
