-- What a turn leaves known of the other threads, by the ask that it was.
use Rattle.std.proofs.Common.{◌≡◌, ℕ, zero, suc, Bool, true, false, not, List, [], ◌∷◌, Option, Some, None, length, refl, sym, ap, ◌∙◌, subst, arith, ◌<◌, cond, true≢false}
use Rattle.std.specs.Prelude.{slice_get}
use Rattle.std.specs.FinMap.{get, get-insert, get-remove}
use Rattle.std.specs.Ordering.{eq_by_cmp}
use Rattle.std.proofs.lemmas.Option.{slice_get_within}
use Rattle.lam_value.specs.declared.names.Name.{Name}
use Rattle.lam_value.specs.declared.values.Value.{Value}
use Rattle.lam_value.specs.declared.values.Value.TheVariants.{Obj, Arr}
use Rattle.lam_value.specs.Names.{name_cmp, name_eq}
use Rattle.lam_value.proofs.Keys.{name_total, name_exact, name_ties}
use Rattle.lam_value.proofs.Rows.{is_same}
use Rattle.lam_asks.specs.declared.ask.Ask.{Ask}
use Rattle.lam_asks.specs.declared.ask.Ask.TheVariants.{MonEnter, MonLeave, End}
use Rattle.lam_asks.specs.declared.answer.Outcome.{Outcome}
use Rattle.lam_asks.specs.declared.answer.Answer.{Answer}
use Rattle.lam_asks.specs.declared.answer.What.{What}
use Rattle.lam_asks.specs.declared.answer.What.TheVariants.{Private, Asked}
use Rattle.monitor_core.specs.declared.Holder.{Holder}
use Rattle.monitor_core.specs.Held.{Held, is_free_of, entered, one_less, held_by, once_more}
use Rattle.lam_bytecode.specs.Codes.{CodeTree}
use Rattle.thread_core_effects.specs.Reading.{thing_in}
use Rattle.thread_steps.specs.Threads.{Context, Thread}
use Rattle.thread_steps.specs.Next.{Next, goes, asks, stuck, next_of, result_after, takes}
use Rattle.thread_core_stretches.specs.Turning.{Awaited, nobody}
use Rattle.lam_machine_terms.specs.Worlds.{World, thread_at, with_thread}
use Rattle.lam_machine_terms.specs.Serves.{Served, Effect, nothing, effect_of}
use Rattle.lam_machine_terms.specs.Serving.{publicly, serve}
use Rattle.lam_machine_terms.specs.Turns.{is_living, is_ready, Moment, goes_on, served, turn_by, step}
use Rattle.lam_machine_laws.specs.Judged.{deed_by, fault_by}
use Rattle.lam_machine_laws.proofs.JudgedLemmas.{judged_by}
use Rattle.lam_machine_laws.proofs.ThreadLemmas.{some_inj}
use Rattle.lam_machine_laws.proofs.TurnLemmas.{acts, only}
use Rattle.lam_machine_laws.proofs.OwnLemmas.{touch}
use Rattle.thread_host_run.specs.Readiness.{waits_on}
use Rattle.thread_host_run.specs.Waiting.{awaited_at, IsAwaited, Tells, TellsBut, AllTell, is_stale, Touches}
use Rattle.thread_host_run.specs.Kept.{IsAsk, IsOfMonitor, OthersTell}
use Rattle.thread_host_run.specs.Quiet.{touches_others, is_quiet}
use Rattle.thread_host_run.specs.declared.waits.Awaits.{Awaits}
use Rattle.thread_host_run.specs.declared.waits.Awaits.TheVariants.{Nobody, Monitor, Unknown}
use Rattle.thread_host_run.specs.declared.waits.Awaits.TheVariants as awaits
use Rattle.thread_host_run.specs.declared.waits.Prospect.{Prospect}
use Rattle.thread_host_run.specs.declared.waits.Touched.{Touched}
use Rattle.thread_host_run.specs.declared.waits.Touched.TheVariants.{Everything}
use Rattle.thread_host_run.proofs.WaitingLemmas.{ready_still}
use Rattle.thread_host_run.proofs.Others.{living_set}

-- ---- the other monitors

other_name : (n r : Name) → (r ≡ n → ⊥) → eq_by_cmp name_cmp n r ≡ false
other_name n r ne = by (name_eq n r) refl
  where
    by : (b : Bool) → name_eq n r ≡ b → eq_by_cmp name_cmp n r ≡ false
    by true e = absurd (ne (sym (is_same name_eq name_total name_exact name_ties n r e)))
    by false e = sym (name_ties n r) ∙ e

entered_other : (m : Held) (r n : Name) (t : ℕ) → (r ≡ n → ⊥) → get (entered m r t) n ≡ get m n
entered_other m r n t ne = get-insert name_total m r (once_more (get m r) t) n ∙ ap (λ b. cond b (Some (once_more (get m r) t)) (get m n)) (other_name n r ne)

held_other : (o : Option Holder) (m : Held) (r n : Name) → (r ≡ n → ⊥) → get (held_by o m r) n ≡ get m n
held_other None m r n ne = get-remove name_total m r n ∙ ap (λ b. cond b None (get m n)) (other_name n r ne)
held_other (Some h) m r n ne = get-insert name_total m r h n ∙ ap (λ b. cond b (Some h) (get m n)) (other_name n r ne)

-- ---- what an ask of a monitor does to the others, and to the threads

record IsAside (code : CodeTree) (t : ℕ) (r : Value) (e : Effect) : Type 0 where
  monitors : (w : World) (n : Name) → (thing_in r ≡ Some n → ⊥) → get (effect_of code t e w).monitors n ≡ get w.monitors n
  threads : (w : World) → (effect_of code t e w).threads ≡ w.threads

abbrev IsMonitorAsk : Value → Ask → Type 0
IsMonitorAsk r (MonEnter q) = q ≡ r
IsMonitorAsk r (MonLeave q) = q ≡ r
IsMonitorAsk r a = ⊥

none_aside : (code : CodeTree) (t : ℕ) (r : Value) → IsAside code t r nothing
none_aside code t r = record { monitors = λ w n ne. refl; threads = λ w. refl }

entered_aside : (code : CodeTree) (t : ℕ) (at : World) (c : Context) (q : Value) → fault_by at c (MonEnter q) ≡ None → IsAside code t q (deed_by at c (MonEnter q)).effect
entered_aside code t at c (Obj m) g = record { monitors = λ w n ne. entered_other w.monitors m n t (λ f. ne (ap (λ x. Some x) f)); threads = λ w. refl }
entered_aside code t at c (Arr m len) g = record { monitors = λ w n ne. entered_other w.monitors m n t (λ f. ne (ap (λ x. Some x) f)); threads = λ w. refl }
entered_aside code t at c q g = absurd cc

left_aside : (code : CodeTree) (t : ℕ) (at : World) (c : Context) (q : Value) → fault_by at c (MonLeave q) ≡ None → IsAside code t q (deed_by at c (MonLeave q)).effect
left_aside code t at c (Obj m) g = record { monitors = λ w n ne. held_other (one_less (get w.monitors m) t) w.monitors m n (λ f. ne (ap (λ x. Some x) f)); threads = λ w. refl }
left_aside code t at c (Arr m len) g = record { monitors = λ w n ne. held_other (one_less (get w.monitors m) t) w.monitors m n (λ f. ne (ap (λ x. Some x) f)); threads = λ w. refl }
left_aside code t at c q g = absurd cc

deed_aside : (code : CodeTree) (t : ℕ) (w : World) (c : Context) (r : Value) (a : Ask) → IsMonitorAsk r a → fault_by w c a ≡ None → IsAside code t r (deed_by w c a).effect
deed_aside code t w c r (MonEnter q) h g = subst (λ (v : Value). IsAside code t v (deed_by w c (MonEnter q)).effect) h (entered_aside code t w c q g)
deed_aside code t w c r (MonLeave q) h g = subst (λ (v : Value). IsAside code t v (deed_by w c (MonLeave q)).effect) h (left_aside code t w c q g)
deed_aside code t w c r a h g = absurd h

serve_aside : (code : CodeTree) (t : ℕ) (w : World) (c : Context) (r : Value) (a : Ask) → IsMonitorAsk r a → IsAside code t r (serve w c a).effect
serve_aside code t w c r a h =
    judged_by (λ (d : Served). IsAside code t r d.effect) w (publicly w.public c) a (λ x e. none_aside code t r) (λ f e g. none_aside code t r)
    (λ e g. deed_aside code t w (publicly w.public c) r a h g)

-- ---- a turn that was such an ask

monitor_ask : (r : Value) (a : Ask) (x : Answer) → IsOfMonitor r (Asked a x) → IsMonitorAsk r a
monitor_ask r (MonEnter q) x h = h
monitor_ask r (MonLeave q) x h = h
monitor_ask r a x h = absurd h

result_kept : (r : Value) (old : Option Outcome) (a : Ask) → IsMonitorAsk r a → result_after old a ≡ old
result_kept r old (End outcome) h = absurd h
result_kept r old a h = refl

-- all other monitors have their holders, and who lives lives
pub record LeavesOthers (w : World) (r : Value) (after : World) : Type 0 where
  pub monitors : (n : Name) → (thing_in r ≡ Some n → ⊥) → get after.monitors n ≡ get w.monitors n
  pub living : (u : ℕ) → is_living (thread_at after u) ≡ is_living (thread_at w u)

leaves_by : (code : CodeTree) (w : World) (t : ℕ) (th : Thread) (c : Context) (rest : List Context) (nx : Next) (m : Moment) → thread_at w t ≡ Some th → turn_by code w t th c rest nx ≡ Some m
    → (r : Value) → IsOfMonitor r m.event.what → LeavesOthers w r m.world
leaves_by code w t th c rest (goes i) m at h r k =
    let e = ap (λ (x : Moment). x.event.what) (some_inj (goes_on w t th c rest i) m h) in
    absurd (subst (IsOfMonitor r) (sym e) k)
leaves_by code w t th c rest (asks a i) m at h r k =
    let d = serve w c a in
    let to = takes code th c rest i a d.answer in
    let is = (only (is_ready w t c a) (served code w t th c rest a i d) m h).1 in
    let ask = monitor_ask r a d.answer (subst (IsOfMonitor r) (sym (ap (λ (x : Moment). x.event.what) is)) k) in
    let leaves : effect_of code t d.effect (with_thread w t to) ≡ m.world = ap (λ (x : Moment). x.world) is in
    let aside = serve_aside code t w c r a ask in
    record {
      monitors = λ n ne. sym (ap (λ (v : World). get v.monitors n) leaves) ∙ aside.monitors (with_thread w t to) n ne;
      living = λ u.
          ap (λ (ths : List Thread). is_living (slice_get ths u)) (sym (ap (λ (v : World). v.threads) leaves) ∙ aside.threads (with_thread w t to))
          ∙ living_set w.threads t th to at (result_kept r th.result a ask) u;
    }
leaves_by code w t th c rest stuck m at h r k = absurd cc

leaves_others : (code : CodeTree) (w : World) (t : ℕ) (m : Moment) → step code w t ≡ Some m → (r : Value) → IsOfMonitor r m.event.what → LeavesOthers w r m.world
leaves_others code w t m h = let a = acts code w t m h in leaves_by code w t a.thread a.top a.rest (next_of code a.top) m a.at a.gives

-- ---- what is known of the other threads after a turn

missing : (ths : List Thread) (u : ℕ) → u < length ths → slice_get ths u ≡ None → ⊥
missing [] u lt e = absurd (omega (arith, lt))
missing (x ∷ ths) zero lt e = cc
missing (x ∷ ths) (suc u) lt e = missing ths u (omega (arith, lt)) e

others_at : (code : CodeTree) (w : World) (t : ℕ) (m : Moment) → step code w t ≡ Some m → (u : ℕ) → (u ≡ t → ⊥) → u < length w.threads → thread_at m.world u ≡ thread_at w u
others_at code w t m h u ne lt = by (thread_at w u) refl
  where
    by : (o : Option Thread) → thread_at w u ≡ o → thread_at m.world u ≡ thread_at w u
    by None e = absurd (missing w.threads u lt e)
    by (Some th) e = (touch code w t m h).others u th ne e ∙ sym e

still_but : (touched : Touched) (code : CodeTree) (w v : World) (ns : List Name) (u : ℕ) (p : Prospect) → thread_at v u ≡ thread_at w u
    → (is_stale touched p.awaits ≡ false → waits_on v u (awaited_at code (thread_at w u)) ≡ waits_on w u (awaited_at code (thread_at w u)))
    → Tells code w ns u p → TellsBut touched code v ns u p
still_but touched code w v ns u p same waits h = record {
  awaits = subst (λ o. IsAwaited ns p.awaits (awaited_at code o)) (sym same) h.awaits;
  ready = λ e. h.ready ∙ sym (ready_still code w v u same (waits e));
}

module _ (w v : World) (ns : List Name) (u : ℕ) where
  waits_nobody : (a : Awaited) → a ≡ nobody → waits_on v u a ≡ waits_on w u a
  waits_nobody a h = ap (waits_on v u) h ∙ sym (ap (waits_on w u) h)

  waits_through : (x : Awaits) (a : Awaited) → IsAwaited ns x a → is_stale Everything x ≡ false → waits_on v u a ≡ waits_on w u a
  waits_through Nobody a h e = waits_nobody a h
  waits_through (Monitor k) a h e = absurd cc
  waits_through (awaits.End y) a h e = absurd cc
  waits_through Unknown a h e = absurd cc

  waits_beside : (touched : Touched) (r : Value) → LeavesOthers w r v → Touches ns (thing_in r) touched → (x : Awaits) (a : Awaited) → IsAwaited ns x a → is_stale touched x ≡ false → waits_on v u a ≡ waits_on w u a
  waits_beside touched r l touches Nobody a h e = waits_nobody a h
  waits_beside touched r l touches (Monitor k) a h e =
      let n = h.0 in
      let ne : thing_in r ≡ Some n → ⊥ = λ f. true≢false (sym (touches k n h.1 f) ∙ e) in
      ap (waits_on v u) h.2 ∙ ap (λ o. not (is_free_of o u)) (l.monitors n ne) ∙ sym (ap (waits_on w u) h.2)
  waits_beside touched r l touches (awaits.End y) a h e = ap (waits_on v u) h ∙ l.living y ∙ sym (ap (waits_on w u) h)
  waits_beside touched r l touches Unknown a h e = absurd cc

module _ (code : CodeTree) (w : World) (t : ℕ) (m : Moment) (h : step code w t ≡ Some m) (ns : List Name) (ps : List Prospect) (all : AllTell code w ns ps) where
  here : (u : ℕ) (p : Prospect) → slice_get ps u ≡ Some p → u < length w.threads
  here u p at = let lt = slice_get_within ps u p at in omega (arith, lt, all.count)

  -- after any turn
  pub after_any : OthersTell Everything code m.world ns t ps
  after_any u p ne at =
      let old = all.each u p at in
      still_but Everything code w m.world ns u p (others_at code w t m h u ne (here u p at))
      (waits_through w m.world ns u p.awaits (awaited_at code (thread_at w u)) old.awaits) old

  -- after one that entered or left a monitor
  pub after_monitor : (touched : Touched) (r : Value) → IsOfMonitor r m.event.what → Touches ns (thing_in r) touched → OthersTell touched code m.world ns t ps
  after_monitor touched r k touches u p ne at =
      let old = all.each u p at in
      still_but touched code w m.world ns u p (others_at code w t m h u ne (here u p at))
      (waits_beside w m.world ns u touched r (leaves_others code w t m h r k) touches p.awaits (awaited_at code (thread_at w u)) old.awaits) old

-- ---- by the ask that a turn was

-- a monitor is entered or left
pub of_enter : (r : Value) (w : What) → IsAsk (MonEnter r) w → IsOfMonitor r w
of_enter r Private h = absurd h
of_enter r (Asked a x) h = subst (λ (b : Ask). IsOfMonitor r (Asked b x)) (sym h) refl

pub of_leave : (r : Value) (w : What) → IsAsk (MonLeave r) w → IsOfMonitor r w
of_leave r Private h = absurd h
of_leave r (Asked a x) h = subst (λ (b : Ask). IsOfMonitor r (Asked b x)) (sym h) refl

-- no monitor and no thread is touched
pub of_quiet : (a : Ask) (w : What) → touches_others a ≡ false → IsAsk a w → is_quiet w ≡ true
of_quiet a Private e h = absurd h
of_quiet a (Asked b x) e h = ap (λ (d : Ask). not (touches_others d)) h ∙ ap not e
