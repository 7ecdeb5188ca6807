-- What a turn made is told by its event and the world after it.
use Rattle.std.proofs.Common.{◌≡◌, ℕ, zero, suc, true, false, List, [], ◌∷◌, Some, None, refl, sym, ap, subst}
use Rattle.std.proofs.Math.Bool.{true≢false}
use Rattle.std.specs.Prelude.{is_some, unwrap_or, slice_get, slice_set}
use Rattle.flow_labels.specs.declared.Label.{Label}
use Rattle.capabilities.specs.declared.Caps.{Caps}
use Rattle.lam_value.specs.declared.names.Name.{Name}
use Rattle.lam_value.specs.declared.values.Value.{Value}
use Rattle.lam_value.specs.declared.values.Value.TheVariants.{Obj, Arr}
use Rattle.lam_value.specs.Homes.{Home, home_of, name_of, count_in}
use Rattle.labelled_heap.specs.Things.{Things, most_things, slots_at, with_copy}
use Rattle.lam_asks.specs.declared.answer.Answer.{Answer}
use Rattle.lam_asks.specs.declared.answer.Answer.TheVariants.{Entered, Val}
use Rattle.lam_asks.specs.declared.answer.What.TheVariants.{Asked}
use Rattle.lam_asks.specs.declared.fault.Fault.TheVariants.{HomeFull}
use Rattle.lam_asks.specs.declared.ask.Ask.{Ask}
use Rattle.lam_asks.specs.declared.ask.Ask.TheVariants.{CopyTo, Enter}
use Rattle.lam_bytecode.specs.Codes.{CodeTree}
use Rattle.thread_steps.specs.Threads.{Inside, Context, Thread}
use Rattle.thread_steps.specs.Next.{Next, goes, asks, stuck, next_of, takes}
use Rattle.lam_machine_terms.specs.Worlds.{World, thread_at, contexts_in, with_thread}
use Rattle.lam_machine_terms.specs.Serves.{Served, full, name_in}
use Rattle.lam_machine_terms.specs.Serving.{renamed, publicly, serve}
use Rattle.lam_machine_terms.specs.Turns.{is_ready, Moment, served, turn_by}
use Rattle.lam_machine_laws.proofs.ThreadLemmas.{some_inj}
use Rattle.lam_machine_laws.proofs.RowLemmas.{RefersTo, may_release, served_proper}
use Rattle.lam_machine_laws.proofs.JudgedLemmas.{judged_by, refers}
use Rattle.lam_machine_laws.proofs.TurnLemmas.{acts, only}
use Rattle.lam_machine.proofs.StoreLemmas.{there_now}
use Rattle.audit_log_notes.specs.declared.Content.TheVariants as content
use Rattle.lam_machine_replay.specs.Told.{label_by, product_label, depth_in, depth_at, slots_under, IsToldBy, ProductsAreTold}

-- ---- the world after a turn

set_there : (t : ℕ) (xs : List Thread) (a : Thread) → is_some (slice_get xs t) ≡ true → slice_get (slice_set xs t a) t ≡ Some a
set_there t [] a e = absurd cc
set_there zero (x ∷ xs) a e = refl
set_there (suc t) (x ∷ xs) a e = set_there t xs a e

depth_there : (w : World) (t : ℕ) (th to : Thread) → thread_at w t ≡ Some th → depth_at (with_thread w t to) t ≡ depth_in to.contexts
depth_there w t th to e = ap (λ x. depth_in (contexts_in x)) (set_there t w.threads to (ap is_some e))

copied_slots : (h : Things) (n : Name) (home : Home) (r : Value) → RefersTo r n → slots_under (with_copy h n home) (renamed r (name_of home (count_in h.counts home))) ≡ slots_at h n
copied_slots h n home (Obj m) e = ap (λ x. unwrap_or x []) (there_now h.slots (name_of home (count_in h.counts home)) (slots_at h n))
copied_slots h n home (Arr m len) e = ap (λ x. unwrap_or x []) (there_now h.slots (name_of home (count_in h.counts home)) (slots_at h n))
copied_slots h n home v e = absurd e

-- ---- each ask

pub other_label : (x : Answer) (a : Ask) → may_release a ≡ false → label_by x a ≡ None
other_label Entered (Enter l k region args) e = absurd (true≢false e)
other_label (Val v) (CopyTo r l) e = absurd (true≢false e)
other_label x a e = refl

module _ (code : CodeTree) (w : World) (t : ℕ) (th : Thread) (c : Context) (rest : List Context) (i : Inside) (at : thread_at w t ≡ Some th) where
  abbrev Tells : Ask → Served → Type 0
  Tells a d = IsToldBy (served code w t th c rest a i d) (product_label (Asked a d.answer))

  entry_told : (l : Label) (k : Caps) (region : ℕ) (args : List Value) → Tells (Enter l k region args) (serve w c (Enter l k region args))
  entry_told l k region args =
      judged_by (Tells (Enter l k region args)) w (publicly w.public c) (Enter l k region args) (λ x e. refl) (λ f e g. refl)
      (λ e g. record {
        content = ap (λ d. Some (content.Context l k d region args)) (sym (depth_there w t th (takes code th c rest i (Enter l k region args) Entered) at));
        by = refl;
        shown = λ o. refl;
        down = refl;
      })

  copy_told : (r : Value) (l : Label) → Tells (CopyTo r l) (serve w c (CopyTo r l))
  copy_told r l =
      let home = home_of c.label l in
      judged_by (Tells (CopyTo r l)) w (publicly w.public c) (CopyTo r l) (λ x e. refl) (λ f e g. refl)
      (λ e g. record {
        content =
            ap (λ s. Some (content.Thing (renamed r (name_of home (count_in w.heap.counts home))) s))
            (sym (copied_slots w.heap (name_in r) home r (refers r (λ n. full (count_in w.heap.counts home) most_things HomeFull) g)));
        by = refl;
        shown = λ o. refl;
        down = refl;
      })

  row_told : (a : Ask) → Tells a (serve w c a)
  row_told (CopyTo r l) = copy_told r l
  row_told (Enter l k region args) = entry_told l k region args
  row_told a =
      subst (λ l. IsToldBy (served code w t th c rest a i (serve w c a)) l) (sym (other_label (serve w c a).answer a refl)) ((served_proper w c a).above refl)

next_told : (code : CodeTree) (w : World) (t : ℕ) (th : Thread) (c : Context) (rest : List Context) (nx : Next) (m : Moment) → thread_at w t ≡ Some th → turn_by code w t th c rest nx ≡ Some m → IsToldBy m (product_label m.event.what)
next_told code w t th c rest (goes i) m at h = subst (λ (x : Moment). IsToldBy x (product_label x.event.what)) (some_inj _ m h) refl
next_told code w t th c rest (asks a i) m at h =
    subst (λ (x : Moment). IsToldBy x (product_label x.event.what)) (only (is_ready w t c a) (served code w t th c rest a i (serve w c a)) m h).1
    (row_told code w t th c rest i at a)
next_told code w t th c rest stuck m at h = absurd cc

pub products_told : (code : CodeTree) → ProductsAreTold code
products_told code w t m h =
    let a = acts code w t m h in
    next_told code w t a.thread a.top a.rest (next_of code a.top) m a.at a.gives
