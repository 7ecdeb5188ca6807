-- A release is an entry or a copy, and what it made is kept.
use Rattle.std.proofs.Common.{◌≡◌, ℕ, ◌+◌, true, false, List, Option, Some, None, refl, sym, ap, ◌∙◌, subst}
use Rattle.std.proofs.Math.Bool.{true≢false}
use Rattle.flow_labels.specs.declared.Label.{Label}
use Rattle.capabilities.specs.declared.Caps.{Caps}
use Rattle.capabilities.specs.Changes.{used}
use Rattle.lam_value.specs.declared.values.Value.{Value}
use Rattle.lam_value.specs.Homes.{home_of, name_of, count_in}
use Rattle.labelled_heap.specs.Things.{slots_at}
use Rattle.lam_asks.specs.declared.answer.Answer.{Answer}
use Rattle.lam_asks.specs.declared.answer.Answer.TheVariants.{Entered, Val}
use Rattle.lam_asks.specs.declared.answer.What.{What}
use Rattle.lam_asks.specs.declared.answer.What.TheVariants.{Asked}
use Rattle.lam_asks.specs.declared.ask.Ask.{Ask}
use Rattle.lam_asks.specs.declared.ask.Ask.TheVariants.{CopyTo, Enter}
use Rattle.lam_bytecode.specs.Codes.{CodeTree}
use Rattle.thread_steps.specs.Threads.{Context, Thread}
use Rattle.thread_steps.specs.Next.{Next, goes, asks, stuck, next_of}
use Rattle.lam_machine_terms.specs.Worlds.{World}
use Rattle.lam_machine_terms.specs.Serves.{Made, a_region, a_thing, made_label, Served, name_in}
use Rattle.lam_machine_terms.specs.Serving.{renamed, publicly, serve}
use Rattle.lam_machine_terms.specs.Turns.{is_ready, Moment, served, turn_by}
use Rattle.lam_machine_terms.specs.Views.{goes_down, is_release, used_by}
use Rattle.lam_machine_laws.proofs.ThreadLemmas.{some_inj}
use Rattle.lam_machine_laws.proofs.RowLemmas.{served_proper}
use Rattle.lam_machine_laws.proofs.JudgedLemmas.{judged_by}
use Rattle.lam_machine_laws.proofs.TurnLemmas.{acts, only}
use Rattle.audit_log_notes.specs.Notes.{content_in, released}
use Rattle.audit_log_notes.specs.declared.Content.{Content}
use Rattle.audit_log_notes.specs.declared.Content.TheVariants.{Context as a_context, Thing}
use Rattle.lam_main_laws.specs.Whole.{IsEntryOrCopyOf, entry, copy, IsKept, IsTold, ReleasesAreTold}

-- ---- the two asks

-- what a service makes was asked for so, and answered so
abbrev Fits : Ask → Served → Type 0
Fits a d = (m : Made) → d.made ≡ Some m → IsEntryOrCopyOf (Asked a d.answer) (Some m)

none_made : {X : Type 0} (m : Made) → None ≡ Some m → X
none_made m e = absurd cc

made_fits : (a : Ask) (x : Answer) (n m : Made) → IsEntryOrCopyOf (Asked a x) (Some n) → Some n ≡ Some m → IsEntryOrCopyOf (Asked a x) (Some m)
made_fits a x n m h e = subst (λ k. IsEntryOrCopyOf (Asked a x) (Some k)) (some_inj n m e) h

copy_fits : (w : World) (c : Context) (r : Value) (l : Label) → Fits (CopyTo r l) (serve w c (CopyTo r l))
copy_fits w c r l =
    let name = name_of (home_of c.label l) (count_in w.heap.counts (home_of c.label l)) in
    let slots = slots_at w.heap (name_in r) in
    judged_by (Fits (CopyTo r l)) w (publicly w.public c) (CopyTo r l) (λ x e m q. none_made m q) (λ f e g m q. none_made m q)
    (λ e g m q. made_fits (CopyTo r l) (Val (renamed r name)) (a_thing name (renamed r name) slots) m (copy r l name (renamed r name) slots) q)

entry_fits : (w : World) (c : Context) (l : Label) (k : Caps) (region : ℕ) (args : List Value) → Fits (Enter l k region args) (serve w c (Enter l k region args))
entry_fits w c l k region args =
    judged_by (Fits (Enter l k region args)) w (publicly w.public c) (Enter l k region args) (λ x e m q. none_made m q) (λ f e g m q. none_made m q)
    (λ e g m q. made_fits (Enter l k region args) Entered (a_region l k (c.depth + 1) region args) m (entry l k (c.depth + 1) region args) q)

no_release : (w : World) (c : Context) (a : Ask) (m : Made) {X : Type 0} → goes_down c.label (serve w c a).made ≡ false → (serve w c a).made ≡ Some m → goes_down c.label (Some m) ≡ true → X
no_release w c a m above e down = absurd (true≢false (sym down ∙ ap (goes_down c.label) (sym e) ∙ above))

row_fits : (w : World) (c : Context) (a : Ask) (m : Made) → (serve w c a).made ≡ Some m → goes_down c.label (Some m) ≡ true → IsEntryOrCopyOf (Asked a (serve w c a).answer) (Some m)
row_fits w c (CopyTo r l) m e down = copy_fits w c r l m e
row_fits w c (Enter l k region args) m e down = entry_fits w c l k region args m e
row_fits w c a m e down = no_release w c a m ((served_proper w c a).above refl) e down

-- ---- what is kept

content_of_one : (what : What) (x : Option Made) → IsEntryOrCopyOf what x → (c : Content) × (content_in x ≡ Some c)
content_of_one what x (entry l k d r xs) = (a_context l k d r xs, refl)
content_of_one what x (copy r own n v slots) = (Thing v slots, refl)

-- a release of what was made, with its content
kept_one : (m : Moment) (made : Made) (c : Content) → m.made ≡ Some made → content_in (Some made) ≡ Some c → IsKept m
kept_one m made c it told =
    record {
      made = made;
      it = it;
      content = c;
      told = told;
      kept =
          ap (λ x. released m.event.thread (content_in x) (used_by m.event.label x)) it
          ∙ ap (λ x. released m.event.thread x (Some (used m.event.label (made_label made)))) told;
    }

told_made : (w : World) (t : ℕ) (c : Context) (a : Ask) (m : Moment) (x : Option Made) → m.event.what ≡ Asked a (serve w c a).answer → m.made ≡ x → (serve w c a).made ≡ x → goes_down c.label x ≡ true → IsTold m
told_made w t c a m None what e d down = absurd (true≢false (sym down))
told_made w t c a m (Some made) what e d down =
    let fits = row_fits w c a made d down in
    let content = content_of_one (Asked a (serve w c a).answer) (Some made) fits in
    record {
      form = subst (λ x. IsEntryOrCopyOf x m.made) (sym what) (subst (IsEntryOrCopyOf (Asked a (serve w c a).answer)) (sym e) fits);
      kept = kept_one m made content.0 e content.1;
    }

-- ---- turns

by_next : (code : CodeTree) (w : World) (t : ℕ) (th : Thread) (c : Context) (rest : List Context) (nx : Next) (m : Moment) → turn_by code w t th c rest nx ≡ Some m → is_release m ≡ true → IsTold m
by_next code w t th c rest (goes i) m h = subst (λ x. is_release x ≡ true → IsTold x) (some_inj _ m h) (λ e. absurd (true≢false (sym e)))
by_next code w t th c rest (asks a i) m h =
    let d = serve w c a in
    subst (λ x. is_release x ≡ true → IsTold x) (only (is_ready w t c a) (served code w t th c rest a i d) m h).1
    (λ e. told_made w t c a (served code w t th c rest a i d) d.made refl refl refl e)
by_next code w t th c rest stuck m h = absurd cc

pub releases_told : (code : CodeTree) → ReleasesAreTold code
releases_told code w t m h e =
    let a = acts code w t m h in
    by_next code w t a.thread a.top a.rest (next_of code a.top) m a.gives e
