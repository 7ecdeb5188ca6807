-- Which turns make something that is not above the acting label.
use Rattle.std.proofs.Common.{◌≡◌, ℕ, Bool, true, false, List, Option, Some, None, refl, sym, ◌∙◌, subst}
use Rattle.std.specs.Prelude.{not}
use Rattle.std.proofs.Math.Bool.{true≢false}
use Rattle.flow_labels.specs.declared.Label.{Label}
use Rattle.flow_labels.specs.Flow.{flows}
use Rattle.lam_machine_effects.specs.Answer.{Answer}
use Rattle.lam_machine_effects.specs.What.TheVariants.{Asked}
use Rattle.lam_machine_effects.specs.Ask.{Ask}
use Rattle.lam_machine_effects.specs.Ask.TheVariants.{CopyTo, Enter}
use Rattle.lam_machine_effects.specs.Codes.{CodeTree}
use Rattle.lam_machine_effects.specs.Threads.{Context, Thread}
use Rattle.lam_machine_effects.specs.Next.{Next, goes, asks, stuck, next_of}
use Rattle.lam_machine_effects.specs.Worlds.{World}
use Rattle.lam_machine_effects.specs.Serves.{Made, made_label}
use Rattle.lam_machine_effects.specs.Serving.{serve}
use Rattle.lam_machine_effects.specs.Turns.{is_ready, Moment, served, turn_by}
use Rattle.lam_machine_effects.specs.Views.{goes_down, is_release, shows}
use Rattle.lam_machine_laws.specs.Isolation.{IsEntryOrCopy, TwoAsksRelease}
use Rattle.lam_machine_laws.proofs.FlowLemmas.{both_true, flows_trans}
use Rattle.lam_machine_laws.proofs.ThreadLemmas.{some_inj}
use Rattle.lam_machine_laws.proofs.RowLemmas.{may_release, served_proper}
use Rattle.lam_machine_laws.proofs.TurnLemmas.{acts, only}

releaser : (a : Ask) (x : Answer) → may_release a ≡ true → IsEntryOrCopy (Asked a x)
releaser (CopyTo r l) x e = tt
releaser (Enter l k region args) x e = tt
releaser a x e = absurd cc

by_row : (a : Ask) (x : Answer) (p : Label) (m : Option Made) → (may_release a ≡ false → goes_down p m ≡ false) → goes_down p m ≡ true → IsEntryOrCopy (Asked a x)
by_row a x p m above down = go (may_release a) refl
  where
    go : (b : Bool) → may_release a ≡ b → IsEntryOrCopy (Asked a x)
    go true e = releaser a x e
    go false e = absurd (true≢false (sym down ∙ above e))

by_next : (code : CodeTree) (w : World) (t : ℕ) (th : Thread) (c : Context) (rest : List Context) (nx : Next) (m : Moment) → turn_by code w t th c rest nx ≡ Some m → is_release m ≡ true → IsEntryOrCopy m.event.what
by_next code w t th c rest (goes i) m h = subst (λ x. is_release x ≡ true → IsEntryOrCopy x.event.what) (some_inj _ m h) (λ e. absurd (true≢false (sym e)))
by_next code w t th c rest (asks a i) m h =
    let d = serve w c a in
    subst (λ x. is_release x ≡ true → IsEntryOrCopy x.event.what) (only (is_ready w t c a) (served code w t th c rest a i d) m h).1
    (λ e. by_row a d.answer c.label d.made (served_proper w c a).above e)
by_next code w t th c rest stuck m h = absurd cc

-- ---- past some observer

past_down : (p l o : Label) → flows p o ≡ false → flows l o ≡ true → not (flows p l) ≡ true
past_down p l o hid seen = go (flows p l) refl
  where
    go : (b : Bool) → flows p l ≡ b → not b ≡ true
    go true e = absurd (true≢false (sym (flows_trans p l o e seen) ∙ hid))
    go false e = refl

not_true : (b : Bool) → not b ≡ true → b ≡ false
not_true true e = sym e
not_true false e = refl

past_release : (o p : Label) (m : Option Made) → not (flows p o) ≡ true → shows o m ≡ true → goes_down p m ≡ true
past_release o p None h e = e
past_release o p (Some m) h e = past_down p (made_label m) o (not_true (flows p o) h) e

pub two_release : (code : CodeTree) → TwoAsksRelease code
two_release code =
    record {
      by_two = λ w t m h. let a = acts code w t m h in by_next code w t a.thread a.top a.rest (next_of code a.top) m a.gives;
      past = λ o m h. let p = both_true (not (flows m.event.label o)) (shows o m.made) h in past_release o m.event.label m.made p.0 p.1;
    }
