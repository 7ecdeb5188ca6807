-- What the effect of each ask needs is what its tests and its fault have found.
use Rattle.std.proofs.Common.{◌≡◌, ℕ, Bool, true, false, not, ◌&&◌, Option, Some, None, refl, sym, subst}
use Rattle.std.specs.Prelude.{IsTrue, is_none}
use Rattle.std.specs.FinMap.{contains_key}
use Rattle.flow_labels.specs.declared.Label.{Label}
use Rattle.flow_labels.specs.declared.Denied.{Denied}
use Rattle.flow_labels.specs.Failing.{first_failing, same_test}
use Rattle.lam_value.specs.Homes.{home_of, count_in}
use Rattle.lam_value.specs.declared.names.Name.{Name}
use Rattle.lam_value.specs.declared.values.Value.{Value}
use Rattle.lam_value.specs.declared.values.Value.TheVariants.{Obj, Arr}
use Rattle.lam_machine_effects.specs.Things.{most_things}
use Rattle.lam_machine_effects.specs.Held.{Held, most_takings, is_free, takings}
use Rattle.lam_machine_effects.specs.Ask.{Ask}
use Rattle.lam_machine_effects.specs.Ask.TheVariants as ask
use Rattle.lam_machine_effects.specs.Fault.TheVariants.{Deep, HomeFull}
use Rattle.lam_machine_effects.specs.Threads.{Context}
use Rattle.lam_machine_effects.specs.Worlds.{World}
use Rattle.lam_machine_effects.specs.Serves.{Served, full, name_in}
use Rattle.lam_machine_effects.specs.Serving.{publicly, serve}
use Rattle.lam_machine_effects.specs.Turns.{is_taken, is_ready}
use Rattle.lam_machine_laws.proofs.Full.{not_full, no_fault}
use Rattle.lam_machine_laws.proofs.JudgedLemmas.{RefersTo, judged_by, refers, followed, tested}
use Rattle.lam_machine_laws.specs.Judged.{fault_by, deed_by}
use Rattle.lam_machine_laws.specs.Sound.{ThingLives, CopiesLiving}
use Rattle.lam_machine_laws.specs.Tests.{tests_of}
use Rattle.lam_machine_effects.specs.Parts.{stores_of}
use Rattle.lam_machine_effects.specs.Room.{HasRoom}

-- a monitor at the acting label for which the thread does not wait is free for it
passes_free : (x : Option Denied) (b : Bool) → x ≡ None → not (is_none x && not b) ≡ true → b ≡ true
passes_free None true e h = refl
passes_free None false e h = absurd cc
passes_free (Some d) b e h = absurd cc

free_thing : (m : Held) (t : ℕ) (p : Label) (k n : Name) → k ≡ n → not (is_none (first_failing (same_test p k.own)) && not (is_free m k t)) ≡ true → first_failing (same_test p n.own) ≡ None → is_free m n t ≡ true
free_thing m t p k n e h f =
    let back : first_failing (same_test p k.own) ≡ None = subst (λ (q : Name). first_failing (same_test p q.own) ≡ None) (sym e) f in
    subst (λ q. is_free m q t ≡ true) e (passes_free (first_failing (same_test p k.own)) (is_free m k t) back h)

free : (w : World) (t : ℕ) (p : Label) (r : Value) (n : Name) → RefersTo r n → not (is_taken w t p r) ≡ true → first_failing (same_test p n.own) ≡ None → is_free w.monitors n t ≡ true
free w t p (Obj k) n e h f = free_thing w.monitors t p k n e h f
free w t p (Arr k len) n e h f = free_thing w.monitors t p k n e h f
free w t p v n e h f = absurd e

-- what is copied lives
living : (w : World) (r : Value) (n : Name) → RefersTo r n → ThingLives w r → IsTrue (contains_key w.heap.slots n)
living w (Obj m) n e h = subst (λ k. IsTrue (contains_key w.heap.slots k)) e h
living w (Arr m len) n e h = subst (λ k. IsTrue (contains_key w.heap.slots k)) e h
living w v n e h = absurd e

abbrev Room : ℕ → World → Served → Type 0
Room t w d = HasRoom t d.effect (stores_of w)

module _ (w : World) (t : ℕ) (c : Context) where
  -- the context as it is served: what is public counts as held
  abbrev served : Context
  served = publicly w.public c

  done_room : (a : Ask) → is_ready w t c a ≡ true → CopiesLiving w a → first_failing (tests_of w served a) ≡ None → fault_by w served a ≡ None → Room t w (deed_by w served a)
  done_room (ask.New shape) r h e g = not_full _ _ _ g
  done_room (ask.CopyTo v l) r h e g =
      let fault = λ (n : Name). full (count_in w.heap.counts (home_of c.label l)) most_things HomeFull in
      (living w v (name_in v) (refers v fault g) h, not_full _ _ _ (followed v fault g))
  done_room ask.Mint r h e g = not_full _ _ _ g
  done_room (ask.MonEnter v) r h e g =
      let fault = λ (n : Name). full (takings w.monitors n) most_takings Deep in
      (free w t c.label v (name_in v) (refers v fault g) r (tested v (λ n. same_test c.label n.own) fault g e), not_full _ _ _ (followed v fault g))
  done_room (ask.MakeFile d text l) r h e g = no_fault _ g
  done_room (ask.MakeDir d text l) r h e g = no_fault _ g
  done_room (ask.MakePipe l) r h e g = not_full _ _ _ g
  done_room a r h e g = tt

  pub room_row : (a : Ask) → is_ready w t c a ≡ true → CopiesLiving w a → Room t w (serve w c a)
  room_row a r h = judged_by (Room t w) w served a (λ x e. tt) (λ f e g. tt) (λ e g. done_room a r h e g)
