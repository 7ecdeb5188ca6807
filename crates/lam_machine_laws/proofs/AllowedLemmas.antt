-- Each release passes the change rule, and uses what its context holds or is public.
use Rattle.std.proofs.Common.{◌≡◌, ℕ, ◌+◌, true, false, List, [], ◌∷◌, ◌++◌, Option, Some, None, refl, sym, ap, ◌∙◌, subst}
use Rattle.std.proofs.Math.Bool.{true≢false}
use Rattle.std.specs.FinSet.{difference, is_subset}
use Rattle.flow_labels.specs.Tags.{Tags, least}
use Rattle.flow_labels.proofs.TagLemmas.{none-is_subset}
use Rattle.flow_labels.specs.declared.Label.{Label}
use Rattle.flow_labels.specs.declared.Rule.{Rule}
use Rattle.flow_labels.specs.declared.Rule.TheVariants.{AddS, DropS, AddI, DropI, Caps as caps_rule}
use Rattle.flow_labels.specs.Failing.{denied_or, first_failing, read_test}
use Rattle.lam_machine_effects.specs.Caps.{Caps}
use Rattle.lam_machine_effects.specs.Changes.{MayChange, Covers, joined, used, change_test, covers_test}
use Rattle.lam_value.specs.declared.values.Value.{Value}
use Rattle.lam_value.specs.Homes.{home_of, name_of, count_in}
use Rattle.lam_machine_effects.specs.Things.{most_things, slots_at}
use Rattle.lam_machine_effects.specs.Fault.TheVariants.{HomeFull}
use Rattle.lam_machine_effects.specs.Ask.{Ask}
use Rattle.lam_machine_effects.specs.Ask.TheVariants.{CopyTo, Enter}
use Rattle.lam_machine_effects.specs.Codes.{CodeTree}
use Rattle.lam_machine_effects.specs.Threads.{Context, Thread}
use Rattle.lam_machine_effects.specs.Next.{Next, goes, asks, stuck, next_of}
use Rattle.lam_machine_effects.specs.Worlds.{World, contexts_in}
use Rattle.lam_machine_effects.specs.Serves.{Made, a_region, a_thing, made_label, Served, full, name_in}
use Rattle.lam_machine_effects.specs.Serving.{renamed, served_by, publicly, serve}
use Rattle.lam_machine_effects.specs.Turns.{is_ready, Moment, served, turn_by}
use Rattle.lam_machine_effects.specs.Views.{goes_down, is_release, used_by}
use Rattle.lam_machine_laws.proofs.FlowLemmas.{each_passes}
use Rattle.lam_machine_laws.proofs.ThreadLemmas.{some_inj}
use Rattle.lam_machine_laws.proofs.RowLemmas.{served_proper}
use Rattle.lam_machine_laws.proofs.JudgedLemmas.{judged_by, tested}
use Rattle.lam_machine_laws.proofs.TurnLemmas.{acts, only}
use Rattle.lam_machine_laws.specs.Laws.{IsAllowed, ReleasesAreAllowed}

-- ---- rules

one_or : (r : Rule) (x : Option ℕ) → denied_or r x None ≡ None → x ≡ None
one_or r None e = refl
one_or r (Some t) e = absurd cc

one_passes : (r : Rule) (s t : Tags) → first_failing ((r, difference s t) ∷ []) ≡ None → is_subset s t ≡ true
one_passes r s t e = none-is_subset s t (one_or r (least (difference s t)) e)

pub change_passes : (k : Caps) (x y : Label) → first_failing (change_test k x y) ≡ None → MayChange k x y
change_passes k x y e =
    let add_s : Rule × Tags = (AddS, difference (difference y.s x.s) k.plus) in
    let drop_s : Rule × Tags = (DropS, difference (difference x.s y.s) k.minus) in
    let add_i : Rule × Tags = (AddI, difference (difference y.i x.i) k.plus) in
    let drop_i : Rule × Tags = (DropI, difference (difference x.i y.i) k.minus) in
    let a = each_passes (add_s ∷ []) (drop_s ∷ add_i ∷ drop_i ∷ []) e in
    let b = each_passes (drop_s ∷ []) (add_i ∷ drop_i ∷ []) a.1 in
    let c = each_passes (add_i ∷ []) (drop_i ∷ []) b.1 in
    record {
      add_s = one_passes AddS (difference y.s x.s) k.plus a.0;
      drop_s = one_passes DropS (difference x.s y.s) k.minus b.0;
      add_i = one_passes AddI (difference y.i x.i) k.plus c.0;
      drop_i = one_passes DropI (difference x.i y.i) k.minus c.1;
    }

pub covers_passes : (k d : Caps) → first_failing (covers_test k d) ≡ None → Covers k d
covers_passes k d e =
    let a = each_passes ((caps_rule, difference d.plus k.plus) ∷ []) ((caps_rule, difference d.minus k.minus) ∷ []) e in
    record { plus = one_passes caps_rule d.plus k.plus a.0; minus = one_passes caps_rule d.minus k.minus a.1 }

-- what a release uses is what the change of its label asks for
used_held : (k : Caps) (x y : Label) → MayChange k x y → Covers k (used x y)
used_held k x y m = record { plus = m.add_i; minus = m.drop_s }

-- ---- the two asks

-- what is made is what the context may change its label to
abbrev Fair : Context → Served → Type 0
Fair c d = (m : Made) → d.made ≡ Some m → first_failing (change_test c.caps c.label (made_label m)) ≡ None

none_made : {X : Type 0} (m : Made) → None ≡ Some m → X
none_made m e = absurd cc

fair : (c : Context) (n m : Made) → first_failing (change_test c.caps c.label (made_label n)) ≡ None → Some n ≡ Some m → first_failing (change_test c.caps c.label (made_label m)) ≡ None
fair c n m h e = subst (λ m. first_failing (change_test c.caps c.label (made_label m)) ≡ None) (some_inj n m e) h

copy_fair : (w : World) (c : Context) (r : Value) (l : Label) → Fair c (served_by w c (CopyTo r l))
copy_fair w c r l =
    judged_by (Fair c) w c (CopyTo r l) (λ x e m q. none_made m q) (λ f e g m q. none_made m q)
    (λ e g m q.
    let n = name_in r in
    let t = tested r (λ n. read_test c.label n.own ++ (change_test c.caps n.own l ++ change_test c.caps c.label l)) (λ n. full (count_in w.heap.counts (home_of c.label l)) most_things HomeFull) g e in
    let a = each_passes (read_test c.label n.own) (change_test c.caps n.own l ++ change_test c.caps c.label l) t in
    let b = each_passes (change_test c.caps n.own l) (change_test c.caps c.label l) a.1 in
    let home = home_of c.label l in
    fair c (a_thing (name_of home (count_in w.heap.counts home)) (renamed r (name_of home (count_in w.heap.counts home))) (slots_at w.heap n)) m b.1 q)

entry_fair : (w : World) (c : Context) (l : Label) (k : Caps) (region : ℕ) (args : List Value) → Fair c (served_by w c (Enter l k region args))
entry_fair w c l k region args =
    judged_by (Fair c) w c (Enter l k region args) (λ x e m q. none_made m q) (λ f e g m q. none_made m q)
    (λ e g m q. fair c (a_region l k (c.depth + 1) region args) m (each_passes (change_test c.caps c.label l) (covers_test c.caps k) e).0 q)

no_release : (w : World) (c : Context) (a : Ask) (m : Made) {X : Type 0} → goes_down c.label (serve w c a).made ≡ false → (serve w c a).made ≡ Some m → goes_down c.label (Some m) ≡ true → X
no_release w c a m above e down = absurd (true≢false (sym down ∙ ap (goes_down c.label) (sym e) ∙ above))

fair_row : (w : World) (c : Context) (a : Ask) (m : Made) → (serve w c a).made ≡ Some m → goes_down c.label (Some m) ≡ true → first_failing (change_test (joined c.caps w.public) c.label (made_label m)) ≡ None
fair_row w c (CopyTo r l) m e down = copy_fair w (publicly w.public c) r l m e
fair_row w c (Enter l k region args) m e down = entry_fair w (publicly w.public c) l k region args m e
fair_row w c a m e down = no_release w c a m ((served_proper w c a).above refl) e down

-- ---- turns

allowed_made : (w : World) (t : ℕ) (c : Context) (a : Ask) (m : Moment) (x : Option Made) → m.event.label ≡ c.label → m.made ≡ x → (serve w c a).made ≡ x → goes_down c.label x ≡ true → IsAllowed w.public c m
allowed_made w t c a m None l e d down = absurd (true≢false (sym down))
allowed_made w t c a m (Some made) l e d down =
    let k = joined c.caps w.public in
    let may = change_passes k c.label (made_label made) (fair_row w c a made d down) in
    record {
      made = made;
      it = e;
      may = may;
      by = ap (λ p. used_by p m.made) l ∙ ap (used_by c.label) e;
      held = used_held k c.label (made_label made) may;
    }

by_next : (code : CodeTree) (w : World) (t : ℕ) (th : Thread) (c : Context) (rest : List Context) (nx : Next) (m : Moment) → turn_by code w t th c rest nx ≡ Some m → is_release m ≡ true → IsAllowed w.public c m
by_next code w t th c rest (goes i) m h = subst (λ x. is_release x ≡ true → IsAllowed w.public c x) (some_inj _ m h) (λ e. absurd (true≢false (sym e)))
by_next code w t th c rest (asks a i) m h =
    let d = serve w c a in
    subst (λ x. is_release x ≡ true → IsAllowed w.public c x) (only (is_ready w t c a) (served code w t th c rest a i d) m h).1
    (λ e. allowed_made w t c a (served code w t th c rest a i d) d.made refl refl refl e)
by_next code w t th c rest stuck m h = absurd cc

pub releases_allowed : (code : CodeTree) → ReleasesAreAllowed code
releases_allowed code w t m h e =
    let a = acts code w t m h in
    (a.top, a.rest, ap contexts_in a.at ∙ a.list, by_next code w t a.thread a.top a.rest (next_of code a.top) m a.gives e)
