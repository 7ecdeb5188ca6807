-- Each ask once: what its service makes and changes, where the acting context is unseen and where it is seen.
use Rattle.std.proofs.Common.{◌≡◌, Bool, true, false, List, [], ◌∷◌, ◌++◌, Some, None, refl, sym, ap, ◌∙◌, subst}
use Rattle.std.specs.Prelude.{not}
use Rattle.std.specs.List.{AllByRecursion}
use Rattle.std.proofs.Math.Bool.{true≢false}
use Rattle.flow_labels.specs.declared.Label.{Label}
use Rattle.flow_labels.specs.Flow.{flows, public_label}
use Rattle.flow_labels.specs.Failing.{first_failing, read_test, write_test, same_test}
use Rattle.lam_machine_effects.specs.Caps.{Caps}
use Rattle.lam_machine_effects.specs.Changes.{joined, change_test, covers_test}
use Rattle.lam_value.specs.declared.names.Name.{Name}
use Rattle.lam_value.specs.declared.values.Value.{Value}
use Rattle.lam_value.specs.declared.values.Value.TheVariants.{Obj, Arr}
use Rattle.lam_value.specs.Homes.{Home, home_of, name_of, count_in}
use Rattle.lam_value.specs.Shapes.{slots_of}
use Rattle.lam_machine_effects.specs.Held.{most_takings, takings}
use Rattle.lam_machine_effects.specs.Things.{most_things, slots_at, sort_of}
use Rattle.labelled_files.specs.Trees.{next_name}
use Rattle.lam_machine_effects.specs.Message.TheVariants as message
use Rattle.lam_machine_effects.specs.MessageKind.TheVariants as sort_of_message
use Rattle.lam_machine_effects.specs.Fault.TheVariants.{Deep, HomeFull}
use Rattle.lam_machine_effects.specs.Answer.TheVariants.{Done}
use Rattle.lam_machine_effects.specs.Ask.{Ask}
use Rattle.lam_machine_effects.specs.Ask.TheVariants.{Write, New, CopyTo, Mint, Enter, Caught, Suppressed, MonEnter, MonLeave, MakeFile, MakeDir, Remove, Append, Cut, MakePipe, Send, SendCaps, Receive, ReceiveCaps, Spawn, End}
use Rattle.lam_machine_effects.specs.Threads.{Context}
use Rattle.lam_machine_effects.specs.Worlds.{World}
use Rattle.lam_machine_effects.specs.Serves.{Effect, takes_tag, sets_slot, adds_thing, adds_copy, takes_monitor, gives_back, drops, adds_file, adds_dir, removes, appends, cuts, sends, receives, Made, a_thing, a_file, a_dir, made_label, Served, does, full, gives, makes, name_in}
use Rattle.lam_machine_effects.specs.Serving.{adds, publicly, reference, renamed, serve}
use Rattle.lam_machine_effects.specs.Turns.{may_ask, lists}
use Rattle.lam_machine_effects.specs.Views.{goes_down}
use Rattle.lam_machine_laws.proofs.FlowLemmas.{flows_refl, flows_trans, hidden_up, each_passes, read_passes, write_passes, same_passes, mint_passes}
use Rattle.lam_machine_laws.proofs.EffectLemmas.{IsHidden, IsOpen}
use Rattle.lam_machine_laws.specs.Isolation.{IsWellLabelled}
use Rattle.lam_machine_laws.specs.Judged.{deed_by, fault_by}
use Rattle.lam_machine_laws.specs.Tests.{tests_of}
pub use Rattle.lam_machine_laws.proofs.JudgedLemmas.{RefersTo}
use Rattle.lam_machine_laws.proofs.JudgedLemmas.{judged_by, refers, tested}
use Rattle.lam_machine_laws.proofs.ThreadLemmas.{IsOwn, KeepsOwn, NoRegion, Fits, listed_own}

-- ---- references

own_by : (l : Label) (r : Value) (n : Name) → RefersTo r n → n.own ≡ l → IsOwn l r
own_by l (Obj m) n e h = ap (λ (k : Name). k.own) e ∙ h
own_by l (Arr m len) n e h = ap (λ (k : Name). k.own) e ∙ h
own_by l v n e h = absurd e

listed_thing : (l : Label) (ns : List Name) (r : Value) (n : Name) → AllByRecursion (λ (m : Name). m.own ≡ l) ns → RefersTo r n → lists ns r ≡ true → n.own ≡ l
listed_thing l ns (Obj m) n h e may = sym (ap (λ (k : Name). k.own) e) ∙ listed_own l m ns h may
listed_thing l ns (Arr m len) n h e may = sym (ap (λ (k : Name). k.own) e) ∙ listed_own l m ns h may
listed_thing l ns v n h e may = absurd e

-- ---- what holds of each service

abbrev pub may_release : Ask → Bool
may_release (CopyTo r l) = true
may_release (Enter l k region args) = true
may_release a = false

pub record IsProper (w : World) (c : Context) (a : Ask) (d : Served) : Type 0 where
  -- a region is made where it is entered, and a monitor that is taken has the acting label
  pub fits : Fits c a d.answer d.made
  pub own : KeepsOwn c.label a d.answer
  -- what is made is above the acting label, but for two asks
  pub above : may_release a ≡ false → goes_down c.label d.made ≡ false
  -- a seen actor makes things of its own, and copies what is seen
  pub openly : (o : Label) → flows c.label o ≡ true → IsOpen o d.effect
  -- an unseen actor changes nothing that is seen, but for what is made
  pub hidden : IsWellLabelled c → may_ask c a ≡ true → (o : Label) → flows c.label o ≡ false → IsHidden o w.heap d.effect d.made

-- what is public, where the acting label is
public_hidden : (p o : Label) → p ≡ public_label → flows p o ≡ false → flows public_label o ≡ false
public_hidden p o e hid = ap (λ l. flows l o) (sym e) ∙ hid

-- what has the acting label
of_label : (p x o : Label) → x ≡ p → flows p o ≡ false → flows x o ≡ false
of_label p x o e hid = ap (λ l. flows l o) e ∙ hid

all_hidden : (p o : Label) (ns : List Name) → AllByRecursion (λ (n : Name). n.own ≡ p) ns → flows p o ≡ false → AllByRecursion (λ (n : Name). flows n.own o ≡ false) ns
all_hidden p o [] h hid = tt
all_hidden p o (n ∷ ns) h hid = (of_label p n.own o h.0 hid, all_hidden p o ns h.1 hid)

-- what is done to something above the acting label
up : (p l : Label) → flows p l ≡ true → not (flows p l) ≡ false
up p l e = ap not e

-- it is done, with an effect
done_proper : (w : World) (c : Context) (a : Ask) (e : Effect) → KeepsOwn c.label a Done → ((o : Label) → IsOpen o e) → (IsWellLabelled c → may_ask c a ≡ true → (o : Label) → flows c.label o ≡ false → IsHidden o w.heap e None) → IsProper w c a (does e)
done_proper w c a e own open_e hid = record { fits = tt; own = own; above = λ x. refl; openly = λ o s. open_e o; hidden = hid }

-- a value is given, with an effect
gives_proper : (w : World) (c : Context) (a : Ask) (v : Value) (e : Effect) → ((o : Label) → IsOpen o e) → (IsWellLabelled c → may_ask c a ≡ true → (o : Label) → flows c.label o ≡ false → IsHidden o w.heap e None) → IsProper w c a (gives v e)
gives_proper w c a v e open_e hid = record { fits = tt; own = tt; above = λ x. refl; openly = λ o s. open_e o; hidden = hid }

adds_proper : (w : World) (c : Context) (a : Ask) (home : Home) (slots : List Value) (refer : Name → Value) (e : Effect) → (may_release a ≡ false → flows c.label home.own ≡ true) → ((o : Label) → flows c.label o ≡ true → IsOpen o e) → ((o : Label) → flows c.label o ≡ false → IsHidden o w.heap e (Some (a_thing (name_of home (count_in w.heap.counts home)) (refer (name_of home (count_in w.heap.counts home))) slots))) → IsProper w c a (adds w home slots refer e)
adds_proper w c a home slots refer e above openly hid = record { fits = tt; own = tt; above = λ x. up c.label home.own (above x); openly = openly; hidden = λ s may. hid }

-- below: what is made in a directory
placed_proper : (w : World) (c : Context) (a : Ask) (d : Name) (l : Label) (v : Value) (e : Effect) (m : Made) → made_label m ≡ l → NoRegion (Some m) → ((o : Label) → flows c.label o ≡ true → IsOpen o e) → ((o : Label) → flows d.own o ≡ false → flows c.label o ≡ false → flows l o ≡ false → IsHidden o w.heap e (Some m)) → flows c.label d.own ≡ true → flows c.label l ≡ true → IsProper w c a (makes v e m)
placed_proper w c a d l v e m label region openly hid into above =
    record {
      fits = region;
      own = tt;
      above = λ x. ap (λ k. not (flows c.label k)) label ∙ up c.label l above;
      openly = openly;
      hidden = λ s may o h. hid o (hidden_up c.label d.own o into h) h (hidden_up c.label l o above h);
    }

true_is : {X : Type 0} → true ≡ false → X
true_is e = absurd (true≢false e)

-- what a context counts as holding
abbrev holding : World → Context → Caps
holding w c = joined c.caps w.public

-- what is made in a directory is above the acting label, and so is the directory
made_above : (k : Caps) (p d l : Label) → first_failing (read_test p d ++ (write_test p d ++ (write_test p l ++ change_test k p l))) ≡ None → (flows p d ≡ true) × (flows p l ≡ true)
made_above k p d l t =
    let a = each_passes (read_test p d) (write_test p d ++ (write_test p l ++ change_test k p l)) t in
    let b = each_passes (write_test p d) (write_test p l ++ change_test k p l) a.1 in
    (write_passes p d b.0, write_passes p l (each_passes (write_test p l) (change_test k p l) b.1).0)

deed_proper : (w : World) (c : Context) (a : Ask) → first_failing (tests_of w (publicly w.public c) a) ≡ None → fault_by w (publicly w.public c) a ≡ None → IsProper w c a (deed_by w (publicly w.public c) a)
deed_proper w c (Write r at v) e g =
    let n = name_in r in
    let t = tested r (λ k. write_test c.label k.own) (λ k. None) g e in
    done_proper w c (Write r at v) (sets_slot n at v) tt (λ o. tt) (λ s may o hid. (hidden_up c.label n.own o (write_passes c.label n.own t) hid, tt))
deed_proper w c (New shape) e g =
    adds_proper w c (New shape) (home_of c.label c.label) (slots_of shape) (reference shape) (adds_thing (home_of c.label c.label) (sort_of shape) (slots_of shape)) (λ x. flows_refl c.label) (λ o s. s) (λ o hid. (hid, (_, refl)))
deed_proper w c (CopyTo r l) e g =
    let n = name_in r in
    let k = holding w c in
    let t = tested r (λ n. read_test c.label n.own ++ (change_test k n.own l ++ change_test k c.label l)) (λ n. full (count_in w.heap.counts (home_of c.label l)) most_things HomeFull) g e in
    let read = read_passes c.label n.own (each_passes (read_test c.label n.own) (change_test k n.own l ++ change_test k c.label l) t).0 in
    adds_proper w c (CopyTo r l) (home_of c.label l) (slots_at w.heap n) (renamed r) (adds_copy n (home_of c.label l)) (λ x. true_is x)
    (λ o s. (s, flows_trans n.own c.label o read s)) (λ o hid. (hid, (_, refl)))
deed_proper w c Mint e g = gives_proper w c Mint _ takes_tag (λ o. tt) (λ s may o hid. (public_hidden c.label o (mint_passes c.label e) hid, tt))
deed_proper w c (Enter l k region args) e g = record { fits = refl; own = tt; above = λ x. true_is x; openly = λ o s. tt; hidden = λ s may o hid. tt }
deed_proper w c (Caught f) e g = done_proper w c (Caught f) (drops c.held) tt (λ o. tt) (λ s may o hid. (all_hidden c.label o c.held s.held hid, tt))
deed_proper w c (Suppressed f) e g = done_proper w c (Suppressed f) (drops c.held) tt (λ o. tt) (λ s may o hid. (all_hidden c.label o c.held s.held hid, tt))
deed_proper w c (End out) e g = done_proper w c (End out) (drops c.held) tt (λ o. tt) (λ s may o hid. (all_hidden c.label o c.held s.held hid, tt))
deed_proper w c (MonEnter r) e g =
    let n = name_in r in
    let fault = λ (n : Name). full (takings w.monitors n) most_takings Deep in
    let same = same_passes c.label n.own (tested r (λ n. same_test c.label n.own) fault g e) in
    done_proper w c (MonEnter r) (takes_monitor n) (own_by c.label r n (refers r fault g) same) (λ o. tt) (λ s may o hid. (of_label c.label n.own o same hid, tt))
deed_proper w c (MonLeave r) e g =
    let n = name_in r in
    done_proper w c (MonLeave r) (gives_back n) tt (λ o. tt) (λ s may o hid. (of_label c.label n.own o (listed_thing c.label c.held r n s.held (refers r (λ n. None) g) may) hid, tt))
deed_proper w c (MakeFile d text l) e g =
    let b = made_above (holding w c) c.label d.own l e in
    placed_proper w c (MakeFile d text l) d l _ (adds_file d text (home_of c.label l)) (a_file (next_name w.files (home_of c.label l))) refl tt (λ o s. s) (λ o h i j. (h, i, j, tt)) b.0 b.1
deed_proper w c (MakeDir d text l) e g =
    let b = made_above (holding w c) c.label d.own l e in
    placed_proper w c (MakeDir d text l) d l _ (adds_dir d text (home_of c.label l)) (a_dir (next_name w.files (home_of c.label l))) refl tt (λ o s. s) (λ o h i j. (h, i, j, tt)) b.0 b.1
deed_proper w c (Remove d text) e g =
    done_proper w c (Remove d text) (removes d text) tt (λ o. tt) (λ s may o hid. (hidden_up c.label d.own o (write_passes c.label d.own (each_passes (read_test c.label d.own) (write_test c.label d.own) e).1) hid, tt))
deed_proper w c (Append f bytes) e g = done_proper w c (Append f bytes) (appends f bytes) tt (λ o. tt) (λ s may o hid. (hidden_up c.label f.own o (write_passes c.label f.own e) hid, tt))
deed_proper w c (Cut f len) e g = done_proper w c (Cut f len) (cuts f len) tt (λ o. tt) (λ s may o hid. (hidden_up c.label f.own o (write_passes c.label f.own e) hid, tt))
deed_proper w c (MakePipe l) e g =
    let above = write_passes c.label l (each_passes (write_test c.label l) (change_test (holding w c) c.label l) e).0 in
    record { fits = tt; own = tt; above = λ x. up c.label l above; openly = λ o s. s; hidden = λ s may o hid. (hid, hidden_up c.label l o above hid, tt) }
deed_proper w c (Send p bytes) e g = done_proper w c (Send p bytes) (sends p (message.Bytes bytes)) tt (λ o. tt) (λ s may o hid. (hidden_up c.label p.own o (write_passes c.label p.own e) hid, tt))
deed_proper w c (SendCaps p caps) e g =
    done_proper w c (SendCaps p caps) (sends p (message.Caps caps)) tt (λ o. tt) (λ s may o hid. (hidden_up c.label p.own o (write_passes c.label p.own (each_passes (write_test c.label p.own) (covers_test (holding w c) caps) e).0) hid, tt))
deed_proper w c (Receive p) e g = gives_proper w c (Receive p) _ (receives p sort_of_message.Bytes) (λ o. tt) (λ s may o hid. (of_label c.label p.own o (same_passes c.label p.own e) hid, tt))
deed_proper w c (ReceiveCaps p) e g = gives_proper w c (ReceiveCaps p) _ (receives p sort_of_message.Caps) (λ o. tt) (λ s may o hid. (of_label c.label p.own o (same_passes c.label p.own e) hid, tt))
deed_proper w c (Spawn unit args caps) e g =
    let public = same_passes c.label public_label (each_passes (same_test c.label public_label) (covers_test (holding w c) caps) e).0 in
    record {
      fits = tt;
      own = tt;
      above = λ x. up c.label public_label (subst (λ l. flows c.label l ≡ true) (sym public) (flows_refl c.label));
      openly = λ o s. tt;
      hidden = λ s may o hid. (of_label c.label public_label o public hid, tt);
    }
deed_proper w c a e g = record { fits = tt; own = tt; above = λ x. refl; openly = λ o s. tt; hidden = λ s may o hid. tt }

pub served_proper : (w : World) (c : Context) (a : Ask) → IsProper w c a (serve w c a)
served_proper w c a =
    judged_by (IsProper w c a) w (publicly w.public c) a
    (λ x e. record { fits = tt; own = tt; above = λ x. refl; openly = λ o s. tt; hidden = λ s may o hid. tt })
    (λ f e g. record { fits = tt; own = tt; above = λ x. refl; openly = λ o s. tt; hidden = λ s may o hid. tt }) (deed_proper w c a)
