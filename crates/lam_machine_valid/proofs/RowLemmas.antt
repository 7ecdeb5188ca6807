-- Each ask once: what its service gives and puts into the world lives, what becomes of the monitors, and that what is taken was free.
use Rattle.std.proofs.Common.{◌≡◌, ℕ, zero, suc, ◌+◌, ◌<◌, ◌≤◌, Bool, true, false, cond, List, [], ◌∷◌, ◌++◌, Option, Some, None, length, refl, sym, ap, subst, ◌∙◌, arith, length-append}
use Rattle.std.specs.Prelude.{IsTrue, is_some, replicate, slice_get, unwrap_or}
use Rattle.std.specs.List.{AllByRecursion}
use Rattle.std.specs.Map.{lookup}
use Rattle.std.specs.Ordering.{eq_by_cmp}
use Rattle.std.specs.FinMap.{get}
use Rattle.flow_labels.specs.declared.Label.{Label}
use Rattle.capabilities.specs.declared.Caps.{Caps}
use Rattle.lam_value.specs.declared.names.Name.{Name}
use Rattle.lam_value.specs.Names.{name_cmp}
use Rattle.lam_value.specs.declared.values.Value.{Value}
use Rattle.lam_value.specs.declared.values.Value.TheVariants.{Nothing, Obj, Arr, File, Dir, Tag, CapV}
use Rattle.lam_value.specs.declared.shapes.Shape.{Shape}
use Rattle.lam_value.specs.declared.shapes.Shape.TheVariants.{Class, Array}
use Rattle.lam_value.specs.Homes.{home_of, name_of, count_in}
use Rattle.lam_value.specs.Shapes.{slots_of, zero_of}
use Rattle.labelled_heap.specs.Things.{most_things, slots_at, sort_of}
use Rattle.monitor_core.specs.Held.{takings, most_takings, listings}
use Rattle.labelled_files.specs.declared.directory.Target.{Target}
use Rattle.labelled_files.specs.declared.directory.EntryKind.{EntryKind}
use Rattle.labelled_files.specs.declared.directory.EntryKind.TheVariants as kind
use Rattle.labelled_files.specs.Entries.{Entries, text_eq, same_kind, name_of_kind}
use Rattle.labelled_files.specs.Trees.{lives_as, entries_at, target_at, next_name}
use Rattle.labelled_pipes.specs.declared.message.Message.{Message}
use Rattle.labelled_pipes.specs.declared.message.Message.TheVariants as message
use Rattle.labelled_pipes.specs.declared.message.MessageKind.{MessageKind}
use Rattle.labelled_pipes.specs.declared.message.MessageKind.TheVariants as sort_of_message
use Rattle.labelled_pipes.specs.Messages.{is_of, front_of}
use Rattle.labelled_pipes.specs.Queues.{waiting_at}
use Rattle.lam_asks.specs.declared.fault.Fault.TheVariants.{HomeFull, Deep}
use Rattle.lam_asks.specs.declared.answer.Outcome.{Outcome}
use Rattle.lam_asks.specs.declared.answer.Outcome.TheVariants as outcome
use Rattle.lam_asks.specs.declared.answer.Answer.{Answer}
use Rattle.lam_asks.specs.declared.answer.Answer.TheVariants.{Val}
use Rattle.lam_asks.specs.declared.ask.Ask.{Ask}
use Rattle.lam_asks.specs.declared.ask.Ask.TheVariants as ask
use Rattle.lam_bytecode.specs.Codes.{CodeTree}
use Rattle.thread_steps.specs.Threads.{Inside, Context}
use Rattle.thread_steps.specs.Threads as threads
use Rattle.thread_steps.specs.Next.{gains, given, started}
use Rattle.lam_machine_laws.specs.Worlds.{World, thread_at, result_in, result_at}
use Rattle.lam_machine_laws.specs.Serves.{Effect, full, adds_thing, adds_copy, takes_monitor, gives_back, drops, receives, effect_of, Served, does, name_in}
use Rattle.lam_machine_laws.specs.Serving.{publicly, slot_at, reference, renamed, received, found, value_of_end, serve}
use Rattle.lam_machine_laws.specs.Turns.{is_ready, lists, may_ask}
use Rattle.lam_machine_laws.specs.Valid.{IsKnown, IsKnownName, Lives, EntryLives, MessageLives, OutcomeLives, IsValid, all_listings}
use Rattle.lam_machine_laws.proofs.RowLemmas.{RefersTo}
use Rattle.lam_machine_laws.proofs.JudgedLemmas.{judged_by, refers}
use Rattle.lam_machine_laws.proofs.RoomLemmas.{room_row}
use Rattle.lam_machine_laws.specs.Judged.{fault_by, deed_by}
use Rattle.lam_machine_laws.specs.Room.{HasRoom}
use Rattle.lam_machine_laws.specs.Parts.{stores_of}
use Rattle.lam_machine_laws.proofs.ThreadLemmas.{front}
use Rattle.lam_machine_valid.specs.Living.{AskLives}
use Rattle.lam_machine_valid.proofs.PrivateLemmas.{found_live, copies_living}
use Rattle.lam_machine_valid.proofs.HoldLemmas.{hold, as_one, hold_entered, hold_left, hold_dropped, touched, IsFree, listed_less}
use Rattle.lam_machine_valid.proofs.StoreLemmas.{there_now, slots_live, EffectLives}

-- ---- what lives

abbrev pub AnswerLives : World → Answer → Type 0
AnswerLives w (Val v) = Lives w v
AnswerLives w x = Unit {0}

module _ (code : CodeTree) (t : ℕ) (w : World) (valid : IsValid w) (c : Context) (label : IsKnown w c.label) where
  -- what is answered lives after the effect, and what the effect puts there before it
  abbrev pub LiveServed : Served → Type 0
  LiveServed d = AnswerLives (effect_of code t d.effect w) d.answer × EffectLives w d.effect

  slot_live : (n : Name) (at : ℕ) → Lives w (slot_at w.heap n at)
  slot_live n at = by (slice_get (slots_at w.heap n) at) refl
    where
      by : (o : Option Value) → slice_get (slots_at w.heap n) at ≡ o → Lives w (unwrap_or o Nothing)
      by None e = tt
      by (Some v) e = found_live w (slots_at w.heap n) at v (slots_live w valid.live n) e

  as_long : {X : Type 0} (n : ℕ) (x : X) → length (replicate n x) ≡ n
  as_long zero x = refl
  as_long (suc n) x = ap suc (as_long n x)

  new_live : (shape : Shape) → let home = home_of c.label c.label in Lives (effect_of code t (adds_thing home (sort_of shape) (slots_of shape)) w) (reference shape (name_of home (count_in w.heap.counts home)))
  new_live (Class class fields) = ((label, label), ap is_some (there_now w.heap.slots _ fields))
  new_live (Array k len) =
      let e = there_now w.heap.slots (name_of (home_of c.label c.label) (count_in w.heap.counts (home_of c.label c.label))) (replicate len (zero_of k)) in
      ((label, label), (ap is_some e, ap (λ (o : Option (List Value)). length (unwrap_or o [])) e ∙ as_long len (zero_of k)))

  copy_live : (r : Value) (n : Name) (l : Label) → RefersTo r n → Lives w r → IsKnown w l → let home = home_of c.label l in Lives (effect_of code t (adds_copy n home) w) (renamed r (name_of home (count_in w.heap.counts home)))
  copy_live (Obj m) n l e h k = ((label, k), ap is_some (there_now w.heap.slots _ (slots_at w.heap n)))
  copy_live (Arr m len) n l e h k =
      let g = there_now w.heap.slots (name_of (home_of c.label l) (count_in w.heap.counts (home_of c.label l))) (slots_at w.heap n) in
      ((label, k), (ap is_some g, ap (λ (o : Option (List Value)). length (unwrap_or o [])) g ∙ ap (λ (j : Name). length (slots_at w.heap j)) (sym e) ∙ h.1.1))
  copy_live r n l e h k = absurd e

  thing_known : (r : Value) (n : Name) → RefersTo r n → Lives w r → IsKnownName w n
  thing_known (Obj m) n e h = subst (IsKnownName w) e h.0
  thing_known (Arr m len) n e h = subst (IsKnownName w) e h.0
  thing_known r n e h = absurd e

  -- ---- entries

  abbrev TargetLives : Option Target → Type 0
  TargetLives None = Unit {0}
  TargetLives (Some g) = IsKnownName w g.name × IsTrue (lives_as g.kind w.files g.name)

  lookup_live : (text : List ℕ) (es : Entries) → AllByRecursion (EntryLives w) es → TargetLives (lookup (text_eq text) es)
  lookup_live text [] h = tt
  lookup_live text (e ∷ es) h = by (text_eq text e.0) (lookup_live text es h.1)
    where
      by : (b : Bool) → TargetLives (lookup (text_eq text) es) → TargetLives (cond b (Some e.1) (lookup (text_eq text) es))
      by true more = h.0
      by false more = more

  target_live : (d : Name) (text : List ℕ) → TargetLives (target_at w.files d text)
  target_live d text = lookup_live text (entries_at w.files d) (by (get w.files.dirs d) refl)
    where
      by : (o : Option Entries) → get w.files.dirs d ≡ o → AllByRecursion (EntryLives w) (unwrap_or o [])
      by None e = tt
      by (Some es) e = valid.live.entries d es e

  abbrev NameLives : EntryKind → Option Name → Type 0
  NameLives k None = Unit {0}
  NameLives k (Some n) = IsKnownName w n × IsTrue (lives_as k w.files n)

  of_kind : (k j : EntryKind) (n : Name) → IsKnownName w n → IsTrue (lives_as j w.files n) → NameLives k (cond (same_kind k j) (Some n) None)
  of_kind kind.File kind.File n h l = (h, l)
  of_kind kind.File kind.Dir n h l = tt
  of_kind kind.Dir kind.File n h l = tt
  of_kind kind.Dir kind.Dir n h l = (h, l)

  found_name : (k : EntryKind) (x : Option Target) → TargetLives x → NameLives k (name_of_kind k x)
  found_name k None h = tt
  found_name k (Some g) h = of_kind k g.kind g.name h.0 h.1

  file_found : (x : Option Name) → NameLives kind.File x → Lives w (found (λ n. File n) x)
  file_found None h = tt
  file_found (Some n) h = h

  dir_found : (x : Option Name) → NameLives kind.Dir x → Lives w (found (λ n. Dir n) x)
  dir_found None h = tt
  dir_found (Some n) h = h

  -- ---- messages

  abbrev FrontLives : Option Message → Type 0
  FrontLives None = Unit {0}
  FrontLives (Some m) = MessageLives w m

  front_live : (k : MessageKind) (ms : List Message) → AllByRecursion (MessageLives w) ms → FrontLives (front_of k ms)
  front_live k [] h = tt
  front_live k (m ∷ ms) h = by (is_of k m)
    where
      by : (b : Bool) → FrontLives (cond b (Some m) None)
      by true = h.0
      by false = tt

  waiting_live : (k : MessageKind) (p : Name) → FrontLives (front_of k (waiting_at w.pipes p))
  waiting_live k p = front_live k (waiting_at w.pipes p) (by (get w.pipes.waiting p) refl)
    where
      by : (o : Option (List Message)) → get w.pipes.waiting p ≡ o → AllByRecursion (MessageLives w) (unwrap_or o [])
      by None e = tt
      by (Some ms) e = valid.live.messages p ms e

  -- in a world with as many tags
  received_after : (u : World) → u.next_tag ≡ w.next_tag → (x : Option Message) → FrontLives x → Lives u (received x)
  received_after u e None h = tt
  received_after u e (Some (message.Bytes bytes)) h = tt
  received_after u e (Some (message.Caps caps)) h = (λ k l. subst (λ n. k < n) (sym e) (h.0 k l), λ k l. subst (λ n. k < n) (sym e) (h.1 k l))

  -- ---- threads

  result_live : (u : ℕ) → OutcomeLives w (result_at w u)
  result_live u = by (thread_at w u) refl
    where
      by : (o : Option threads.Thread) → thread_at w u ≡ o → OutcomeLives w (result_in o)
      by None e = tt
      by (Some th) e = (valid.threads u th e).result

  end_live : (x : Option Outcome) → OutcomeLives w x → Lives w (value_of_end x)
  end_live (Some (outcome.Value v)) h = h
  end_live x h = tt

  one_more : (unit : ℕ) (args : List Value) (caps : Caps) → length w.threads < length (w.threads ++ started code unit args caps ∷ [])
  one_more unit args caps = let e : length (w.threads ++ started code unit args caps ∷ []) ≡ length w.threads + 1 = length-append w.threads (started code unit args caps ∷ []) in omega arith

  -- ---- the rows

  live_deed : (a : Ask) → AskLives w a → fault_by w (publicly w.public c) a ≡ None → LiveServed (deed_by w (publicly w.public c) a)
  live_deed (ask.Read r at) h g = (slot_live (name_in r) at, tt)
  live_deed (ask.Write r at v) h g = (tt, h.1)
  live_deed (ask.New shape) h g = (new_live shape, ((label, label), h))
  live_deed (ask.CopyTo r l) h g = (copy_live r (name_in r) l (refers r (λ n. full (count_in w.heap.counts (home_of c.label l)) most_things HomeFull) g) h.0 h.1, (label, h.1))
  live_deed ask.Mint h g = (omega arith, tt)
  live_deed (ask.MonEnter r) h g = (tt, thing_known r (name_in r) (refers r (λ n. full (takings w.monitors n) most_takings Deep) g) h)
  live_deed (ask.MakeFile d text l) h g = (((label, h.1), ap is_some (there_now w.files.files (next_name w.files (home_of c.label l)) [])), (label, h.1))
  live_deed (ask.MakeDir d text l) h g = (((label, h.1), ap is_some (there_now _ (next_name w.files (home_of c.label l)) [])), (label, h.1))
  live_deed (ask.OpenFile d text) h g = (file_found _ (found_name kind.File _ (target_live d text)), tt)
  live_deed (ask.OpenDir d text) h g = (dir_found _ (found_name kind.Dir _ (target_live d text)), tt)
  live_deed (ask.MakePipe l) h g = (((label, h), ap is_some (there_now w.pipes.waiting (name_of (home_of c.label l) (count_in w.pipes.counts (home_of c.label l))) [])), (label, h))
  live_deed (ask.SendCaps p caps) h g = (tt, h.1)
  live_deed (ask.Receive p) h g = (received_after (effect_of code t (receives p sort_of_message.Bytes) w) refl (front_of sort_of_message.Bytes (waiting_at w.pipes p)) (waiting_live sort_of_message.Bytes p), tt)
  live_deed (ask.ReceiveCaps p) h g = (received_after (effect_of code t (receives p sort_of_message.Caps) w) refl (front_of sort_of_message.Caps (waiting_at w.pipes p)) (waiting_live sort_of_message.Caps p), tt)
  live_deed (ask.Spawn unit args caps) h g = (one_more unit args caps, h)
  live_deed (ask.Join u) h g = (end_live _ (result_live u), tt)
  live_deed a h g = (tt, tt)

  pub live_row : (a : Ask) → AskLives w a → LiveServed (serve w c a)
  live_row a h = judged_by LiveServed w (publicly w.public c) a (λ x e. (tt, tt)) (λ f e g. (tt, tt)) (λ e g. live_deed a h g)

-- ---- monitors

-- what the contexts in front list more is taken, and what they list less may be given back
module _ (code : CodeTree) (t : ℕ) (w : World) (c : Context) (i : Inside) where
  abbrev pub HoldsServed : Ask → Served → Type 0
  HoldsServed a d = (n : Name) → all_listings n (front code c i a d.answer) + hold w.monitors t n ≤ listings n c.held + hold (touched w.monitors t d.effect) t n

  as_before : (n : Name) → listings n c.held + 0 + hold w.monitors t n ≤ listings n c.held + hold w.monitors t n
  as_before n = omega arith

  gains_listings : (a : Ask) (v : Value) (d : Context) (n : Name) → listings n (gains a v d).held ≡ listings n d.held
  gains_listings ask.Mint (Tag k) d n = refl
  gains_listings (ask.ReceiveCaps p) (CapV plus minus) d n = refl
  gains_listings a v d n = refl

  taken_holds : (r : Value) (n : Name) → RefersTo r n → HoldsServed (ask.MonEnter r) (does (takes_monitor n))
  taken_holds (Obj k) n e q =
      let same : as_one (eq_by_cmp name_cmp q k) ≡ as_one (eq_by_cmp name_cmp q n) = ap (λ (j : Name). as_one (eq_by_cmp name_cmp q j)) e in
      let more = hold_entered w.monitors n t q in
      omega arith
  taken_holds (Arr k len) n e q =
      let same : as_one (eq_by_cmp name_cmp q k) ≡ as_one (eq_by_cmp name_cmp q n) = ap (λ (j : Name). as_one (eq_by_cmp name_cmp q j)) e in
      let more = hold_entered w.monitors n t q in
      omega arith
  taken_holds r n e q = absurd e

  back_holds : (r : Value) (n : Name) → RefersTo r n → lists c.held r ≡ true → HoldsServed (ask.MonLeave r) (does (gives_back n))
  back_holds (Obj k) n e may q =
      let same : as_one (eq_by_cmp name_cmp q k) ≡ as_one (eq_by_cmp name_cmp q n) = ap (λ (j : Name). as_one (eq_by_cmp name_cmp q j)) e in
      let fewer = listed_less k q c.held may in
      let less = hold_left w.monitors n t q in
      omega arith
  back_holds (Arr k len) n e may q =
      let same : as_one (eq_by_cmp name_cmp q k) ≡ as_one (eq_by_cmp name_cmp q n) = ap (λ (j : Name). as_one (eq_by_cmp name_cmp q j)) e in
      let fewer = listed_less k q c.held may in
      let less = hold_left w.monitors n t q in
      omega arith
  back_holds r n e may q = absurd e

  none_listed : (n : Name) → 0 + hold w.monitors t n ≤ listings n c.held + hold w.monitors t n
  none_listed n = omega arith

  region_holds : (n : Name) → 0 + (listings n c.held + 0) + hold w.monitors t n ≤ listings n c.held + hold w.monitors t n
  region_holds n = omega arith

  all_back : (n : Name) → 0 + 0 + hold w.monitors t n ≤ listings n c.held + hold (touched w.monitors t (drops c.held)) t n
  all_back n = let less = hold_dropped w.monitors c.held t n in omega arith

  all_gone : (n : Name) → 0 + hold w.monitors t n ≤ listings n c.held + hold (touched w.monitors t (drops c.held)) t n
  all_gone n = let less = hold_dropped w.monitors c.held t n in omega arith

  holds_deed : (a : Ask) → may_ask c a ≡ true → fault_by w (publicly w.public c) a ≡ None → HoldsServed a (deed_by w (publicly w.public c) a)
  holds_deed (ask.Enter l k region args) may g = region_holds
  holds_deed ask.Leave may g = none_listed
  holds_deed (ask.Caught f) may g = all_back
  holds_deed (ask.Suppressed f) may g = all_gone
  holds_deed (ask.End out) may g = all_gone
  holds_deed (ask.MonEnter r) may g = taken_holds r (name_in r) (refers r (λ n. full (takings w.monitors n) most_takings Deep) g)
  holds_deed (ask.MonLeave r) may g = back_holds r (name_in r) (refers r (λ n. None) g) may
  holds_deed (ask.ReceiveCaps p) may g = λ n. subst (λ k. k + 0 + hold w.monitors t n ≤ listings n c.held + hold w.monitors t n) (sym (gains_listings (ask.ReceiveCaps p) _ (given c i _) n)) (as_before n)
  holds_deed a may g = as_before

  pub holds_row : (a : Ask) → may_ask c a ≡ true → HoldsServed a (serve w c a)
  holds_row a may = judged_by (HoldsServed a) w (publicly w.public c) a (λ x e. as_before) (λ f e g. as_before) (λ e g. holds_deed a may g)

-- ---- what is taken was free

module _ (w : World) (t : ℕ) (c : Context) where
  was_free : (e : Effect) → HasRoom t e (stores_of w) → IsFree w.monitors t e
  was_free (takes_monitor n) h = h.0
  was_free e h = tt

  pub free_row : (a : Ask) → is_ready w t c a ≡ true → AskLives w a → IsFree w.monitors t (serve w c a).effect
  free_row a r h = was_free (serve w c a).effect (room_row w t c a r (copies_living w a h))
