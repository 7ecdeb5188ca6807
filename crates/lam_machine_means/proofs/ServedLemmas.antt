-- Each ask once: what it leaves on the heap and answers is typed; and so one turn.
use Rattle.std.proofs.Common.{◌≡◌, ℕ, zero, suc, false, List, [], ◌∷◌, ◌++◌, Option, Some, None, refl, sym, ap, subst, ◌∙◌}
use Rattle.std.specs.Prelude.{replicate, slice_get, slice_set, unwrap_or}
use Rattle.std.specs.FinMap.{contains_key}
use Rattle.flow_labels.specs.declared.Denied.{Denied}
use Rattle.lam_value.specs.declared.names.Name.{Name}
use Rattle.lam_value.specs.declared.values.Value.{Value}
use Rattle.lam_value.specs.declared.values.Value.TheVariants.{Nothing, Obj, Arr, File, Dir}
use Rattle.lam_value.specs.declared.shapes.Shape.TheVariants.{Class, Array}
use Rattle.lam_value.specs.Shapes.{zero_of}
use Rattle.lam_value.specs.Homes.{Home, home_of, name_of, count_in}
use Rattle.lam_value.proofs.CountLemmas.{next_is_new}
use Rattle.labelled_heap.specs.Things.{slots_at}
use Rattle.labelled_pipes.specs.declared.message.Message.{Message}
use Rattle.labelled_pipes.specs.declared.message.Message.TheVariants as message
use Rattle.labelled_pipes.specs.declared.message.MessageKind.TheVariants as sort_of_message
use Rattle.labelled_pipes.specs.Messages.{front_of}
use Rattle.labelled_pipes.specs.Queues.{waiting_at}
use Rattle.lam_builtins.specs.Types.{int, bytes, caps, file, dir}
use Rattle.lam_resolve_tree.specs.Tree.{ResolvedType}
use Rattle.lam_asks.specs.declared.fault.Fault.{Fault}
use Rattle.lam_asks.specs.declared.fault.Fault.TheVariants.{NoEntry}
use Rattle.lam_asks.specs.declared.answer.Outcome.{Outcome}
use Rattle.lam_asks.specs.declared.answer.Outcome.TheVariants as outcome
use Rattle.lam_asks.specs.declared.answer.Answer.TheVariants.{Val, Refused, Failed}
use Rattle.lam_asks.specs.declared.ask.Ask.{Ask}
use Rattle.lam_asks.specs.declared.ask.Ask.TheVariants as ask
use Rattle.lam_bytecode.specs.Codes.{CodeTree}
use Rattle.thread_steps.specs.Threads.{Inside, Context, Thread}
use Rattle.thread_steps.specs.Next.{Next, goes, asks, stuck, next_of, with_inside, started, result_after, takes}
use Rattle.lam_machine_valid.specs.Worlds.{World, thread_at, result_in, result_at, with_thread}
use Rattle.lam_machine_runs.specs.Serves.{Effect, sets_slot, adds_copy, adds_thread, effect_of, Served, answers, does}
use Rattle.lam_machine_valid.specs.Serving.{slot_at, adds, renamed, where_none, found, received, child_fault, value_of_end, publicly, serve}
use Rattle.lam_machine_valid.specs.Judged.{fault_by, deed_by}
use Rattle.lam_machine_valid.specs.Turns.{is_ready, Moment, goes_on, served, turn_by}
use Rattle.lam_machine_valid.specs.Valid.{AreSoundStores}
use Rattle.lam_machine_valid.proofs.ThreadLemmas.{some_inj}
use Rattle.lam_machine_valid.proofs.JudgedLemmas.{judged_by}
use Rattle.lam_machine_valid.proofs.TurnLemmas.{acts, only}
use Rattle.lam_machine_valid.specs.Laws.{LeadsTo}
use Rattle.lam_machine_valid.proofs.NextLemmas.{followed}
use Rattle.lam_machine_means.specs.Typing.{Thing, an_object, an_array, Typing, Extends, Classes, fields_in, slot_types, Is, Are, AreSlots}
use Rattle.lam_machine_means.specs.Served.{IsNumber, IsAsk, given_type, IsAnswer, AsksTyped, AnsweredTyped, IsTypedWorld, TurnsAreTyped}
use Rattle.lam_machine_means.proofs.HeapLemmas.{are_on, are_get, set_typed, first_fields, first_elements, with_name, name_there, name_extends, made_typed}

-- what a service leaves on the heap and answers is typed, by a typing that only grew
record TypedBy (classes : Classes) (G : Typing) (code : CodeTree) (t : ℕ) (w : World) (wanted : ResolvedType) (a : Ask) (d : Served) : Type 0 where
  typing : Typing
  more : Extends G typing
  slots : AreSlots classes typing (effect_of code t d.effect w).heap.slots
  answer : IsAnswer typing (given_type wanted a) d.answer

module _ (classes : Classes) (G : Typing) (code : CodeTree) (t : ℕ) (w : World) (sound : AreSoundStores w) (typed : AreSlots classes G w.heap.slots) (results : (t : ℕ) (r : Outcome) → result_at w t ≡ Some r → IsNumber r) (c : Context) (wanted : ResolvedType) where
  abbrev Typed : Ask → Served → Type 0
  Typed a d = TypedBy classes G code t w wanted a d

  refused : (a : Ask) (x : Denied) → Typed a (answers (Refused x))
  refused a x = record { typing = G; more = λ n x e. e; slots = typed; answer = tt }

  failed : (a : Ask) (f : Fault) → Typed a (answers (Failed f))
  failed a f = record { typing = G; more = λ n x e. e; slots = typed; answer = tt }

  slot_typed : (n : Name) (x : Thing) (at : ℕ) (u : ResolvedType) → G n ≡ Some x → slice_get (slot_types classes x) at ≡ Some u → Is G u (slot_at w.heap n at)
  slot_typed n x at u is e =
      let r = typed n x is in
      let q = are_get G (slot_types classes x) r.0 at u r.2 e in
      let same : slot_at w.heap n at ≡ q.0 = ap (λ (o : Option (List Value)). unwrap_or (slice_get (unwrap_or o []) at) Nothing) r.1 ∙ ap (λ (o : Option Value). unwrap_or o Nothing) q.1 in
      subst (Is G u) (sym same) q.2

  -- the next name of a home
  abbrev next_in : Home → Name
  next_in home = name_of home (count_in w.heap.counts home)

  fresh : (home : Home) → contains_key w.heap.slots (next_in home) ≡ false
  fresh home = next_is_new w.heap.slots w.heap.counts home sound.heap.counted

  copied_slots : (n : Name) (x : Thing) → G n ≡ Some x → Are G (slot_types classes x) (slots_at w.heap n)
  copied_slots n x is = let r = typed n x is in subst (λ (o : Option (List Value)). Are G (slot_types classes x) (unwrap_or o [])) (sym r.1) r.2

  -- what a copy is, by what it is a copy of
  copied : (home : Home) (n : Name) (x : Thing) (v : Value) → G n ≡ Some x → Is (with_name G (next_in home) x) wanted v → (H : Typing) × Extends G H × AreSlots classes H (effect_of code t (adds_copy n home) w).heap.slots × Is H wanted v
  copied home n x v is h =
      let name = next_in home in
      let more = name_extends classes G w.heap.slots typed name (fresh home) x in (
        with_name G name x,
        more,
        made_typed classes G w.heap.slots typed name (fresh home) x (slots_at w.heap n) (are_on G (with_name G name x) more (slot_types classes x) (slots_at w.heap n) (copied_slots n x is)),
        h,
      )

  copy_typed : (home : Home) (r : Value) (n : Name) → LeadsTo r n → Is G wanted r → (H : Typing) × Extends G H × AreSlots classes H (effect_of code t (adds_copy n home) w).heap.slots × Is H wanted (renamed r (next_in home))
  copy_typed home (Obj m) n e h = copied home n (an_object h.0) (Obj (next_in home)) (ap G (sym e) ∙ h.1) (h.0, name_there G (next_in home) (an_object h.0), h.2)
  copy_typed home (Arr m len) n e h = copied home n (an_array h.0 len) (Arr (next_in home) len) (ap G (sym e) ∙ h.1) (h.0, name_there G (next_in home) (an_array h.0 len), h.2)
  copy_typed home r n e h = absurd e

  bytes_typed : (ms : List Message) → Is G bytes (received (front_of sort_of_message.Bytes ms))
  bytes_typed (message.Caps k ∷ ms) = refl
  bytes_typed ms = refl

  caps_typed : (ms : List Message) → Is G caps (received (front_of sort_of_message.Caps ms))
  caps_typed (message.Caps k ∷ ms) = refl
  caps_typed ms = refl

  found_typed : (u : ResolvedType) (refer : Name → Value) (x : Option Name) → ((n : Name) → Is G u (refer n)) → where_none x NoEntry ≡ None → Is G u (found refer x)
  found_typed u refer None h g = absurd cc
  found_typed u refer (Some n) h g = h n

  number_typed : (v : Value) → IsNumber (outcome.Value v) → Is G int v
  number_typed v h = subst (Is G int) (sym h.1) refl

  joined_typed : (x : Option Outcome) → ((r : Outcome) → x ≡ Some r → IsNumber r) → child_fault x ≡ None → Is G int (value_of_end x)
  joined_typed None h g = absurd cc
  joined_typed (Some (outcome.Value v)) h g = number_typed v (h (outcome.Value v) refl)
  joined_typed (Some (outcome.Failed f)) h g = absurd cc

  -- nothing changes on the heap, and the answer is typed
  still : (a : Ask) (d : Served) → AreSlots classes G (effect_of code t d.effect w).heap.slots → IsAnswer G (given_type wanted a) d.answer → Typed a d
  still a d s h = record { typing = G; more = λ n x e. e; slots = s; answer = h }

  -- ---- the rows

  -- the context as it is served: what is public counts as held
  abbrev acting : Context
  acting = publicly w.public c

  deed : (a : Ask) → IsAsk classes G wanted a → fault_by w acting a ≡ None → Typed a (deed_by w acting a)
  deed (ask.Read r at) h g = subst (λ n. Typed (ask.Read r at) (answers (Val (slot_at w.heap n at)))) (sym (followed r h.0 h.2)) (still (ask.Read r at) (answers (Val (slot_at w.heap h.0 at))) typed (slot_typed h.0 h.1 at wanted h.3 h.4))
  deed (ask.Write r at v) h g =
      subst (λ n. Typed (ask.Write r at v) (does (sets_slot n at v))) (sym (followed r h.1.0 h.1.2))
      (still (ask.Write r at v) (does (sets_slot h.1.0 at v)) (set_typed classes G w.heap h.1.0 h.1.1 at h.0 v typed h.1.3 h.1.4 h.2) tt)
  deed (ask.New (Class k fields)) h g =
      let home = home_of c.label c.label in
      let x = an_object k in
      let H = with_name G (next_in home) x in
      record {
        typing = H;
        more = name_extends classes G w.heap.slots typed (next_in home) (fresh home) x;
        slots = made_typed classes G w.heap.slots typed (next_in home) (fresh home) x fields (subst (Are H (fields_in (slice_get classes k))) (sym h.1) (first_fields H (fields_in (slice_get classes k))));
        answer = (k, name_there G (next_in home) x, h.0);
      }
  deed (ask.New (Array k len)) h g =
      let home = home_of c.label c.label in
      let x = an_array h.0 len in
      let H = with_name G (next_in home) x in
      record {
        typing = H;
        more = name_extends classes G w.heap.slots typed (next_in home) (fresh home) x;
        slots = made_typed classes G w.heap.slots typed (next_in home) (fresh home) x (replicate len (zero_of k)) (subst (λ j. Are H (replicate len h.0) (replicate len (zero_of j))) (sym h.2) (first_elements H h.0 len));
        answer = (h.0, name_there G (next_in home) x, h.1);
      }
  deed (ask.CopyTo r l) h g =
      let home = home_of c.label l in
      let q = copy_typed home r h.0 h.1 h.2 in
      subst (λ n. Typed (ask.CopyTo r l) (adds w home (slots_at w.heap n) (renamed r) (adds_copy n home))) (sym (followed r h.0 h.1))
      (record { typing = q.0; more = q.1; slots = q.2; answer = q.3 })
  deed ask.Mint h g = still ask.Mint _ typed refl
  deed (ask.MakeFile d text l) h g = still (ask.MakeFile d text l) _ typed refl
  deed (ask.MakeDir d text l) h g = still (ask.MakeDir d text l) _ typed refl
  deed (ask.OpenFile d text) h g = still (ask.OpenFile d text) _ typed (found_typed file (λ n. File n) _ (λ n. refl) g)
  deed (ask.OpenDir d text) h g = still (ask.OpenDir d text) _ typed (found_typed dir (λ n. Dir n) _ (λ n. refl) g)
  deed (ask.FileRead f at n) h g = still (ask.FileRead f at n) _ typed refl
  deed (ask.FileLength f) h g = still (ask.FileLength f) _ typed refl
  deed (ask.MakePipe l) h g = still (ask.MakePipe l) _ typed refl
  deed (ask.Receive p) h g = still (ask.Receive p) _ typed (bytes_typed (waiting_at w.pipes p))
  deed (ask.ReceiveCaps p) h g = still (ask.ReceiveCaps p) _ typed (caps_typed (waiting_at w.pipes p))
  deed (ask.Spawn unit args k) h g = still (ask.Spawn unit args k) _ typed refl
  deed (ask.Join u) h g = still (ask.Join u) _ typed (joined_typed (result_at w u) (results u) g)
  deed a h g = record { typing = G; more = λ n x e. e; slots = typed; answer = tt }

  row : (a : Ask) → IsAsk classes G wanted a → Typed a (serve w c a)
  row a h = judged_by (Typed a) w acting a (λ x e. refused a x) (λ f e g. failed a f) (λ e g. deed a h g)

-- ---- results

abbrev GaveNumber : Option Outcome → Type 0
GaveNumber o = (r : Outcome) → o ≡ Some r → IsNumber r

set_gave : (t : ℕ) (xs : List Thread) (a : Thread) → ((j : ℕ) → GaveNumber (result_in (slice_get xs j))) → GaveNumber a.result → (j : ℕ) → GaveNumber (result_in (slice_get (slice_set xs t a) j))
set_gave t [] a all here j = all j
set_gave zero (x ∷ xs) a all here zero = here
set_gave zero (x ∷ xs) a all here (suc j) = all (suc j)
set_gave (suc t) (x ∷ xs) a all here zero = all zero
set_gave (suc t) (x ∷ xs) a all here (suc j) = set_gave t xs a (λ k. all (suc k)) here j

grown_gave : (xs : List Thread) (a : Thread) → ((j : ℕ) → GaveNumber (result_in (slice_get xs j))) → GaveNumber a.result → (j : ℕ) → GaveNumber (result_in (slice_get (xs ++ a ∷ []) j))
grown_gave [] a all here zero = here
grown_gave [] a all here (suc j) = λ r e. absurd cc
grown_gave (x ∷ xs) a all here zero = all zero
grown_gave (x ∷ xs) a all here (suc j) = grown_gave xs a (λ k. all (suc k)) here j

effect_gave : (code : CodeTree) (t : ℕ) (e : Effect) (w : World) → ((j : ℕ) → GaveNumber (result_at w j)) → (j : ℕ) → GaveNumber (result_at (effect_of code t e w) j)
effect_gave code t (adds_thread unit args k) w all j = grown_gave w.threads (started code unit args k) all (λ r e. absurd cc) j
effect_gave code t e w all j = all j

ended_gave : (classes : Classes) (G : Typing) (wanted : ResolvedType) (a : Ask) (old : Option Outcome) → IsAsk classes G wanted a → GaveNumber old → GaveNumber (result_after old a)
ended_gave classes G wanted (ask.End out) old h g r e = subst IsNumber (some_inj out r e) h
ended_gave classes G wanted a old h g r e = g r e

-- ---- one turn

-- the heap after an effect does not hang on the acting thread
heap_beside : (code : CodeTree) (t : ℕ) (w : World) (to : Thread) (e : Effect) → (effect_of code t e (with_thread w t to)).heap ≡ (effect_of code t e w).heap
heap_beside code t w to (sets_slot n at v) = refl
heap_beside code t w to e = refl

abbrev TurnTyped : Classes → Typing → ResolvedType → Moment → Type 0
TurnTyped classes G wanted m = (H : Typing) × Extends G H × IsTypedWorld classes H m.world × AnsweredTyped H wanted m.event.what

module _ (classes : Classes) (code : CodeTree) (w : World) (t : ℕ) (G : Typing) (wanted : ResolvedType) (sound : AreSoundStores w) (typed : IsTypedWorld classes G w) (th : Thread) (c : Context) (rest : List Context) (at : thread_at w t ≡ Some th) where
  own_result : GaveNumber th.result
  own_result r e = typed.results t r (ap result_in at ∙ e)

  went_typed : (i : Inside) → TurnTyped classes G wanted (goes_on w t th c rest i)
  went_typed i =
      let to : Thread = record { contexts = with_inside c i ∷ rest; result = th.result } in
      (G, (λ n x e. e), record { slots = typed.slots; results = set_gave t w.threads to typed.results own_result }, tt)

  asked_typed : (a : Ask) (i : Inside) → IsAsk classes G wanted a → TurnTyped classes G wanted (served code w t th c rest a i (serve w c a))
  asked_typed a i h =
      let d = serve w c a in
      let to = takes code th c rest i a d.answer in
      let r = row classes G code t w sound typed.slots typed.results c wanted a h in (
        r.typing,
        r.more,
        record {
          slots = subst (λ k. AreSlots classes r.typing k.slots) (sym (heap_beside code t w to d.effect)) r.slots;
          results = effect_gave code t d.effect (with_thread w t to) (set_gave t w.threads to typed.results (ended_gave classes G wanted a th.result h own_result));
        },
        r.answer,
      )

  next_typed : (nx : Next) (m : Moment) → turn_by code w t th c rest nx ≡ Some m → AsksTyped classes G wanted m.event.what → TurnTyped classes G wanted m
  next_typed (goes i) m h =
      subst (λ (n : Moment). AsksTyped classes G wanted n.event.what → TurnTyped classes G wanted n) (some_inj (goes_on w t th c rest i) m h) (λ q. went_typed i)
  next_typed (asks a i) m h =
      subst (λ (n : Moment). AsksTyped classes G wanted n.event.what → TurnTyped classes G wanted n) (only (is_ready w t c a) (served code w t th c rest a i (serve w c a)) m h).1 (λ q. asked_typed a i q)
  next_typed stuck m h = absurd cc

pub typed_turns : (classes : Classes) (code : CodeTree) → TurnsAreTyped classes code
typed_turns classes code w t m G wanted sound typed h q =
    let a = acts code w t m h in
    next_typed classes code w t G wanted sound typed a.thread a.top a.rest a.at (next_of code a.top) m a.gives q
