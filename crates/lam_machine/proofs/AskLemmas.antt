-- A thread that asks, its service, and the world that the answer leaves.
use Rattle.std.proofs.Common.{◌≡◌, ℕ, zero, suc, ◌+◌, ◌<◌, ◌≤◌, Bool, true, false, List, [], ◌∷◌, ◌++◌, Some, None, Result, Ok, Err, IfOk, length, take, get_or, set, refl, sym, ap, ◌∙◌, subst, arith, length-append}
use Rattle.std.specs.Prelude.{slice_get, slice_set, if◌then◌else◌}
use Rattle.std.proofs.Math.Seq.{take-append_seam}
use Rattle.std.proofs.lemmas.Option.{slice_get_within, get_or_from_slice_get}
use Rattle.std.proofs.lemmas.List.{set-append_left, length-set}
use Rattle.want_of_memory.specs.declared.NoMemory.{NoMemory}
use Rattle.flow_labels.specs.declared.Label.{Label}
use Rattle.lam_asks.specs.declared.ask.Ask.{Ask}
use Rattle.lam_asks.specs.declared.answer.Answer.{Answer}
use Rattle.lam_asks.specs.declared.answer.What.TheVariants.{Asked}
use Rattle.lam_bytecode.specs.Codes.{CodeTree}
use Rattle.thread_steps.specs.Threads.{Context, Thread}
use Rattle.thread_steps.specs.Next.{Next, asks, next_of, takes}
use Rattle.lam_machine_terms.specs.Limits.{most_threads}
use Rattle.lam_machine_terms.specs.Worlds.{World, contexts_in, contexts_at}
use Rattle.lam_machine_terms.specs.Serves as told
use Rattle.lam_machine_terms.specs.Serving.{serve}
use Rattle.lam_machine_terms.specs.Turns.{is_ready, served, turn_by, turn_on, turn_in, step}
use Rattle.lam_machine_effects.specs.declared.stores.Stores.{Stores}
use Rattle.lam_machine_effects.specs.Parts.{world_of}
use Rattle.lam_machine_effects.specs.declared.effect.Effect.{Effect}
use Rattle.lam_machine_effects.specs.declared.served.Served.{Served}
use Rattle.lam_machine_effects.specs.Meaning.{meaning, DoesAs}
use Rattle.lam_machine_effects.specs.Room.{HasRoom}
use Rattle.lam_machine_laws.proofs.RoomLemmas.{room_row}
use Rattle.lam_machine_laws.specs.Turned.{IsTurn, Acts, born}
use Rattle.lam_machine_laws.proofs.PartLemmas.{asked_parts}
use Rattle.lam_machine.specs.Machine.{CopiesLive}
use Rattle.lam_machine.specs.Asking.{top_label, label_at, AsksNext, IsReadiness, ReadyAsk, MayAsk, Serves, Fits, Applied, with_born, Took, TookAt}
use Rattle.lam_machine.proofs.Seats.{HasSeat, seat_row, born_few}

-- ---- the acting context

pub top_label_some : (cs : List Context) (c : Context) → slice_get cs 0 ≡ Some c → top_label cs ≡ c.label
top_label_some [] c e = absurd cc
top_label_some (d ∷ cs) c e = let same : d ≡ c = cc in ap (λ (x : Context). x.label) same

pub acts_top : (w : World) (t : ℕ) (th : Thread) (c : Context) (rest : List Context) → Acts w t th c rest → slice_get (contexts_at w t) 0 ≡ Some c
acts_top w t th c rest acts = ap (λ x. slice_get (contexts_in x) 0) acts.at ∙ ap (λ cs. slice_get cs 0) acts.list

pub acts_label : (w : World) (t : ℕ) (th : Thread) (c : Context) (rest : List Context) → Acts w t th c rest → label_at w t ≡ c.label
acts_label w t th c rest acts = top_label_some (contexts_at w t) c (acts_top w t th c rest acts)

pub step_by : (code : CodeTree) (w : World) (t : ℕ) (th : Thread) (c : Context) (rest : List Context) (n : Next) → Acts w t th c rest → next_of code c ≡ n → step code w t ≡ turn_by code w t th c rest n
unfolding step
step_by code w t th c rest n acts e =
    ap (λ x. turn_in code w t x) acts.at ∙ ap (λ cs. turn_on code w t th cs) acts.list ∙ ap (λ x. turn_by code w t th c rest x) e

front_get : (xs ys : List Thread) (t : ℕ) (x : Thread) → slice_get xs t ≡ Some x → slice_get (xs ++ ys) t ≡ Some x
front_get [] ys t x e = absurd cc
front_get (y ∷ xs) ys zero x e = e
front_get (y ∷ xs) ys (suc t) x e = front_get xs ys t x e

-- ---- whether the ask is ready

module _ (code : CodeTree) (w : World) (t : ℕ) (a : Ask) (k : AsksNext code w t a) where
  asked_step : (b : Bool) → is_ready w t k.top a ≡ b → step code w t ≡ (if b then Some (served code w t k.thread k.top k.rest a k.after (serve w k.top a)) else None)
  asked_step b e =
      step_by code w t k.thread k.top k.rest (asks a k.after) k.acts k.next
      ∙ ap (λ x. if x then Some (served code w t k.thread k.top k.rest a k.after (serve w k.top a)) else None) e

  readiness : (b : Bool) → IsReadiness w t a b → is_ready w t k.top a ≡ b
  unfolding IsReadiness
  readiness b h = sym (h k.top (acts_top w t k.thread k.top k.rest k.acts))

  -- one that is not ready has no turn
  pub waits_still : (b : Bool) → IsReadiness w t a b → b ≡ false → step code w t ≡ None
  waits_still b h e = asked_step false (readiness b h ∙ e)

  pub may_ask_now : (b : Bool) → CopiesLive code w t → IsReadiness w t a b → b ≡ true → MayAsk code w t a
  unfolding MayAsk
  may_ask_now b living h e = let r = readiness b h ∙ e in record { asking = k; ready = r; living = living _ (asked_step true r) }

-- what is read of the acting context, where there is one
pub ready_none : (w : World) (t : ℕ) (a : Ask) (b : Bool) → None ≡ slice_get (contexts_at w t) 0 → IsReadiness w t a b
unfolding IsReadiness
ready_none w t a b e = λ k f. let no : None ≡ Some k = e ∙ f in absurd cc

pub ready_some : (w : World) (t : ℕ) (a : Ask) (b : Bool) (c : Context) → Some c ≡ slice_get (contexts_at w t) 0 → b ≡ is_ready w t c a → IsReadiness w t a b
unfolding IsReadiness
ready_some w t a b c e h = λ k f. let both : Some c ≡ Some k = e ∙ f in let same : c ≡ k = cc in h ∙ ap (λ z. is_ready w t z a) same

pub serves_some : (w : World) (t : ℕ) (a : Ask) (c : Context) (r : Result Served NoMemory) → Some c ≡ slice_get (contexts_at w t) 0 → IfOk r (λ d. DoesAs d (serve w c a)) → IfOk r (λ d. Serves w t a d)
unfolding Serves
serves_some w t a c (Ok d) e h = λ k f. let both : Some c ≡ Some k = e ∙ f in let same : c ≡ k = cc in subst (λ z. DoesAs d (serve w z a)) same h
serves_some w t a c (Err x) e h = tt

-- ---- what serves it, and the world that it leaves

same_effect : (P : told.Effect → Type 0) (x y : told.Effect) → x ≡ y → P y → P x
same_effect P x y e p = subst P (sym e) p

module _ (code : CodeTree) (s : Stores) (threads : List Thread) (t : ℕ) (a : Ask) (h : MayAsk code (world_of s threads) t a) where
  -- it is ready
  pub asking : ReadyAsk code (world_of s threads) t a
  unfolding MayAsk
  asking = h

  pub top_there : (c : Context) × (slice_get (contexts_at (world_of s threads) t) 0 ≡ Some c)
  top_there = let k = asking.asking in (k.top, acts_top (world_of s threads) t k.thread k.top k.rest k.acts)

  pub is_there : t < length threads
  is_there = slice_get_within threads t asking.asking.thread asking.asking.acts.at

  does : (d : Served) → Serves (world_of s threads) t a d → DoesAs d (serve (world_of s threads) asking.asking.top a)
  unfolding Serves
  does d serves = serves asking.asking.top (acts_top (world_of s threads) t asking.asking.thread asking.asking.top asking.asking.rest asking.asking.acts)

  pub fits : (d : Served) → Serves (world_of s threads) t a d → Fits t d.effect s
  unfolding Fits
  fits d serves = same_effect (λ e. HasRoom t e s) (meaning d.effect) _ (does d serves).effect (room_row (world_of s threads) t asking.asking.top a asking.ready asking.living)

  few_born : (d : Served) → Serves (world_of s threads) t a d → length threads ≤ most_threads → length (with_born code d.effect threads) ≤ most_threads
  unfolding with_born
  few_born d serves k = born_few code d.effect threads (same_effect (λ e. HasSeat (length threads) e) (meaning d.effect) _ (does d serves).effect (seat_row (world_of s threads) asking.asking.top a)) k

  pub few_after : (d : Served) (after : List Thread) → Serves (world_of s threads) t a d → TookAt code (with_born code d.effect threads) t a d.answer after → length threads ≤ most_threads → length after ≤ most_threads
  few_after d after serves took k =
      let n : length after ≡ length (with_born code d.effect threads) = ap length took.list ∙ length-set (with_born code d.effect threads) t took.to in
      let few : length (with_born code d.effect threads) ≤ most_threads = few_born d serves k in
      omega arith

  abbrev after_of : Served → Thread
  after_of d = takes code asking.asking.thread asking.asking.top asking.asking.rest asking.asking.after a d.answer

  -- the thread stands where it stood
  list_is : (d : Served) (after : List Thread) → TookAt code (with_born code d.effect threads) t a d.answer after → after ≡ slice_set threads t (after_of d) ++ born code d.effect
  unfolding with_born Took
  list_is d after took =
      let k = asking.asking in
      let to : took.to ≡ after_of d = took.took k.thread (front_get threads (born code d.effect) t k.thread k.acts.at) k.top k.rest k.after k.acts.list k.next in
      took.list ∙ (ap (λ x. slice_set (threads ++ born code d.effect) t x) to ∙ set-append_left threads (born code d.effect) t (after_of d) is_there)

  -- the turn
  pub taken : (l : Label) (d : Served) (x : Answer) (stores : Stores) (after : List Thread) → l ≡ label_at (world_of s threads) t → x ≡ d.answer → Serves (world_of s threads) t a d → Applied t d.effect s stores → TookAt code (with_born code d.effect threads) t a d.answer after
      → IsTurn code t (world_of s threads) (record { label = l; thread = t; what = Asked a x }) (world_of stores after)
  unfolding Applied
  taken l d x stores after e f serves applied took =
      let k = asking.asking in
      let label : k.top.label ≡ l = sym (e ∙ acts_label (world_of s threads) t k.thread k.top k.rest k.acts) in
      let turn = asked_parts code (world_of s threads) t k.thread k.top k.rest a k.after d stores k.acts k.next asking.ready (does d serves) applied in
      let one = subst (λ (xs : List Thread). IsTurn code t (world_of s threads) (record { label = k.top.label; thread = t; what = Asked a d.answer }) (world_of stores xs)) (sym (list_is d after took)) turn in
      let two = subst (λ (y : Answer). IsTurn code t (world_of s threads) (record { label = k.top.label; thread = t; what = Asked a y }) (world_of stores after)) (sym f) one in
      subst (λ (y : Label). IsTurn code t (world_of s threads) (record { label = y; thread = t; what = Asked a x }) (world_of stores after)) label two

-- ---- a thread takes the answer

pub took_is : (code : CodeTree) (th slot : Thread) (a : Ask) (x y : Answer) (p to : Thread) → Took code th a x p → to ≡ p → th ≡ slot → x ≡ y → Took code slot a y to
took_is code th slot a x y p to h e f g =
    subst (λ z. Took code slot a y z) (sym e) (subst (λ z. Took code slot a z p) g (subst (λ z. Took code z a x p) f h))

pub took_at : (code : CodeTree) (threads : List Thread) (t : ℕ) (a : Ask) (x : Answer) (slot to : Thread) → slot ≡ get_or threads t slot → Took code slot a x to → TookAt code threads t a x (set threads t to)
took_at code threads t a x slot to e h =
    record {
      to = to;
      took = λ th k. subst (λ z. Took code z a x to) (e ∙ get_or_from_slice_get threads t th slot k) h;
      list = refl;
    }

-- ---- the thread that was added goes

pub born_longer : (code : CodeTree) (e : Effect) (threads : List Thread) (t : ℕ) → t < length threads → t < length (with_born code e threads)
unfolding with_born
born_longer code e threads t h = let n : length (threads ++ born code e) ≡ length threads + length (born code e) = length-append threads (born code e) in omega arith

pub born_gone : (code : CodeTree) (e : Effect) (threads grown after : List Thread) (n : ℕ) → n ≡ length threads → grown ≡ with_born code e threads → after ≡ grown → take n after ≡ threads
unfolding with_born
born_gone code e threads grown after n k h f =
    ap (λ m. take m after) k ∙ (ap (take (length threads)) (f ∙ h) ∙ take-append_seam threads (born code e))
