-- Single operations, beside what the tree does there.
use Rattle.std.proofs.Common.{◌≡◌, ℕ, ◌<◌, ℤ, pos, negsuc, Bool, true, false, List, [], ◌∷◌, ◌++◌, length, Option, Some, None, refl, sym, ap, ◌∙◌, subst}
use Rattle.std.specs.Prelude.{if◌then◌else◌, ◌&&◌, nat_lt, nat_le, slice_get, slice_set}
use Rattle.std.proofs.lemmas.Bool.{lt-ltb}
use Rattle.flow_labels.specs.declared.Label.{Label}
use Rattle.flow_labels.specs.declared.Denied.{Denied as Denial}
use Rattle.capabilities.specs.declared.Caps.{Caps}
use Rattle.lam_value.specs.declared.names.Name.{Name}
use Rattle.lam_value.specs.declared.values.Value.{Value}
use Rattle.lam_value.specs.declared.values.Value.TheVariants.{Int, Bytes, Nothing, Obj, Arr, File, Dir, Pipe, Thread, Lab, CapV}
use Rattle.decimal_text.specs.Decimal.{int_of}
use Rattle.lam_value.specs.declared.shapes.Kind.{Kind}
use Rattle.lam_value.specs.declared.shapes.Shape.TheVariants.{Array}
use Rattle.lam_builtins.specs.declared.Builtin.{Builtin}
use Rattle.lam_builtins.specs.declared.Builtin.TheVariants as call
use Rattle.lam_asks.specs.declared.fault.Fault.{Fault}
use Rattle.lam_asks.specs.declared.fault.Fault.TheVariants.{Null, Index, Long}
use Rattle.lam_asks.specs.declared.answer.Answer.{Answer}
use Rattle.lam_asks.specs.declared.answer.Answer.TheVariants.{Done, Entered, Val, Refused, Failed}
use Rattle.lam_asks.specs.declared.ask.Ask.{Ask}
use Rattle.lam_asks.specs.declared.ask.Ask.TheVariants as ask
use Rattle.lam_asks.specs.Suits.{Sort, numbers, fits}
use Rattle.lam_bytecode.specs.Codes.{CodeTree}
use Rattle.lam_bytecode.specs.declared.op.Op.{Op}
use Rattle.lam_bytecode.specs.declared.op.Op.TheVariants.{Load, Store, Pop, Return, Throw, ReadBarrier, WriteBarrier, GetField, PutField, GetElement, PutElement, NewArray, EnterMonitor, LeaveMonitor}
use Rattle.thread_steps.specs.Operators.{Pure, fine, faults, wrong, is_small, some_null}
use Rattle.thread_steps.specs.Builtins as calls
use Rattle.thread_steps.specs.Builtins.{Calls, builtin, own_label, copied, read_from, cut_to, byte_at, byte_now, slice_at, number_in}
use Rattle.thread_steps.specs.Ops as ops
use Rattle.thread_steps.specs.Ops.{Did, breaks, wants, sets, on_constant, effect, operated, barrier, is_held}
use Rattle.thread_steps.specs.Next.{held_by, without}
use Rattle.lam_resolve_tree.specs.Tree.{ResolvedType}
use Rattle.lam_meaning_typed.specs.Trees.{Own, Asked, asked, Tree, broken, fails, asks, on_end, purely, value_reply, nothing_gained, ask_value, done_reply, ask_done, ask_unit, unless_denied, on_object, on_array, gained, local}
use Rattle.lam_meaning_typed.specs.Means.{At, may_read, may_write, within, on_number, makes_array, result_sort, called_in, take, give_back, throws}
use Rattle.lam_meaning_typed.proofs.Expressions.{gained_same}
use Rattle.lam_meaning_laws.specs.Gathers.{Along, with_locals, answered, Out, gone, returned, and_on, Caller, Enters, never_enters, done, replied, awaits, did, op_does}
use Rattle.lam_meaning_laws.proofs.Plays.{Keep, Held, along, Matches, MatchesAt, suits_same}
use Rattle.lam_meaning_laws.proofs.Lists.{slot_there, listed, first_held, first_back}

abbrev pub onto : List Value → Value → List Value
onto s v = v ∷ s

abbrev pub stays : List Value → Unit {0} → List Value
stays s u = s

-- the ask only lets the code go on
abbrev pub IsPlain : Ask → Type 0
IsPlain a = (s : List Value) (n : ℕ) (held : List Name) (st : Along) → done a s n held st ≡ gone s n held st

-- the rows of built-in calls that act ask for no change of contexts
abbrev pub ActsPlainly : Calls → Type 0
ActsPlainly (calls.acts a) = IsPlain a
ActsPlainly c = Unit {0}

module _ (kp : Keep) (H : Held) where
  asked_same : {A : Type 0} (h : A → List Value) (q : Asked) (k : Answer → Tree A) (enter : Enters) (s : List Value) (n : ℕ) (held : List Name) (xs : List Answer) (o : Own) (made : List Ask) → ((x : Answer) → fits q.want x ≡ true → (rest : List Answer) → Matches kp H h (k x) rest (made ++ q.ask ∷ []) (replied enter q.ask s x n held (along o rest (made ++ q.ask ∷ [])))) → Matches kp H h (asks q k) xs made (awaits enter q.ask s xs n held (along o xs made))
  asked_same h q k enter s n held [] o made f = record { by = λ ok. refl; keeps = tt }
  asked_same h q k enter s n held (x ∷ xs) o made f =
      let p = suits_same kp H h (fits q.want x) (k x) xs (made ++ q.ask ∷ []) made (replied enter q.ask s x n held (along o xs (made ++ q.ask ∷ []))) (λ e. f x e xs) in
      record { by = p.0; keeps = p.1 }

  -- an ask, by what comes of each answer that suits
  pub ask_at : {A : Type 0} (h : A → List Value) (q : Asked) (k : Answer → Tree A) (enter : Enters) (s : List Value) (n : ℕ) (held : List Name) (st : Along) → ((x : Answer) → fits q.want x ≡ true → (rest : List Answer) → MatchesAt kp H h (k x) (answered st rest q.ask) (replied enter q.ask s x n held (answered st rest q.ask))) → MatchesAt kp H h (asks q k) st (awaits enter q.ask s st.answers n held st)
  ask_at h q k enter s n held st f = asked_same h q k enter s n held st.answers st.own st.asks f

-- where code stands: its units, operands and state, what calls and regions do, and the place
module _ (kp : Keep) (H : Held) (caller : Caller) (enter : Enters) (p : At) (n : ℕ) (s : List Value) (st : Along) (size : length st.own.locals ≡ kp.size) where
  pub fails_at : {A : Type 0} (h : A → List Value) (f : Fault) (held : List Name) → MatchesAt kp H h (fails f n st.own) st (did caller enter (ops.fails f) p n held st)
  fails_at h f held = record { by = λ ok. refl; keeps = size }

  pub never_at : {A : Type 0} (h : A → List Value) (r : Out (List Value)) → MatchesAt kp H h broken st r
  never_at h r = record { by = λ ok. absurd ok; keeps = tt }

  pub pure_at : (x : Pure) → MatchesAt kp H (onto s) (purely n st.own x) st (did caller enter (operated s x) p n (H st.own.locals) st)
  pure_at (fine v) = record { by = λ ok. refl; keeps = size }
  pure_at (faults f) = record { by = λ ok. refl; keeps = size }
  pure_at wrong = record { by = λ ok. absurd ok; keeps = tt }

  -- an ask whose answer is a value
  pub value_at : (q : Asked) (gains : Value → Own → Own) → ((v : Value) → gains v st.own ≡ gained q.ask v st.own) → MatchesAt kp H (onto s) (asks q (λ x. value_reply gains n st.own x)) st (awaits enter q.ask s st.answers n (H st.own.locals) st)
  value_at q gains e = ask_at kp H (onto s) q (λ x. value_reply gains n st.own x) enter s n (H st.own.locals) st each
    where
      each : (x : Answer) → fits q.want x ≡ true → (rest : List Answer) → MatchesAt kp H (onto s) (value_reply gains n st.own x) (answered st rest q.ask) (replied enter q.ask s x n (H st.own.locals) (answered st rest q.ask))
      each (Val v) ok rest =
          record {
            by = λ b.
                ap (λ (o : Own). gone (v ∷ s) n (H o.locals) (along o rest (st.asks ++ q.ask ∷ []))) (e v) ∙
                ap (λ (ls : List Value). gone (v ∷ s) n (H ls) (along (gained q.ask v st.own) rest (st.asks ++ q.ask ∷ []))) (gained_same q.ask v st.own);
            keeps = ap (λ (o : Own). length o.locals) (e v) ∙ ap length (gained_same q.ask v st.own) ∙ size;
          }
      each (Refused d) ok rest = record { by = λ b. refl; keeps = size }
      each (Failed f) ok rest = record { by = λ b. refl; keeps = size }
      each Done ok rest = record { by = λ b. absurd b; keeps = tt }
      each Entered ok rest = record { by = λ b. absurd b; keeps = tt }

  -- an ask that is done and only lets the code go on
  pub done_at : {A : Type 0} (h : A → List Value) (a : Ask) (it : A) → IsPlain a → MatchesAt kp H h (ask_done a it n st.own) st (awaits enter a (h it) st.answers n (H st.own.locals) st)
  done_at h a it plain = ask_at kp H h (asked numbers a) (λ x. done_reply it n st.own x) enter (h it) n (H st.own.locals) st each
    where
      each : (x : Answer) → fits (asked numbers a).want x ≡ true → (rest : List Answer) → MatchesAt kp H h (done_reply it n st.own x) (answered st rest a) (replied enter a (h it) x n (H st.own.locals) (answered st rest a))
      each Done ok rest = record { by = λ b. sym (plain (h it) n (H st.own.locals) (answered st rest a)); keeps = size }
      each (Refused d) ok rest = record { by = λ b. refl; keeps = size }
      each (Failed f) ok rest = record { by = λ b. refl; keeps = size }
      each (Val v) ok rest = record { by = λ b. absurd b; keeps = tt }
      each Entered ok rest = record { by = λ b. absurd b; keeps = tt }

  pub if_at : {A : Type 0} (h : A → List Value) (b : Bool) (x y : Tree A) (d e : Did) (held : List Name) → MatchesAt kp H h x st (did caller enter d p n held st) → MatchesAt kp H h y st (did caller enter e p n held st) → MatchesAt kp H h (if b then x else y) st (did caller enter (if b then d else e) p n held st)
  if_at h true x y d e held mx my = mx
  if_at h false x y d e held mx my = my

  pub within_at : {A : Type 0} (h : A → List Value) (z : ℤ) (len : ℕ) (go : ℕ → Tree A) (go' : ℕ → Did) (held : List Name) → ((i : ℕ) → MatchesAt kp H h (go i) st (did caller enter (go' i) p n held st)) → MatchesAt kp H h (within z len n st.own go) st (did caller enter (ops.within z len go') p n held st)
  within_at h (pos i) len go go' held f = if_at h (nat_lt i len) (go i) (fails Index n st.own) (go' i) (ops.fails Index) held (f i) (fails_at h Index held)
  within_at h (negsuc i) len go go' held f = fails_at h Index held

  -- a built-in call
  pub called_at : (t : Option ResolvedType) (c : Calls) → ActsPlainly c → MatchesAt kp H (onto s) (called_in t n st.own c) st (did caller enter (ops.called s c) p n (H st.own.locals) st)
  called_at t (calls.now v) plain = record { by = λ ok. refl; keeps = size }
  called_at t (calls.faults f) plain = record { by = λ ok. refl; keeps = size }
  called_at t (calls.asks a) plain = value_at (asked (result_sort t) a) (λ v o. gained a v o) (λ v. refl)
  called_at t (calls.acts a) plain = done_at (onto s) a Nothing plain
  called_at t calls.wrong plain = record { by = λ ok. absurd ok; keeps = tt }

  -- what is asked where a rule fails
  barred_at : {A : Type 0} (h : A → List Value) (s' : List Value) (d : Denial) (xs : List Answer) (made : List Ask) (o : Own) (held : List Name) (go : List Value → ℕ → List Name → Along → Out (List Value)) → length o.locals ≡ kp.size → Matches kp H h (unless_denied (Some d) n o broken) xs made (and_on (awaits enter (ask.Barred d) s' xs n held (along o xs made)) go)
  unfolding on_end
  barred_at h s' d [] made o held go l = record { by = λ ok. refl; keeps = tt }
  barred_at h s' d (Done ∷ xs) made o held go l = record { by = λ ok. refl; keeps = l }
  barred_at h s' d (x ∷ xs) made o held go l = record { by = λ ok. absurd ok; keeps = tt }

  -- an access, after its barrier
  pub tested_at : {A : Type 0} (h : A → List Value) (d : Option Denial) (s' : List Value) (t : Tree A) (held : List Name) (go : List Value → ℕ → List Name → Along → Out (List Value)) → (d ≡ None → MatchesAt kp H h t st (go s' n held st)) → MatchesAt kp H h (unless_denied d n st.own t) st (and_on (did caller enter (barrier s' d) p n held st) go)
  tested_at h None s' t held go f = f refl
  tested_at h (Some d) s' t held go f = barred_at h s' d st.answers st.asks st.own held go size

-- ---- accesses

module _ (kp : Keep) (H : Held) (code : CodeTree) (caller : Caller) (p : At) (n : ℕ) (s : List Value) (st : Along) (size : length st.own.locals ≡ kp.size) where
  abbrev Op_does : Op → List Value → ℕ → List Name → Along → Out (List Value)
  Op_does op s n held st = op_does code caller never_enters op p n s held st

  pub read_field : (v : Value) (f : ℕ) (t : Sort) → MatchesAt kp H (onto s) (on_object v n st.own (λ x. unless_denied (may_read p x) n st.own (ask_value (asked t (ask.Read (Obj x) f)) n st.own))) st (and_on (Op_does (ReadBarrier 0) (v ∷ s) n (H st.own.locals) st) (λ s n held st. Op_does (GetField f) s n held st))
  unfolding effect
  read_field (Obj x) f t =
      tested_at kp H caller never_enters p n s st size (onto s) (may_read p x) (Obj x ∷ s) _ (H st.own.locals) (λ s n held st. Op_does (GetField f) s n held st)
      (λ e. subst (λ d. MatchesAt kp H (onto s) (ask_value (asked t (ask.Read (Obj x) f)) n st.own) st (did caller never_enters (ops.unless_denied d (wants (ask.Read (Obj x) f) s)) p n (H st.own.locals) st)) (sym e)
      (value_at kp H caller never_enters p n s st size (asked t (ask.Read (Obj x) f)) nothing_gained (λ v. refl)))
  read_field Nothing f t = fails_at kp H caller never_enters p n s st size (onto s) Null (H st.own.locals)
  read_field v f t = record { by = λ ok. absurd ok; keeps = tt }

  pub write_field : (v w : Value) (f : ℕ) → MatchesAt kp H (stays s) (on_object v n st.own (λ x. unless_denied (may_write p x) n st.own (ask_unit (ask.Write (Obj x) f w) n st.own))) st (and_on (Op_does (WriteBarrier 1) (w ∷ v ∷ s) n (H st.own.locals) st) (λ s n held st. Op_does (PutField f) s n held st))
  unfolding effect
  write_field (Obj x) w f =
      tested_at kp H caller never_enters p n s st size (stays s) (may_write p x) (w ∷ Obj x ∷ s) _ (H st.own.locals) (λ s n held st. Op_does (PutField f) s n held st)
      (λ e. subst (λ d. MatchesAt kp H (stays s) (ask_unit (ask.Write (Obj x) f w) n st.own) st (did caller never_enters (ops.unless_denied d (wants (ask.Write (Obj x) f w) s)) p n (H st.own.locals) st)) (sym e)
      (done_at kp H caller never_enters p n s st size (stays s) (ask.Write (Obj x) f w) tt (λ s n held st. refl)))
  write_field Nothing w f = fails_at kp H caller never_enters p n s st size (stays s) Null (H st.own.locals)
  write_field v w f = record { by = λ ok. absurd ok; keeps = tt }

  pub read_element : (v i : Value) (t : Sort) → MatchesAt kp H (onto s) (on_array v n st.own (λ x len. unless_denied (may_read p x) n st.own (on_number i (λ z. within z len n st.own (λ at. ask_value (asked t (ask.Read (Arr x len) at)) n st.own))))) st (and_on (Op_does (ReadBarrier 1) (i ∷ v ∷ s) n (H st.own.locals) st) (λ s n held st. Op_does GetElement s n held st))
  unfolding effect
  read_element (Arr x len) i t =
      tested_at kp H caller never_enters p n s st size (onto s) (may_read p x) (i ∷ Arr x len ∷ s) _ (H st.own.locals) (λ s n held st. Op_does GetElement s n held st) (λ e. at i e)
    where
      at : (i : Value) → may_read p x ≡ None → MatchesAt kp H (onto s) (on_number i (λ z. within z len n st.own (λ at. ask_value (asked t (ask.Read (Arr x len) at)) n st.own))) st (did caller never_enters (ops.on_int (i ∷ Arr x len ∷ s) (λ z s. ops.gets_element p.label z s)) p n (H st.own.locals) st)
      at (Int z) e =
          subst (λ d. MatchesAt kp H (onto s) (within z len n st.own (λ at. ask_value (asked t (ask.Read (Arr x len) at)) n st.own)) st (did caller never_enters (ops.unless_denied d (ops.within z len (λ at. wants (ask.Read (Arr x len) at) s))) p n (H st.own.locals) st)) (sym e)
          (within_at kp H caller never_enters p n s st size (onto s) z len _ _ (H st.own.locals) (λ at. value_at kp H caller never_enters p n s st size (asked t (ask.Read (Arr x len) at)) nothing_gained (λ v. refl)))
      at i e = record { by = λ ok. absurd ok; keeps = tt }
  read_element Nothing i t = fails_at kp H caller never_enters p n s st size (onto s) Null (H st.own.locals)
  read_element v i t = record { by = λ ok. absurd ok; keeps = tt }

  pub write_element : (v i w : Value) → MatchesAt kp H (stays s) (on_array v n st.own (λ x len. unless_denied (may_write p x) n st.own (on_number i (λ z. within z len n st.own (λ at. ask_unit (ask.Write (Arr x len) at w) n st.own))))) st (and_on (Op_does (WriteBarrier 2) (w ∷ i ∷ v ∷ s) n (H st.own.locals) st) (λ s n held st. Op_does PutElement s n held st))
  unfolding effect
  write_element (Arr x len) i w =
      tested_at kp H caller never_enters p n s st size (stays s) (may_write p x) (w ∷ i ∷ Arr x len ∷ s) _ (H st.own.locals) (λ s n held st. Op_does PutElement s n held st) (λ e. at i e)
    where
      at : (i : Value) → may_write p x ≡ None → MatchesAt kp H (stays s) (on_number i (λ z. within z len n st.own (λ at. ask_unit (ask.Write (Arr x len) at w) n st.own))) st (did caller never_enters (ops.on_int (i ∷ Arr x len ∷ s) (λ z s. ops.puts_element p.label z w s)) p n (H st.own.locals) st)
      at (Int z) e =
          subst (λ d. MatchesAt kp H (stays s) (within z len n st.own (λ at. ask_unit (ask.Write (Arr x len) at w) n st.own)) st (did caller never_enters (ops.unless_denied d (ops.within z len (λ at. wants (ask.Write (Arr x len) at w) s))) p n (H st.own.locals) st)) (sym e)
          (within_at kp H caller never_enters p n s st size (stays s) z len _ _ (H st.own.locals) (λ at. done_at kp H caller never_enters p n s st size (stays s) (ask.Write (Arr x len) at w) tt (λ s n held st. refl)))
      at i e = record { by = λ ok. absurd ok; keeps = tt }
  write_element Nothing i w = fails_at kp H caller never_enters p n s st size (stays s) Null (H st.own.locals)
  write_element v i w = record { by = λ ok. absurd ok; keeps = tt }

  pub array_at : (k : Kind) (v : Value) → MatchesAt kp H (onto s) (on_number v (λ z. makes_array k z n st.own)) st (Op_does (NewArray k) (v ∷ s) n (H st.own.locals) st)
  unfolding effect
  array_at k (Int (pos m)) =
      if_at kp H caller never_enters p n s st size (onto s) (nat_le m 65536) _ _ (wants (ask.New (Array k m)) s) (ops.fails Long) (H st.own.locals)
      (value_at kp H caller never_enters p n s st size (asked numbers (ask.New (Array k m))) nothing_gained (λ v. refl)) (fails_at kp H caller never_enters p n s st size (onto s) Long (H st.own.locals))
  array_at k (Int (negsuc m)) = fails_at kp H caller never_enters p n s st size (onto s) Long (H st.own.locals)
  array_at k v = record { by = λ ok. absurd ok; keeps = tt }

  pub throw_at : (v : Value) → MatchesAt kp H (stays s) (throws v n st.own) st (Op_does Throw (v ∷ s) n (H st.own.locals) st)
  unfolding effect
  throw_at (Int z) = record { by = λ ok. refl; keeps = size }
  throw_at v = record { by = λ ok. absurd ok; keeps = tt }

  -- ---- monitors

  take_ask : (m : Name) (r : Value) (held : List Name) → ((c : Name → List Name) (l : List Name) → held_by r c l ≡ c m) → H st.own.locals ≡ m ∷ held → MatchesAt kp H (stays s) (ask_unit (ask.MonEnter r) n st.own) st (awaits never_enters (ask.MonEnter r) s st.answers n held st)
  take_ask m r held is e = ask_at kp H (stays s) (asked numbers (ask.MonEnter r)) (λ x. done_reply tt n st.own x) never_enters s n held st each
    where
      each : (x : Answer) → fits (asked numbers (ask.MonEnter r)).want x ≡ true → (rest : List Answer) → MatchesAt kp H (stays s) (done_reply tt n st.own x) (answered st rest (ask.MonEnter r)) (replied never_enters (ask.MonEnter r) s x n held (answered st rest (ask.MonEnter r)))
      each Done ok rest = record { by = λ b. ap (λ ns. gone s n ns (answered st rest (ask.MonEnter r))) (e ∙ sym (is (λ m. m ∷ held) held)); keeps = size }
      each (Refused d) ok rest = record { by = λ b. refl; keeps = size }
      each (Failed f) ok rest = record { by = λ b. refl; keeps = size }
      each (Val v) ok rest = record { by = λ b. absurd b; keeps = tt }
      each Entered ok rest = record { by = λ b. absurd b; keeps = tt }

  pub take_at : (v : Value) (held : List Name) → H st.own.locals ≡ listed v held → MatchesAt kp H (stays s) (take v n st.own) st (Op_does EnterMonitor (v ∷ s) n held st)
  unfolding effect
  take_at (Obj m) held e = take_ask m (Obj m) held (λ c l. refl) e
  take_at (Arr m len) held e = take_ask m (Arr m len) held (λ c l. refl) e
  take_at Nothing held e = fails_at kp H caller never_enters p n s st size (stays s) Null held
  take_at v held e = record { by = λ ok. absurd ok; keeps = tt }

  give_ask : (m : Name) (r : Value) → ((c : Name → List Name) (l : List Name) → held_by r c l ≡ c m) → MatchesAt kp H (stays s) (ask_unit (ask.MonLeave r) n st.own) st (did caller never_enters (if is_held m (m ∷ H st.own.locals) then wants (ask.MonLeave r) s else breaks) p n (m ∷ H st.own.locals) st)
  give_ask m r is =
      subst (λ b. MatchesAt kp H (stays s) (ask_unit (ask.MonLeave r) n st.own) st (did caller never_enters (if b then wants (ask.MonLeave r) s else breaks) p n held st)) (sym (first_held m (H st.own.locals)))
      (ask_at kp H (stays s) (asked numbers (ask.MonLeave r)) (λ x. done_reply tt n st.own x) never_enters s n held st each)
    where
      held : List Name
      held = m ∷ H st.own.locals

      each : (x : Answer) → fits (asked numbers (ask.MonLeave r)).want x ≡ true → (rest : List Answer) → MatchesAt kp H (stays s) (done_reply tt n st.own x) (answered st rest (ask.MonLeave r)) (replied never_enters (ask.MonLeave r) s x n (m ∷ H st.own.locals) (answered st rest (ask.MonLeave r)))
      each Done ok rest = record { by = λ b. ap (λ ns. gone s n ns (answered st rest (ask.MonLeave r))) (sym (is (λ k. without k (m ∷ H st.own.locals)) (m ∷ H st.own.locals) ∙ first_back m (H st.own.locals))); keeps = size }
      each (Refused d) ok rest = record { by = λ b. refl; keeps = size }
      each (Failed f) ok rest = record { by = λ b. refl; keeps = size }
      each (Val v) ok rest = record { by = λ b. absurd b; keeps = tt }
      each Entered ok rest = record { by = λ b. absurd b; keeps = tt }

  pub give_at : (v : Value) → MatchesAt kp H (stays s) (give_back v n st.own) st (Op_does LeaveMonitor (v ∷ s) n (listed v (H st.own.locals)) st)
  unfolding effect
  give_at (Obj m) = give_ask m (Obj m) (λ c l. refl)
  give_at (Arr m len) = give_ask m (Arr m len) (λ c l. refl)
  give_at Nothing = fails_at kp H caller never_enters p n s st size (stays s) Null (H st.own.locals)
  give_at v = record { by = λ ok. absurd ok; keeps = tt }

-- ---- locals

module _ (code : CodeTree) (caller : Caller) (enter : Enters) (p : At) (n : ℕ) (s : List Value) (held : List Name) (st : Along) where
  pub load_is : (x : ℕ) → x < length st.own.locals → op_does code caller enter (Load x) p n s held st ≡ gone (local st.own x ∷ s) n held st
  unfolding effect
  load_is x lt = ap (λ m. did caller enter (on_constant s m) p n held st) (slot_there st.own.locals x lt)

  pub store_is : (x : ℕ) (v : Value) → x < length st.own.locals → op_does code caller enter (Store x) p n (v ∷ s) held st ≡ gone s n held (with_locals st (slice_set st.own.locals x v))
  unfolding effect
  store_is x v lt = ap (λ b. did caller enter (if b then sets (slice_set st.own.locals x v) s else breaks) p n held st) (lt-ltb x (length st.own.locals) lt)

  pub pop_is : (v : Value) → op_does code caller enter Pop p n (v ∷ s) held st ≡ gone s n held st
  unfolding effect
  pop_is v = refl

  pub return_is : (v : Value) → op_does code caller enter Return p n (v ∷ s) held st ≡ returned v n held st
  unfolding effect
  return_is v = refl

-- ---- built-in calls

if_plain : (b : Bool) (x y : Calls) → ActsPlainly x → ActsPlainly y → ActsPlainly (if b then x else y)
if_plain true x y h k = h
if_plain false x y h k = k

byte_plain : (m : Option ℕ) → ActsPlainly (byte_now m)
byte_plain None = tt
byte_plain (Some b) = tt

byte_at_plain : (bs : List ℕ) (z : ℤ) → ActsPlainly (byte_at bs z)
byte_at_plain bs (pos i) = byte_plain (slice_get bs i)
byte_at_plain bs (negsuc i) = tt

slice_plain : (bs : List ℕ) (a b : ℤ) → ActsPlainly (slice_at bs a b)
slice_plain bs (pos i) (pos j) = if_plain (nat_le i j && nat_le j (length bs)) _ _ tt tt
slice_plain bs (pos i) (negsuc j) = tt
slice_plain bs (negsuc i) b = tt

number_plain : (m : Option ℤ) → ActsPlainly (number_in m)
number_plain None = tt
number_plain (Some z) = tt

label_plain : (v : Value) → ActsPlainly (own_label v)
label_plain (Obj n) = tt
label_plain (Arr n len) = tt
label_plain (File n) = tt
label_plain (Dir n) = tt
label_plain (Pipe n) = tt
label_plain v = tt

copy_plain : (v : Value) (l : Label) → ActsPlainly (copied v l)
copy_plain (Obj n) l = tt
copy_plain (Arr n len) l = tt
copy_plain v l = tt

read_plain : (f : Name) (a n : ℤ) → ActsPlainly (read_from f a n)
read_plain f (pos a) (pos n) = if_plain (nat_le n 65536) _ _ tt tt
read_plain f (pos a) (negsuc n) = tt
read_plain f (negsuc a) n = tt

cut_plain : (f : Name) (n : ℤ) → ActsPlainly (cut_to f n)
cut_plain f (pos n) = λ s n held st. refl
cut_plain f (negsuc n) = tt

calls_plain : (l : Label) (c : Caps) (b : Builtin) (vs : List Value) → ActsPlainly (calls.calls l c b vs)
calls_plain l c call.Len (Arr n len ∷ []) = if_plain (is_small (pos len)) _ _ tt tt
calls_plain l c call.Size (Bytes bs ∷ []) = if_plain (is_small (pos (length bs))) _ _ tt tt
calls_plain l c call.Byte (Bytes bs ∷ Int i ∷ []) = byte_at_plain bs i
calls_plain l c call.Slice (Bytes bs ∷ Int i ∷ Int j ∷ []) = slice_plain bs i j
calls_plain l c call.Cat (Bytes a ∷ Bytes b ∷ []) = if_plain (nat_le (length (a ++ b)) 65536) _ _ tt tt
calls_plain l c call.Text (Int i ∷ []) = tt
calls_plain l c call.Number (Bytes bs ∷ []) = number_plain (int_of bs)
calls_plain l c call.MyLabel [] = tt
calls_plain l c call.MyCaps [] = tt
calls_plain l c call.Root [] = tt
calls_plain l c call.LabelOf (v ∷ []) = label_plain v
calls_plain l c call.Copy (v ∷ Lab x ∷ []) = copy_plain v x
calls_plain l c call.Mint [] = tt
calls_plain l c call.Say (Bytes bs ∷ []) = λ s n held st. refl
calls_plain l c call.MakeFile (Dir d ∷ Bytes n ∷ Lab x ∷ []) = tt
calls_plain l c call.MakeDir (Dir d ∷ Bytes n ∷ Lab x ∷ []) = tt
calls_plain l c call.OpenFile (Dir d ∷ Bytes n ∷ []) = tt
calls_plain l c call.OpenDir (Dir d ∷ Bytes n ∷ []) = tt
calls_plain l c call.Remove (Dir d ∷ Bytes n ∷ []) = λ s n held st. refl
calls_plain l c call.Read (File f ∷ Int at ∷ Int n ∷ []) = read_plain f at n
calls_plain l c call.Length (File f ∷ []) = tt
calls_plain l c call.Append (File f ∷ Bytes bs ∷ []) = λ s n held st. refl
calls_plain l c call.Cut (File f ∷ Int n ∷ []) = cut_plain f n
calls_plain l c call.MakePipe (Lab x ∷ []) = tt
calls_plain l c call.Send (Pipe d ∷ Bytes bs ∷ []) = if_plain (nat_le (length bs) 4096) _ _ (λ s n held st. refl) tt
calls_plain l c call.SendCaps (Pipe d ∷ CapV plus minus ∷ []) = λ s n held st. refl
calls_plain l c call.Receive (Pipe d ∷ []) = tt
calls_plain l c call.ReceiveCaps (Pipe d ∷ []) = tt
calls_plain l c call.Join (Thread t ∷ []) = tt
calls_plain l c b vs = tt

pub builtin_plain : (l : Label) (c : Caps) (b : Builtin) (vs : List Value) → ActsPlainly (builtin l c b vs)
unfolding builtin
builtin_plain l c b vs = if_plain (some_null vs) (calls.faults Null) (calls.calls l c b vs) tt (calls_plain l c b vs)
