-- What comes next of a described context: a private turn keeps that it is described, and so does each ask, once it is
-- answered.
use Rattle.std.proofs.Common.{◌≡◌, ℕ, zero, suc, ◌+◌, inl, Bool, true, false, List, [], ◌∷◌, Option, Some, None, length, drop, slice_get, refl, sym, ap, ◌∙◌, subst}
use Rattle.std.specs.Prelude.{nat_lt, slice_set, if◌then◌else◌}
use Rattle.std.specs.List.{AllByRecursion}
use Rattle.std.proofs.lemmas.List.{length-set}
use Rattle.flow_labels.specs.declared.Label.{Label}
use Rattle.flow_labels.specs.declared.Denied.{Denied}
use Rattle.lam_value.specs.declared.values.Value.{Value}
use Rattle.lam_value.specs.declared.values.Value.TheVariants.{Int, Nothing, Obj, Arr}
use Rattle.lam_asks.specs.declared.fault.Fault.{Fault}
use Rattle.lam_asks.specs.declared.fault.Fault.TheVariants as fault
use Rattle.lam_asks.specs.Faults.{fault_number}
use Rattle.lam_asks.specs.declared.ask.Ask.{Ask}
use Rattle.lam_asks.specs.declared.ask.Ask.TheVariants as ask
use Rattle.lam_asks.specs.Suits.{Given, is_done, is_entered, is_value}
use Rattle.lam_bytecode.specs.Codes.{CodeTree, IsCode}
use Rattle.lam_bytecode.specs.declared.op.Op.{Op}
use Rattle.lam_bytecode.specs.declared.op.Op.TheVariants.{Load, Store, ReadBarrier, WriteBarrier}
use Rattle.thread_steps.specs.Threads.{Frame, Inside, Phase, Bottom, Body, Catch, Context}
use Rattle.thread_steps.specs.Ops.{Did, gives, sets, jumps, calls, returns, fails, wants, leaves, breaks, on_any, on_thing, on_constant, stores, barrier, region_in, effect}
use Rattle.thread_steps.specs.Next as next
use Rattle.thread_steps.specs.Next.{Next, goes, asks, stuck, with_frame, frame_at, past, faulted, entry, returned, leaving, next_by, raised, ops_of, around, next_op, next_in, next_of, region_context, outermost, catch_at, catching}
use Rattle.guarded_code.specs.Breaks.{IsGuarded}
use Rattle.guarded_code.specs.declared.known.ValueKind.{ValueKind}
use Rattle.guarded_code.specs.declared.known.Access.{Access}
use Rattle.guarded_code.specs.declared.known.Access.TheVariants.{Reading, Writing}
use Rattle.guarded_code.specs.Descriptions.{Description}
use Rattle.guarded_code.specs.Changes.{Change, Trades, Tests, change, left}
use Rattle.guarded_code.specs.Changes as changes
use Rattle.guarded_code_threads.specs.Described.{rule_of, Allows, Agrees, description_at, FrameAgrees, with_operand, Awaits, ActingAgrees, MayCatch, IsDescribedInside, IsDescribedContext}
use Rattle.guarded_code_threads.specs.Answers.{given_by}
use Rattle.guarded_code_threads.specs.Laws.{TakesAll}
use Rattle.guarded_code_threads.proofs.Agreeing.{PutOn, trade_agrees, load_agrees, store_agrees, barrier_agrees}
use Rattle.guarded_code_threads.proofs.Addresses.{In, Comes, comes_agrees, goes_comes, function_taking, entry_agrees, entry_long, RegionTaking, region_taking, catch_agrees}
use Rattle.guarded_code_threads.proofs.Trading.{ValueOn, GivenOn, AskTrades, DidTrades, ChangeTrades, IsTrade, op_trades}

module _ (code : CodeTree) where
  -- ---- what is owed of an ask, for each answer of its form

  abbrev pub given_inside : Inside → Value → Inside
  given_inside i v = with_frame i (with_operand i.frame v)

  abbrev pub GivenKeeps : Label → Phase → Inside → Given → Type 0
  GivenKeeps p ph i is_done = IsDescribedInside code p ph i
  GivenKeeps p ph i is_entered = ⊥
  GivenKeeps p ph i (is_value sort) = (v : Value) → IsDescribedInside code p ph (given_inside i v)

  abbrev pub AskKeeps : Context → Inside → Ask → Type 0
  AskKeeps c i ask.Leave = Unit {0}
  AskKeeps c i (ask.Barred d) = Unit {0}
  AskKeeps c i (ask.Caught f) = IsDescribedContext code (catching c f)
  AskKeeps c i (ask.Suppressed f) = Unit {0}
  AskKeeps c i (ask.End r) = Unit {0}
  AskKeeps c i (ask.Enter l k r vs) = IsDescribedInside code c.label c.phase i × IsDescribedContext code (region_context code c l k r vs)
  AskKeeps c i (ask.Spawn u vs k) = ((v : Value) → IsDescribedInside code c.label c.phase (given_inside i v)) × TakesAll code u vs
  AskKeeps c i a = GivenKeeps c.label c.phase i (given_by a)

  abbrev pub NextKeeps : Context → Next → Type 0
  NextKeeps c (goes i) = IsDescribedInside code c.label c.phase i
  NextKeeps c (asks a i) = AskKeeps c i a
  NextKeeps c stuck = Unit {0}

  -- ---- the outermost frame

  -- with another frame in place of one in the same unit, with as many locals
  body_moved : (ph : Phase) (f g : Frame) (fs : List Frame) → g.unit ≡ f.unit → length g.locals ≡ length f.locals → MayCatch code ph (outermost f fs) → MayCatch code ph (outermost g fs)
  body_moved (Body at) f g [] e l h = record { unit = h.unit; it = ap (slice_get code.units) e ∙ h.it; place = h.place; locals = l ∙ h.locals }
  body_moved (Body at) f g (k ∷ fs) e l h = h
  body_moved ph f g fs e l h = tt

  module _ (is : IsCode code) (guarded : IsGuarded code) (c : Context) (h : IsDescribedContext code c) where
    abbrev i : Inside
    i = c.inside

    abbrev f : Frame
    f = c.inside.frame

    -- the acting frame goes on in its unit
    moved : (at : ℕ) (ls vs : List Value) → FrameAgrees code c.label (frame_at f at ls vs) → length ls ≡ length f.locals → IsDescribedInside code c.label c.phase (with_frame i (frame_at f at ls vs))
    moved at ls vs a l = record { acting = a; waiting = h.waiting; body = body_moved c.phase f (frame_at f at ls vs) i.callers refl l h.body }

    fault_keeps : (g : Fault) → IsDescribedInside code c.label c.phase (faulted i g)
    fault_keeps g = record { acting = tt; waiting = h.waiting; body = h.body }

    -- the frame of a call, with the caller waiting below
    call_keeps : (u : ℕ) (vs s : List Value) → TakesAll code u vs → ((v : Value) → FrameAgrees code c.label (frame_at f (f.at + 1) f.locals (v ∷ s))) → IsDescribedInside code c.label c.phase (next.called code i u vs s)
    call_keeps u vs s t a =
        let k = function_taking code is u vs t in
        record {
          acting = entry_agrees code guarded c.label u k.unit vs k.it k.fits;
          waiting = (a, h.waiting);
          body = body_moved c.phase f (past i s).frame i.callers refl refl h.body;
        }

    return_keeps : (ph : Phase) (v : Value) (fs : List Frame) → AllByRecursion (Awaits code c.label) fs → MayCatch code c.phase (outermost f fs) → NextKeeps c (returned ph i v fs)
    return_keeps Bottom v [] w b = tt
    return_keeps (Body at) v [] w b = tt
    return_keeps Catch v [] w b = tt
    return_keeps ph v (g ∷ fs) w b = record { acting = w.0 v; waiting = w.1; body = body_moved c.phase g (with_operand g v) fs refl refl b }

    leave_keeps : (ph : Phase) → NextKeeps c (leaving ph i)
    leave_keeps Bottom = tt
    leave_keeps ph = tt

    region_keeps : (l : Label) (r : ℕ) (vs : List Value) → RegionTaking code r vs → IsDescribedInside code l (Body (next.catch_place (region_in r code.units))) (record { frame = entry code (next.unit_number (region_in r code.units)) vs; callers = []; fault = None })
    region_keeps l r vs k =
        let n = next.unit_number (region_in r code.units) in
        record {
          acting = entry_agrees code guarded l n k.unit vs k.it k.fits;
          waiting = tt;
          body = record { unit = k.unit; it = k.it; place = k.place; locals = entry_long code guarded n k.unit vs k.it k.fits };
        }

    -- ---- an operation that trades

    -- what it leaves comes to the addresses to which it goes, and holds of what it puts on the rest
    module _ (bs : List ℕ) (g : Option ValueKind) (rest : List Value) (x : Description) (comes : (b : ℕ) → In b bs → Comes code f.unit b x) (puts : (s : List Value) → PutOn g rest s → Agrees c.label x f.locals s) where
      goes_on : (b : ℕ) (s : List Value) → In b bs → PutOn g rest s → IsDescribedInside code c.label c.phase (with_frame i (frame_at f b f.locals s))
      goes_on b s n p = moved b f.locals s (comes_agrees code c.label x (frame_at f b f.locals s) (comes b n) (puts s p)) refl

      on_value : (k : Option ValueKind) → g ≡ k → (s : List Value) → ValueOn code f.at bs g rest k s → (v : Value) → PutOn g rest (v ∷ s)
      on_value None e s o v = absurd o
      on_value (Some kind) e s o v = subst (λ k. PutOn k rest (v ∷ s)) (sym e) (v, ap (λ r. v ∷ r) o)

      given_keeps : (w : Given) (s : List Value) → In (f.at + 1) bs → GivenOn code f.at bs g rest w s → GivenKeeps c.label c.phase (past i s) w
      given_keeps is_done s n o = goes_on (f.at + 1) s n o
      given_keeps is_entered s n o = absurd o
      given_keeps (is_value sort) s n o = λ v. goes_on (f.at + 1) (v ∷ s) n (on_value g refl s o v)

      ask_keeps : (a : Ask) (s : List Value) → In (f.at + 1) bs → AskTrades code f.at bs g rest a s → AskKeeps c (past i s) a
      ask_keeps (ask.Enter l k r vs) s n o = (goes_on (f.at + 1) s n o.0, region_keeps l r vs (region_taking code is r vs o.1))
      ask_keeps (ask.Spawn u vs k) s n o = ((λ v. goes_on (f.at + 1) (v ∷ s) n (on_value g refl s o.0 v)), o.1)
      ask_keeps ask.Leave s n o = absurd o
      ask_keeps (ask.Barred d) s n o = absurd o
      ask_keeps (ask.Caught q) s n o = absurd o
      ask_keeps (ask.Suppressed q) s n o = absurd o
      ask_keeps (ask.End r) s n o = absurd o
      ask_keeps a s n o = given_keeps (given_by a) s n o

      did_keeps : (d : Did) → DidTrades code f.at bs g rest d → NextKeeps c (next_by code c.phase i d)
      did_keeps (gives s) o = goes_on (f.at + 1) s o.0 o.1
      did_keeps (sets ls s) o = absurd o
      did_keeps (jumps to s) o = goes_on to s o.0 o.1
      did_keeps (calls u vs s) o = call_keeps u vs s o.2 (λ v. comes_agrees code c.label x (frame_at f (f.at + 1) f.locals (v ∷ s)) (comes (f.at + 1) o.0) (puts (v ∷ s) (on_value g refl s o.1 v)))
      did_keeps (returns v) o = return_keeps c.phase v i.callers h.waiting h.body
      did_keeps (fails q) o = fault_keeps q
      did_keeps (wants a s) o = ask_keeps a s o.0 o.1
      did_keeps leaves o = leave_keeps c.phase
      did_keeps breaks o = tt

    -- ---- each operation, where the acting frame agrees with d

    module _ (d : Description) (known : description_at code f.unit f.at ≡ Some d) (agrees : Agrees c.label d f.locals f.stack) where
      trade_keeps : (op : Op) → slice_get (ops_of code f.unit) f.at ≡ Some op → (k : Change) → change code op ≡ k → IsTrade k → (did : Did) → ChangeTrades (around code c) f.stack f.at (changes.goes f.at op) k did → NextKeeps c (next_by code c.phase i did)
      trade_keeps op at (Trades takes g) e t did o =
          did_keeps (changes.goes f.at op) g (drop (length takes) f.stack) (left (Trades takes g) d)
          (λ b n. subst (λ k. Comes code f.unit b (left k d)) e (goes_comes code guarded f.unit f.at op d b known at n))
          (λ s p. trade_agrees c.label (length takes) g d f.locals f.stack s agrees p) did o
      trade_keeps op at k e t did o = absurd t

      past_keeps : (op : Op) (ls s : List Value) → slice_get (ops_of code f.unit) f.at ≡ Some op → In (f.at + 1) (changes.goes f.at op) → Agrees c.label (left (change code op) d) ls s → length ls ≡ length f.locals →
          IsDescribedInside code c.label c.phase (with_frame i (frame_at f (f.at + 1) ls s))
      past_keeps op ls s at n a l =
          moved (f.at + 1) ls s (comes_agrees code c.label (left (change code op) d) (frame_at f (f.at + 1) ls s) (goes_comes code guarded f.unit f.at op d (f.at + 1) known at n) a) l

      load_keeps : (n : ℕ) → slice_get (ops_of code f.unit) f.at ≡ Some (Load n) → (x : Option Value) → slice_get f.locals n ≡ x → NextKeeps c (next_by code c.phase i (on_constant f.stack x))
      load_keeps n at None e = tt
      load_keeps n at (Some v) e = past_keeps (Load n) f.locals (v ∷ f.stack) at (inl refl) (load_agrees c.label n d f.locals f.stack v agrees e) refl

      store_keeps : (n : ℕ) → slice_get (ops_of code f.unit) f.at ≡ Some (Store n) → (s : List Value) → f.stack ≡ s → NextKeeps c (next_by code c.phase i (on_any s (λ v s. stores f.locals n v s)))
      store_keeps n at [] e = tt
      store_keeps n at (v ∷ s) e = by (nat_lt n (length f.locals))
        where
          by : (b : Bool) → NextKeeps c (next_by code c.phase i (if b then sets (slice_set f.locals n v) s else breaks))
          by true =
              past_keeps (Store n) (slice_set f.locals n v) s at (inl refl)
              (store_agrees c.label n d f.locals s v (subst (λ x. Agrees c.label d f.locals x) e agrees)) (length-set f.locals n v)
          by false = tt

      -- a barrier that passes leaves its facts
      module _ (access : Access) (depth : ℕ) (op : Op) (at : slice_get (ops_of code f.unit) f.at ≡ Some op) (is_test : change code op ≡ Tests access depth) (n : In (f.at + 1) (changes.goes f.at op)) where
        pass_keeps : (w : Value) → slice_get f.stack depth ≡ Some w → Allows c.label access w → IsDescribedInside code c.label c.phase (past i f.stack)
        pass_keeps w e a =
            past_keeps op f.locals f.stack at n
            (subst (λ k. Agrees c.label (left k d) f.locals f.stack) (sym is_test) (barrier_agrees c.label access depth d f.locals f.stack w agrees e a)) refl

        test_keeps : (x : Option Denied) (w : Value) → slice_get f.stack depth ≡ Some w → (x ≡ None → Allows c.label access w) → NextKeeps c (next_by code c.phase i (barrier f.stack x))
        test_keeps None w e a = pass_keeps w e (a refl)
        test_keeps (Some q) w e a = tt

        first_at : (k : ℕ) (s : List Value) (w : Value) (r : List Value) → drop k s ≡ w ∷ r → slice_get s k ≡ Some w
        first_at zero [] w r e = absurd cc
        first_at zero (y ∷ s) w r e = ap (λ l. slice_get l 0) e
        first_at (suc k) [] w r e = absurd cc
        first_at (suc k) (y ∷ s) w r e = first_at k s w r e

        barrier_keeps : (s : List Value) → drop depth f.stack ≡ s → NextKeeps c (next_by code c.phase i (on_thing s (λ m rest. barrier f.stack (rule_of access c.label m.own))))
        barrier_keeps (Obj m ∷ s) e = test_keeps (rule_of access c.label m.own) (Obj m) (first_at depth f.stack (Obj m) s e) (λ q. q)
        barrier_keeps (Arr m len ∷ s) e = test_keeps (rule_of access c.label m.own) (Arr m len) (first_at depth f.stack (Arr m len) s e) (λ q. q)
        barrier_keeps (Nothing ∷ s) e = fault_keeps fault.Null
        barrier_keeps s e = tt

      op_keeps : (op : Op) → slice_get (ops_of code f.unit) f.at ≡ Some op → NextKeeps c (next_by code c.phase i (effect (around code c) f.stack op))
      unfolding effect
      op_keeps (Load n) at = load_keeps n at (slice_get f.locals n) refl
      op_keeps (Store n) at = store_keeps n at f.stack refl
      op_keeps (ReadBarrier depth) at = barrier_keeps Reading depth (ReadBarrier depth) at refl (inl refl) (drop depth f.stack) refl
      op_keeps (WriteBarrier depth) at = barrier_keeps Writing depth (WriteBarrier depth) at refl (inl refl) (drop depth f.stack) refl
      op_keeps op at = trade_keeps op at (change code op) refl tt (effect (around code c) f.stack op) (op_trades (around code c) f.stack f.at op)

    -- ---- a fault

    raise_keeps : (g : Fault) (ph : Phase) → c.phase ≡ ph → NextKeeps c (raised ph i g)
    raise_keeps g (Body at) e =
        let o = outermost f i.callers in
        record {
          acting = subst (λ k. FrameAgrees code c.label (frame_at o (catch_at k) o.locals (Int (fault_number g) ∷ []))) (sym e) (catch_agrees code guarded c.label at o (Int (fault_number g)) (subst (λ k. MayCatch code k o) e h.body));
          waiting = tt;
          body = tt;
        }
    raise_keeps g ph e = tt

    step_keeps : FrameAgrees code c.label f → (x : Option Op) → slice_get (ops_of code f.unit) f.at ≡ x → NextKeeps c (next_op code c x)
    step_keeps a None e = tt
    step_keeps a (Some op) e = op_keeps a.known a.it a.agrees op e

    turn_keeps : (x : Option Fault) → c.inside.fault ≡ x → NextKeeps c (next_in code c x)
    turn_keeps None e = step_keeps (subst (λ x. ActingAgrees code c.label x f) e h.acting) (slice_get (ops_of code f.unit) f.at) refl
    turn_keeps (Some g) e = raise_keeps g c.phase refl

    pub next_keeps : NextKeeps c (next_of code c)
    unfolding next_of
    next_keeps = turn_keeps c.inside.fault refl
