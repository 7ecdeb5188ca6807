-- What a context asks next.
use Rattle.std.proofs.Common.{◌≡◌, ℕ, true, false, List, [], ◌∷◌, Option, Some, None, refl, sym, ap, ◌∙◌, subst}
use Rattle.std.specs.Prelude.{not, drop}
use Rattle.flow_labels.specs.declared.Label.{Label}
use Rattle.flow_labels.specs.declared.Denied.{Denied}
use Rattle.flow_labels.specs.Failing.{Test, first_failing, read_test, write_test}
use Rattle.lam_value.specs.declared.names.Name.{Name}
use Rattle.lam_value.specs.declared.values.Value.{Value}
use Rattle.lam_value.specs.declared.values.Value.TheVariants.{Obj, Arr}
use Rattle.lam_asks.specs.declared.fault.Fault.{Fault}
use Rattle.lam_asks.specs.declared.answer.Answer.TheVariants.{Val}
use Rattle.lam_asks.specs.declared.ask.Ask.{Ask}
use Rattle.lam_asks.specs.declared.ask.Ask.TheVariants as ask
use Rattle.lam_bytecode.specs.Codes.{CodeTree}
use Rattle.lam_bytecode.specs.declared.op.Op.{Op}
use Rattle.lam_bytecode.specs.declared.op.Op.TheVariants.{ReadBarrier, WriteBarrier}
use Rattle.thread_steps.specs.Threads.{Frame, Inside, Phase, Bottom, Body, Catch, Context}
use Rattle.thread_steps.specs.Ops as ops
use Rattle.thread_steps.specs.Ops.{Did, gives, sets, jumps, calls, returns, fails, wants, leaves, breaks, barrier, may_read, may_write, effect}
use Rattle.thread_steps.specs.Next.{Next, goes, asks, past, returned, leaving, next_by, raised, around, next_op, next_in, next_of}
use Rattle.lam_machine_laws.specs.Serves.{Served, sets_slot, answers, does, unless_denied, under, unless, of_thing, at_thing, name_in}
use Rattle.lam_machine_laws.specs.Serving.{slot_at}
use Rattle.lam_machine_laws.specs.Turns.{is_bottom, lists, may_ask}
use Rattle.lam_machine_valid.specs.Laws.{IsTop, IsBarred, IsPassed, op_at, StandsAt, LeadsTo, IsRead, IsWritten, GivesSlot, SetsSlot, AsksWhatItMay, BarriersTest, AccessesPass}
use Rattle.lam_machine_valid.proofs.EffectLemmas.{IsThing, AskOf, Proper, effect_is}

-- what holds where a context asks
abbrev pub AskIs : CodeTree → Context → Ask → Type 0
AskIs code c (ask.Read r at) = IsRead c.label r
AskIs code c (ask.Write r at v) = IsWritten c.label r
AskIs code c (ask.CopyTo r l) = IsThing r
AskIs code c (ask.Barred d) = (op : Op) × (op_at code c ≡ Some op) × IsBarred c.label c.inside.frame.stack d op
AskIs code c (ask.MonEnter r) = IsThing r
AskIs code c (ask.MonLeave r) = lists c.held r ≡ true
AskIs code c ask.Leave = is_bottom c.phase ≡ false
AskIs code c (ask.Caught f) = is_bottom c.phase ≡ false
AskIs code c (ask.Suppressed f) = is_bottom c.phase ≡ false
AskIs code c (ask.End r) = is_bottom c.phase ≡ true
AskIs code c q = Unit {0}

abbrev pub NextIs : CodeTree → Context → Next → Type 0
NextIs code c (asks q after) = AskIs code c q
NextIs code c n = Unit {0}

module _ (code : CodeTree) (c : Context) where
  lifted : (op : Op) → op_at code c ≡ Some op → (q : Ask) → AskOf (around code c) c.inside.frame.stack op q → AskIs code c q
  lifted op e (ask.Read r at) h = h
  lifted op e (ask.Write r at v) h = h
  lifted op e (ask.CopyTo r l) h = h
  lifted op e (ask.Barred d) h = (op, e, h)
  lifted op e (ask.MonEnter r) h = h
  lifted op e (ask.MonLeave r) h = h
  lifted op e ask.Leave h = absurd h
  lifted op e (ask.Caught f) h = absurd h
  lifted op e (ask.Suppressed f) h = absurd h
  lifted op e (ask.End r) h = absurd h
  lifted op e q h = tt

  returned_is : (ph : Phase) → c.phase ≡ ph → (i : Inside) (v : Value) (fs : List Frame) → NextIs code c (returned ph i v fs)
  returned_is Bottom e i v [] = ap is_bottom e
  returned_is (Body at) e i v [] = tt
  returned_is Catch e i v [] = tt
  returned_is ph e i v (f ∷ fs) = tt

  leaving_is : (ph : Phase) → c.phase ≡ ph → (i : Inside) → NextIs code c (leaving ph i)
  leaving_is Bottom e i = tt
  leaving_is (Body at) e i = ap is_bottom e
  leaving_is Catch e i = ap is_bottom e

  raised_is : (ph : Phase) → c.phase ≡ ph → (i : Inside) (f : Fault) → NextIs code c (raised ph i f)
  raised_is Bottom e i f = ap is_bottom e
  raised_is (Body at) e i f = ap is_bottom e
  raised_is Catch e i f = ap is_bottom e

  did_is : (op : Op) → op_at code c ≡ Some op → (d : Did) → Proper (around code c) c.inside.frame.stack op d → NextIs code c (next_by code c.phase c.inside d)
  did_is op e (gives s) h = tt
  did_is op e (sets ls s) h = tt
  did_is op e (jumps to s) h = tt
  did_is op e (calls u vs s) h = tt
  did_is op e (returns v) h = returned_is c.phase refl c.inside v c.inside.callers
  did_is op e (fails f) h = tt
  did_is op e (wants q s) h = lifted op e q h
  did_is op e leaves h = leaving_is c.phase refl c.inside
  did_is op e breaks h = tt

  op_is : (x : Option Op) → op_at code c ≡ x → NextIs code c (next_op code c x)
  op_is None e = tt
  op_is (Some op) e = did_is op e (effect (around code c) c.inside.frame.stack op) (effect_is (around code c) c.inside.frame.stack op)

  fault_is : (x : Option Fault) → NextIs code c (next_in code c x)
  fault_is None = op_is (op_at code c) refl
  fault_is (Some f) = raised_is c.phase refl c.inside f

pub next_is : (code : CodeTree) (c : Context) → NextIs code c (next_of code c)
unfolding next_of
next_is code c = fault_is code c c.inside.fault

pub ask_is : (code : CodeTree) (c : Context) (a : Ask) (after : Inside) → next_of code c ≡ asks a after → AskIs code c a
ask_is code c a after e = subst (λ n. NextIs code c n) e (next_is code c)

may_by : (code : CodeTree) (c : Context) (a : Ask) → AskIs code c a → may_ask c a ≡ true
may_by code c ask.Leave h = ap not h
may_by code c (ask.End r) h = h
may_by code c (ask.MonLeave r) h = h
may_by code c a h = refl

pub what_it_may : (code : CodeTree) → AsksWhatItMay code
what_it_may code c a after e = may_by code c a (ask_is code c a after e)

-- ---- barriers

top_tested : (s t : List Value) (n : Name) (rule : Label → Option Denied) → IsTop t n → ops.on_thing t (λ k rest. barrier s (rule k.own)) ≡ barrier s (rule n.own)
top_tested s (Obj m ∷ t) n rule e = ap (λ (k : Name). barrier s (rule k.own)) e
top_tested s (Arr m len ∷ t) n rule e = ap (λ (k : Name). barrier s (rule k.own)) e
top_tested s t n rule e = absurd e

-- what comes next of a barrier
abbrev after_test : Context → Option Denied → Next
after_test c None = goes (past c.inside c.inside.frame.stack)
after_test c (Some d) = asks (ask.Barred d) (past c.inside c.inside.frame.stack)

module _ (code : CodeTree) (c : Context) where
  barrier_next : (x : Option Denied) → next_by code c.phase c.inside (barrier c.inside.frame.stack x) ≡ after_test c x
  barrier_next None = refl
  barrier_next (Some d) = refl

  at_op : (op : Op) → StandsAt code c op → next_of code c ≡ next_by code c.phase c.inside (effect (around code c) c.inside.frame.stack op)
  unfolding next_of
  at_op op h = ap (next_in code c) h.fault ∙ ap (next_op code c) h.at

  at_read : (depth : ℕ) (n : Name) → StandsAt code c (ReadBarrier depth) → IsTop (drop depth c.inside.frame.stack) n → next_of code c ≡ after_test c (first_failing (read_test c.label n.own))
  unfolding effect
  at_read depth n h top =
      at_op (ReadBarrier depth) h ∙ ap (next_by code c.phase c.inside) (top_tested c.inside.frame.stack (drop depth c.inside.frame.stack) n (may_read c.label) top) ∙ barrier_next (first_failing (read_test c.label n.own))

  at_write : (depth : ℕ) (n : Name) → StandsAt code c (WriteBarrier depth) → IsTop (drop depth c.inside.frame.stack) n → next_of code c ≡ after_test c (first_failing (write_test c.label n.own))
  unfolding effect
  at_write depth n h top =
      at_op (WriteBarrier depth) h ∙ ap (next_by code c.phase c.inside) (top_tested c.inside.frame.stack (drop depth c.inside.frame.stack) n (may_write c.label) top) ∙ barrier_next (first_failing (write_test c.label n.own))

  pub barred_at : (op : Op) (d : Denied) → StandsAt code c op → IsBarred c.label c.inside.frame.stack d op → next_of code c ≡ asks (ask.Barred d) (past c.inside c.inside.frame.stack)
  barred_at (ReadBarrier depth) d h b = at_read depth b.0 h b.1 ∙ ap (after_test c) b.2
  barred_at (WriteBarrier depth) d h b = at_write depth b.0 h b.1 ∙ ap (after_test c) b.2
  barred_at op d h b = absurd b

  passed_at : (op : Op) → StandsAt code c op → IsPassed c.label c.inside.frame.stack op → next_of code c ≡ goes (past c.inside c.inside.frame.stack)
  passed_at (ReadBarrier depth) h b = at_read depth b.0 h b.1 ∙ ap (after_test c) b.2
  passed_at (WriteBarrier depth) h b = at_write depth b.0 h b.1 ∙ ap (after_test c) b.2
  passed_at op h b = absurd b

pub test_barriers : (code : CodeTree) → BarriersTest code
test_barriers code =
    record {
      named = λ c d after e. ask_is code c (ask.Barred d) after e;
      barred = barred_at code;
      passed = passed_at code;
    }

-- ---- accesses

allowed : (x : Option Denied) (y : Served) → x ≡ None → unless_denied x y ≡ y
allowed x y e = ap (λ k. unless_denied k y) e

may_read_it : (p : Label) (r : Value) (n : Name) → IsRead p r → LeadsTo r n → first_failing (read_test p n.own) ≡ None
may_read_it p (Obj m) n h e = subst (λ (k : Name). first_failing (read_test p k.own) ≡ None) (sym h.1 ∙ e) h.2
may_read_it p (Arr m len) n h e = subst (λ (k : Name). first_failing (read_test p k.own) ≡ None) (sym h.1 ∙ e) h.2
may_read_it p r n h e = absurd e

may_write_it : (p : Label) (r : Value) (n : Name) → IsWritten p r → LeadsTo r n → first_failing (write_test p n.own) ≡ None
may_write_it p (Obj m) n h e = subst (λ (k : Name). first_failing (write_test p k.own) ≡ None) (sym h.1 ∙ e) h.2
may_write_it p (Arr m len) n h e = subst (λ (k : Name). first_failing (write_test p k.own) ≡ None) (sym h.1 ∙ e) h.2
may_write_it p r n h e = absurd e

-- a reference is followed
pub followed : (r : Value) (n : Name) → LeadsTo r n → name_in r ≡ n
followed (Obj m) n e = e
followed (Arr m len) n e = e
followed r n e = absurd e

accessed : (r : Value) (n : Name) (test : Name → Test) (go : Name → Served) → LeadsTo r n → first_failing (test n) ≡ None → under (of_thing r test) (unless (at_thing r (λ k. None)) (go (name_in r))) ≡ go n
unfolding under unless
accessed (Obj m) n test go e p = allowed (first_failing (test m)) (go m) (ap (λ k. first_failing (test k)) e ∙ p) ∙ ap go e
accessed (Arr m len) n test go e p = allowed (first_failing (test m)) (go m) (ap (λ k. first_failing (test k)) e ∙ p) ∙ ap go e
accessed r n test go e p = absurd e

pub gives_slot : (c : Context) (r : Value) (at : ℕ) → IsRead c.label r → GivesSlot c r at
gives_slot c r at h w n e = accessed r n (λ k. read_test c.label k.own) (λ k. answers (Val (slot_at w.heap k at))) e (may_read_it c.label r n h e)

pub sets_it : (c : Context) (r v : Value) (at : ℕ) → IsWritten c.label r → SetsSlot c r at v
sets_it c r v at h w n e = accessed r n (λ k. write_test c.label k.own) (λ k. does (sets_slot k at v)) e (may_write_it c.label r n h e)

pub access_passes : (code : CodeTree) → AccessesPass code
access_passes code =
    record {
      reads = λ c r at after e. let h = ask_is code c (ask.Read r at) after e in (h, gives_slot c r at h);
      writes = λ c r v at after e. let h = ask_is code c (ask.Write r at v) after e in (h, sets_it c r v at h);
    }
