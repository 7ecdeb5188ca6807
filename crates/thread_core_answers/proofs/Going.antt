-- How a context goes on after an answer.
use Rattle.std.proofs.Common.{◌≡◌, ℕ, suc, ◌+◌, Bool, true, false, List, ◌∷◌, ◌++◌, drop, take, Option, Some, None, sym, ap, ◌∙◌, refl, arith}
use Rattle.capabilities.specs.declared.Caps.{Caps}
use Rattle.lam_value.specs.declared.names.Name.{Name}
use Rattle.lam_value.specs.declared.values.Value.{Value}
use Rattle.lam_value.specs.declared.values.Value.TheVariants.{Obj, Arr}
use Rattle.lam_asks.specs.declared.ask.Ask.{Ask}
use Rattle.thread_steps.specs.Threads.{Inside, Context}
use Rattle.thread_steps.specs.Next.{given, gains, with_caps, with_inside, with_held, held_by, frame_at}
use Rattle.thread_core_effects.specs.Acting.{left_over}
use Rattle.thread_core_effects.specs.Reading.{thing_in}
use Rattle.thread_core_answers.specs.Preparing.{after_of, nulls, gone, undone, caps_or, held_before, held_after}
use Rattle.thread_core_answers.specs.declared.plan.Left.{Left}
use Rattle.thread_core_answers.specs.declared.plan.Going.{Going}
use Rattle.thread_core_answers.specs.declared.plan.Monitor.{Monitor}
use Rattle.thread_core_answers.specs.declared.plan.Monitor.TheVariants.{Stays, Taken}

-- a context with other operands
abbrev pub with_stack : Context → List Value → Context
with_stack c s = with_inside c (record { frame = frame_at c.inside.frame c.inside.frame.at c.inside.frame.locals s; callers = c.inside.callers; fault = c.inside.fault })

nulls_left : (b : Bool) (takes : ℕ) (s : List Value) → nulls b ++ drop takes s ≡ left_over takes b s
nulls_left true takes s = refl
nulls_left false takes s = refl

abbrev pub going : ℕ → ℕ → ℕ → Bool → Option Caps → Going
going at takes added clears caps = record { at = at; takes = takes; added = added; clears = clears; caps = caps; monitor = Stays }

abbrev pub left_of : ℕ → ℕ → Bool → Left
left_of at takes b = record { at = at; takes = takes; leaves_null = b }

pub undone_is : (c : Context) (s : List Value) (at takes added : ℕ) (clears : Bool) (caps : Option Caps) → drop added s ≡ c.inside.frame.stack
    → undone (going at takes added clears caps) (with_stack c s) ≡ c
undone_is c s at takes added clears caps e = ap (with_stack c) e

-- one more on top
pub take_next : {A : Type 0} (n : ℕ) (x : A) (s t u : List A) → t ≡ x ∷ s → take n s ≡ u → take (n + 1) t ≡ x ∷ u
take_next n x s t u e h = let k : n + 1 ≡ suc n = omega arith in ap (λ m. take m t) k ∙ (ap (take (suc n)) e ∙ ap (λ l. x ∷ l) h)

pub drop_next : {A : Type 0} (n : ℕ) (x : A) (s t u : List A) → t ≡ x ∷ s → drop n s ≡ u → drop (n + 1) t ≡ u
drop_next n x s t u e h = let k : n + 1 ≡ suc n = omega arith in ap (λ m. drop m t) k ∙ (ap (drop (suc n)) e ∙ h)

-- with a value
pub value_gone : (c : Context) (i : Inside) (at takes added : ℕ) (b : Bool) (s : List Value) (v : Value) (o : Option Caps) (a : Ask)
    → take added s ≡ v ∷ nulls b → drop added s ≡ c.inside.frame.stack → i ≡ after_of (left_of at takes b) c.inside
    → ((d : Context) → d.caps ≡ c.caps → gains a v d ≡ with_caps d (caps_or o d.caps))
    → gone (going at takes added true o) (with_stack c s) ≡ gains a v (given c i v)
value_gone c i at takes added b s v o a t d l g =
    let st : take added s ++ drop takes (drop added s) ≡ v ∷ left_over takes b c.inside.frame.stack =
    ap (λ x. x ++ drop takes (drop added s)) t ∙ ap (λ x. v ∷ x) (ap (λ x. nulls b ++ drop takes x) d ∙ nulls_left b takes c.inside.frame.stack) in
    let w : given c i v ≡ given c (after_of (left_of at takes b) c.inside) v = ap (λ j. given c j v) l in
    ap (λ x. record {
      label = c.label;
      caps = caps_or o c.caps;
      depth = c.depth;
      phase = c.phase;
      held = c.held;
      inside = record { frame = frame_at c.inside.frame at c.inside.frame.locals x; callers = c.inside.callers; fault = None };
    }) st
    ∙ sym (ap (gains a v) w ∙ g (given c (after_of (left_of at takes b) c.inside) v) refl)

-- without one
pub rest_gone : (c : Context) (i : Inside) (at takes added : ℕ) (b : Bool) (s : List Value)
    → take added s ≡ nulls b → drop added s ≡ c.inside.frame.stack → i ≡ after_of (left_of at takes b) c.inside
    → gone (going at takes added false None) (with_stack c s) ≡ with_inside c i
rest_gone c i at takes added b s t d l =
    let st : take added s ++ drop takes (drop added s) ≡ left_over takes b c.inside.frame.stack =
    ap (λ x. x ++ drop takes (drop added s)) t ∙ (ap (λ x. nulls b ++ drop takes x) d ∙ nulls_left b takes c.inside.frame.stack) in
    ap (λ x. record {
      label = c.label;
      caps = c.caps;
      depth = c.depth;
      phase = c.phase;
      held = c.held;
      inside = record { frame = frame_at c.inside.frame at c.inside.frame.locals x; callers = c.inside.callers; fault = c.inside.fault };
    }) st
    ∙ sym (ap (with_inside c) l)

-- ---- monitors

abbrev pub going_with : ℕ → ℕ → ℕ → Monitor → Going
going_with at takes added m = record { at = at; takes = takes; added = added; clears = false; caps = None; monitor = m }

pub kept_undone : (c : Context) (s : List Value) (at takes added : ℕ) (m : Monitor) → drop added s ≡ c.inside.frame.stack → held_before m c.held ≡ c.held
    → undone (going_with at takes added m) (with_stack c s) ≡ c
kept_undone c s at takes added m e h = ap (λ t. with_held (with_stack c t) (held_before m c.held)) e ∙ ap (with_held c) h

pub kept_gone : (c : Context) (i : Inside) (at takes added : ℕ) (b : Bool) (s : List Value) (m : Monitor) (ns : List Name)
    → take added s ≡ nulls b → drop added s ≡ c.inside.frame.stack → i ≡ after_of (left_of at takes b) c.inside → held_after m c.held ≡ ns
    → gone (going_with at takes added m) (with_stack c s) ≡ with_held (with_inside c i) ns
kept_gone c i at takes added b s m ns t d l h =
    ap (λ k. with_held k (held_after m c.held)) (rest_gone c i at takes added b s t d l) ∙ ap (with_held (with_inside c i)) h

-- a monitor was put first
pub taken_undone : (c : Context) (s : List Value) (at takes added : ℕ) (n : Name) → drop added s ≡ c.inside.frame.stack
    → undone (going_with at takes added Taken) (with_held (with_stack c s) (n ∷ c.held)) ≡ c
taken_undone c s at takes added n e = ap (with_stack c) e

pub taken_gone : (c : Context) (i : Inside) (at takes added : ℕ) (b : Bool) (s : List Value) (n : Name)
    → take added s ≡ nulls b → drop added s ≡ c.inside.frame.stack → i ≡ after_of (left_of at takes b) c.inside
    → gone (going_with at takes added Taken) (with_held (with_stack c s) (n ∷ c.held)) ≡ with_held (with_inside c i) (n ∷ c.held)
taken_gone c i at takes added b s n t d l = ap (λ k. with_held k (n ∷ c.held)) (rest_gone c i at takes added b s t d l)

pub held_some : (r : Value) (n : Name) (f : Name → List Name) (ns : List Name) → thing_in r ≡ Some n → held_by r f ns ≡ f n
held_some (Obj m) n f ns e = let k : m ≡ n = cc in ap f k
held_some (Arr m len) n f ns e = let k : m ≡ n = cc in ap f k
held_some r n f ns e = cc

pub held_none : (r : Value) (f : Name → List Name) (ns : List Name) → thing_in r ≡ None → held_by r f ns ≡ ns
held_none (Obj m) f ns e = cc
held_none (Arr m len) f ns e = cc
held_none r f ns e = refl
