-- A thread that took the answer to its ask is still one.
use Rattle.std.proofs.Common.{◌≡◌, true, false, not, List, [], ◌∷◌, Option, Some, is_some, sym, ap, ◌∙◌, refl, subst}
use Rattle.std.specs.Prelude.{IsTrue}
use Rattle.flow_labels.specs.declared.Denied.{Denied}
use Rattle.lam_value.specs.declared.values.Value.{Value}
use Rattle.lam_value.specs.declared.values.Value.TheVariants.{Tag, CapV}
use Rattle.lam_asks.specs.Suits.{Sort, suits}
use Rattle.lam_asks.specs.declared.answer.Outcome.{Outcome}
use Rattle.lam_asks.specs.declared.answer.Answer.{Answer}
use Rattle.lam_asks.specs.declared.answer.Answer.TheVariants.{Done, Entered, Val, Refused, Failed}
use Rattle.lam_asks.specs.declared.fault.Fault.{Fault}
use Rattle.lam_asks.specs.declared.ask.Ask.{Ask}
use Rattle.lam_asks.specs.declared.ask.Ask.TheVariants as ask
use Rattle.lam_bytecode.specs.Codes.{CodeTree}
use Rattle.thread_steps.specs.Threads.{Inside, Phase, Bottom, Body, Catch, Context, Thread}
use Rattle.thread_core_state.specs.Stacked.{is_bottom, has_contexts, AreStacked, IsThread}
use Rattle.thread_steps.specs.Next.{Next, goes, asks, stuck, next_of, given, gains, done, entered, answered, result_after, takes}
use Rattle.thread_core.specs.Turning as core
use Rattle.thread_core.specs.Turning.{asked}
use Rattle.lam_machine_valid.specs.Turns as turns
use Rattle.lam_machine_valid.proofs.NextLemmas.{AskIs, ask_is}

-- ---- which asks a context makes

-- a thread ends in its first context alone, and leaves every other
abbrev FitsPhase : Phase → Ask → Type 0
FitsPhase p ask.Leave = is_bottom p ≡ false
FitsPhase p (ask.Caught f) = is_bottom p ≡ false
FitsPhase p (ask.Suppressed f) = is_bottom p ≡ false
FitsPhase p (ask.End r) = is_bottom p ≡ true
FitsPhase p a = Unit {0}

same_bottom : (p : Phase) → is_bottom p ≡ turns.is_bottom p
same_bottom Bottom = refl
same_bottom (Body at) = refl
same_bottom Catch = refl

ask_fits : (code : CodeTree) (c : Context) (a : Ask) → AskIs code c a → FitsPhase c.phase a
ask_fits code c ask.Leave h = same_bottom c.phase ∙ h
ask_fits code c (ask.Caught f) h = same_bottom c.phase ∙ h
ask_fits code c (ask.Suppressed f) h = same_bottom c.phase ∙ h
ask_fits code c (ask.End r) h = same_bottom c.phase ∙ h
ask_fits code c a h = tt

-- ---- the contexts after an answer

gains_phase : (a : Ask) (v : Value) (c : Context) → (gains a v c).phase ≡ c.phase
gains_phase ask.Mint (Tag t) c = refl
gains_phase (ask.ReceiveCaps p) (CapV plus minus) c = refl
gains_phase a v c = refl

done_stacked : (code : CodeTree) (c : Context) (rest : List Context) (i : Inside) (a : Ask) → FitsPhase c.phase a → AreStacked (c ∷ rest) → AreStacked (done code c rest i a)
done_stacked code c rest i ask.Leave f h = h.1
done_stacked code c rest i (ask.Caught r) f h = (sym f ∙ h.0, h.1)
done_stacked code c rest i (ask.Suppressed r) f h = h.1
done_stacked code c rest i (ask.End r) f h = h.1
done_stacked code c rest i a f h = h

entered_stacked : (code : CodeTree) (c : Context) (rest : List Context) (i : Inside) (a : Ask) → AreStacked (c ∷ rest) → AreStacked (entered code c rest i a)
entered_stacked code c rest i (ask.Enter l k r vs) h = (refl, h)
entered_stacked code c rest i a h = h

answered_stacked : (code : CodeTree) (c : Context) (rest : List Context) (i : Inside) (a : Ask) (x : Answer) → FitsPhase c.phase a → AreStacked (c ∷ rest) → AreStacked (answered code c rest i a x)
answered_stacked code c rest i a Done f h = done_stacked code c rest i a f h
answered_stacked code c rest i a Entered f h = entered_stacked code c rest i a h
answered_stacked code c rest i a (Val v) f h = (ap is_bottom (gains_phase a v (given c i v)) ∙ h.0, h.1)
answered_stacked code c rest i a (Refused d) f h = h
answered_stacked code c rest i a (Failed r) f h = h

-- ---- how it ended

done_ended : (code : CodeTree) (c : Context) (rest : List Context) (i : Inside) (a : Ask) (r : Option Outcome) → FitsPhase c.phase a → is_bottom c.phase ≡ not (has_contexts rest) → is_some r ≡ false
    → is_some (result_after r a) ≡ not (has_contexts (done code c rest i a))
done_ended code c rest i ask.Leave r f h e = e ∙ (sym f ∙ h)
done_ended code c rest i (ask.Suppressed g) r f h e = e ∙ (sym f ∙ h)
done_ended code c rest i (ask.End o) r f h e = sym f ∙ h
done_ended code c rest i a r f h e = e

entered_ended : (code : CodeTree) (c : Context) (rest : List Context) (i : Inside) (a : Ask) (s : Sort) (r : Option Outcome) → IsTrue (suits s a Entered) → is_some r ≡ false → is_some (result_after r a) ≡ not (has_contexts (entered code c rest i a))
entered_ended code c rest i (ask.Enter l k n vs) s r t e = e
entered_ended code c rest i (ask.End o) s r t e = let z : false ≡ true = t in absurd cc
entered_ended code c rest i a s r t e = e

kept_ended : (a : Ask) (r : Option Outcome) → ((o : Outcome) → a ≡ ask.End o → ⊥) → is_some r ≡ false → is_some (result_after r a) ≡ false
kept_ended (ask.End o) r n e = absurd (n o refl)
kept_ended a r n e = e

value_ends : (a : Ask) (s : Sort) (v : Value) (o : Outcome) → IsTrue (suits s a (Val v)) → a ≡ ask.End o → ⊥
value_ends a s v o t e = let z : false ≡ true = subst (λ b. IsTrue (suits s b (Val v))) e t in absurd cc

refused_ends : (a : Ask) (s : Sort) (d : Denied) (o : Outcome) → IsTrue (suits s a (Refused d)) → a ≡ ask.End o → ⊥
refused_ends a s d o t e = let z : false ≡ true = subst (λ b. IsTrue (suits s b (Refused d))) e t in absurd cc

failed_ends : (a : Ask) (s : Sort) (k : Fault) (o : Outcome) → IsTrue (suits s a (Failed k)) → a ≡ ask.End o → ⊥
failed_ends a s k o t e = let z : false ≡ true = subst (λ b. IsTrue (suits s b (Failed k))) e t in absurd cc

answered_ended : (code : CodeTree) (c : Context) (rest : List Context) (i : Inside) (a : Ask) (x : Answer) (s : Sort) (r : Option Outcome) → IsTrue (suits s a x) → FitsPhase c.phase a → is_bottom c.phase ≡ not (has_contexts rest) → is_some r ≡ false
    → is_some (result_after r a) ≡ not (has_contexts (answered code c rest i a x))
answered_ended code c rest i a Done s r t f h e = done_ended code c rest i a r f h e
answered_ended code c rest i a Entered s r t f h e = entered_ended code c rest i a s r t e
answered_ended code c rest i a (Val v) s r t f h e = kept_ended a r (λ o g. value_ends a s v o t g) e
answered_ended code c rest i a (Refused d) s r t f h e = kept_ended a r (λ o g. refused_ends a s d o t g) e
answered_ended code c rest i a (Failed k) s r t f h e = kept_ended a r (λ o g. failed_ends a s k o t g) e

takes_keeps : (code : CodeTree) (th : Thread) (c : Context) (rest : List Context) (i : Inside) (a : Ask) (x : Answer) (s : Sort) → th.contexts ≡ c ∷ rest → FitsPhase c.phase a → IsTrue (suits s a x) → IsThread th → IsThread (takes code th c rest i a x)
takes_keeps code th c rest i a x s e f t h =
    let k : AreStacked (c ∷ rest) = subst AreStacked e h.stacked in
    record {
      stacked = answered_stacked code c rest i a x f k;
      ended = answered_ended code c rest i a x s th.result t f k.0 (h.ended ∙ ap (λ cs. not (has_contexts cs)) e);
    }

-- ---- by the thread's ask

asked_next : (n : Next) (a : Ask) → asked n ≡ Some a → (i : Inside) × (n ≡ asks a i)
asked_next (goes i) a e = absurd cc
asked_next (asks b i) a e = let g : b ≡ a = cc in (i, ap (λ x. asks x i) g)
asked_next stuck a e = absurd cc

by_contexts : (code : CodeTree) (th to : Thread) (cs : List Context) (a : Ask) (x : Answer) (s : Sort) → th.contexts ≡ cs → core.asked_in code cs ≡ Some a
    → ((c : Context) (rest : List Context) (i : Inside) → th.contexts ≡ c ∷ rest → next_of code c ≡ asks a i → to ≡ takes code th c rest i a x)
    → IsTrue (suits s a x) → IsThread th → IsThread to
by_contexts code th to [] a x s e n after t h = absurd cc
by_contexts code th to (c ∷ rest) a x s e n after t h =
    let k = asked_next (next_of code c) a n in
    subst IsThread (sym (after c rest k.0 e k.1)) (takes_keeps code th c rest k.0 a x s e (ask_fits code c a (ask_is code c a k.0 k.1)) t h)

pub answer_keeps : (code : CodeTree) (th to : Thread) (a : Ask) (x : Answer) (s : Sort) → core.ask_of code th ≡ Some a
    → ((c : Context) (rest : List Context) (i : Inside) → th.contexts ≡ c ∷ rest → next_of code c ≡ asks a i → to ≡ takes code th c rest i a x)
    → IsTrue (suits s a x) → IsThread th → IsThread to
answer_keeps code th to a x s n after t h = by_contexts code th to th.contexts a x s refl n after t h
