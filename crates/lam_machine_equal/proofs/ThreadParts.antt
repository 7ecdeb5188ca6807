-- Contexts and threads are equal where their parts are.
use Rattle.std.proofs.Common.{◌≡◌, ◌∙◌, ℕ, List, Option, ap, reverse}
use Rattle.std.specs.Prelude.{Bool, IsTrue, ◌↔◌}
use Rattle.std.proofs.lemmas.List.{reverse-reverse}
use Rattle.flow_labels.specs.declared.Label.{Label}
use Rattle.capabilities.specs.declared.Caps.{Caps}
use Rattle.lam_value.specs.declared.names.Name.{Name}
use Rattle.lam_asks.specs.declared.fault.Fault.{Fault}
use Rattle.lam_asks.specs.declared.answer.Outcome.{Outcome}
use Rattle.thread_steps.specs.Threads.{Frame, Inside, Phase, Context, Thread}
use Rattle.thread_core_state.proofs.Ends.{reversed_same}

abbrev pub inside_from : Frame → List Frame → Option Fault → Inside
inside_from frame callers fault = record { frame = frame; callers = callers; fault = fault }

pub inside_same : (i j : Inside) → i.frame ≡ j.frame → i.callers ≡ j.callers → i.fault ≡ j.fault → i ≡ j
inside_same i j f c e =
    ap (λ (x : Frame). inside_from x i.callers i.fault) f
    ∙ (ap (λ (x : List Frame). inside_from j.frame x i.fault) c
    ∙ ap (λ (x : Option Fault). inside_from j.frame j.callers x) e)

abbrev pub context_from : Label → Caps → ℕ → Phase → List Name → Inside → Context
context_from label caps depth phase held inside = record { label = label; caps = caps; depth = depth; phase = phase; held = held; inside = inside }

pub context_same : (c d : Context) → c.label ≡ d.label → c.caps ≡ d.caps → c.depth ≡ d.depth → c.phase ≡ d.phase → c.held ≡ d.held → c.inside ≡ d.inside → c ≡ d
context_same c d l k n p h i =
    ap (λ (x : Label). context_from x c.caps c.depth c.phase c.held c.inside) l
    ∙ (ap (λ (x : Caps). context_from d.label x c.depth c.phase c.held c.inside) k
    ∙ (ap (λ (x : ℕ). context_from d.label d.caps x c.phase c.held c.inside) n
    ∙ (ap (λ (x : Phase). context_from d.label d.caps d.depth x c.held c.inside) p
    ∙ (ap (λ (x : List Name). context_from d.label d.caps d.depth d.phase x c.inside) h
    ∙ ap (λ (x : Inside). context_from d.label d.caps d.depth d.phase d.held x) i))))

abbrev pub thread_from : List Context → Option Outcome → Thread
thread_from contexts result = record { contexts = contexts; result = result }

pub thread_same : (t u : Thread) → t.contexts ≡ u.contexts → t.result ≡ u.result → t ≡ u
thread_same t u c r = ap (λ (x : List Context). thread_from x t.result) c ∙ ap (λ (x : Option Outcome). thread_from u.contexts x) r

-- lists are equal where what is seen of them from their ends is
pub seen_same : {A : Type 0} (b : Bool) (us vs ms ns : List A) → IsTrue b ↔ (us ≡ vs) → us ≡ reverse ms → vs ≡ reverse ns → IsTrue b ↔ (ms ≡ ns)
seen_same b us vs ms ns e u v = reversed_same b (reverse ms) (reverse ns) us vs ms ns e u v (reverse-reverse ms) (reverse-reverse ns)
