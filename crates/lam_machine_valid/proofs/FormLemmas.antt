-- The threads of valid worlds are threads as the machine's code has them.
use Rattle.std.proofs.Common.{◌≡◌, ℕ, List, [], ◌∷◌, Option, Some, None, refl, sym, ap, ◌∙◌}
use Rattle.std.specs.Prelude.{is_some, is_none, not}
use Rattle.thread_steps.specs.Threads.{Phase, Bottom, Body, Catch, Context, Thread}
use Rattle.thread_core_state.specs.Stacked as in_code
use Rattle.thread_core_state.specs.Stacked.{IsThread}
use Rattle.lam_machine_laws.specs.Worlds.{World, thread_at}
use Rattle.lam_machine_laws.specs.Turns as in_turns
use Rattle.lam_machine_laws.specs.Valid as in_worlds
use Rattle.lam_machine_laws.specs.Valid.{IsValid}
use Rattle.lam_machine_valid.specs.Threads.{ValidThreadsAreThreads}

same_bottom : (p : Phase) → in_turns.is_bottom p ≡ in_code.is_bottom p
same_bottom Bottom = refl
same_bottom (Body catch_at) = refl
same_bottom Catch = refl

stands_on : (c : Context) (cs : List Context) → in_worlds.AreStacked (c ∷ cs) → (in_code.is_bottom c.phase ≡ not (in_code.has_contexts cs)) × in_worlds.AreStacked cs
stands_on c [] h = (ap in_code.is_bottom h.phase, tt)
stands_on c (d ∷ ds) h = (sym (same_bottom c.phase) ∙ h.0, h.1)

all_stacked : (cs : List Context) → in_worlds.AreStacked cs → in_code.AreStacked cs
all_stacked [] h = tt
all_stacked (c ∷ cs) h = let s = stands_on c cs h in (s.0, all_stacked cs s.1)

same_contexts : (cs : List Context) → in_worlds.has_contexts cs ≡ in_code.has_contexts cs
same_contexts [] = refl
same_contexts (c ∷ cs) = refl

some_is_not_none : {X : Type 0} (o : Option X) → is_some o ≡ not (is_none o)
some_is_not_none None = refl
some_is_not_none (Some x) = refl

kept_form : (w : World) → IsValid w → (t : ℕ) (th : Thread) → thread_at w t ≡ Some th → IsThread th
kept_form w v t th e =
    let h = v.threads t th e in
    record {
      stacked = all_stacked th.contexts h.stacked;
      ended = some_is_not_none th.result ∙ ap not (h.ended ∙ same_contexts th.contexts);
    }

pub are_threads : ValidThreadsAreThreads
are_threads = record { all = kept_form; first = same_bottom }
