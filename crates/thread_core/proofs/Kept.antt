-- What a thread keeps in its private turns, and where it has ended.
use Rattle.std.proofs.Common.{◌≡◌, not, List, [], ◌∷◌, sym, ap, ◌∙◌, refl, subst}
use Rattle.lam_bytecode.specs.Codes.{CodeTree}
use Rattle.thread_steps.specs.Threads.{Context, Thread}
use Rattle.thread_core_state.specs.Stacked.{is_bottom, has_contexts, AreStacked, IsThread}
use Rattle.thread_steps.specs.Next.{Next, goes, asks, stuck, next_of, is_ended}
use Rattle.thread_core.specs.declared.turn.Standing.{Standing}
use Rattle.thread_core.specs.declared.turn.Standing.TheVariants as written
use Rattle.thread_core.specs.Turning.{moved, stepped_in, stepped, standing_of}

moved_phase : (c : Context) (n : Next) → (moved c n).phase ≡ c.phase
moved_phase c (goes i) = refl
moved_phase c (asks a i) = refl
moved_phase c stuck = refl

stepped_stacked : (code : CodeTree) (cs : List Context) → AreStacked cs → AreStacked (stepped_in code cs)
stepped_stacked code [] h = tt
stepped_stacked code (c ∷ cs) h = (ap is_bottom (moved_phase c (next_of code c)) ∙ h.0, h.1)

stepped_has : (code : CodeTree) (cs : List Context) → has_contexts cs ≡ has_contexts (stepped_in code cs)
stepped_has code [] = refl
stepped_has code (c ∷ cs) = refl

stepped_thread : (code : CodeTree) (th : Thread) → IsThread th → IsThread (stepped code th)
stepped_thread code th h = record { stacked = stepped_stacked code th.contexts h.stacked; ended = h.ended ∙ ap not (stepped_has code th.contexts) }

pub step_keeps : (code : CodeTree) (th to : Thread) → to ≡ stepped code th → IsThread th → IsThread to
step_keeps code th to e h = subst IsThread (sym e) (stepped_thread code th h)

-- ---- a thread stands ended where it has a result

is_last : (s : Standing) → standing_of s ≡ is_ended → s ≡ written.Ended
is_last written.Private e = cc
is_last written.Shared e = cc
is_last written.Stuck e = cc
is_last written.Ended e = refl
