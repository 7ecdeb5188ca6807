-- How the contexts of a thread stand on one another, and when it has a result.
use Rattle.std.specs.Prelude.{◌≡◌, Bool, true, false, not, is_some, List, [], ◌∷◌}
use Rattle.thread_steps.specs.Threads.{Phase, Bottom, Body, Catch, Context, Thread}

abbrev pub is_bottom : Phase → Bool
is_bottom Bottom = true
is_bottom (Body catch_at) = false
is_bottom Catch = false

abbrev pub has_contexts : List Context → Bool
has_contexts [] = false
has_contexts (c ∷ cs) = true

-- the last of them is a thread's first context, and no other is
abbrev pub AreStacked : List Context → Type 0
AreStacked [] = Unit {0}
AreStacked (c ∷ cs) = (is_bottom c.phase ≡ not (has_contexts cs)) × AreStacked cs

-- what every thread keeps
pub record IsThread (th : Thread) : Type 0 where
  pub stacked : AreStacked th.contexts
  -- it has a result exactly where it has no context
  pub ended : is_some th.result ≡ not (has_contexts th.contexts)
