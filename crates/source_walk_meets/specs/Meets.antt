-- What follows from the answer of a walk.
use Rattle.std.specs.Prelude.{◌≡◌, ℕ, List, Some}
use Rattle.lam_bytecode.specs.Codes.{CodeTree}
use Rattle.lam_resolve_tree.specs.Tree.{ResolvedTree}
use Rattle.thread_steps.specs.Threads.{Thread}
use Rattle.lam_machine_terms.specs.Worlds.{World, thread_at}
use Rattle.lam_machine_terms.specs.Turns.{moments, replay}
use Rattle.source_walk_terms.specs.Meant.{MeansItsSource}
use Rattle.source_walk_terms.specs.declared.Walked.{Walked}
use Rattle.source_walk_terms.specs.declared.Walked.TheVariants.{Same}
use Rattle.source_walk_terms.specs.Walks.{asks_in, IsWalked}

-- a walk has one answer
abbrev pub WalksHaveOneAnswer : Type 0
WalksHaveOneAnswer = (r : ResolvedTree) (code : CodeTree) (w : World) (turns : List ℕ) (a b : Walked) → IsWalked r code w turns a → IsWalked r code w turns b → a ≡ b

-- where each thread of a run means its source, the answer is that all are the same
abbrev pub MeantRunsAreSame : Type 0
MeantRunsAreSame =
    (r : ResolvedTree) (code : CodeTree) (w : World) (turns : List ℕ) → ((u : ℕ) (th : Thread) → thread_at (replay code turns w) u ≡ Some th → MeansItsSource r code w (moments code turns w) u th) →
    (a : Walked) → IsWalked r code w turns a → a ≡ Same (asks_in (moments code turns w))
