-- How the threads of a start begin.
use Rattle.std.specs.Prelude.{◌≡◌, ℕ, List, length, Some, slice_get}
use Rattle.lam_bytecode.specs.Codes.{CodeTree}
use Rattle.lam_resolve_tree.specs.Tree.{ResolvedTree}
use Rattle.thread_steps.specs.Threads.{Thread}
use Rattle.thread_steps.specs.Next.{started}
use Rattle.source_walk_terms.specs.Walks.{IsEntry}
use Rattle.source_walk_state.specs.declared.Beginning.{Beginning}

-- a thread stands where this begins, which is an entry of the program
pub record BeginsAt (r : ResolvedTree) (code : CodeTree) (th : Thread) (b : Beginning) : Type 0 where
  pub it : th ≡ started code b.function b.args b.caps
  pub entry : IsEntry r b.function b.args

-- of each thread
pub record AreBeginnings (r : ResolvedTree) (code : CodeTree) (ths : List Thread) (bs : List Beginning) : Type 0 where
  pub many : length bs ≡ length ths
  pub each : (u : ℕ) (th : Thread) (b : Beginning) → slice_get ths u ≡ Some th → slice_get bs u ≡ Some b → BeginsAt r code th b
