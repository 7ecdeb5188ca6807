-- What is read of a run, in place of what it is read of.
use Rattle.std.proofs.Common.{◌≡◌, ℕ, List, Option, Some, None, sym, ◌∙◌, subst}
use Rattle.lam_bytecode.specs.Codes.{CodeTree}
use Rattle.lam_resolve_tree.specs.Tree.{ResolvedTree}
use Rattle.lam_machine_terms.specs.Worlds.{World}
use Rattle.lam_machine_runs.specs.Stops.{stopped_at}
use Rattle.guarded_code_runs.specs.Worlds.{IsSound}
use Rattle.source_walk_terms.specs.Walks.{ThreadsAtEntries, IsWalked}
use Rattle.source_walk_terms.specs.declared.Walked.{Walked}

one_program : (a b : ResolvedTree) → ◌≡◌ {A = Option ResolvedTree} (Some a) (Some b) → a ≡ b
one_program a b e = cc

pub same_program : (a b : ResolvedTree) (code : CodeTree) (w : World) (ts : List ℕ) (walked : Walked) → ◌≡◌ {A = Option ResolvedTree} (Some a) (Some b) → IsWalked a code w ts walked → IsWalked b code w ts walked
same_program a b code w ts walked e h = subst (λ (r : ResolvedTree). IsWalked r code w ts walked) (one_program a b e) h

-- turns that were read of a run, with its code and its start
module _ (c c' : CodeTree) (ts ts' : List ℕ) (w w' : World) (code : c ≡ c') (turns : ts ≡ ts') (start : w ≡ w') where
  pub sound_read : IsSound c' w' → IsSound c w
  sound_read h = subst (λ (x : CodeTree). IsSound x w) (sym code) (subst (λ (v : World). IsSound c' v) (sym start) h)

  pub entries_read : (r : ResolvedTree) → ThreadsAtEntries r c' w' → ThreadsAtEntries r c w
  entries_read r h = subst (λ (x : CodeTree). ThreadsAtEntries r x w) (sym code) (subst (λ (v : World). ThreadsAtEntries r c' v) (sym start) h)

  pub whole_read : stopped_at c' ts' w' ≡ None → stopped_at c ts w ≡ None
  whole_read h = (λ i. stopped_at (code i) (turns i) (start i)) ∙ h

  pub walked_read : (r : ResolvedTree) (walked : Walked) → IsWalked r c w ts walked → IsWalked r c' w' ts' walked
  walked_read r walked h =
      subst (λ (x : CodeTree). IsWalked r x w' ts' walked) code (subst (λ (v : World). IsWalked r c v ts' walked) start (subst (λ (l : List ℕ). IsWalked r c w l walked) turns h))
