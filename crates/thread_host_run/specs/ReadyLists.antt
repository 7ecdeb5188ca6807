-- The ready threads of a run, as a list.
use Rattle.std.specs.Prelude.{ℕ, Bool, not, eqb, if◌then◌else◌, List, length}
use Rattle.std.specs.List.{filter, range_with_len}
use Rattle.lam_bytecode.specs.Codes.{CodeTree}
use Rattle.lam_machine_terms.specs.Worlds.{World}
use Rattle.lam_machine_terms.specs.Turns as turns

-- the ready threads, in increasing order
abbrev pub ready_threads : CodeTree → World → List ℕ
ready_threads code w = filter (turns.ready code w) (range_with_len 0 (length w.threads))

abbrev pub is_other : ℕ → ℕ → Bool
is_other t u = not (eqb u t)

-- a list of threads, without one that is no longer ready
abbrev pub kept_list : Bool → ℕ → List ℕ → List ℕ
kept_list is_ready t ts = if is_ready then ts else filter (is_other t) ts
