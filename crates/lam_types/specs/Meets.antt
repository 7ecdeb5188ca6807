-- How the code meets the definitions.
use Rattle.std.specs.Prelude.{◌≡◌, ℕ, Result, Ok, Err}
use Rattle.lam_types_kinds.specs.Verdicts.{Fine}
use Rattle.lam_types_kinds.specs.Breaks.{Verdict}
use Rattle.lam_types_kinds.specs.Tables.{Names}
use Rattle.lam_types_kinds.specs.Values.{Breaks}
use Rattle.lam_types_kinds.specs.declared.fault.TypeFault.{TypeFault}
use Rattle.lam_types.specs.declared.stmts.Counts.{Counts}
use Rattle.lam_types.specs.Stmts.{State}

-- new counts
abbrev pub Counted : Result Counts TypeFault → Verdict Counts → Type 0
Counted (Ok c) v = v ≡ Fine c
Counted (Err f) v = Breaks f v

-- new counts, and new names in scope
abbrev pub Steps : Result Counts TypeFault → Names → Verdict State → Type 0
Steps (Ok c) env v = v ≡ Fine (env, c)
Steps (Err f) env v = Breaks f v

abbrev pub CountedRegions : Result ℕ TypeFault → Verdict ℕ → Type 0
CountedRegions (Ok n) v = v ≡ Fine n
CountedRegions (Err f) v = Breaks f v
