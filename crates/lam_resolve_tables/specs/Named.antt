-- The numbers of names in a list: a name stands by the place of its first entry.
use Rattle.std.specs.Prelude.{ℕ, ◌+◌, if◌then◌else◌, List, [], ◌∷◌, ◌++◌, map, Option, Some, None, is_some}
use Rattle.std.specs.Borrow.{Bor}
use Rattle.lam_operators.specs.Words.{Word}
use Rattle.lam_types_kinds.specs.Tables.{find}
use Rattle.lam_resolve_laws.specs.Resolved.{Found}

abbrev pub words : {V : Type 0} → List (Bor Word × V) → List Word
words es = map (λ e. e.0.now) es

-- one more name, if it is new
abbrev pub with_first : List (Word × ℕ) → Word → ℕ → List (Word × ℕ)
with_first ns k n = if is_some (find k ns) then ns else ns ++ (k, n) ∷ []

abbrev pub firsts_from : List (Word × ℕ) → ℕ → List Word → List (Word × ℕ)
firsts_from ns n [] = ns
firsts_from ns n (k ∷ ks) = firsts_from (with_first ns k n) (n + 1) ks

-- each name once, with the place of its first entry
abbrev pub firsts : List Word → List (Word × ℕ)
firsts ks = firsts_from [] 0 ks

-- what the code finds
abbrev pub seen_found : {V : Type 0} → Option (ℕ × Bor V) → Option (Found V)
seen_found None = None
seen_found (Some p) = Some (record { number = p.0; it = p.1.now })
