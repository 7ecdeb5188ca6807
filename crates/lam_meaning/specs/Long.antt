-- The first unit of a program that is too long.
use Rattle.std.specs.Prelude.{ℕ, ◌+◌, Bool, nat_lt, if◌then◌else◌, List, [], ◌∷◌, length, Option, Some, None, Result, Ok, Err}
use Rattle.lam_resolve_tree.specs.Tree.{ResolvedTree}
use Rattle.thread_steps.specs.Codes.{CodeTree}
use Rattle.lam_meaning.specs.Scheme.{Draft, drafts, scheme}

-- the most operations of a unit
abbrev pub most_operations : ℕ
most_operations = 65535

abbrev pub is_long : Draft → Bool
is_long d = nat_lt most_operations (length d.code)

-- the place of the first that is too long, where the places are counted from n
abbrev pub long_from : ℕ → List Draft → Option ℕ
long_from n [] = None
long_from n (d ∷ ds) = if is_long d then Some n else long_from (n + 1) ds

abbrev pub first_long : List Draft → Option ℕ
first_long ds = long_from 0 ds

-- the number of a program's first unit that is too long. Where there is none, the program has code
unfoldable pub first_long_unit : ResolvedTree → Option ℕ
first_long_unit r = first_long (drafts r)

-- ---- what compiling comes to

abbrev pub unless_long : Option ℕ → CodeTree → Result CodeTree ℕ
unless_long None c = Ok c
unless_long (Some unit) c = Err unit

-- a program's code, or the number of its first unit that is too long
abbrev pub compiled : ResolvedTree → Result CodeTree ℕ
compiled r = unless_long (first_long_unit r) (scheme r)
