-- What the definitions see of names in scope and of resolved expressions.
use Rattle.std.specs.Prelude.{ℕ, Bool, map}
use Rattle.lam_resolve_tree.specs.Tree.{ResolvedType, ResolvedGiven, CapSlot, expr_tree, exprs_tree}
use Rattle.lam_resolve_tree.specs.Typing.{ResolvedSignature, given_by}
use Rattle.lam_resolve_tables.specs.Resolved.{Local as ResolvedLocal, Locals, Value as ResolvedValue, value_as, Args as ResolvedArgs, args_as, Found}
use Rattle.lam_resolve_tables.specs.declared.kinds.Kind.{Kind}
use Rattle.lam_resolve_tables.specs.declared.kinds.Given.{Given}
use Rattle.lam_resolve_tables.specs.declared.named.Named.{Named}
use Rattle.lam_resolve_exprs.specs.declared.values.Local.{Local}
use Rattle.lam_resolve_exprs.specs.declared.values.Value.{Value}
use Rattle.lam_resolve_exprs.specs.declared.values.Args.{Args}
use Rattle.lam_resolve_tables.specs.Entries.{entries_of}
use Rattle.lam_resolve_tables.specs.Kinds.{kind_type, given}

abbrev pub local : Local → ResolvedLocal
local l = record { slot = l.slot; ty = kind_type l.kind }

abbrev pub locals : Named Local → Locals
locals n = map (λ e. (e.0, local e.1)) (entries_of n)

abbrev pub value : Value → ResolvedValue
value v = value_as (expr_tree v.it) (given v.gives)

abbrev pub args : Args → ResolvedArgs
args a = args_as (exprs_tree a.it.items) (given a.first)

-- a field that was found
abbrev pub field_seen : ℕ × Kind → Found ResolvedType
field_seen f = record { number = f.0; it = kind_type f.1 }

-- a function that was found, and what its call gives
abbrev pub function_seen : ℕ × Given → Found ResolvedGiven
function_seen f = record { number = f.0; it = given f.1 }

abbrev pub called_seen : Found ResolvedSignature → Found ResolvedGiven
called_seen f = record { number = f.number; it = given_by f.it.result }

abbrev pub cap_at : ℕ → Bool → CapSlot
cap_at slot plus = record { slot = slot; plus = plus }
