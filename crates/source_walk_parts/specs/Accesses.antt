-- Accesses, with their tests in order.
use Rattle.std.specs.Prelude.{ℕ, Option, Some, None}
use Rattle.flow_labels.specs.declared.Label.{Label}
use Rattle.flow_labels.specs.declared.Denied.{Denied as Denial}
use Rattle.flow_labels.specs.Failing.{first_failing, read_test, write_test}
use Rattle.lam_value.specs.declared.names.Name.{Name}
use Rattle.lam_value.specs.declared.values.Value.{Value}
use Rattle.lam_value.specs.declared.values.Value.TheVariants.{Int, Nothing, Obj, Arr}
use Rattle.lam_asks.specs.declared.fault.Fault.TheVariants.{Null, Index}
use Rattle.thread_core_effects.specs.Fitting.{place_in}
use Rattle.lam_meaning.specs.Trees.{Own, Tree, broken, fails, unless_denied}
use Rattle.source_walk_parts.specs.declared.access.Way.{Way}
use Rattle.source_walk_parts.specs.declared.access.Way.TheVariants.{Reads, Writes}
use Rattle.source_walk_parts.specs.declared.access.Access.{Access}
use Rattle.source_walk_parts.specs.declared.access.Access.TheVariants.{Reaches, Bars, Raises, Breaks}

-- the first rule that forbids it
abbrev pub barred_by : Way → Label → Name → Option Denial
barred_by Reads l x = first_failing (read_test l x.own)
barred_by Writes l x = first_failing (write_test l x.own)

abbrev pub unless_barred : Option Denial → Access → Access
unless_barred None a = a
unless_barred (Some d) a = Bars d

abbrev pub field_access : Way → Label → Value → ℕ → Access
field_access way l (Obj x) at = unless_barred (barred_by way l x) (Reaches (Obj x) at)
field_access way l Nothing at = Raises Null
field_access way l v at = Breaks

abbrev pub at_place : Name → ℕ → Option ℕ → Access
at_place x len None = Raises Index
at_place x len (Some at) = Reaches (Arr x len) at

abbrev pub at_index : Name → ℕ → Value → Access
at_index x len (Int z) = at_place x len (place_in z len)
at_index x len v = Breaks

abbrev pub element_access : Way → Label → Value → Value → Access
element_access way l (Arr x len) i = unless_barred (barred_by way l x) (at_index x len i)
element_access way l Nothing i = Raises Null
element_access way l v i = Breaks

-- where it reaches its place, it goes on there
abbrev pub access_tree : {A : Type 0} → Access → ℕ → Own → (Value → ℕ → Tree A) → Tree A
access_tree (Reaches r at) n o go = go r at
access_tree (Bars d) n o go = unless_denied (Some d) n o broken
access_tree (Raises f) n o go = fails f n o
access_tree Breaks n o go = broken
