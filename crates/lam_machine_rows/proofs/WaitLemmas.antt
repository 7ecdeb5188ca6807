-- The order of what a context lists does not matter.
use Rattle.std.proofs.Common.{◌≡◌, List, reverse, refl}
use Rattle.std.proofs.lemmas.List.Sorted.{list_any-IsPermutation, IsPermutation-reverse}
use Rattle.lam_value.specs.declared.names.Name.{Name}
use Rattle.lam_value.specs.declared.values.Value.{Value}
use Rattle.lam_value.specs.declared.values.Value.TheVariants.{Obj, Arr}
use Rattle.thread_steps.specs.Equal.{same_names}
use Rattle.lam_machine_effects.specs.Turns.{lists}

pub lists_reverse : (ns : List Name) (r : Value) → lists ns r ≡ lists (reverse ns) r
lists_reverse ns (Obj n) = list_any-IsPermutation (λ m. same_names n m) ns (reverse ns) (IsPermutation-reverse ns)
lists_reverse ns (Arr n len) = list_any-IsPermutation (λ m. same_names n m) ns (reverse ns) (IsPermutation-reverse ns)
lists_reverse ns r = refl
