use Rattle.std.proofs.Common.{◌≡◌, take, Some}
use Rattle.std.specs.Prelude.{option_and_then}
use Rattle.std.specs.Map.{lookup}
use Rattle.lam_value.specs.declared.names.Name.{Name}
use Rattle.lam_value.proofs.Keys.{name_eq}
use Rattle.labelled_files.specs.Seen.{held}
use Rattle.labelled_files.proofs.files.copied_files.Given as goal

abbrev pub invariant-loop-at : goal.invariant-loop-at
invariant-loop-at l = (q : Name) → option_and_then (λ x. Some (held x)) (lookup (name_eq q) l.copy.entries) ≡ option_and_then (λ x. Some (held x)) (lookup (name_eq q) (take l.at l.files.entries))
