-- How the code meets the definitions.
use Rattle.std.specs.Prelude.{zero, suc, ◌≡◌, ℕ, List, length, Option, Some, None, Result}
use Rattle.std.specs.Borrow.{Bor}
use Rattle.lam_types_kinds.specs.Breaks.{Verdict}
use Rattle.lam_builtins.specs.Builtins.{Signature, Answer}
use Rattle.lam_builtins.specs.Types.{Place, Given}
use Rattle.lam_types_kinds.specs.Values.{option_signature}
use Rattle.lam_types_kinds.specs.Meets.{Makes}
use Rattle.lam_types_kinds.specs.declared.tables.Callable.{Callable}
use Rattle.lam_types_kinds.specs.declared.fault.TypeFault.{TypeFault}

abbrev pub GivesSignature : Result (Option (Bor Callable)) TypeFault → Verdict (Option Signature) → Type 0
GivesSignature r v = Makes option_signature r v

-- a function with n parameters, where there is one
abbrev pub TakesAsMany : ℕ → Option (Bor Callable) → Type 0
TakesAsMany n None = Unit {0}
TakesAsMany n (Some c) = length c.now.takes.items ≡ n

abbrev pub signature_as : List Place → Answer → Signature
signature_as takes answer = record { takes = takes; answer = answer }

-- what the first argument gives, where argument i gives g and f was noted before
abbrev pub first_of : ℕ → Given → Given → Given
first_of zero f g = g
first_of (suc i) f g = f
