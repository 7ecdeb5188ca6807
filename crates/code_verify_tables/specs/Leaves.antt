-- What a change leaves of a description, where it finds its operands.
use Rattle.std.specs.Prelude.{◌≡◌, Bool, true, false, Some, None}
use Rattle.guarded_code.specs.Descriptions.{Description}
use Rattle.guarded_code.specs.Changes.{Change, changed}

-- whether the operands were found, and then what is left
abbrev pub Leaves : Bool → Change → Description → Description → Type 0
Leaves true c d e = changed c d ≡ Some e
Leaves false c d e = changed c d ≡ None
