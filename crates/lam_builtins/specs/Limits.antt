-- How much a program may have. The type checker refuses what has more, and the compiler a unit with too long a code.
use Rattle.std.specs.Prelude.{ℕ}

abbrev pub most_classes : ℕ
most_classes = 1024

abbrev pub most_functions : ℕ
most_functions = 1024

-- of a class
abbrev pub most_fields : ℕ
most_fields = 256

-- of a function
abbrev pub most_params : ℕ
most_params = 64

-- of a unit, which is a function or a region: its parameters or captures, and its own
abbrev pub most_slots : ℕ
most_slots = 1024

-- of a program
abbrev pub most_regions : ℕ
most_regions = 4096
