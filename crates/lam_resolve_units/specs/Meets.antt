-- How the code keeps what is in scope.
use Rattle.std.specs.Prelude.{◌≡◌, List, take, length}

-- more stands at the end, and the others as before
abbrev pub Extends : {A : Type 0} → List A → List A → Type 0
Extends old new = take (length old) new ≡ old
