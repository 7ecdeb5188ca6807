-- Kinds of tags, and the capabilities that are public by them.
--
-- Of three tags of the kinds read, export and integrity, plus {1} and minus {2} are public.
use Rattle.std.specs.Prelude.{◌≡◌, ℕ, ◌+◌, Bool, true, false, if◌then◌else◌, List, [], ◌∷◌, Option, Some, None, codes, refl}
use Rattle.std.specs.Str.{bytes_eq}
use Rattle.std.specs.FinSet.{from_list}
use Rattle.capabilities.specs.declared.Caps.{Caps}
use Rattle.capabilities.specs.declared.kinds.TagKind.{TagKind}
use Rattle.capabilities.specs.declared.kinds.TagKind.TheVariants.{Read, Export, Integrity}

-- the kind that a word names
abbrev pub kind_of : List ℕ → Option TagKind
kind_of w =
    if bytes_eq w (codes "read") then Some Read
    else (if bytes_eq w (codes "export") then Some Export else (if bytes_eq w (codes "integrity") then Some Integrity else None))

-- whether anybody may add a tag of the kind
abbrev pub adds_freely : TagKind → Bool
adds_freely Read = false
adds_freely Export = true
adds_freely Integrity = false

-- whether anybody may drop a tag of the kind
abbrev pub drops_freely : TagKind → Bool
drops_freely Read = false
drops_freely Export = false
drops_freely Integrity = true

-- the places, counted from a number, of the kinds that pass a test
abbrev pub places : (TagKind → Bool) → ℕ → List TagKind → List ℕ
places test at [] = []
places test at (k ∷ ks) = if test k then at ∷ places test (at + 1) ks else places test (at + 1) ks

-- the capabilities that everybody may use, where tag n is of the n-th kind
unfoldable pub public_of : List TagKind → Caps
public_of kinds = record { plus = from_list (places adds_freely 0 kinds); minus = from_list (places drops_freely 0 kinds) }

-- ---- worked examples

three_plus : places adds_freely 0 (Read ∷ Export ∷ Integrity ∷ []) ≡ 1 ∷ []
three_plus = refl

three_minus : places drops_freely 0 (Read ∷ Export ∷ Integrity ∷ []) ≡ 2 ∷ []
three_minus = refl

no_such_kind : kind_of (codes "write") ≡ None
no_such_kind = refl
