-- The texts of values. The name of tag n stands at place n of a list.
--
-- With the name a of tag 0: the number -5 is `-5`; the bytes `a"` and 0 and 255 are `"a\"\x00\xff"`; the object
-- with number 3 that was made at `{a}/{}` with that label is `obj<{a}/{}|{a}/{}|3>`; an array of length 2
-- is `arr<{}/{}|{}/{}|0>[2]`; thread 7 is `t7`; tag 4 is `#4`; plus {0} alone is `+{a}-{}`.
use Rattle.std.specs.Prelude.{◌≡◌, ℕ, ◌+◌, ◌-◌, ◌/◌, ◌%◌, true, false, nat_eq, nat_le, nat_lt, ◌||◌, ◌&&◌, if◌then◌else◌, List, [], ◌∷◌, ◌++◌, codes, decimal, refl}
use Rattle.std.specs.Fmt.{signed_decimal}
use Rattle.lam_value_homes.specs.TwoLists.{Text, tag_text, sets_text}
use Rattle.lam_value_homes.specs.LabelText.{label_text}
use Rattle.lam_value_homes.specs.declared.Form.TheVariants.{Caps as caps_form}
use Rattle.lam_value.specs.declared.names.Name.{Name}
use Rattle.lam_value.specs.declared.values.Value.{Value}
use Rattle.lam_value.specs.declared.values.Value.TheVariants.{Int, Bool as Truth, Bytes, Nothing, Obj, Arr, File, Dir, Pipe, Thread, Tag, Lab, CapV}

-- a hexadecimal digit, in lower case
abbrev pub hex_digit : ℕ → ℕ
hex_digit d = if nat_lt d 10 then 48 + d else 87 + d

-- a byte inside quotes
abbrev pub escaped : ℕ → Text
escaped b =
    if nat_eq b 34 || nat_eq b 92 then 92 ∷ b ∷ []
    else (if nat_le 32 b && nat_le b 126 then b ∷ [] else 92 ∷ 120 ∷ hex_digit (b / 16) ∷ hex_digit (b % 16) ∷ [])

abbrev pub all_escaped : List ℕ → Text
all_escaped [] = []
all_escaped (b ∷ bs) = escaped b ++ all_escaped bs

abbrev pub bytes_text : List ℕ → Text
bytes_text bs = 34 ∷ (all_escaped bs ++ 34 ∷ [])

-- a word, and in angle brackets the maker's label, the own label and the number, with `|` between them
abbrev pub name_text : Text → List Text → Name → Text
name_text word names n = word ++ 60 ∷ (label_text names n.maker ++ 124 ∷ (label_text names n.own ++ 124 ∷ (decimal n.n ++ 62 ∷ [])))

abbrev pub value_text : List Text → Value → Text
value_text names (Int n) = signed_decimal n
value_text names (Truth true) = codes "true"
value_text names (Truth false) = codes "false"
value_text names (Bytes bs) = bytes_text bs
value_text names Nothing = codes "null"
value_text names (Obj n) = name_text (codes "obj") names n
value_text names (Arr n len) = name_text (codes "arr") names n ++ 91 ∷ decimal len ++ 93 ∷ []
value_text names (File n) = name_text (codes "file") names n
value_text names (Dir n) = name_text (codes "dir") names n
value_text names (Pipe n) = name_text (codes "pipe") names n
value_text names (Thread t) = 116 ∷ decimal t
value_text names (Tag t) = tag_text names t
value_text names (Lab l) = label_text names l
value_text names (CapV plus minus) = sets_text caps_form names plus minus

-- each text with a comma before it
abbrev pub after_commas : List Text → List Value → Text
after_commas names [] = []
after_commas names (v ∷ vs) = 44 ∷ (value_text names v ++ after_commas names vs)

-- the texts with a comma between each two
abbrev pub values_text : List Text → List Value → Text
values_text names [] = []
values_text names (v ∷ vs) = value_text names v ++ after_commas names vs

-- ---- worked examples
quoted : bytes_text (97 ∷ 34 ∷ 92 ∷ 0 ∷ 255 ∷ []) ≡ codes "\"a\\\"\\\\\\x00\\xff\""
quoted = refl

no_bytes : bytes_text [] ≡ codes "\"\""
no_bytes = refl

truths : values_text [] (Truth true ∷ Nothing ∷ Truth false ∷ []) ≡ codes "true,null,false"
truths = refl
