-- The text of capabilities, both ways.
--
-- With the names a and b of the tags 0 and 1, plus {0} and minus {0,1} are written `+{a}-{a,b}`, and
-- `+{a,a}-{b,a}` is read as the same. With the name a alone they are written `+{a}-{a,#1}`, which is no
-- text of capabilities.
use Rattle.std.specs.Prelude.{◌≡◌, ℕ, List, [], ◌∷◌, map, Option, Some, None, Result, Ok, Err, codes, refl}
use Rattle.flow_labels.specs.Names.{AreNames}
use Rattle.flow_labels.specs.TwoLists.{Text, Spells, spelled, first_names, second_names, tag_text, sets_text}
use Rattle.flow_labels.specs.Reading.{bad_place, sets_in, sets_of, HasNames}
use Rattle.flow_labels.specs.declared.two_lists.Form.TheVariants.{Caps as caps_form}
use Rattle.flow_labels.specs.declared.two_lists.TwoSets.{TwoSets}
use Rattle.capabilities.specs.declared.Caps.{Caps}
use Rattle.capabilities.specs.declared.texts.CapsFault.{CapsFault}
use Rattle.capabilities.specs.declared.texts.CapsFault.TheVariants.{BadCaps, NoTag, NoMemory}

-- the text is `+{`, names joined by `,`, `}-{`, names joined by `,`, and `}`
abbrev pub SpellsCaps : Text → List Text → List Text → Type 0
SpellsCaps = Spells caps_form

-- some names spell it
abbrev pub IsCapsText : Text → Type 0
IsCapsText text = (plus : List Text) × (minus : List Text) × SpellsCaps text plus minus

abbrev pub caps_text : List Text → Caps → Text
caps_text names c = sets_text caps_form names c.plus c.minus

abbrev pub caps_or : Option ℕ → Result TwoSets ℕ → Result Caps CapsFault
caps_or (Some at) sets = Err (BadCaps at)
caps_or None (Ok sets) = Ok (record { plus = sets.first; minus = sets.second })
caps_or None (Err at) = Err (NoTag at)

-- the capabilities that a text spells, or its fault
abbrev pub caps_of : List Text → Text → Result Caps CapsFault
caps_of names text = caps_or (bad_place caps_form text) (sets_in names text)

-- what a function gave is what reading gives, unless memory ran out
abbrev pub Fails : CapsFault → Result Caps CapsFault → Type 0
Fails NoMemory read = Unit {0}
Fails (BadCaps at) read = read ≡ Err (BadCaps at)
Fails (NoTag at) read = read ≡ Err (NoTag at)

abbrev pub Gives : Result Caps CapsFault → Result Caps CapsFault → Type 0
Gives (Ok c) read = read ≡ Ok c
Gives (Err e) read = Fails e read

-- ---- worked examples
no_sign : bad_place caps_form (codes "{a}-{}") ≡ Some 0
no_sign = refl

blank_between : bad_place caps_form (codes "+{a} -{}") ≡ Some 4
blank_between = refl

only_a_front : bad_place caps_form (codes "+{a}-{") ≡ Some 6
only_a_front = refl

unknown_plus : caps_of (codes "a" ∷ []) (codes "+{a,b}-{c}") ≡ Err (NoTag 4)
unknown_plus = refl

unknown_minus : caps_of (codes "a" ∷ []) (codes "+{a}-{a,b}") ≡ Err (NoTag 8)
unknown_minus = refl

form_before_names : caps_of (codes "a" ∷ []) (codes "+{b}-{b") ≡ Err (BadCaps 7)
form_before_names = refl

named : spelled caps_form (map (tag_text (codes "a" ∷ codes "b" ∷ [])) (0 ∷ [])) (map (tag_text (codes "a" ∷ codes "b" ∷ [])) (0 ∷ 1 ∷ [])) ≡ codes "+{a}-{a,b}"
named = refl

-- ---- laws

-- two lists of names are read as the capabilities of their tags, or else at the place of the first name that
-- no tag has
abbrev pub CapsAreRead : Type 0
CapsAreRead = (names : List Text) (text : Text) (plus minus : List Text) → SpellsCaps text plus minus → caps_of names text ≡ caps_or None (sets_of names (first_names caps_form plus) (second_names caps_form plus minus))

-- the text of capabilities whose tags all have names is read as them
abbrev pub TextsAreRead : Type 0
TextsAreRead = (names : List Text) (c : Caps) → AreNames names → HasNames names c.plus → HasNames names c.minus → caps_of names (caps_text names c) ≡ Ok c
