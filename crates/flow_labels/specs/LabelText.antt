-- The text of a label, both ways.
--
-- With the names a, b and t of the tags 0, 1 and 2, the label of the secrets 0 and 1 that 2 vouches for is
-- written `{a,b}/{t}`, and `{b,a,b}/{t}` is read as the same label. With the name a alone it is written
-- `{a,#1}/{#2}`, which is no text of a label.
use Rattle.std.specs.Prelude.{◌≡◌, ℕ, List, [], ◌∷◌, ◌++◌, map, Option, Some, None, Result, Ok, Err, codes, replicate, decimal, refl}
use Rattle.flow_labels.specs.Names.{AreNames}
use Rattle.flow_labels.specs.TwoLists.{Text, Spells, spelled, placed, first_names, second_names, tag_text, sets_text}
use Rattle.flow_labels.specs.Reading.{bad_place, sets_in, sets_of, tags_of_names, HasNames}
use Rattle.flow_labels.specs.declared.Label.{Label}
use Rattle.flow_labels.specs.declared.two_lists.Form.TheVariants.{Label as label_form}
use Rattle.flow_labels.specs.declared.two_lists.TwoSets.{TwoSets}
use Rattle.flow_labels.specs.declared.texts.LabelFault.{LabelFault}
use Rattle.flow_labels.specs.declared.texts.LabelFault.TheVariants.{BadLabel, NoTag, NoMemory}

-- the text is `{`, names joined by `,`, `}/{`, names joined by `,`, and `}`
abbrev pub SpellsLabel : Text → List Text → List Text → Type 0
SpellsLabel = Spells label_form

-- some names spell it
abbrev pub IsLabelText : Text → Type 0
IsLabelText text = (secrecy : List Text) × (integrity : List Text) × SpellsLabel text secrecy integrity

abbrev pub label_text : List Text → Label → Text
label_text names l = sets_text label_form names l.s l.i

abbrev pub label_or : Option ℕ → Result TwoSets ℕ → Result Label LabelFault
label_or (Some at) sets = Err (BadLabel at)
label_or None (Ok sets) = Ok (record { s = sets.first; i = sets.second })
label_or None (Err at) = Err (NoTag at)

-- the label that a text spells, or its fault
abbrev pub label_of : List Text → Text → Result Label LabelFault
label_of names text = label_or (bad_place label_form text) (sets_in names text)

-- what a function gave is what reading gives, unless memory ran out
abbrev pub Fails : LabelFault → Result Label LabelFault → Type 0
Fails NoMemory read = Unit {0}
Fails (BadLabel at) read = read ≡ Err (BadLabel at)
Fails (NoTag at) read = read ≡ Err (NoTag at)

abbrev pub Gives : Result Label LabelFault → Result Label LabelFault → Type 0
Gives (Ok l) read = read ≡ Ok l
Gives (Err e) read = Fails e read

-- ---- worked examples
comma_at_end : bad_place label_form (codes "{a,}/{}") ≡ Some 3
comma_at_end = refl

only_a_front : bad_place label_form (codes "{a}/{") ≡ Some 5
only_a_front = refl

name_too_long : bad_place label_form (123 ∷ (replicate 33 97 ++ codes "}/{}")) ≡ Some 33
name_too_long = refl

repeated_and_unsorted : tags_of_names (codes "a" ∷ codes "b" ∷ []) (placed 1 (codes "b" ∷ codes "a" ∷ codes "b" ∷ [])) ≡ Ok (1 ∷ 0 ∷ 1 ∷ [])
repeated_and_unsorted = refl

unknown_secret : label_of (codes "a" ∷ []) (codes "{a,b}/{t}") ≡ Err (NoTag 3)
unknown_secret = refl

unknown_integrity : label_of (codes "a" ∷ []) (codes "{a}/{a,t}") ≡ Err (NoTag 7)
unknown_integrity = refl

form_before_names : label_of (codes "a" ∷ []) (codes "{b}/{b") ≡ Err (BadLabel 6)
form_before_names = refl

named : spelled label_form (map (tag_text (codes "a" ∷ codes "b" ∷ [])) (0 ∷ 1 ∷ [])) [] ≡ codes "{a,b}/{}"
named = refl

minted : tag_text (codes "a" ∷ codes "b" ∷ []) 12 ≡ codes "#" ++ decimal 12
minted = refl

-- ---- laws

-- two lists of names are read as the label of their tags, or else at the place of the first name that no
-- tag has
abbrev pub LabelsAreRead : Type 0
LabelsAreRead = (names : List Text) (text : Text) (secrecy integrity : List Text) → SpellsLabel text secrecy integrity → label_of names text ≡ label_or None (sets_of names (first_names label_form secrecy) (second_names label_form secrecy integrity))

-- the text of a label whose tags all have names is read as the label
abbrev pub TextsAreRead : Type 0
TextsAreRead = (names : List Text) (l : Label) → AreNames names → HasNames names l.s → HasNames names l.i → label_of names (label_text names l) ≡ Ok l
