-- Two lists of names in one text: `{a,b}/{t}` is a label's, and `+{a}-{a,b}` is that of capabilities.
use Rattle.std.specs.Prelude.{◌≡◌, ℕ, ◌+◌, ◌≤◌, ◌<◌, true, List, [], ◌∷◌, ◌++◌, length, take, map, unwrap_or, decimal}
use Rattle.std.specs.List.{slice_get}
use Rattle.tag_sets.specs.Tags.{Tags, tags_of}
use Rattle.flow_labels.specs.Names.{is_name}
use Rattle.flow_labels.specs.declared.two_lists.Form.{Form}
use Rattle.flow_labels.specs.declared.two_lists.Form.TheVariants.{Label, Caps}

abbrev pub Text : Type 0
Text = List ℕ

abbrev pub AllNames : List Text → Type 0
AllNames [] = Unit {0}
AllNames (n ∷ ns) = (is_name n ≡ true) × AllNames ns

-- each name with a comma before it
abbrev pub after_commas : List Text → Text
after_commas [] = []
after_commas (n ∷ ns) = 44 ∷ (n ++ after_commas ns)

-- the names with a comma between each two
abbrev pub joined : List Text → Text
joined [] = []
joined (n ∷ ns) = n ++ after_commas ns

-- the names in braces, with what stands after them
abbrev pub braced : List Text → Text → Text
braced ns rest = 123 ∷ (joined ns ++ 125 ∷ rest)

-- what stands before the first list: nothing of a label, `+` of capabilities
abbrev pub before : Form → Text → Text
before Label rest = rest
before Caps rest = 43 ∷ rest

-- the mark between the lists: `/` of a label, `-` of capabilities
abbrev pub between : Form → ℕ
between Label = 47
between Caps = 45

-- the text of two lists of names
abbrev pub spelled : Form → List Text → List Text → Text
spelled form a b = before form (braced a (between form ∷ braced b []))

-- the text spells these two lists of names
pub record Spells (form : Form) (text : Text) (a b : List Text) : Type 0 where
  pub first : AllNames a
  pub second : AllNames b
  pub text_is : text ≡ spelled form a b

-- the text spells two lists of names
abbrev pub HasForm : Form → Text → Type 0
HasForm form text = (a : List Text) × (b : List Text) × Spells form text a b

-- the front of a text that has the form
abbrev pub IsFront : Form → Text → Type 0
IsFront form text = (rest : Text) × HasForm form (text ++ rest)

-- The least place whose byte continues no text of the form: what stands before it can be completed,
-- and with it no more. It is the length of a text that can be completed, and is not complete.
pub record IsBadPlace (form : Form) (text : Text) (at : ℕ) : Type 0 where
  pub within : at ≤ length text
  pub front : IsFront form (take at text)
  pub stops : at < length text → ¬ IsFront form (take (at + 1) text)
  pub incomplete : ¬ HasForm form text

-- the names with their places in a text, of which the first stands at a place
abbrev pub placed : ℕ → List Text → List (ℕ × Text)
placed at [] = []
placed at (n ∷ ns) = (at, n) ∷ placed (at + length n + 1) ns

-- the names of the first list: the first of them stands after the brace
abbrev pub first_names : Form → List Text → List (ℕ × Text)
first_names form a = placed (length (before form []) + 1) a

-- the names of the second list, after a brace, the mark and a brace
abbrev pub second_names : Form → List Text → List Text → List (ℕ × Text)
second_names form a b = placed (length (before form []) + 1 + length (joined a) + 3) b

-- a tag's name, or `#` and its number where it has none
abbrev pub tag_text : List Text → ℕ → Text
tag_text names t = unwrap_or (slice_get names t) (35 ∷ decimal t)

-- two sets of tags, each in increasing order, by their names
abbrev pub sets_text : Form → List Text → Tags → Tags → Text
sets_text form names a b = spelled form (map (tag_text names) (tags_of a)) (map (tag_text names) (tags_of b))
