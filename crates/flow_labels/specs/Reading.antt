-- How two lists of names are read: a byte after the other, and then the names.
use Rattle.std.specs.Prelude.{◌≡◌, ℕ, ◌+◌, ◌-◌, ◌<◌, true, not, ◌&&◌, nat_eq, nat_lt, if◌then◌else◌, List, [], ◌∷◌, ◌++◌, length, take, drop, Option, Some, None, Result, Ok, Err}
use Rattle.std.specs.List.{prefix_len}
use Rattle.std.specs.FinSet.{contains, from_list}
use Rattle.tag_sets.specs.Tags.{Tags}
use Rattle.flow_labels.specs.Names.{AreNames, is_letter, is_word, place_of}
use Rattle.flow_labels.specs.TwoLists.{Text, between, Spells, first_names, second_names, sets_text}
use Rattle.flow_labels.specs.declared.two_lists.Form.{Form}
use Rattle.flow_labels.specs.declared.two_lists.Form.TheVariants.{Label, Caps}
use Rattle.flow_labels.specs.declared.two_lists.Side.{Side}
use Rattle.flow_labels.specs.declared.two_lists.Side.TheVariants.{First, Second}
use Rattle.flow_labels.specs.declared.two_lists.TwoSets.{TwoSets}
use Rattle.flow_labels.specs.declared.two_lists.TagFault.{TagFault}
use Rattle.flow_labels.specs.declared.two_lists.TagFault.TheVariants.{NoTag, NoMemory}
use Rattle.flow_labels.specs.declared.two_lists.Spot.{Spot}
use Rattle.flow_labels.specs.declared.two_lists.Spot.TheVariants.{Start, Brace, Open, Name, Comma, Closed}

abbrev pub start : Form → Spot
start Label = Brace First
start Caps = Start

-- after the brace that ends a list
abbrev pub after_list : Form → Side → ℕ → Option Spot
after_list form First b = if nat_eq b (between form) then Some (Brace Second) else None
after_list form Second b = None

abbrev pub after_letter : Side → ℕ → Option Spot
after_letter side b = if is_letter b then Some (Name side 1) else None

-- where reading stands after one more byte, or nothing where no text of the form goes on so
abbrev pub step : Form → Spot → ℕ → Option Spot
step form Start b = if nat_eq b 43 then Some (Brace First) else None
step form (Brace side) b = if nat_eq b 123 then Some (Open side) else None
step form (Open side) b = if nat_eq b 125 then Some (Closed side) else after_letter side b
step form (Name side len) b = if nat_eq b 125 then Some (Closed side) else (if nat_eq b 44 then Some (Comma side) else (if is_word b && nat_lt len 32 then Some (Name side (len + 1)) else None))
step form (Comma side) b = after_letter side b
step form (Closed side) b = after_list form side b

-- the end of a text, at its length
abbrev pub at_end : Spot → ℕ → Option ℕ
at_end (Closed Second) at = None
at_end _ at = Some at

abbrev pub go_on : Option Spot → ℕ → (Spot → Option ℕ) → Option ℕ
go_on None at rest = Some at
go_on (Some next) at rest = rest next

abbrev pub bad_from : Form → Text → Spot → ℕ → Option ℕ
bad_from form [] spot at = at_end spot at
bad_from form (b ∷ bs) spot at = go_on (step form spot b) at (λ next. bad_from form bs next (at + 1))

-- the place where reading stops, or nothing where the text has the form
abbrev pub bad_place : Form → Text → Option ℕ
bad_place form text = bad_from form text (start form) 0

-- The words of a text with their places: the longest runs of letters, digits and `_`. What was read of
-- the word that is open stands before the rest of the text.
abbrev pub closing : Text → ℕ → List (ℕ × Text)
closing [] at = []
closing (w ∷ ws) at = (at - length (w ∷ ws), w ∷ ws) ∷ []

abbrev pub words : Text → Text → ℕ → List (ℕ × Text)
words [] word at = closing word at
words (b ∷ bs) word at = if is_word b then words bs (word ++ b ∷ []) (at + 1) else closing word at ++ words bs [] (at + 1)

infixl 10 ◌>>=◌
abbrev pub ◌>>=◌ : {A B : Type 0} → Result A ℕ → (A → Result B ℕ) → Result B ℕ
(Ok x) >>= f = f x
(Err e) >>= f = Err e

abbrev pub found : Option ℕ → ℕ → Result ℕ ℕ
found None at = Err at
found (Some t) at = Ok t

-- the tags of names with their places, or the place of the first name that no tag has
abbrev pub tags_of_names : List Text → List (ℕ × Text) → Result (List ℕ) ℕ
tags_of_names names [] = Ok []
tags_of_names names (w ∷ ws) = found (place_of names w.1) w.0 >>= λ t. tags_of_names names ws >>= λ ts. Ok (t ∷ ts)

-- the sets of the tags of two lists of names; a repeated tag counts once
abbrev pub sets_of : List Text → List (ℕ × Text) → List (ℕ × Text) → Result TwoSets ℕ
sets_of names a b = tags_of_names names a >>= λ s. tags_of_names names b >>= λ i. Ok (record { first = from_list s; second = from_list i })

-- where the first list ends
abbrev pub first_end : Text → ℕ
first_end text = prefix_len (λ b. not (nat_eq b 125)) text

-- the sets of the tags that a text of the form names, or the place of the first unknown name
abbrev pub sets_in : List Text → Text → Result TwoSets ℕ
sets_in names text = sets_of names (words (take (first_end text) text) [] 0) (words (drop (first_end text) text) [] (first_end text))

-- Two lists of names are read as the sets of their tags, or else at the place of the first name that no
-- tag has.
abbrev pub ListsAreRead : Type 0
ListsAreRead = (form : Form) (names : List Text) (text : Text) (a b : List Text) → Spells form text a b → sets_in names text ≡ sets_of names (first_names form a) (second_names form a b)

-- each tag of the set has a name
abbrev pub HasNames : List Text → Tags → Type 0
HasNames names tags = (t : ℕ) → contains tags t ≡ true → t < length names

-- the text of two sets whose tags all have names has the form, and is read as the two sets
abbrev pub SetsAreRead : Type 0
SetsAreRead = (form : Form) (names : List Text) (a b : Tags) → AreNames names → HasNames names a → HasNames names b → (bad_place form (sets_text form names a b) ≡ None) × (sets_in names (sets_text form names a b) ≡ Ok (record { first = a; second = b }))

-- What a function gave is what reading gives, unless memory ran out.
abbrev pub Fails : {Y : Type 0} → TagFault → Result Y ℕ → Type 0
Fails NoMemory read = Unit {0}
Fails (NoTag at) read = read ≡ Err at

abbrev pub Gives : {X Y : Type 0} → (X → Y) → Result X TagFault → Result Y ℕ → Type 0
Gives view (Ok x) read = read ≡ Ok (view x)
Gives view (Err e) read = Fails e read

-- a word's tag goes to the end, an empty word changes nothing, and a word that is no name is refused
abbrev pub word_tag : List Text → Text → ℕ → Result (List ℕ) ℕ
word_tag names [] at = Ok []
word_tag names (w ∷ ws) at = found (place_of names (w ∷ ws)) at >>= λ t. Ok (t ∷ [])

abbrev pub TakesWord : List Text → List ℕ → List ℕ → Text → ℕ → Result (Unit {0}) TagFault → Type 0
TakesWord names old new word at (Ok _) = (ts : List ℕ) × (word_tag names word at ≡ Ok ts) × (new ≡ old ++ ts)
TakesWord names old new word at (Err e) = Fails e (word_tag names word at)
