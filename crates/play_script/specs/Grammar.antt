-- The format of a script in its own words; the laws of lib.rt join it to the reading.
use Rattle.std.specs.Prelude.{◌≡◌, ◌↔◌, ℕ, ℤ, ◌+◌, ◌≤◌, Bool, true, not, ◌||◌, List, [], ◌∷◌, ◌++◌, length, Some, Ok, Err, codes}
use Rattle.std.specs.Str.{bytes_eq}
use Rattle.flow_labels.specs.Names.{place_of}
use Rattle.flow_labels.specs.LabelText.{label_of}
use Rattle.flow_labels.specs.declared.Label.{Label}
use Rattle.capabilities.specs.Changes.{no_caps}
use Rattle.capabilities.specs.CapsText.{caps_of}
use Rattle.capabilities.specs.Kinds.{kind_of}
use Rattle.capabilities.specs.declared.Caps.{Caps}
use Rattle.capabilities.specs.declared.kinds.TagKind.{TagKind}
use Rattle.capabilities.specs.declared.kinds.TagKind.TheVariants.{Read as read_kind}
use Rattle.play_script.specs.Pieces.{Word, parted, ended, lacks, each_lacks}
use Rattle.decimal_text.specs.Decimal.{int_of}
use Rattle.play_script.specs.declared.Step.TheVariants.{Read, Write, Copy}
use Rattle.play_script.specs.Script.{Play, nothing, may_declare, with_tag, with_actor, with_cell, with_step, is_ascii, after_line, read_script, most_lines}

-- no word that begins a declaration
abbrev pub begins_step : Word → Bool
begins_step a = not (bytes_eq a (codes "tag") || (bytes_eq a (codes "actor") || bytes_eq a (codes "cell")))

-- the forms of a line: its words, and the play after it, from the play before it
pub data Says (p : Play) : List Word → Play → Type 0 where
  tag : (n : Word) → may_declare p n ≡ true → Says p (codes "tag" ∷ n ∷ []) (with_tag p n read_kind)
  kind : (n w : Word) (k : TagKind) → may_declare p n ≡ true → kind_of w ≡ Some k → Says p (codes "tag" ∷ n ∷ w ∷ []) (with_tag p n k)
  actor : (n l : Word) (label : Label) → may_declare p n ≡ true → label_of p.tags l ≡ Ok label → Says p (codes "actor" ∷ n ∷ l ∷ []) (with_actor p n (record { label = label; caps = no_caps }))
  holder : (n l c : Word) (label : Label) (caps : Caps) → may_declare p n ≡ true → label_of p.tags l ≡ Ok label → caps_of p.tags c ≡ Ok caps → Says p (codes "actor" ∷ n ∷ l ∷ c ∷ []) (with_actor p n (record { label = label; caps = caps }))
  cell : (n l v : Word) (label : Label) (value : ℤ) → may_declare p n ≡ true → label_of p.tags l ≡ Ok label → int_of v ≡ Some value → Says p (codes "cell" ∷ n ∷ l ∷ v ∷ []) (with_cell p n (record { label = label; value = value }))
  reads : (a c : Word) (actor cell : ℕ) → begins_step a ≡ true → place_of p.actor_names a ≡ Some actor → place_of p.cell_names c ≡ Some cell → Says p (a ∷ codes "read" ∷ c ∷ []) (with_step p (Read actor cell))
  writes : (a c v : Word) (actor cell : ℕ) (value : ℤ) → begins_step a ≡ true → place_of p.actor_names a ≡ Some actor → place_of p.cell_names c ≡ Some cell → int_of v ≡ Some value → Says p (a ∷ codes "write" ∷ c ∷ v ∷ []) (with_step p (Write actor cell value))
  copies : (a c d : Word) (actor from to : ℕ) → begins_step a ≡ true → place_of p.actor_names a ≡ Some actor → place_of p.cell_names c ≡ Some from → place_of p.cell_names d ≡ Some to → Says p (a ∷ codes "copy" ∷ c ∷ d ∷ []) (with_step p (Copy actor from to))

-- an ASCII line is words, parted by one space, that say something
pub record LineSays (p : Play) (line : Word) (q : Play) : Type 0 where
  pub words : List Word
  pub line_is : line ≡ parted 32 words
  pub no_spaces : each_lacks 32 words ≡ true
  pub ascii : is_ascii line ≡ true
  pub says : Says p words q

-- the play after lines, one after the other
abbrev pub Goes : Play → List Word → Play → Type 0
Goes p [] r = p ≡ r
Goes p (l ∷ ls) r = (q : Play) × LineSays p l q × Goes q ls r

-- a script: at most 65,536 lines, each ended by a line feed, that go on from nothing
pub record Spells (text : Word) (p : Play) : Type 0 where
  pub lines : List Word
  pub text_is : text ≡ ended lines
  pub no_feeds : each_lacks 10 lines ≡ true
  pub few : length lines ≤ most_lines
  pub go : Goes nothing lines p

-- what begins at the line of this number, after the play p, breaks a script there
pub data Breaks (p : Play) (number : ℕ) : Word → Type 0 where
  open_line : (b : ℕ) (bs : Word) → lacks 10 (b ∷ bs) ≡ true → Breaks p number (b ∷ bs)
  says_nothing : (line more : Word) → lacks 10 line ≡ true → ((q : Play) → LineSays p line q → ⊥) → Breaks p number (line ++ 10 ∷ more)
  one_too_many : (line more : Word) → lacks 10 line ≡ true → number ≡ 65537 → Breaks p number (line ++ 10 ∷ more)

-- the lines before line n go on, and line n breaks the script
pub record FirstBroken (text : Word) (n : ℕ) : Type 0 where
  pub lines : List Word
  pub rest : Word
  pub play : Play
  pub text_is : text ≡ ended lines ++ rest
  pub no_feeds : each_lacks 10 lines ≡ true
  pub few : length lines ≤ most_lines
  pub number : n ≡ length lines + 1
  pub go : Goes nothing lines play
  pub breaks : Breaks play n rest

-- a text is read exactly where it spells a script, as the play that it spells
abbrev pub ScriptsAreExact : Type 0
ScriptsAreExact = (text : Word) (p : Play) → Spells text p ↔ (read_script text ≡ Ok p)

-- line n is named exactly where it is the first that breaks the script
abbrev pub BreaksAreExact : Type 0
BreaksAreExact = (text : Word) (n : ℕ) → FirstBroken text n ↔ (read_script text ≡ Err n)

-- a line goes on exactly where its words say something, as what they say
abbrev pub LinesAreExact : Type 0
LinesAreExact = (p q : Play) (line : Word) → LineSays p line q ↔ (after_line p line ≡ Some q)
