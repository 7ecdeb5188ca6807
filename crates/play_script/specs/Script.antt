-- A script is lines, each ended by a line feed: declarations, and then steps.
use Rattle.std.specs.Prelude.{◌≡◌, ℕ, ◌+◌, Bool, true, false, not, ◌&&◌, ◌||◌, nat_lt, nat_le, if◌then◌else◌, List, [], ◌∷◌, ◌++◌, Option, Some, None, Result, Ok, Err, codes, is_none, refl}
use Rattle.std.specs.Str.{bytes_eq}
use Rattle.std.specs.List.{list_all}
use Rattle.flow_labels.specs.Names.{is_name, place_of}
use Rattle.flow_labels.specs.LabelText.{label_of}
use Rattle.capabilities.specs.Changes.{no_caps}
use Rattle.capabilities.specs.CapsText.{caps_of}
use Rattle.capabilities.specs.Kinds.{kind_of}
use Rattle.capabilities.specs.declared.Caps.{Caps}
use Rattle.capabilities.specs.declared.kinds.TagKind.{TagKind}
use Rattle.capabilities.specs.declared.kinds.TagKind.TheVariants.{Read as read_kind, Export, Integrity}
use Rattle.play_script.specs.Pieces.{Word, pieces}
use Rattle.decimal_text.specs.Decimal.{int_of}
use Rattle.play_script.specs.declared.Actor.{Actor}
use Rattle.play_script.specs.declared.Cell.{Cell}
use Rattle.play_script.specs.declared.Step.{Step}
use Rattle.play_script.specs.declared.Step.TheVariants.{Read, Write, Copy}
use Rattle.play_script.specs.declared.Script.{Script}
use Rattle.play_script.specs.declared.ScriptFault.{ScriptFault}
use Rattle.play_script.specs.declared.ScriptFault.TheVariants.{Line, NoMemory}
use Rattle.play_script.specs.declared.faults.LineFault.{LineFault}
use Rattle.play_script.specs.declared.faults.LineFault.TheVariants.{Broken, NoMemory as no_room}

-- the most lines of a script
abbrev pub most_lines : ℕ
most_lines = 65536

-- what a script says: its tags with their kinds, its actors and its cells with their names, and its steps;
-- a tag's number, and the numbers by which a step names its actor and cells, are places in these lists
pub record Play : Type 0 where
  pub tags : List Word
  pub kinds : List TagKind
  pub actor_names : List Word
  pub actors : List Actor
  pub cell_names : List Word
  pub cells : List Cell
  pub steps : List Step

abbrev pub nothing : Play
nothing = record { tags = []; kinds = []; actor_names = []; actors = []; cell_names = []; cells = []; steps = [] }

abbrev pub play_of : Script → Play
play_of s = record { tags = s.tags; kinds = s.kinds.items; actor_names = s.actor_names; actors = s.actors.items; cell_names = s.cell_names; cells = s.cells.items; steps = s.steps.items }

-- the words that name nothing
abbrev pub is_reserved : Word → Bool
is_reserved w = bytes_eq w (codes "tag") || bytes_eq w (codes "actor") || bytes_eq w (codes "cell") || bytes_eq w (codes "read") || bytes_eq w (codes "write") || bytes_eq w (codes "copy")

abbrev pub is_empty : {A : Type 0} → List A → Bool
is_empty [] = true
is_empty (x ∷ xs) = false

-- a name that no tag, no actor and no cell has
abbrev pub is_free : Play → Word → Bool
is_free p n = is_none (place_of p.tags n) && (is_none (place_of p.actor_names n) && is_none (place_of p.cell_names n))

-- a name that may be declared now: before the first step, and once
abbrev pub may_declare : Play → Word → Bool
may_declare p n = is_empty p.steps && (is_name n && (not (is_reserved n) && is_free p n))

abbrev pub when : {A : Type 0} → Bool → Option A → Option A
when b o = if b then o else None

abbrev pub then_some : {A B : Type 0} → Option A → (A → Option B) → Option B
then_some None f = None
then_some (Some x) f = f x

abbrev pub ok_of : {A E : Type 0} → Result A E → Option A
ok_of (Ok x) = Some x
ok_of (Err e) = None

abbrev pub with_tag : Play → Word → TagKind → Play
with_tag p n k = record p { tags = p.tags ++ n ∷ []; kinds = p.kinds ++ k ∷ [] }

abbrev pub with_actor : Play → Word → Actor → Play
with_actor p n a = record p { actor_names = p.actor_names ++ n ∷ []; actors = p.actors ++ a ∷ [] }

abbrev pub with_cell : Play → Word → Cell → Play
with_cell p n c = record p { cell_names = p.cell_names ++ n ∷ []; cells = p.cells ++ c ∷ [] }

abbrev pub with_step : Play → Step → Play
with_step p s = record p { steps = p.steps ++ s ∷ [] }

-- a tag without a last word is of the kind read
abbrev pub kind_in : List Word → Option TagKind
kind_in [] = Some read_kind
kind_in (w ∷ []) = kind_of w
kind_in _ = None

-- `tag NAME`, `tag NAME KIND`
abbrev pub after_tag : Play → List Word → Option Play
after_tag p (n ∷ rest) = when (may_declare p n) (then_some (kind_in rest) (λ k. Some (with_tag p n k)))
after_tag p _ = None

-- an actor without a last word has no capabilities
abbrev pub caps_in : List Word → List Word → Option Caps
caps_in tags [] = Some no_caps
caps_in tags (c ∷ []) = ok_of (caps_of tags c)
caps_in tags _ = None

abbrev pub actor_in : List Word → Word → List Word → Option Actor
actor_in tags l rest = then_some (ok_of (label_of tags l)) (λ label. then_some (caps_in tags rest) (λ caps. Some (record { label = label; caps = caps })))

-- `actor NAME LABEL`, `actor NAME LABEL CAPS`
abbrev pub after_actor : Play → List Word → Option Play
after_actor p (n ∷ l ∷ rest) = when (may_declare p n) (then_some (actor_in p.tags l rest) (λ a. Some (with_actor p n a)))
after_actor p _ = None

abbrev pub cell_in : List Word → Word → Word → Option Cell
cell_in tags l v = then_some (ok_of (label_of tags l)) (λ label. then_some (int_of v) (λ value. Some (record { label = label; value = value })))

-- `cell NAME LABEL INT`
abbrev pub after_cell : Play → List Word → Option Play
after_cell p (n ∷ l ∷ v ∷ []) = when (may_declare p n) (then_some (cell_in p.tags l v) (λ c. Some (with_cell p n c)))
after_cell p _ = None

-- `read CELL`
abbrev pub read_of : List Word → ℕ → List Word → Option Step
read_of cells actor (c ∷ []) = then_some (place_of cells c) (λ cell. Some (Read actor cell))
read_of cells actor _ = None

-- `write CELL INT`
abbrev pub write_of : List Word → ℕ → List Word → Option Step
write_of cells actor (c ∷ v ∷ []) = then_some (place_of cells c) (λ cell. then_some (int_of v) (λ value. Some (Write actor cell value)))
write_of cells actor _ = None

-- `copy CELL CELL`: from the first to the second
abbrev pub copy_of : List Word → ℕ → List Word → Option Step
copy_of cells actor (c ∷ d ∷ []) = then_some (place_of cells c) (λ from. then_some (place_of cells d) (λ to. Some (Copy actor from to)))
copy_of cells actor _ = None

-- `ACTOR` and what it does
abbrev pub step_of : Play → List Word → Option Step
step_of p (a ∷ verb ∷ ws) = then_some (place_of p.actor_names a) (λ actor.
    if bytes_eq verb (codes "read") then read_of p.cell_names actor ws
    else (if bytes_eq verb (codes "write") then write_of p.cell_names actor ws
    else (if bytes_eq verb (codes "copy") then copy_of p.cell_names actor ws else None)))
step_of p _ = None

abbrev pub after_step : Play → List Word → Option Play
after_step p ws = then_some (step_of p ws) (λ s. Some (with_step p s))

-- what a line of these words makes of the play, or nothing where it breaks the script
abbrev pub after_words : Play → List Word → Option Play
after_words p [] = None
after_words p (w ∷ ws) =
    if bytes_eq w (codes "tag") then after_tag p ws
    else (if bytes_eq w (codes "actor") then after_actor p ws
    else (if bytes_eq w (codes "cell") then after_cell p ws else after_step p (w ∷ ws)))

abbrev pub is_ascii : Word → Bool
is_ascii bs = list_all (λ b. nat_lt b 128) bs

abbrev pub after_line : Play → Word → Option Play
after_line p line = when (is_ascii line) (after_words p (pieces 32 line))

abbrev pub or_line : {A : Type 0} → Option A → ℕ → (A → Result A ℕ) → Result A ℕ
or_line None number f = Err number
or_line (Some p) number f = f p

abbrev pub at_line : Play → Word → ℕ → Option Play
at_line p line number = when (nat_le number most_lines) (after_line p line)

-- what stands after the last line feed is no line
abbrev pub at_end : Play → Word → ℕ → Result Play ℕ
at_end p [] number = Ok p
at_end p (b ∷ bs) number = Err number

abbrev pub last_or : {A : Type 0} → List Word → A → A → A
last_or [] a b = a
last_or (w ∷ ws) a b = b

-- the play of the lines, or the least broken line, counted from a number
abbrev pub read_lines : Play → List Word → ℕ → Result Play ℕ
read_lines p [] number = Ok p
read_lines p (line ∷ rest) number = last_or rest (at_end p line number) (or_line (at_line p line number) number (λ q. read_lines q rest (number + 1)))

-- the play of a text, or its least broken line, counted from 1
abbrev pub read_script : Word → Result Play ℕ
read_script text = read_lines nothing (pieces 10 text) 1

empty_text : read_script [] ≡ Ok nothing
empty_text = refl

one_tag : read_script (codes "tag a" ++ 10 ∷ []) ≡ Ok (with_tag nothing (codes "a") read_kind)
one_tag = refl

export_tag : read_script (codes "tag a export" ++ 10 ∷ []) ≡ Ok (with_tag nothing (codes "a") Export)
export_tag = refl

integrity_tag : read_script (codes "tag a integrity" ++ 10 ∷ []) ≡ Ok (with_tag nothing (codes "a") Integrity)
integrity_tag = refl

no_such_kind : read_script (codes "tag a write" ++ 10 ∷ []) ≡ Err 1
no_such_kind = refl

no_line_feed : read_script (codes "tag a") ≡ Err 1
no_line_feed = refl

declared_twice : read_script (codes "tag a" ++ 10 ∷ codes "tag a" ++ 10 ∷ []) ≡ Err 2
declared_twice = refl

two_blanks : read_script (codes "tag a" ++ 10 ∷ codes "tag  b" ++ 10 ∷ []) ≡ Err 2
two_blanks = refl

-- what a function gave is what reading gives, unless memory ran out
abbrev pub Fails : {Y : Type 0} → ScriptFault → Result Y ℕ → Type 0
Fails NoMemory read = Unit {0}
Fails (Line number) read = read ≡ Err number

abbrev pub Gives : {X Y : Type 0} → (X → Y) → Result X ScriptFault → Result Y ℕ → Type 0
Gives view (Ok x) read = read ≡ Ok (view x)
Gives view (Err e) read = Fails e read

-- the same of a line's reading, that changes the script in its place
abbrev pub Refuses : {Y : Type 0} → LineFault → Option Y → Type 0
Refuses no_room read = Unit {0}
Refuses Broken read = read ≡ None

abbrev pub Adds : {Y : Type 0} → Result (Unit {0}) LineFault → Y → Option Y → Type 0
Adds (Ok u) new read = read ≡ Some new
Adds (Err e) new read = Refuses e read

abbrev pub GivesSome : {X Y : Type 0} → (X → Y) → Result X LineFault → Option Y → Type 0
GivesSome view (Ok x) read = read ≡ Some (view x)
GivesSome view (Err e) read = Refuses e read
