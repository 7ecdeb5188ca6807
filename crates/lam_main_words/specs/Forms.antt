-- Forms of words: what each word of a form may be, and in which form of a table words are.
use Rattle.std.specs.Prelude.{◌≡◌, ℕ, ◌+◌, Bool, ◌&&◌, if◌then◌else◌, nat_eq, nat_lt, nat_le, List, [], ◌∷◌, ◌++◌, length, drop, Option, Some, None, Result, Ok, Err, IsOk, codes, is_none, is_some, find, fold, max, ok_or, slice_get, unwrap_or}
use Rattle.std.specs.Str.{bytes_eq}
use Rattle.decimal_text.specs.Decimal.{number_of}
use Rattle.flow_labels.specs.Reading.{bad_place, first_end}
use Rattle.flow_labels.specs.declared.two_lists.Form.TheVariants.{Label}
use Rattle.lam_main_words.specs.declared.word_forms.Literal.{Literal}
use Rattle.lam_main_words.specs.declared.word_forms.Literal.TheVariants as literal
use Rattle.lam_main_words.specs.declared.word_forms.Kind.{Kind}
use Rattle.lam_main_words.specs.declared.word_forms.Kind.TheVariants as kind
use Rattle.lam_main_words.specs.declared.WordFault.{WordFault}
use Rattle.lam_main_words.specs.declared.WordFault.TheVariants.{Word, NoMemory}

abbrev pub Text : Type 0
Text = List ℕ

-- a number from the least to the most
abbrev pub in_range : ℕ → ℕ → Option ℕ → Option ℕ
in_range least most None = None
in_range least most (Some n) = if nat_le least n && nat_le n most then Some n else None

-- the number that a text writes in decimal without leading zeros, where it is from the least to the most
abbrev pub number_in : ℕ → ℕ → Text → Option ℕ
number_in least most text = in_range least most (number_of text)

-- the second list of a label's text is empty: behind the first one stands no more than that
abbrev pub has_no_integrity : Text → Bool
has_no_integrity w = bytes_eq (drop (first_end w) w) (codes "}/{}")

abbrev pub word : List Text → ℕ → Text
word ws index = unwrap_or (slice_get ws index) []

-- the number of a word, which in the words of a form is from the least to the most
abbrev pub number : List Text → ℕ → (least most : ℕ) → ℕ
number ws index least most = unwrap_or (number_in least most (word ws index)) least

-- the words that stand in forms as they are
abbrev pub literal_text : Literal → Text
literal_text literal.Play = codes "play"
literal_text literal.Check = codes "check"
literal_text literal.Format = codes "format"
literal_text literal.Code = codes "code"
literal_text literal.Replay = codes "replay"
literal_text literal.Run = codes "run"
literal_text literal.Audit = codes "audit"
literal_text literal.Make = codes "make"
literal_text literal.Help = codes "help"
literal_text literal.Next = codes "next"
literal_text literal.Pair = codes "pair"
literal_text literal.Walk = codes "walk"
literal_text literal.Workers = codes "--workers"
literal_text literal.Turns = codes "--turns"
literal_text literal.Base = codes "--base"

-- A word of a form: a word as it is, a file's name, which is any word that is not empty, a label's text, that of a label
-- without integrity, or a number from the least to the most.
abbrev pub fits : Kind → Text → Bool
fits (kind.Literal l) w = bytes_eq w (literal_text l)
fits kind.File w = nat_lt 0 (length w)
fits kind.Observer w = is_none (bad_place Label w)
fits kind.Base w = is_none (bad_place Label w) && has_no_integrity w
fits (kind.Number least most) w = is_some (number_in least most w)

-- with how many first words the words of a form agree
abbrev pub agreed : List Kind → List Text → ℕ
agreed [] ws = 0
agreed (k ∷ ks) [] = 0
agreed (k ∷ ks) (w ∷ ws) = if fits k w then 1 + agreed ks ws else 0

-- words are in a form where it agrees with all of them, and they are as many as its words
abbrev pub is_in : List Text → List Kind → Bool
is_in ws ks = nat_eq (agreed ks ws) (length ks) && nat_eq (length ws) (length ks)

-- by the table of what each form's words may be
module _ {F : Type 0} (kinds : F → List Kind) (forms : List F) where
  -- the greatest number of first words with which some form agrees: the least index at which none does
  abbrev pub longest : List Text → ℕ
  longest ws = fold (λ most form. max most (agreed (kinds form) ws)) 0 forms

  -- the first form that words are in, or the index at which they are in none
  abbrev pub form_in : List Text → Result F ℕ
  form_in ws = ok_or (find (λ form. is_in ws (kinds form)) forms) (longest ws)

-- what words in a form ask, or the index at which they are in none
abbrev pub asks_by : {F R : Type 0} → (F → R) → Result F ℕ → Result R ℕ
asks_by asks (Ok form) = Ok (asks form)
asks_by asks (Err at) = Err at

-- What reading words answers: a command that asks what they ask, or the index at which they are in no form.
-- Memory can run out only where they are in a form.
abbrev pub Reads : {C R : Type 0} → (C → R) → Result C WordFault → Result R ℕ → Type 0
Reads asked (Ok command) request = request ≡ Ok (asked command)
Reads asked (Err (Word at)) request = request ≡ Err at
Reads asked (Err NoMemory) request = IsOk request

-- a line for each command of a program
abbrev pub command_lines : Text → List Text → Text
command_lines program [] = []
command_lines program (command ∷ commands) = program ++ command ++ codes "\n" ++ command_lines program commands
