-- The summary of a run: how often something was said, released and refused in it.
--
-- made 7 64
-- said 64
-- releases 64
-- refused 0
use Rattle.std.specs.Prelude.{◌≡◌, ℕ, Bool, true, false, is_some, List, [], ◌∷◌, ◌++◌, codes, decimal, refl}
use Rattle.std.specs.List.{count_by}
use Rattle.std.specs.Fmt.{digits}
use Rattle.flow_labels.specs.declared.Rule.TheVariants.{ReadS}
use Rattle.lam_asks.specs.declared.ask.Ask.{Ask}
use Rattle.lam_asks.specs.declared.ask.Ask.TheVariants.{Barred, Say}
use Rattle.lam_asks.specs.declared.answer.Answer.{Answer}
use Rattle.lam_asks.specs.declared.answer.Answer.TheVariants.{Done}
use Rattle.lam_asks.specs.declared.answer.What.{What}
use Rattle.lam_asks.specs.declared.answer.What.TheVariants.{Private, Asked}
use Rattle.lam_machine_terms.specs.Turns.{Moment}
use Rattle.lam_machine_terms.specs.Views.{is_release}
use Rattle.audit_log_notes.specs.Notes.{refusal_of}
use Rattle.audit_log_notes.specs.declared.Sums.{Sums}

abbrev pub Text : Type 0
Text = List ℕ

-- ---- what is counted

abbrev pub is_done : Answer → Bool
is_done Done = true
is_done answer = false

abbrev pub says : Ask → Answer → Bool
says (Say bytes) answer = is_done answer
says ask answer = false

-- bytes were shown
abbrev pub is_said : What → Bool
is_said Private = false
is_said (Asked ask answer) = says ask answer

-- a turn was refused what it wanted, or a barrier of the code found that it would be
abbrev pub is_refused : What → Bool
is_refused what = is_some (refusal_of what)

-- how often, in the moments of a run
abbrev pub said : List Moment → ℕ
said ms = count_by (λ (m : Moment). is_said m.event.what) ms

abbrev pub releases : List Moment → ℕ
releases ms = count_by is_release ms

abbrev pub refused : List Moment → ℕ
refused ms = count_by (λ (m : Moment). is_refused m.event.what) ms

abbrev pub sums : List Moment → Sums
sums ms = record { said = said ms; releases = releases ms; refused = refused ms }

-- ---- the summary

-- a word, and what was counted
abbrev pub sum_line : Text → ℕ → Text
sum_line word n = word ++ 32 ∷ (decimal n ++ 10 ∷ [])

-- from which seed, and with how many threads, the world was made
abbrev pub made_line : ℕ → ℕ → Text
made_line seed threads = codes "made " ++ decimal seed ++ 32 ∷ (decimal threads ++ 10 ∷ [])

abbrev pub summary_of : ℕ → ℕ → Sums → Text
summary_of seed threads s =
    made_line seed threads ++ sum_line (codes "said") s.said ++ sum_line (codes "releases") s.releases ++ sum_line (codes "refused") s.refused

-- the summary of a run's moments
abbrev pub summary_lines : ℕ → ℕ → List Moment → Text
summary_lines seed threads ms = summary_of seed threads (sums ms)

-- ---- worked examples

bytes_are_shown : is_said (Asked (Say (codes "7")) Done) ≡ true
bytes_are_shown = refl

private_turns_show_nothing : is_said Private ≡ false
private_turns_show_nothing = refl

barriers_are_refusals : is_refused (Asked (Barred (record { rule = ReadS; tag = 0 })) Done) ≡ true
barriers_are_refusals = refl

four_lines : summary_of 7 64 (record { said = 64; releases = 60; refused = 4 }) ≡ codes "made 7 64\nsaid 64\nreleases 60\nrefused 4\n"
unfolding digits
four_lines = refl

no_moments : summary_lines 1 2 [] ≡ codes "made 1 2\nsaid 0\nreleases 0\nrefused 0\n"
unfolding digits
no_moments = refl
