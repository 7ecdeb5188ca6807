-- The lines that a play prints for an observer, one for each entry of its trace:
--
-- p read c = 5
-- p write c 6 refused WriteS a
-- release p copy c d = 7 by +{}-{a}
use Rattle.std.specs.Prelude.{◌≡◌, ℕ, ℤ, List, [], ◌∷◌, ◌++◌, codes, unwrap_or, slice_get, refl}
use Rattle.std.specs.Fmt.{signed_decimal}
use Rattle.std.specs.List.{flat_map}
use Rattle.flow_labels.specs.declared.Label.{Label}
use Rattle.flow_labels.specs.Flow.{public_label}
use Rattle.flow_labels.specs.declared.Rule.TheVariants.{ReadS, DropS}
use Rattle.flow_labels.specs.RuleText.{rule_text}
use Rattle.flow_labels.specs.TwoLists.{tag_text}
use Rattle.capabilities.specs.CapsText.{caps_text}
use Rattle.capabilities.specs.declared.kinds.TagKind.TheVariants.{Read as read_kind}
use Rattle.play_script.specs.declared.Step.{Step}
use Rattle.play_script.specs.declared.Step.TheVariants.{Read, Write, Copy}
use Rattle.play_script.specs.Pieces.{Word}
use Rattle.play_script.specs.Script.{Play}
use Rattle.play_run.specs.declared.steps.Outcome.{Outcome}
use Rattle.play_run.specs.declared.steps.Outcome.TheVariants.{Done, Refused}
use Rattle.play_run.specs.Seen.{Entry, Seen, Released, trace}

-- the name of an actor or a cell by its number; nothing where it has none
abbrev pub name_of : List Word → ℕ → Word
name_of names n = unwrap_or (slice_get names n) []

-- the words of a step, as a script has them
abbrev pub words_of : Play → Step → Word
words_of play (Read p c) = name_of play.actor_names p ++ codes " read " ++ name_of play.cell_names c
words_of play (Write p c v) = name_of play.actor_names p ++ codes " write " ++ name_of play.cell_names c ++ 32 ∷ signed_decimal v
words_of play (Copy p c d) = name_of play.actor_names p ++ codes " copy " ++ name_of play.cell_names c ++ 32 ∷ name_of play.cell_names d

-- a read and a copy tell the number; of a write it stands in the words
abbrev pub told : Step → ℤ → Word
told (Read p c) v = codes " = " ++ signed_decimal v
told (Write p c w) v = []
told (Copy p c d) v = codes " = " ++ signed_decimal v

-- how a step went
abbrev pub answer_of : Play → Step → Outcome → Word
answer_of play step (Done v) = told step v
answer_of play step (Refused denied) = codes " refused " ++ rule_text denied.rule ++ 32 ∷ tag_text play.tags denied.tag

abbrev pub line_of : Play → Entry → Word
line_of play (Seen e) = words_of play e.step ++ answer_of play e.step e.outcome ++ 10 ∷ []
line_of play (Released r) =
    codes "release " ++ words_of play r.copy ++ codes " = " ++ signed_decimal r.value ++ codes " by " ++ caps_text play.tags r.by ++ 10 ∷ []

-- the text that o reads
abbrev pub play_lines : Play → Label → Word
play_lines play o = flat_map (line_of play) (trace o play)

-- ---- worked examples

some_names : Play
some_names = record { tags = codes "a" ∷ []; kinds = read_kind ∷ []; actor_names = codes "p" ∷ []; actors = []; cell_names = codes "c" ∷ codes "d" ∷ []; cells = []; steps = [] }

refused_read : line_of some_names (Seen (record { label = public_label; step = Read 0 0; outcome = Refused (record { rule = ReadS; tag = 0 }) })) ≡ codes "p read c refused ReadS a" ++ 10 ∷ []
unfolding some_names
refused_read = refl

refused_copy : line_of some_names (Seen (record { label = public_label; step = Copy 0 0 1; outcome = Refused (record { rule = DropS; tag = 0 }) })) ≡ codes "p copy c d refused DropS a" ++ 10 ∷ []
unfolding some_names
refused_copy = refl
