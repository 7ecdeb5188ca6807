-- What the definitions see of the code's rows.
use Rattle.std.specs.Prelude.{List, [], ◌∷◌, Option, option_map}
use Rattle.lam_builtins.specs.Types.{TypeBy, int, bool, bytes, tag, label, caps, file, dir, pipe, thread, PlaceBy, exactly, any_array, any_object, any_labelled}
use Rattle.lam_builtins.specs.Builtins.{AnswerBy, answers, no_answer, as_first, RowBy, row_of}
use Rattle.lam_builtins.specs.declared.rows.PlainType.{PlainType}
use Rattle.lam_builtins.specs.declared.rows.PlainType.TheVariants.{Int, Bool, Bytes, Tag, Label, Caps, File, Dir, Pipe, Thread}
use Rattle.lam_builtins.specs.declared.rows.Takes.{Takes}
use Rattle.lam_builtins.specs.declared.rows.Takes.TheVariants.{Exactly, AnyArray, AnyObject, AnyLabelled}
use Rattle.lam_builtins.specs.declared.rows.Arguments.{Arguments}
use Rattle.lam_builtins.specs.declared.rows.Arguments.TheVariants.{Zero, One, Two, Three}
use Rattle.lam_builtins.specs.declared.rows.Answers.{Answers}
use Rattle.lam_builtins.specs.declared.rows.Answers.TheVariants.{Value, Nothing, AsFirst}
use Rattle.lam_builtins.specs.declared.rows.Row.{Row}

abbrev pub plain_type : {C : Type 0} → PlainType → TypeBy C
plain_type Int = int
plain_type Bool = bool
plain_type Bytes = bytes
plain_type Tag = tag
plain_type Label = label
plain_type Caps = caps
plain_type File = file
plain_type Dir = dir
plain_type Pipe = pipe
plain_type Thread = thread

abbrev pub plain_types : {C : Type 0} → Option PlainType → Option (TypeBy C)
plain_types t = option_map plain_type t

abbrev pub place_taken : {C : Type 0} → Takes → PlaceBy C
place_taken (Exactly t) = exactly (plain_type t)
place_taken AnyArray = any_array
place_taken AnyObject = any_object
place_taken AnyLabelled = any_labelled

abbrev pub places_taken : {C : Type 0} → Arguments → List (PlaceBy C)
places_taken Zero = []
places_taken (One a) = place_taken a ∷ []
places_taken (Two a b) = place_taken a ∷ place_taken b ∷ []
places_taken (Three a b c) = place_taken a ∷ place_taken b ∷ place_taken c ∷ []

abbrev pub answer_given : {C : Type 0} → Answers → AnswerBy C
answer_given (Value t) = answers (plain_type t)
answer_given Nothing = no_answer
answer_given AsFirst = as_first

abbrev pub row_seen : (C : Type 0) → Row → RowBy C
row_seen C r = row_of r.name.now (places_taken r.takes) (answer_given r.answer)
