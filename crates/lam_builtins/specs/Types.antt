-- Types, what an expression gives, and what a place takes. The names C of classes are words in a program's text, and
-- numbers once names are resolved.
use Rattle.std.specs.Prelude.{Bool, true, false, Option, Some, None}
use Rattle.std.specs.Str.{bytes_eq}
use Rattle.lam_operators.specs.Words.{Word}

pub data TypeBy (C : Type 0) : Type 0 where
  int bool bytes tag label caps file dir pipe thread : TypeBy C
  object : (class : C) → TypeBy C
  array : (element : TypeBy C) → TypeBy C

abbrev pub ValueType : Type 0
ValueType = TypeBy Word

abbrev pub same_type : ValueType → ValueType → Bool
same_type int int = true
same_type bool bool = true
same_type bytes bytes = true
same_type tag tag = true
same_type label label = true
same_type caps caps = true
same_type file file = true
same_type dir dir = true
same_type pipe pipe = true
same_type thread thread = true
same_type (object c) (object e) = bytes_eq c e
same_type (array t) (array u) = same_type t u
same_type _ _ = false

-- `null` is of each type but int and bool
abbrev pub nullable : {C : Type 0} → TypeBy C → Bool
nullable int = false
nullable bool = false
nullable _ = true

-- what an expression gives: a value of a type, `null`, or nothing (a call without a result)
pub data GivenBy (C : Type 0) : Type 0 where
  a_value : (t : TypeBy C) → GivenBy C
  a_null : GivenBy C
  nothing : GivenBy C

abbrev pub Given : Type 0
Given = GivenBy Word

abbrev pub given_type : {C : Type 0} → GivenBy C → Option (TypeBy C)
given_type (a_value t) = Some t
given_type a_null = None
given_type nothing = None

-- what a place takes: one type, or several
pub data PlaceBy (C : Type 0) : Type 0 where
  exactly : (t : TypeBy C) → PlaceBy C
  -- before `.`
  any_class : PlaceBy C
  -- before `[`, and in `len`
  any_array : PlaceBy C
  -- a class or an array: in `sync` and `copy`
  any_object : PlaceBy C
  -- a class, an array, a file, a directory or a pipe: in `label_of`
  any_labelled : PlaceBy C

abbrev pub Place : Type 0
Place = PlaceBy Word

abbrev pub accepts : Place → ValueType → Bool
accepts (exactly t) u = same_type t u
accepts any_class (object c) = true
accepts any_class _ = false
accepts any_array (array t) = true
accepts any_array _ = false
accepts any_object (object c) = true
accepts any_object (array t) = true
accepts any_object _ = false
accepts any_labelled (object c) = true
accepts any_labelled (array t) = true
accepts any_labelled file = true
accepts any_labelled dir = true
accepts any_labelled pipe = true
accepts any_labelled _ = false

-- `null` does not fit where several types do
abbrev pub accepts_null : {C : Type 0} → PlaceBy C → Bool
accepts_null (exactly t) = nullable t
accepts_null _ = false

abbrev pub suits : Place → Given → Bool
suits p (a_value t) = accepts p t
suits p a_null = accepts_null p
suits p nothing = false

abbrev pub wanted_type : Place → Option ValueType
wanted_type (exactly t) = Some t
wanted_type _ = None

-- `==` and `!=` compare two values of one type, or `null` with what may be null
abbrev pub comparable : Given → Given → Bool
comparable (a_value t) (a_value u) = same_type t u
comparable (a_value t) a_null = nullable t
comparable a_null (a_value u) = nullable u
comparable a_null a_null = true
comparable _ _ = false
