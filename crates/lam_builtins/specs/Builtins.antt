-- The built-in calls: for each its name, what its arguments are, and its result.
use Rattle.std.specs.Prelude.{if◌then◌else◌, List, [], ◌∷◌, Option, Some, None, codes}
use Rattle.std.specs.Str.{bytes_eq}
use Rattle.lam_operators.specs.Words.{Word}
use Rattle.lam_builtins.specs.Types.{TypeBy, int, bytes, tag, label, caps, file, dir, pipe, thread, GivenBy, a_value, nothing, PlaceBy, exactly, any_array, any_object, any_labelled}
use Rattle.lam_builtins.specs.declared.Builtin.{Builtin}
use Rattle.lam_builtins.specs.declared.Builtin.TheVariants.{Len, Size, Byte, Slice, Cat, Text, Number, MyLabel, MyCaps, Root, LabelOf, Copy, Mint, Say, MakeFile, MakeDir, OpenFile, OpenDir, Remove, Read, Length, Append, Cut, MakePipe, Send, SendCaps, Receive, ReceiveCaps, Join}

-- the result of a call: a value of a type, none, or a value of the first argument's type
pub data AnswerBy (C : Type 0) : Type 0 where
  answers : (t : TypeBy C) → AnswerBy C
  no_answer : AnswerBy C
  as_first : AnswerBy C

abbrev pub Answer : Type 0
Answer = AnswerBy Word

-- how a function is called
pub record SignatureBy (C : Type 0) : Type 0 where
  pub takes : List (PlaceBy C)
  pub answer : AnswerBy C

abbrev pub Signature : Type 0
Signature = SignatureBy Word

pub record RowBy (C : Type 0) : Type 0 where
  pub name : Word
  pub signature : SignatureBy C

abbrev pub row_of : {C : Type 0} → Word → List (PlaceBy C) → AnswerBy C → RowBy C
row_of name takes answer = record { name = name; signature = record { takes = takes; answer = answer } }

-- the table. No row names a class
abbrev pub row_by : (C : Type 0) → Builtin → RowBy C
row_by C Len = row_of (codes "len") (any_array ∷ []) (answers int)
row_by C Size = row_of (codes "size") (exactly bytes ∷ []) (answers int)
row_by C Byte = row_of (codes "byte") (exactly bytes ∷ exactly int ∷ []) (answers int)
row_by C Slice = row_of (codes "slice") (exactly bytes ∷ exactly int ∷ exactly int ∷ []) (answers bytes)
row_by C Cat = row_of (codes "cat") (exactly bytes ∷ exactly bytes ∷ []) (answers bytes)
row_by C Text = row_of (codes "text") (exactly int ∷ []) (answers bytes)
row_by C Number = row_of (codes "number") (exactly bytes ∷ []) (answers int)
row_by C MyLabel = row_of (codes "my_label") [] (answers label)
row_by C MyCaps = row_of (codes "my_caps") [] (answers caps)
row_by C Root = row_of (codes "root") [] (answers dir)
row_by C LabelOf = row_of (codes "label_of") (any_labelled ∷ []) (answers label)
row_by C Copy = row_of (codes "copy") (any_object ∷ exactly label ∷ []) as_first
row_by C Mint = row_of (codes "mint") [] (answers tag)
row_by C Say = row_of (codes "say") (exactly bytes ∷ []) no_answer
row_by C MakeFile = row_of (codes "make_file") (exactly dir ∷ exactly bytes ∷ exactly label ∷ []) (answers file)
row_by C MakeDir = row_of (codes "make_dir") (exactly dir ∷ exactly bytes ∷ exactly label ∷ []) (answers dir)
row_by C OpenFile = row_of (codes "open_file") (exactly dir ∷ exactly bytes ∷ []) (answers file)
row_by C OpenDir = row_of (codes "open_dir") (exactly dir ∷ exactly bytes ∷ []) (answers dir)
row_by C Remove = row_of (codes "remove") (exactly dir ∷ exactly bytes ∷ []) no_answer
row_by C Read = row_of (codes "read") (exactly file ∷ exactly int ∷ exactly int ∷ []) (answers bytes)
row_by C Length = row_of (codes "length") (exactly file ∷ []) (answers int)
row_by C Append = row_of (codes "append") (exactly file ∷ exactly bytes ∷ []) no_answer
row_by C Cut = row_of (codes "cut") (exactly file ∷ exactly int ∷ []) no_answer
row_by C MakePipe = row_of (codes "make_pipe") (exactly label ∷ []) (answers pipe)
row_by C Send = row_of (codes "send") (exactly pipe ∷ exactly bytes ∷ []) no_answer
row_by C SendCaps = row_of (codes "send_caps") (exactly pipe ∷ exactly caps ∷ []) no_answer
row_by C Receive = row_of (codes "receive") (exactly pipe ∷ []) (answers bytes)
row_by C ReceiveCaps = row_of (codes "receive_caps") (exactly pipe ∷ []) (answers caps)
row_by C Join = row_of (codes "join") (exactly thread ∷ []) (answers int)

abbrev pub row : Builtin → RowBy Word
row b = row_by Word b

abbrev pub builtins : List Builtin
builtins = Len ∷ Size ∷ Byte ∷ Slice ∷ Cat ∷ Text ∷ Number ∷ MyLabel ∷ MyCaps ∷ Root ∷ LabelOf ∷ Copy ∷ Mint ∷ Say ∷ MakeFile ∷ MakeDir ∷ OpenFile ∷ OpenDir ∷ Remove ∷ Read ∷ Length ∷ Append ∷ Cut ∷ MakePipe ∷ Send ∷ SendCaps ∷ Receive ∷ ReceiveCaps ∷ Join ∷ []

abbrev pub named_in : Word → List Builtin → Option Builtin
named_in name [] = None
named_in name (b ∷ bs) = if bytes_eq name (row b).name then Some b else named_in name bs

-- the built-in call of a name
unfoldable pub builtin_named : Word → Option Builtin
builtin_named name = named_in name builtins

-- what a call gives, where this is what its first argument gives
abbrev pub answered : {C : Type 0} → AnswerBy C → GivenBy C → GivenBy C
answered (answers t) first = a_value t
answered no_answer first = nothing
answered as_first first = first
