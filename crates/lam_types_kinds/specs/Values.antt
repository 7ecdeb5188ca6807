-- What the definitions see of the code's values.
use Rattle.std.specs.Prelude.{◌≡◌, List, map, take, length, Option, Some, None, Result}
use Rattle.std.specs.Borrow.{Bor}
use Rattle.std.specs.declared.hash.FoldHasher.{FoldHasher}
use Rattle.std.specs.declared.hash.BuildHasherDefault.{BuildHasherDefault}
use Rattle.indexmap.specs.IndexMap.{IndexMap}
use Rattle.lam_syntax.specs.declared.TypeExpr.{TypeExpr}
use Rattle.lam_syntax.specs.Tree.{type_tree, option_type_tree}
use Rattle.lam_operators.specs.Words.{Word}
use Rattle.lam_builtins.specs.Types.{ValueType, int, bool, bytes, tag, label, caps, file, dir, pipe, thread, object, array, Given, a_value, a_null, nothing, Place, exactly, any_class, any_array, any_object, any_labelled}
use Rattle.lam_types_kinds.specs.Written.{written}
use Rattle.lam_types_kinds.specs.MeetsVerdicts.{BreaksBy, PassesBy, MakesBy}
use Rattle.lam_types_kinds.specs.Breaks.{Break, no_name, twice, arity, no_field, no_return, too_many, mismatch, Verdict}
use Rattle.lam_builtins.specs.Builtins.{Answer, answers, no_answer, as_first, Signature}
use Rattle.lam_types_kinds.specs.Tables.{Names, Decls}
use Rattle.lam_types_kinds.specs.declared.types.TypeRef.{TypeRef}
use Rattle.lam_types_kinds.specs.declared.types.TypeRef.TheVariants.{Int, Bool, Bytes, Tag, Label, Caps, File, Dir, Pipe, Thread, Class, Array}
use Rattle.lam_types_kinds.specs.declared.types.Got.{Got}
use Rattle.lam_types_kinds.specs.declared.types.Got.TheVariants.{Value, Null, Nothing}
use Rattle.lam_types_kinds.specs.declared.types.Want.{Want}
use Rattle.lam_types_kinds.specs.declared.types.Want.TheVariants.{Exactly, AnyClass, AnyArray, AnyObject, AnyLabelled}
use Rattle.lam_types_kinds.specs.declared.builtins.Returns.{Returns}
use Rattle.lam_types_kinds.specs.declared.builtins.Returns.TheVariants.{Value as RValue, Nothing as RNothing, AsFirst}
use Rattle.lam_types_kinds.specs.declared.tables.Callable.{Callable}
use Rattle.lam_types_kinds.specs.declared.tables.Known.{Known}
use Rattle.lam_types_kinds.specs.declared.fault.TypeFault.{TypeFault}
use Rattle.lam_types_kinds.specs.declared.fault.TypeFault.TheVariants.{NoName, Twice, Arity, NoField, NoReturn, TooMany, Mismatch, NoMemory}

abbrev pub type_of : TypeExpr → ValueType
type_of t = written (type_tree t)

abbrev pub value_type : TypeRef → ValueType
value_type Int = int
value_type Bool = bool
value_type Bytes = bytes
value_type Tag = tag
value_type Label = label
value_type Caps = caps
value_type File = file
value_type Dir = dir
value_type Pipe = pipe
value_type Thread = thread
value_type (Class c) = object c.now
value_type (Array t) = array (type_of t.now)

abbrev pub option_type : Option TypeRef → Option ValueType
option_type None = None
option_type (Some t) = Some (value_type t)

abbrev pub given : Got → Given
given (Value t) = a_value (value_type t)
given Null = a_null
given Nothing = nothing

abbrev pub place : Want → Place
place (Exactly t) = exactly (value_type t)
place AnyClass = any_class
place AnyArray = any_array
place AnyObject = any_object
place AnyLabelled = any_labelled

abbrev pub places : List Want → List Place
places ws = map place ws

abbrev pub answer : Returns → Answer
answer (RValue t) = answers (value_type t)
answer RNothing = no_answer
answer AsFirst = as_first

abbrev pub signature : Callable → Signature
signature c = record { takes = places c.takes.items; answer = answer c.returns }

abbrev pub option_signature : Option (Bor Callable) → Option Signature
option_signature None = None
option_signature (Some c) = Some (signature c.now)

-- a table from names to values, in order
abbrev pub Table : Type 0 → Type 0
Table A = IndexMap (Bor Word) A (BuildHasherDefault FoldHasher)

-- the entries of a table, by the texts of their names
abbrev pub keyed : {V : Type 0} → List (Bor Word × V) → List (Word × V)
keyed es = map (λ e. (e.0.now, e.1)) es

abbrev pub names : List (Bor Word × TypeRef) → Names
names es = map (λ e. (e.0.now, value_type e.1)) es

abbrev pub fields : Table TypeRef → Names
fields m = names m.entries

abbrev pub option_fields : Option (Bor (Table TypeRef)) → Option Names
option_fields None = None
option_fields (Some m) = Some (fields m.now)

abbrev pub class_entries : List (Bor Word × Table TypeRef) → List (Word × Names)
class_entries es = map (λ e. (e.0.now, fields e.1)) es

abbrev pub function_entries : List (Bor Word × Callable) → List (Word × Signature)
function_entries es = map (λ e. (e.0.now, signature e.1)) es

abbrev pub decls : Known → Decls
decls k = record { classes = class_entries k.classes.entries; functions = function_entries k.functions.entries }

-- the fault names the break, unless memory ran out
abbrev pub IsFault : TypeFault → Break → Type 0
IsFault (NoName at) b = b ≡ no_name at
IsFault (Twice at) b = b ≡ twice at
IsFault (Arity at) b = b ≡ arity at
IsFault (NoField at) b = b ≡ no_field at
IsFault (NoReturn at) b = b ≡ no_return at
IsFault (TooMany at) b = b ≡ too_many at
IsFault (Mismatch at want got) b = b ≡ mismatch at (option_type_tree want) (option_type_tree got)
IsFault NoMemory b = Unit {0}

abbrev pub Breaks : {A : Type 0} → TypeFault → Verdict A → Type 0
Breaks f v = BreaksBy IsFault NoMemory f v

abbrev pub Passes : Result (Unit {0}) TypeFault → Verdict (Unit {0}) → Type 0
Passes r v = PassesBy IsFault NoMemory r v

abbrev pub Gives : Result Got TypeFault → Verdict Given → Type 0
Gives r v = MakesBy IsFault NoMemory given r v

-- names were added at the end, and the others stand as before
abbrev pub Extends : {A : Type 0} → List A → List A → Type 0
Extends old new = take (length old) new ≡ old
