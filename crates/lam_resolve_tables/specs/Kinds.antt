-- The types of the resolver's values.
use Rattle.std.specs.Prelude.{ℕ, zero, suc, Option, Some, None}
use Rattle.lam_builtins.specs.Types.{int, bool, bytes, tag, label, caps, file, dir, pipe, thread, object, array, a_value, a_null, nothing}
use Rattle.lam_resolve_tree.specs.Tree.{ResolvedType, ResolvedGiven}
use Rattle.lam_resolve_tables.specs.declared.kinds.Base.{Base}
use Rattle.lam_resolve_tables.specs.declared.kinds.Base.TheVariants.{Int, Bool, Bytes, Tag, Label, Caps, File, Dir, Pipe, Thread, Object}
use Rattle.lam_resolve_tables.specs.declared.kinds.Kind.{Kind}
use Rattle.lam_resolve_tables.specs.declared.kinds.Given.{Given}
use Rattle.lam_resolve_tables.specs.declared.kinds.Given.TheVariants.{Value, Null, Nothing}

abbrev pub base_type : Base → ResolvedType
base_type Int = int
base_type Bool = bool
base_type Bytes = bytes
base_type Tag = tag
base_type Label = label
base_type Caps = caps
base_type File = file
base_type Dir = dir
base_type Pipe = pipe
base_type Thread = thread
base_type (Object c) = object c

-- arrays, so many deep
abbrev pub arrays_of : ℕ → ResolvedType → ResolvedType
arrays_of zero t = t
arrays_of (suc n) t = array (arrays_of n t)

abbrev pub kind_type : Kind → ResolvedType
kind_type k = arrays_of k.arrays (base_type k.base)

abbrev pub given : Given → ResolvedGiven
given (Value k) = a_value (kind_type k)
given Null = a_null
given Nothing = nothing

-- the class of an object, and the type of an array's elements
abbrev pub class_given : ResolvedGiven → Option ℕ
class_given (a_value (object c)) = Some c
class_given _ = None

abbrev pub element_given : ResolvedGiven → Option ResolvedType
element_given (a_value (array t)) = Some t
element_given _ = None
