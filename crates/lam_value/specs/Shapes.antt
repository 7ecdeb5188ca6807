-- The slots of a new thing.
use Rattle.std.specs.Prelude.{pos, false, List, replicate}
use Rattle.lam_value.specs.declared.values.Value.{Value}
use Rattle.lam_value.specs.declared.values.Value.TheVariants.{Int as an_int, Bool as a_bool, Nothing}
use Rattle.lam_value.specs.declared.shapes.Kind.{Kind}
use Rattle.lam_value.specs.declared.shapes.Kind.TheVariants.{Int, Bool, Null}
use Rattle.lam_value.specs.declared.shapes.Shape.{Shape}
use Rattle.lam_value.specs.declared.shapes.Shape.TheVariants.{Class, Array}

-- the first value of an array's elements: 0, false or null
abbrev pub zero_of : Kind → Value
zero_of Int = an_int (pos 0)
zero_of Bool = a_bool false
zero_of Null = Nothing

-- an object's fields, or as many first values as the array is long
abbrev pub slots_of : Shape → List Value
slots_of (Class class fields) = fields
slots_of (Array kind len) = replicate len (zero_of kind)
