-- When two values are equal, as a program tests it.
use Rattle.std.specs.Prelude.{Bool, true, false, ◌&&◌, nat_eq}
use Rattle.std.specs.Ordering.{eq_by_cmp, int_eq, bool_cmp}
use Rattle.std.specs.Str.{bytes_eq}
use Rattle.std.specs.FinSet.{is_subset}
use Rattle.lam_asks.specs.Tags.{Tags}
use Rattle.lam_asks.specs.Label.{Label}
use Rattle.lam_asks.specs.Name.{Name}
use Rattle.lam_asks.specs.Names.{name_cmp}
use Rattle.lam_asks.specs.Value.{Value}
use Rattle.lam_asks.specs.Value.TheVariants.{Int, Bool as Truth, Bytes, Nothing, Obj, Arr, File, Dir, Pipe, Thread, Tag, Lab, CapV}

abbrev pub same_names : Name → Name → Bool
same_names a b = eq_by_cmp name_cmp a b

abbrev pub same_tags : Tags → Tags → Bool
same_tags s t = is_subset s t && is_subset t s

abbrev pub same_labels : Label → Label → Bool
same_labels x y = same_tags x.s y.s && same_tags x.i y.i

abbrev pub same_values : Value → Value → Bool
same_values (Int m) (Int n) = int_eq m n
same_values (Truth a) (Truth b) = eq_by_cmp bool_cmp a b
same_values (Bytes a) (Bytes b) = bytes_eq a b
same_values Nothing Nothing = true
same_values (Obj a) (Obj b) = same_names a b
same_values (Arr a m) (Arr b n) = same_names a b && nat_eq m n
same_values (File a) (File b) = same_names a b
same_values (Dir a) (Dir b) = same_names a b
same_values (Pipe a) (Pipe b) = same_names a b
same_values (Thread a) (Thread b) = nat_eq a b
same_values (Tag a) (Tag b) = nat_eq a b
same_values (Lab a) (Lab b) = same_labels a b
same_values (CapV p m) (CapV q n) = same_tags p q && same_tags m n
same_values _ _ = false
