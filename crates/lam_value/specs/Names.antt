-- An order of names, and their equality, for maps by name. They mean nothing for the flow of information.
use Rattle.std.specs.Prelude.{◌&&◌, nat_eq, Bool}
use Rattle.std.specs.Coded.{Coded}
use Rattle.std.specs.Ordering.{nat_cmp, ordering_then}
use Rattle.std.specs.declared.cmp.Ordering.{Ordering}
use Rattle.lam_value.specs.declared.names.Name.{Name}
use Rattle.lam_value.specs.NameParts.{coded_parts}
use Rattle.lam_value_homes.specs.Homes.{label_eq}
pub use Rattle.lam_value_homes.specs.Labels.{tags_cmp, label_cmp}

-- the maker's label, then the own label, then the number
abbrev pub name_cmp : Name → Name → Ordering
name_cmp a b = ordering_then (label_cmp a.maker b.maker) (ordering_then (label_cmp a.own b.own) (nat_cmp a.n b.n))

-- whether two names are the same: `==` of the keys of a map
abbrev pub name_eq : Name → Name → Bool
name_eq a b = label_eq a.maker b.maker && (label_eq a.own b.own && nat_eq a.n b.n)

-- how names are stored, for maps by name
abbrev pub coded_name : Coded Name
coded_name = coded_parts
