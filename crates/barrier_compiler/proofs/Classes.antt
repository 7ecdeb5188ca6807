-- As many lists of kinds as classes.
use Rattle.std.proofs.Common.{◌≡◌, ◌^◌, ◌<◌, ◌≤◌, List, length, map, ap, arith}
use Rattle.std.proofs.lemmas.List.{length-map}
use Rattle.lam_value.specs.declared.shapes.Kind.{Kind}
use Rattle.lam_builtins.specs.Limits.{most_classes}
use Rattle.lam_resolve_tree.specs.Tree.{ResolvedType}
use Rattle.lam_meaning.specs.Means.{kind_of}

pub room : (all : List (List Kind)) (cs : List (List ResolvedType)) → all ≡ map (λ ts. map kind_of ts) cs → length cs ≤ most_classes → length all < 2 ^ 32
room all cs e h =
    let f : List ResolvedType → List Kind = λ ts. map kind_of ts in
    omega (arith, ap length e, length-map cs f, h)
