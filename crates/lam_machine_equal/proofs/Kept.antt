-- What an equal code keeps.
use Rattle.std.proofs.Common.{◌≡◌, List, sym, subst}
use Rattle.lam_value.specs.declared.values.Value.{Value}
use Rattle.lam_value.specs.declared.shapes.Kind.{Kind}
use Rattle.lam_bytecode.specs.declared.unit.CodeUnit.{CodeUnit}
use Rattle.lam_bytecode.specs.Codes.{CodeTree, code_of, IsCode}

pub equal_parts_keep : (c : CodeTree) (us : List CodeUnit) (vs : List Value) (ks : List (List Kind)) → us ≡ c.units → vs ≡ c.constants → ks ≡ c.classes → IsCode c → IsCode (code_of us vs ks)
equal_parts_keep c us vs ks a b d is = subst IsCode (λ i. code_of (sym a i) (sym b i) (sym d i)) is
