-- That compiled code breaks no rule of guarded code.
use Rattle.std.specs.Prelude.{◌≡◌, Ok}
use Rattle.lam_bytecode.specs.Codes.{CodeTree}
use Rattle.lam_resolve_tree.specs.Tree.{ResolvedTree}
use Rattle.lam_resolve_tree.specs.Typing.{IsTypedTree}
use Rattle.lam_resolve_tree.specs.Regions.{AreNumbered}
use Rattle.lam_meaning.specs.Scheme.{scheme}
use Rattle.lam_meaning.specs.Long.{compiled}
use Rattle.guarded_code.specs.Breaks.{IsGuarded}

-- the scheme's code
abbrev pub SchemeIsGuarded : Type 0
SchemeIsGuarded = (r : ResolvedTree) → IsTypedTree r → AreNumbered r → IsGuarded (scheme r)

-- what compiling comes to, where no unit is too long
abbrev pub CompiledIsGuarded : Type 0
CompiledIsGuarded = (r : ResolvedTree) (code : CodeTree) → IsTypedTree r → AreNumbered r → compiled r ≡ Ok code → IsGuarded code
