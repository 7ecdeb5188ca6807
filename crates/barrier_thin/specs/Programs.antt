-- What thinning makes of the code of a program.
use Rattle.std.specs.Prelude.{◌≡◌}
use Rattle.lam_bytecode.specs.Codes.{CodeTree}
use Rattle.guarded_code.specs.Breaks.{IsGuarded}
use Rattle.lam_resolve_tree.specs.Tree.{ResolvedTree}
use Rattle.lam_resolve_tree.specs.Typing.{IsTypedTree}
use Rattle.lam_resolve_tree.specs.Regions.{AreNumbered}
use Rattle.lam_meaning.specs.Scheme.{scheme}
use Rattle.thinned_code_acts.specs.Acts.{ActsAs}

-- Where a code is the one that the scheme gives a typed program with its regions numbered, neither it nor what is made of it
-- has a break, and what is made of it acts as the program.
abbrev pub StandsForPrograms : CodeTree → CodeTree → Type 0
StandsForPrograms code made = (r : ResolvedTree) → IsTypedTree r → AreNumbered r → code ≡ scheme r → IsGuarded code × IsGuarded made × ActsAs made r
