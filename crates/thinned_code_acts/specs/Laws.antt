-- That thinned code acts as the program that the code acts as.
use Rattle.lam_bytecode.specs.Codes.{CodeTree, IsCode}
use Rattle.lam_resolve_tree.specs.Tree.{ResolvedTree}
use Rattle.lam_resolve_tree.specs.Typing.{IsTypedTree}
use Rattle.lam_resolve_tree.specs.Regions.{AreNumbered}
use Rattle.lam_meaning.specs.Scheme.{scheme}
use Rattle.lam_meaning_laws.specs.Acts.{ActsAs, HasFunctions}
use Rattle.guarded_code.specs.Breaks.{IsGuarded}
use Rattle.thinned_code.specs.Thinned.{thinned}

abbrev pub ThinnedActs : CodeTree → ResolvedTree → Type 0
ThinnedActs code r = IsCode code → IsGuarded code → HasFunctions code r → ActsAs code r → ActsAs (thinned code) r

abbrev pub KeepsFunctions : CodeTree → ResolvedTree → Type 0
KeepsFunctions code r = IsGuarded code → HasFunctions code r → HasFunctions (thinned code) r

-- ---- the code that the scheme gives a program

abbrev pub SchemeHasFunctions : ResolvedTree → Type 0
SchemeHasFunctions r = HasFunctions (scheme r) r

-- where it is guarded, its thinned code acts as the program
abbrev pub ThinnedSchemeActs : ResolvedTree → Type 0
ThinnedSchemeActs r = IsTypedTree r → AreNumbered r → IsCode (scheme r) → IsGuarded (scheme r) → ActsAs (thinned (scheme r)) r
