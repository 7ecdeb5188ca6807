-- Which units of a code a thread of a document may start at.
use Rattle.std.specs.Prelude.{◌≡◌, ℕ, List, true, map, Some, slice_get}
use Rattle.flow_labels.specs.TwoLists.{Text}
use Rattle.lam_builtins.specs.Types.{int}
use Rattle.lam_bytecode.specs.Codes.{CodeTree}
use Rattle.lam_bytecode.specs.declared.unit.ArgKind.{ArgKind}
use Rattle.lam_bytecode.specs.declared.unit.CodeUnit.{CodeUnit}
use Rattle.lam_bytecode.specs.declared.unit.UnitKind.TheVariants.{Function}
use Rattle.lam_resolve_tree.specs.Tree.{ResolvedFunction, ResolvedTree}
use Rattle.lam_meaning.specs.Scheme.{arg_kind, scheme}
use Rattle.thinned_code.specs.Thinned.{thinned}
use Rattle.world_doc_terms.specs.Entries.{entry_named}

-- the program's function of a number, whose result is a number, and what it takes
pub record IsIntFunction (r : ResolvedTree) (f : ℕ) (takes : List ArgKind) : Type 0 where
  pub declared : ResolvedFunction
  pub found : slice_get r.functions f ≡ Some declared
  pub result : declared.result ≡ Some int
  pub kinds : takes ≡ map arg_kind declared.params

-- a unit of a code that is a function with a number as its result is the program's function of that number
abbrev pub EntriesAreFunctions : ResolvedTree → CodeTree → Type 0
EntriesAreFunctions r code =
    (u : ℕ) (it : CodeUnit) (name : Text) (takes : List ArgKind) → slice_get code.units u ≡ Some it → it.kind ≡ Function name takes true → IsIntFunction r u takes

-- so it is in the scheme's code of the program
abbrev pub SchemeEntries : ResolvedTree → Type 0
SchemeEntries r = EntriesAreFunctions r (scheme r)

-- and in thinned code where it is so in the code
abbrev pub ThinnedEntries : CodeTree → Type 0
ThinnedEntries code = (r : ResolvedTree) → EntriesAreFunctions r code → EntriesAreFunctions r (thinned code)

-- where a thread that a document names a function for starts
abbrev pub ThinnedStarts : CodeTree → Type 0
ThinnedStarts code = (name : Text) → entry_named (thinned code) name ≡ entry_named code name
