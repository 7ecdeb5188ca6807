-- Each unit has at least as many locals as it finds filled.
use Rattle.std.proofs.Common.{◌≤◌, ℕ, List, [], ◌∷◌, ◌++◌, length, map, arith}
use Rattle.std.proofs.lemmas.List.{length-map}
use Rattle.lam_resolve_tree.specs.Tree.{Statement, let_slot, if_block, while_block, return_value, throw_value, sync_block, region_block, do_value, set_local, set_field, set_element, Block, block_end, block_more, OtherBlock, no_other, other_block, ResolvedFunction, ResolvedTree}
use Rattle.lam_resolve_tree.specs.Slots.{DeclaresNew, BlockDeclaresNew, OtherDeclaresNew, AllDeclareNew, scope_after, SlotsDiffer}
use Rattle.lam_resolve_tree.specs.Regions.{count_up}
use Rattle.lam_bytecode.specs.Codes.{given}
use Rattle.lam_meaning.specs.Scheme.{Draft, arg_kind, function_draft, regions_of, regions_in, regions_in_other, all_regions, drafts}

abbrev pub AllGiven : List Draft → Type 0
AllGiven [] = Unit {0}
AllGiven (d ∷ ds) = (given d.kind ≤ d.locals) × AllGiven ds

both : (ds es : List Draft) → AllGiven ds → AllGiven es → AllGiven (ds ++ es)
both [] es h k = k
both (d ∷ ds) es h k = (h.0, both ds es h.1 k)

mutual
  given_of : (n : ℕ) (scope : List ℕ) (s : Statement) → DeclaresNew n scope s → AllGiven (regions_of s)
  given_of n scope (let_slot x e) h = tt
  given_of n scope (if_block e body other) h = both (regions_in body) (regions_in_other other) (given_in n scope body h.0) (given_other n scope other h.1)
  given_of n scope (while_block e body) h = given_in n scope body h
  given_of n scope (return_value e) h = tt
  given_of n scope (throw_value e) h = tt
  given_of n scope (sync_block x e body) h = given_in n (x ∷ scope) body h.1
  given_of n scope (region_block m l c from own body x handler) h =
      (h.1, both (regions_in body) (regions_in handler) (given_in (length own) (count_up 0 (length from)) body h.2) (given_in (length own) (x ∷ count_up 0 (length from)) handler h.4))
  given_of n scope (do_value e) h = tt
  given_of n scope (set_local x e) h = tt
  given_of n scope (set_field e c f t v) h = tt
  given_of n scope (set_element e i t v) h = tt

  given_in : (n : ℕ) (scope : List ℕ) (b : Block) → BlockDeclaresNew n scope b → AllGiven (regions_in b)
  given_in n scope block_end h = tt
  given_in n scope (block_more s rest) h = both (regions_of s) (regions_in rest) (given_of n scope s h.0) (given_in n (scope_after scope s) rest h.1)

  given_other : (n : ℕ) (scope : List ℕ) (o : OtherBlock) → OtherDeclaresNew n scope o → AllGiven (regions_in_other o)
  given_other n scope no_other h = tt
  given_other n scope (other_block body) h = given_in n scope body h

functions_given : (fs : List ResolvedFunction) → AllDeclareNew fs → AllGiven (map function_draft fs)
functions_given [] h = tt
functions_given (f ∷ fs) h = (omega (arith, length-map f.params arg_kind, h.0), functions_given fs h.2)

regions_given : (fs : List ResolvedFunction) → AllDeclareNew fs → AllGiven (all_regions fs)
regions_given [] h = tt
regions_given (f ∷ fs) h = both (regions_in f.body) (all_regions fs) (given_in (length f.slots) (count_up 0 (length f.params)) f.body h.1) (regions_given fs h.2)

pub all_given : (r : ResolvedTree) → SlotsDiffer r → AllGiven (drafts r)
all_given r h = both (map function_draft r.functions) (all_regions r.functions) (functions_given r.functions h) (regions_given r.functions h)
