-- The code of a checked program keeps what every code keeps.
use Rattle.std.proofs.Common.{◌≡◌, ◌≤◌, ℕ, [], length, map, Option, Some, None, Ok, refl, subst, arith, length-append}
use Rattle.std.proofs.lemmas.List.{length-map}
use Rattle.lam_resolve_tree.specs.Tree.{ResolvedTree}
use Rattle.lam_resolve_tree.specs.Slots.{SlotsDiffer}
use Rattle.lam_resolve_tree.specs.Regions.{AreNumbered}
use Rattle.lam_meaning.specs.Means.{kind_of}
use Rattle.lam_bytecode.specs.Codes.{CodeTree, IsCode}
use Rattle.lam_meaning.specs.Scheme.{function_draft, all_regions, drafts, all_constants, unit_of, scheme}
use Rattle.lam_meaning.specs.Long.{first_long_unit, unless_long, compiled}
use Rattle.barrier_compiler.proofs.Given.{all_given}
use Rattle.barrier_compiler.proofs.Numbered.{are_counted}
use Rattle.barrier_compiler.proofs.Whole.{each_unit}
use Rattle.lam_main_laws.proofs.Counts.{IsSmall}
use Rattle.lam_main_laws.proofs.Constants.{of_program, in_units, few_in_all}

-- what a program is compiled to is what the scheme makes of it
pub by_scheme : (r : ResolvedTree) (code : CodeTree) → compiled r ≡ Ok code → scheme r ≡ code
by_scheme r code e = by (first_long_unit r) e
  where
    by : (o : Option ℕ) → unless_long o (scheme r) ≡ Ok code → scheme r ≡ code
    by None e = cc
    by (Some n) e = absurd cc

module _ (r : ResolvedTree) (is : IsSmall r) (slots : SlotsDiffer r) (regions : AreNumbered r) where
  few_units : length (drafts r) ≤ 5120
  few_units = let f = is.functions in let g = is.regions in omega (arith, length-append (map function_draft r.functions) (all_regions r.functions), length-map r.functions function_draft, f, g)

  scheme_is : first_long_unit r ≡ None → IsCode (scheme r)
  unfolding scheme first_long_unit
  scheme_is e =
      let vs = all_constants [] (drafts r) in
      record {
        units = omega (arith, few_units, length-map (drafts r) (unit_of vs));
        constants = omega (arith, few_units, few_in_all (drafts r) 0 [] e);
        classes = let c = is.classes in omega (arith, c, length-map r.classes (λ ts. map kind_of ts));
        each_unit = each_unit vs 0 (drafts r) (all_given r slots) e;
        each_constant = in_units (drafts r) [] tt (of_program r);
        regions = are_counted r vs regions;
      }

  pub is_code : (code : CodeTree) → compiled r ≡ Ok code → IsCode code
  is_code code e = by (first_long_unit r) refl e
    where
      by : (o : Option ℕ) → first_long_unit r ≡ o → unless_long o (scheme r) ≡ Ok code → IsCode code
      by None s e = let same : scheme r ≡ code = cc in subst IsCode same (scheme_is s)
      by (Some n) s e = absurd cc
