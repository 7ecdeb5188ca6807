-- A program without a break keeps the region rules, as the code meets it.
use Rattle.std.proofs.Common.{◌≡◌, Option, Some, None, is_none, IsTrue, Err, refl, sym, ap, subst}
use Rattle.lam_syntax.specs.Tree.{ProgramTree}
use Rattle.lam_types_kinds.specs.Verdicts.{Fine, Stop, first_break}
use Rattle.region_check.specs.Breaks.{Break, Verdict, program_checked, first_region_break}
use Rattle.region_check.specs.Legal.{IsRegionLegal}
use Rattle.region_check.specs.Values.{Breaks, IsFirst, HasNoBreak}
use Rattle.region_check.specs.declared.RegionFault.{RegionFault}
use Rattle.region_check.proofs.Law.{legal_has_none, none_is_legal}

none_of : (o : Option Break) → IsTrue (is_none o) → o ≡ None
none_of None h = refl
none_of (Some b) h = absurd cc

pub no_break : (p : ProgramTree) → IsTrue (is_none (first_region_break p)) → first_region_break p ≡ None
no_break p h = none_of (first_region_break p) h

pub unbroken : (p : ProgramTree) → program_checked p ≡ Fine tt → first_region_break p ≡ None
unfolding first_region_break
unbroken p e = ap first_break e

pub none_is_true : (o : Option Break) → o ≡ None → IsTrue (is_none o)
none_is_true o e = subst (λ (o : Option Break). IsTrue (is_none o)) (sym e) refl

pub none_legal : (p : ProgramTree) → first_region_break p ≡ None → IsRegionLegal p
none_legal p e = none_is_legal p e

first_of : (f : RegionFault) (v : Verdict (Unit {0})) → Breaks f v → IsFirst f (first_break v)
first_of f (Fine u) h = h
first_of f (Stop b) h = h

pub is_first : (f : RegionFault) (p : ProgramTree) → Breaks f (program_checked p) → IsFirst f (first_region_break p)
unfolding first_region_break
is_first f p h = first_of f (program_checked p) h

pub memory_only : (A : Type 0) (f : RegionFault) (p : ProgramTree) → Breaks f (program_checked p) → IsRegionLegal p → HasNoBreak {A = A} (Err f)
memory_only A f p h t = subst (λ (o : Option Break). IsFirst f o) (legal_has_none p t) (is_first f p h)

-- where the program was reached as q
module _ (q p : ProgramTree) (e : q ≡ p) where
  pub only_there : (A : Type 0) (f : RegionFault) → Breaks f (program_checked q) → IsRegionLegal p → HasNoBreak {A = A} (Err f)
  only_there A f h t = memory_only A f p (subst (λ (p : ProgramTree). Breaks f (program_checked p)) e h) t

  pub first_there : (f : RegionFault) → Breaks f (program_checked q) → IsFirst f (first_region_break p)
  first_there f h = is_first f p (subst (λ (p : ProgramTree). Breaks f (program_checked p)) e h)

  pub unbroken_there : program_checked q ≡ Fine tt → first_region_break p ≡ None
  unbroken_there h = unbroken p (subst (λ (p : ProgramTree). program_checked p ≡ Fine tt) e h)
