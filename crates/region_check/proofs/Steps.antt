-- Breaks go through checks that follow one another.
use Rattle.std.proofs.Common.{◌≡◌, sym, ap, ◌∙◌, subst}
use Rattle.lam_types_kinds.specs.Verdicts.{Fine, Stop, then_on}
use Rattle.region_check.specs.Breaks.{Verdict, both}
use Rattle.region_check.specs.Values.{Breaks, IsFault}
use Rattle.region_check.specs.declared.RegionFault.{RegionFault}
use Rattle.region_check.specs.declared.RegionFault.TheVariants.{NoMemory}

pub no_memory : {B : Type 0} (f : RegionFault) (v : Verdict B) → f ≡ NoMemory → Breaks f v
no_memory f (Fine b) e = e
no_memory f (Stop b) e = subst (λ f. IsFault f b) (sym e) tt

pub stops : {A B : Type 0} (f : RegionFault) (v : Verdict A) (next : A → Verdict B) → Breaks f v → Breaks f (then_on v next)
stops f (Fine a) next h = no_memory f (next a) h
stops f (Stop b) next h = h

pub goes_on : {A B : Type 0} (f : RegionFault) (v : Verdict A) (a : A) (next : A → Verdict B) → v ≡ Fine a → Breaks f (next a) → Breaks f (then_on v next)
goes_on f v a next e h = subst (λ v. Breaks f (then_on v next)) (sym e) h

pub both_first : (f : RegionFault) (a b : Verdict (Unit {0})) → Breaks f a → Breaks f (both a b)
unfolding both
both_first f a b h = stops f a (λ _. b) h

pub both_second : (f : RegionFault) (a b : Verdict (Unit {0})) → a ≡ Fine tt → Breaks f b → Breaks f (both a b)
unfolding both
both_second f a b e h = goes_on f a tt (λ _. b) e h

pub both_fine : (a b : Verdict (Unit {0})) → a ≡ Fine tt → b ≡ Fine tt → both a b ≡ Fine tt
unfolding both
both_fine a b e h = ap (λ (v : Verdict (Unit {0})). then_on v (λ _. b)) e ∙ h
