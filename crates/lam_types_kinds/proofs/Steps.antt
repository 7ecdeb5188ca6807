-- Breaks go through checks that follow one another.
use Rattle.std.proofs.Common.{◌≡◌, sym, subst}
use Rattle.lam_types_kinds.specs.Verdicts.{Fine, Stop, then_on}
use Rattle.lam_types_kinds.specs.Breaks.{Verdict}
use Rattle.lam_types_kinds.specs.Values.{Breaks, IsFault}
use Rattle.lam_types_kinds.specs.declared.fault.TypeFault.{TypeFault}
use Rattle.lam_types_kinds.specs.declared.fault.TypeFault.TheVariants.{NoMemory}

pub no_memory : {B : Type 0} (f : TypeFault) (v : Verdict B) → f ≡ NoMemory → Breaks f v
no_memory f (Fine b) e = e
no_memory f (Stop b) e = subst (λ f. IsFault f b) (sym e) tt

-- the first check stops
pub stops : {A B : Type 0} (f : TypeFault) (v : Verdict A) (next : A → Verdict B) → Breaks f v → Breaks f (then_on v next)
stops f (Fine a) next h = no_memory f (next a) h
stops f (Stop b) next h = h

-- the first check is fine
pub goes_on : {A B : Type 0} (f : TypeFault) (v : Verdict A) (a : A) (next : A → Verdict B) → v ≡ Fine a → Breaks f (next a) → Breaks f (then_on v next)
goes_on f v a next e h = subst (λ v. Breaks f (then_on v next)) (sym e) h
