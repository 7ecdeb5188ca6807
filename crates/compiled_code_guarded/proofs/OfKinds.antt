-- Kinds as far as they are known, and what stays of them where paths meet.
use Rattle.std.proofs.Common.{IsTrue, List, [], ◌∷◌, refl, sym, subst}
use Rattle.std.proofs.lemmas.Bool.{and_from}
use Rattle.guarded_code.specs.declared.known.ValueKind.{ValueKind}
use Rattle.guarded_code.specs.declared.known.ValueKind.TheVariants.{Number, Truth, Other, Unknown}
use Rattle.guarded_code.specs.declared.known.Access.{Access}
use Rattle.guarded_code.specs.declared.known.Access.TheVariants.{Reading, Writing}
use Rattle.guarded_code.specs.declared.known.Known.{Known}
use Rattle.guarded_code.specs.declared.known.Operand.{Operand}
use Rattle.guarded_code.specs.Descriptions.{is_tested, met_kind, met_known}
use Rattle.guarded_code.specs.Changes.{Place, Any, Only}
use Rattle.guarded_code.specs.Breaks.{fits, all_fit}
use Rattle.guarded_code.specs.Says.{Pairwise, KindSays}
use Rattle.compiled_code_guarded.specs.Layouts.{IsOfKind, OperandFits, TakesKind, TakesKinds, IsKnown}

-- ---- kinds
pub any_kind : (k : ValueKind) → IsOfKind k Unknown
any_kind Number = refl
any_kind k = refl

pub met_of_kind : (k m z : ValueKind) → IsOfKind k z → IsOfKind m z → IsOfKind (met_kind k m) z
met_of_kind Number Number z h i = h
met_of_kind Truth Truth z h i = h
met_of_kind Other Other z h i = h
met_of_kind k m z h i = refl

-- what is of a kind is of one that says no more
pub of_less : (k m z : ValueKind) → IsOfKind k m → KindSays m z → IsOfKind k z
of_less k m Unknown h s = any_kind k
of_less k m z h s = subst (IsOfKind k) s h

agree_back : (k m : ValueKind) → IsOfKind k m → IsOfKind m k
agree_back k Unknown h = refl
agree_back Unknown m h = any_kind m
agree_back k m h = h

-- two that are of one known kind may agree
pub both_agree : (k m z : ValueKind) → IsKnown z → IsOfKind k z → IsOfKind m z → IsOfKind k m
both_agree Unknown m z known h i = refl
both_agree k Unknown z known h i = any_kind k
both_agree Number Number z known h i = refl
both_agree Truth Truth z known h i = refl
both_agree Other Other z known h i = refl
both_agree k m Unknown known h i = absurd known
both_agree Number m Number known h i = agree_back m Number i
both_agree Truth m Truth known h i = agree_back m Truth i
both_agree Other m Other known h i = agree_back m Other i
both_agree k m z known h i = absurd cc

-- ---- places
taken_fits : (p : Place) (o : Operand) (k : ValueKind) → TakesKind p k → OperandFits o k → IsTrue (fits p o.known.kind)
taken_fits Any o k t h = refl
taken_fits (Only want) o k t h = subst (λ z. IsOfKind z o.known.kind) (sym t) (agree_back o.known.kind k h)

pub all_taken_fit : (ps : List Place) (os : List Operand) (ks : List ValueKind) → TakesKinds ps ks → Pairwise OperandFits os ks → IsTrue (all_fit ps os)
all_taken_fit [] os ks t h = refl
all_taken_fit (p ∷ ps) [] ks t h = refl
all_taken_fit (p ∷ ps) (o ∷ os) [] t h = absurd t
all_taken_fit (p ∷ ps) (o ∷ os) (k ∷ ks) t h = and_from (fits p o.known.kind) (all_fit ps os) (taken_fits p o k t.0 h.0) (all_taken_fit ps os ks t.1 h.1)

-- ---- tests
pub met_tested : (access : Access) (k m : Known) → IsTrue (is_tested access k) → IsTrue (is_tested access m) → IsTrue (is_tested access (met_known k m))
met_tested Reading k m h i = and_from k.read m.read h i
met_tested Writing k m h i = and_from k.write m.write h i
