-- Typed programs, and what they never come to.
use Rattle.std.specs.Prelude.{◌≡◌, ◌≢◌, ℕ, true, List, [], ◌∷◌, Some, slice_get}
use Rattle.capabilities.specs.declared.Caps.{Caps}
use Rattle.lam_value.specs.declared.values.Value.{Value}
use Rattle.lam_asks.specs.declared.answer.Answer.{Answer}
use Rattle.lam_asks.specs.Suits.{is_of}
use Rattle.lam_resolve_tree.specs.Tree.{ResolvedType, ResolvedFunction, ResolvedTree}
use Rattle.lam_resolve_tree.specs.Typing.{IsTypedTree}
use Rattle.lam_meaning.specs.Means.{sort_of, means}
use Rattle.lam_meaning.specs.Plays.{how_of, is_broken}

-- a value of the type's sort
abbrev pub IsA : ResolvedType → Value → Type 0
IsA t v = is_of (sort_of t) v ≡ true

-- as many values as types, each of its own
abbrev pub AreOf : List ResolvedType → List Value → Type 0
AreOf [] [] = Unit {0}
AreOf [] (v ∷ vs) = ⊥
AreOf (t ∷ ts) [] = ⊥
AreOf (t ∷ ts) (v ∷ vs) = IsA t v × AreOf ts vs

-- no thread of a typed program is broken, whatever is answered: each function, with arguments of the sorts of its
-- parameters, any capabilities and any number of units
abbrev pub NeverBroken : ResolvedTree → Type 0
NeverBroken r =
    IsTypedTree r → (n f : ℕ) (fn : ResolvedFunction) (vs : List Value) (k : Caps) (xs : List Answer) → slice_get r.functions f ≡ Some fn → AreOf fn.params vs →
    how_of (means r n f vs k) xs ≢ is_broken
