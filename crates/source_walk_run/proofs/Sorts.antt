-- Values of the sorts of types, place by place.
use Rattle.std.proofs.Common.{◌≡◌, ℕ, ◌+◌, ◌<◌, ◌≤◌, Bool, true, false, ◌&&◌, List, [], ◌∷◌, length, get_or, drop, refl, sym, ap, ◌∙◌, arith}
use Rattle.std.specs.Prelude.{◌↔◌, IsTrue}
use Rattle.std.proofs.lemmas.Bool.{and_parts}
use Rattle.std.proofs.lemmas.List.{drop_more, drop_all}
use Rattle.lam_value.specs.declared.values.Value.{Value}
use Rattle.lam_asks.specs.Suits.{is_of}
use Rattle.lam_resolve_tree.specs.declared.ValueType.{ValueType}
use Rattle.lam_resolve_tree.specs.Tree.{ResolvedType, type_tree, types_tree}
use Rattle.lam_meaning.specs.Means.{sort_of}
use Rattle.lam_meaning_typed.specs.Kinds.{AreOf}

-- whether arguments are of the sorts of parameters, as a test
abbrev are_of : List ResolvedType → List Value → Bool
are_of [] [] = true
are_of (t ∷ ts) (v ∷ vs) = is_of (sort_of t) v && are_of ts vs
are_of ts vs = false

-- the test says so
pub says_of : (ts : List ResolvedType) (vs : List Value) → are_of ts vs ≡ true → AreOf ts vs
says_of [] [] e = tt
says_of (t ∷ ts) (v ∷ vs) e = let both = and_parts (is_of (sort_of t) v) (are_of ts vs) e in (both.0, says_of ts vs both.1)
says_of ts vs e = absurd cc

pub so_says : (ts : List ResolvedType) (vs : List Value) → AreOf ts vs → are_of ts vs ≡ true
so_says [] [] h = refl
so_says (t ∷ ts) (v ∷ vs) h = ap (λ b. b && are_of ts vs) h.0 ∙ so_says ts vs h.1
so_says ts vs h = absurd h

pub as_tested : (b : Bool) (ts : List ResolvedType) (vs : List Value) → are_of ts vs ≡ b → IsTrue b ↔ AreOf ts vs
as_tested b ts vs e = ((λ (t : IsTrue b). says_of ts vs (e ∙ t)), (λ h. sym e ∙ so_says ts vs h))

-- ---- a walk over both

-- what is left from a place on tells what the whole does
abbrev pub IsLeft : List ValueType → List Value → ℕ → Type 0
IsLeft ts vs at = are_of (types_tree (drop at ts)) (drop at vs) ≡ are_of (types_tree ts) vs

-- one that is not of its sort
pub left_none : (ts : List ValueType) (vs : List Value) (at : ℕ) (t : ValueType) (v : Value) → at < length ts → length ts ≡ length vs → t ≡ get_or ts at t → v ≡ get_or vs at v → is_of (sort_of (type_tree t)) v ≡ false → IsLeft ts vs at → are_of (types_tree ts) vs ≡ false
left_none ts vs at t v lt same t_is v_is not left =
    sym left ∙ (λ i. are_of (types_tree (ts_at i)) (vs_at i)) ∙ ap (λ b. b && are_of (types_tree (drop (at + 1) ts)) (drop (at + 1) vs)) (here ∙ not)
  where
    ts_at : drop at ts ≡ get_or ts at t ∷ drop (at + 1) ts
    ts_at = drop_more ts at t lt

    vs_at : drop at vs ≡ get_or vs at v ∷ drop (at + 1) vs
    vs_at = drop_more vs at v (omega (arith, lt, same))

    here : is_of (sort_of (type_tree (get_or ts at t))) (get_or vs at v) ≡ is_of (sort_of (type_tree t)) v
    here = λ i. is_of (sort_of (type_tree (sym t_is i))) (sym v_is i)

-- all of them
pub left_all : (ts : List ValueType) (vs : List Value) (at : ℕ) → length ts ≤ at → length ts ≡ length vs → IsLeft ts vs at → are_of (types_tree ts) vs ≡ true
left_all ts vs at le same left = sym left ∙ (λ i. are_of (types_tree (drop_all at ts le i)) (drop_all at vs (omega (arith, le, same)) i))
