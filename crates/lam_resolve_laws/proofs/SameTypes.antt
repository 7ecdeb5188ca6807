-- What is said of types by words is said of them by numbers.
use Rattle.std.proofs.Common.{rules, ◌≡◌, ℕ, true, List, [], ◌∷◌, Some, refl, sym, ap, ◌∙◌, subst}
use Rattle.lam_operators.specs.Words.{Word}
use Rattle.lam_builtins.specs.declared.Builtin.{Builtin}
use Rattle.lam_builtins.specs.declared.Builtin.TheVariants.{Len}
use Rattle.lam_builtins.specs.Types.{ValueType, int, bool, bytes, tag, label, caps, file, dir, pipe, thread, object, array, nullable, Given, a_value, a_null, nothing, Place, exactly, any_class, any_array, any_object, any_labelled, accepts, suits, comparable}
use Rattle.lam_builtins.specs.Builtins.{Answer, AnswerBy, answers, no_answer, as_first, answered, row, row_by}
use Rattle.lam_types_exprs.proofs.Law.{type_back}
use Rattle.lam_resolve_tree.specs.Tree.{ResolvedType, ResolvedGiven, ResolvedPlace}
use Rattle.lam_resolve_tree.specs.Typing.{Takes, Fits, Compare, is_object, is_labelled}
use Rattle.lam_resolve_laws.specs.Resolved.{Found, found, numbered}
use Rattle.lam_resolve_laws.proofs.Has.{some_is, back}

module _ (cs : List (Word × Unit {0})) where
  -- the form of a type stays
  abbrev pub Shape : ValueType → ResolvedType → Type 0
  Shape (object c) u = (n : Found (Unit {0})) × (found c cs ≡ Some n) × (u ≡ object n.number)
  Shape (array t) u = (v : ResolvedType) × (numbered cs t ≡ Some v) × (u ≡ array v)
  Shape int u = u ≡ int
  Shape bool u = u ≡ bool
  Shape bytes u = u ≡ bytes
  Shape tag u = u ≡ tag
  Shape label u = u ≡ label
  Shape caps u = u ≡ caps
  Shape file u = u ≡ file
  Shape dir u = u ≡ dir
  Shape pipe u = u ≡ pipe
  Shape thread u = u ≡ thread

  pub shape : (t : ValueType) (u : ResolvedType) → numbered cs t ≡ Some u → Shape t u
  shape (object c) u e = let b = back (found c cs) (λ n. Some (object n.number)) u e in (b.it, b.first, sym (some_is _ u b.next))
  shape (array t) u e = let b = back (numbered cs t) (λ t. Some (array t)) u e in (b.it, b.first, sym (some_is _ u b.next))
  shape _ u e = sym (some_is _ u e)

  -- what an expression gives
  abbrev pub SameGiven : Given → ResolvedGiven → Type 0
  SameGiven (a_value t) g = (u : ResolvedType) × (numbered cs t ≡ Some u) × (g ≡ a_value u)
  SameGiven a_null g = g ≡ a_null
  SameGiven nothing g = g ≡ nothing

  -- what a place takes
  abbrev pub SamePlace : Place → ResolvedPlace → Type 0
  SamePlace (exactly t) (exactly u) = numbered cs t ≡ Some u
  SamePlace any_class any_class = Unit {0}
  SamePlace any_array any_array = Unit {0}
  SamePlace any_object any_object = Unit {0}
  SamePlace any_labelled any_labelled = Unit {0}
  SamePlace _ _ = ⊥

  abbrev pub SamePlaces : List Place → List ResolvedPlace → Type 0
  SamePlaces [] [] = Unit {0}
  SamePlaces [] (q ∷ qs) = ⊥
  SamePlaces (p ∷ ps) [] = ⊥
  SamePlaces (p ∷ ps) (q ∷ qs) = SamePlace p q × SamePlaces ps qs

  abbrev pub SameAnswer : Answer → AnswerBy ℕ → Type 0
  SameAnswer (answers t) (answers u) = numbered cs t ≡ Some u
  SameAnswer no_answer no_answer = Unit {0}
  SameAnswer as_first as_first = Unit {0}
  SameAnswer _ _ = ⊥

  one_type : (t : ValueType) (u v : ResolvedType) → numbered cs t ≡ Some u → numbered cs t ≡ Some v → u ≡ v
  one_type t u v e f = some_is u v (sym e ∙ f)

  pub nullable_same : (t : ValueType) (u : ResolvedType) → numbered cs t ≡ Some u → nullable u ≡ nullable t
  nullable_same t u e = by t u (shape t u e)
    where
      by : (t : ValueType) (u : ResolvedType) → Shape t u → nullable u ≡ nullable t
      by (object c) u s = ap nullable s.2
      by (array t) u s = ap nullable s.2
      by _ u s = ap nullable s

  takes_same : (p : Place) (q : ResolvedPlace) (t : ValueType) (u : ResolvedType) → accepts p t ≡ true → SamePlace p q → numbered cs t ≡ Some u → Takes q u
  takes_same (exactly t) (exactly v) w u a s e = one_type w u v e (ap (numbered cs) (sym (type_back t w a)) ∙ s)
  takes_same any_class any_class (object c) u a s e = let h = shape (object c) u e in (h.0.number, h.2)
  takes_same any_array any_array (array t) u a s e = let h = shape (array t) u e in (h.0, h.2)
  takes_same any_object any_object (object c) u a s e = ap is_object (shape (object c) u e).2
  takes_same any_object any_object (array t) u a s e = ap is_object (shape (array t) u e).2
  takes_same any_labelled any_labelled (object c) u a s e = ap is_labelled (shape (object c) u e).2
  takes_same any_labelled any_labelled (array t) u a s e = ap is_labelled (shape (array t) u e).2
  takes_same any_labelled any_labelled file u a s e = ap is_labelled (shape file u e)
  takes_same any_labelled any_labelled dir u a s e = ap is_labelled (shape dir u e)
  takes_same any_labelled any_labelled pipe u a s e = ap is_labelled (shape pipe u e)
  takes_same _ _ t u a s e = absurd (first_of (assumption, cc))

  -- what fits a place by words fits it by numbers
  pub fits_same : (p : Place) (q : ResolvedPlace) (g : Given) (h : ResolvedGiven) → suits p g ≡ true → SamePlace p q → SameGiven g h → Fits q h
  fits_same p q (a_value t) h a s (u, e, k) = subst (λ (h : ResolvedGiven). Fits q h) (sym k) (takes_same p q t u a s e)
  fits_same (exactly t) (exactly u) a_null h a s k = subst (λ (h : ResolvedGiven). Fits (exactly u) h) (sym k) (nullable_same t u s ∙ a)
  fits_same (exactly t) _ a_null h a s k = absurd s
  fits_same p q nothing h a s k = absurd cc
  fits_same _ _ a_null h a s k = absurd cc

  pub compares_same : (g k : Given) (h l : ResolvedGiven) → comparable g k ≡ true → SameGiven g h → SameGiven k l → Compare h l
  compares_same (a_value t) (a_value u) h l a (v, e, p) (w, f, q) =
      subst (λ (h : ResolvedGiven). Compare h l) (sym p) (subst (λ (l : ResolvedGiven). Compare (a_value v) l) (sym q) (one_type u v w (ap (numbered cs) (sym (type_back t u a)) ∙ e) f))
  compares_same (a_value t) a_null h l a (v, e, p) q =
      subst (λ (h : ResolvedGiven). Compare h l) (sym p) (subst (λ (l : ResolvedGiven). Compare (a_value v) l) (sym q) (nullable_same t v e ∙ a))
  compares_same a_null (a_value u) h l a p (w, f, q) =
      subst (λ (h : ResolvedGiven). Compare h l) (sym p) (subst (λ (l : ResolvedGiven). Compare a_null l) (sym q) (nullable_same u w f ∙ a))
  compares_same a_null a_null h l a p q = subst (λ (h : ResolvedGiven). Compare h l) (sym p) (subst (λ (l : ResolvedGiven). Compare a_null l) (sym q) tt)
  compares_same _ _ h l a p q = absurd cc

  pub answered_same : (a : Answer) (b : AnswerBy ℕ) (g : Given) (h : ResolvedGiven) → SameAnswer a b → SameGiven g h → SameGiven (answered a g) (answered b h)
  answered_same (answers t) (answers u) g h s k = (u, s, refl)
  answered_same no_answer no_answer g h s k = refl
  answered_same as_first as_first g h s k = k
  answered_same _ _ g h s k = absurd s

  -- a row of the table says the same by words and by numbers
  pub record SameRow (b : Builtin) : Type 0 where
    pub takes : SamePlaces (row b).signature.takes (row_by ℕ b).signature.takes
    pub answer : SameAnswer (row b).signature.answer (row_by ℕ b).signature.answer

  pub same_row : (b : Builtin) → SameRow b
  same_row Len = record { takes = (tt, tt); answer = refl }
  same_row _ = record { takes = search rules; answer = search rules }
