-- A program without a break is typed, as the code meets it.
use Rattle.std.proofs.Common.{◌≡◌, ℕ, List, Option, Some, None, is_none, IsTrue, Err, refl, sym, ap, subst}
use Rattle.lam_syntax.specs.declared.Item.{Item}
use Rattle.lam_syntax.specs.Tree.{ProgramTree, items_tree}
use Rattle.lam_types_kinds.specs.Verdicts.{Fine, Stop, first_break}
use Rattle.lam_types_kinds.specs.Breaks.{Break, Verdict}
use Rattle.lam_types_kinds.specs.Values.{Breaks}
use Rattle.lam_types_kinds.specs.declared.fault.TypeFault.{TypeFault}
use Rattle.lam_types.specs.Program.{program_checked, first_type_break}
use Rattle.lam_types.specs.Judgement.{IsTyped}
use Rattle.lam_types_kinds.specs.Meets.{IsFirst, HasNoBreak}
use Rattle.lam_types.proofs.ProgramLaw.{typed_has_none, none_is_typed}

none_of : (o : Option Break) → IsTrue (is_none o) → o ≡ None
none_of None h = refl
none_of (Some b) h = absurd cc

pub no_break : (p : ProgramTree) → IsTrue (is_none (first_type_break p)) → first_type_break p ≡ None
no_break p h = none_of (first_type_break p) h

pub unbroken : (p : ProgramTree) (n : ℕ) → program_checked p ≡ Fine n → first_type_break p ≡ None
unfolding first_type_break
unbroken p n e = ap first_break e

pub none_is_true : (o : Option Break) → o ≡ None → IsTrue (is_none o)
none_is_true o e = subst (λ (o : Option Break). IsTrue (is_none o)) (sym e) refl

pub none_typed : (p : ProgramTree) → first_type_break p ≡ None → IsTyped p
none_typed p e = none_is_typed p e

first_of : (f : TypeFault) (v : Verdict ℕ) → Breaks f v → IsFirst f (first_break v)
first_of f (Fine n) h = h
first_of f (Stop b) h = h

pub is_first : (f : TypeFault) (p : ProgramTree) → Breaks f (program_checked p) → IsFirst f (first_type_break p)
unfolding first_type_break
is_first f p h = first_of f (program_checked p) h

pub memory_only : (A : Type 0) (f : TypeFault) (p : ProgramTree) → Breaks f (program_checked p) → IsTyped p → HasNoBreak {A = A} (Err f)
memory_only A f p h t = subst (λ (o : Option Break). IsFirst f o) (typed_has_none p t) (is_first f p h)

-- the same, where the items were reached as xs
module _ (xs ys : List Item) (e : xs ≡ ys) where
  pub only_there : (A : Type 0) (f : TypeFault) → Breaks f (program_checked (items_tree xs)) → IsTyped (items_tree ys) → HasNoBreak {A = A} (Err f)
  only_there A f h t = memory_only A f (items_tree ys) (subst (λ (l : List Item). Breaks f (program_checked (items_tree l))) e h) t

  pub first_there : (f : TypeFault) → Breaks f (program_checked (items_tree xs)) → IsFirst f (first_type_break (items_tree ys))
  first_there f h = is_first f (items_tree ys) (subst (λ (l : List Item). Breaks f (program_checked (items_tree l))) e h)

  pub unbroken_there : (n : ℕ) → program_checked (items_tree xs) ≡ Fine n → first_type_break (items_tree ys) ≡ None
  unbroken_there n h = unbroken (items_tree ys) n (subst (λ (l : List Item). program_checked (items_tree l) ≡ Fine n) e h)
