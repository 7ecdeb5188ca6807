-- What is spelt is derived, and what is derived is spelt.
use Rattle.std.proofs.Common.{inl, inr, List, [], ◌∷◌, refl, ap}
use Rattle.lam_grammar_laws.specs.Texts.{limited}
use Rattle.lam_grammar_laws.proofs.DerivedTexts.{is_derived, is_read_or_deep, derived_once, underived}
use Rattle.lam_syntax.specs.Tree.{ProgramTree}
use Rattle.lam_grammar.specs.Meaning.{Value, nothing, word, items_value}
use Rattle.lam_grammar.specs.Program.{lam, program}
use Rattle.lam_grammar.specs.Examples.{examples}
use Rattle.lam_grammar.proofs.Passes.{sound}
use Rattle.lam_front_laws.specs.Follow.{lam_follows}
use Rattle.lam_front_laws.specs.DerivationLaw.{SpeltIsDerived, DerivedIsSpelt, DerivedOnce, UnexpectedIsUnderived}
use Rattle.lam_front_laws.proofs.Apart.{passes, followed_at_end}

pub spelt_is_derived : SpeltIsDerived
spelt_is_derived tokens p s = (s.0, is_derived lam lam_follows passes program nothing tokens (items_value p ∷ word s.0 ∷ []) (limited lam) s.1)

pub derived_is_spelt : DerivedIsSpelt
derived_is_spelt tokens p d = elim (is_read_or_deep lam lam_follows passes program nothing examples sound refl followed_at_end tokens (items_value p ∷ word d.0 ∷ []) d.1) [ inl x ↦ inl (d.0, x) | inr y ↦ inr y ]

-- the program that the first value is
abbrev its_items : List Value → ProgramTree
its_items (items_value p ∷ _) = p
its_items _ = []

pub is_derived_once : DerivedOnce
is_derived_once tokens p q a b = ap its_items (derived_once lam lam_follows passes program nothing followed_at_end tokens (items_value p ∷ word a.0 ∷ []) (items_value q ∷ word b.0 ∷ []) a.1 b.1)

pub unexpected_is_underived : UnexpectedIsUnderived
unexpected_is_underived tokens n h = underived lam lam_follows passes program nothing followed_at_end tokens n h
