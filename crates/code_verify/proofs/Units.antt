-- Units, one after another.
use Rattle.std.proofs.Common.{◌≡◌, ℕ, zero, suc, ◌+◌, ◌<◌, ◌≤◌, ◌^◌, List, [], ◌∷◌, Option, Some, None, length, get_or, drop, sym, ap, ◌∙◌, subst, arith}
use Rattle.std.specs.List.{AllByRecursion}
use Rattle.std.proofs.lemmas.List.{drop_more, drop_all}
use Rattle.lam_bytecode.specs.Codes.{CodeTree, IsUnit}
use Rattle.lam_bytecode.specs.declared.unit.CodeUnit.{CodeUnit}
use Rattle.guarded_code.specs.Breaks.{BrokenAt, unit_break, break_in, first_break_from}

each_at : (us : List CodeUnit) (n : ℕ) (u : CodeUnit) → AllByRecursion IsUnit us → n < length us → u ≡ get_or us n u → IsUnit u
each_at [] n u h lt e = absurd (omega (arith, lt))
each_at (v ∷ us) zero u h lt e = subst IsUnit (sym e) h.0
each_at (v ∷ us) (suc n) u h lt e = each_at us n u h.1 (omega (arith, lt)) e

-- each unit of a code is short enough to be counted
pub unit_short : (us : List CodeUnit) (n : ℕ) (u : CodeUnit) → AllByRecursion IsUnit us → n < length us → u ≡ get_or us n u → length u.ops < 2 ^ 32
unit_short us n u h lt e = (each_at us n u h lt e).ops

unit_opens : (code : CodeTree) (us : List CodeUnit) (n : ℕ) (u : CodeUnit) (o : Option BrokenAt) → u ≡ get_or us n u → n < length us → unit_break code u ≡ o → first_break_from code n (drop n us) ≡ break_in n o (first_break_from code (n + 1) (drop (n + 1) us))
unit_opens code us n u o e lt h =
    let d : drop n us ≡ u ∷ drop (n + 1) us = drop_more us n u lt ∙ ap (λ x. x ∷ drop (n + 1) us) (sym e) in
    ap (first_break_from code n) d ∙ ap (λ x. break_in n x (first_break_from code (n + 1) (drop (n + 1) us))) h

pub unit_holds : (code : CodeTree) (us : List CodeUnit) (n : ℕ) (u : CodeUnit) → u ≡ get_or us n u → n < length us → unit_break code u ≡ None → first_break_from code n (drop n us) ≡ first_break_from code (n + 1) (drop (n + 1) us)
unit_holds code us n u e lt h = unit_opens code us n u None e lt h

pub unit_breaks : (code : CodeTree) (us : List CodeUnit) (n : ℕ) (u : CodeUnit) (b : BrokenAt) → u ≡ get_or us n u → n < length us → unit_break code u ≡ Some b → first_break_from code n (drop n us) ≡ Some (record { rule = b.rule; unit = n; at = b.at })
unit_breaks code us n u b e lt h = unit_opens code us n u (Some b) e lt h

pub units_end : (code : CodeTree) (us : List CodeUnit) (n : ℕ) → length us ≤ n → first_break_from code n (drop n us) ≡ None
units_end code us n le = ap (first_break_from code n) (drop_all n us le)
