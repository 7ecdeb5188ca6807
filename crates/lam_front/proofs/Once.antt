-- Bytes spell one program or have one first fault.
use Rattle.std.proofs.Common.{◌≡◌, ℕ, ◌+◌, ◌<◌, ◌≤◌, inl, inr, List, [], ◌∷◌, refl, sym, ap, subst, ◌∙◌, arith, Option, Some, None}
use Rattle.std.proofs.lemmas.Bool.{cond_below, cond_above, cases_lt}
use Rattle.lam_grammar_laws.specs.Texts.{capped, Continues, IsUnexpected, IsTooDeep}
use Rattle.lam_grammar_laws.proofs.Spelling.{moves}
use Rattle.lam_grammar_laws.proofs.Theorem.{value_once, unexpected_means_nothing, too_deep_means_nothing}
use Rattle.lam_syntax.specs.Tree.{ProgramTree}
use Rattle.lam_lexer.specs.declared.token.Token.{Token}
use Rattle.lam_lexer.proofs.Laws.{lexed_once, lexed_never, fault_once}
use Rattle.lam_grammar.specs.Meaning.{nothing, word, items_value}
use Rattle.lam_grammar.specs.Program.{lam, program, SpellsProgram}
use Rattle.lam_grammar.specs.Examples.{examples}
use Rattle.lam_grammar.proofs.Passes.{sound}
use Rattle.lam_parser.specs.Answers.{position_at}
use Rattle.lam_types_kinds.specs.Breaks.{Break}
use Rattle.lam_types.specs.Program.{first_type_break}
use Rattle.region_check.specs.Breaks as region
use Rattle.region_check.specs.Breaks.{first_region_break}
use Rattle.lam_front.specs.declared.fault.Flaw.TheVariants.{Unexpected, TooDeep}
use Rattle.lam_front.specs.declared.fault.ProgramFault.{ProgramFault}
use Rattle.lam_front.specs.declared.fault.ProgramFault.TheVariants.{At}
use Rattle.lam_front.specs.Faults.{lexical, mistyped, illegal}
use Rattle.lam_front.specs.Programs.{IsLexed, IsSpelt, IsMisspelt, no_text, bad_token, unexpected, too_deep, IsFine, IsBroken, misspelt, breaks_type, breaks_region}

-- ---- tokens

module _ (ts : List Token) where
  wider : (d e bound j : ℕ) → e ≤ d → capped lam d bound j ≤ capped lam e (128 + bound) j
  wider d e bound j le =
      elim (cases_lt j e) [
        | inl h ↦
            let a : 128 ≡ capped lam e (128 + bound) j = cond_below j e 128 (128 + bound) h in
            let b : 128 ≡ capped lam d bound j = cond_below j d 128 bound (omega (arith, h, le)) in
            omega (arith, a, b)
        | inr h ↦
            let a : 128 + bound ≡ capped lam e (128 + bound) j = cond_above j e 128 (128 + bound) (128 + bound) h refl in
            elim (cases_lt j d) [
              | inl k ↦ let b : 128 ≡ capped lam d bound j = cond_below j d 128 bound k in omega (arith, a, b)
              | inr k ↦ let b : bound ≡ capped lam d bound j = cond_above j d 128 bound bound k refl in omega (arith, a, b)
            ]
      ]

  -- What goes on from some tokens, with the sum within its limit at some, goes on so from fewer.
  fewer : (n m d e : ℕ) → m ≤ n → e ≤ d → Continues lam program nothing ts n d → Continues lam program nothing ts m e
  fewer n m d e le small c = record {
    others = c.others;
    same = λ j h. c.same j (omega (arith, h, le));
    bound = 128 + c.bound;
    vs = c.vs;
    spells = record { end = c.spells.end; sum = c.spells.sum; reads = moves lam examples sound c.spells.reads (λ j h. refl) (inl refl) (λ j h. wider d e c.bound j small); whole = c.spells.whole };
  }

  same_place : (n m : ℕ) → (n < m → ⊥) → (m < n → ⊥) → n ≡ m
  same_place n m h k =
      elim (cases_lt n m) [
        | inl l ↦ absurd (h l)
        | inr l ↦ elim (cases_lt m n) [ inl g ↦ absurd (k g) | inr g ↦ omega (arith, l, g) ]
      ]

  unexpected_before : (n m : ℕ) → IsUnexpected lam program nothing ts n → IsUnexpected lam program nothing ts m → n < m → ⊥
  unexpected_before n m h k l = h.1 (fewer m (n + 1) m 0 (omega (arith, l)) (omega arith) k.0)

  pub one_unexpected : (n m : ℕ) → IsUnexpected lam program nothing ts n → IsUnexpected lam program nothing ts m → n ≡ m
  one_unexpected n m h k = same_place n m (unexpected_before n m h k) (unexpected_before m n k h)

  deep_before : (n m : ℕ) → IsTooDeep lam program nothing ts n → IsTooDeep lam program nothing ts m → n < m → ⊥
  deep_before n m h k l = h.1 (fewer (m + 1) (n + 1) m (n + 1) (omega (arith, l)) (omega (arith, l)) k.0)

  pub one_too_deep : (n m : ℕ) → IsTooDeep lam program nothing ts n → IsTooDeep lam program nothing ts m → n ≡ m
  one_too_deep n m h k = same_place n m (deep_before n m h k) (deep_before m n k h)

  pub not_both : (n m : ℕ) → IsUnexpected lam program nothing ts n → IsTooDeep lam program nothing ts m → ⊥
  not_both n m h k =
      elim (cases_lt m n) [
        | inl l ↦ k.1 (fewer n (m + 1) n (m + 1) (omega (arith, l)) (omega (arith, l)) h.0)
        | inr l ↦ h.1 (fewer (m + 1) (n + 1) m 0 (omega (arith, l)) (omega arith) k.0)
      ]

  one_meaning : (p q : ProgramTree) (v w : Token) → items_value p ∷ word v ∷ [] ≡ items_value q ∷ word w ∷ [] → p ≡ q
  one_meaning p q v w e = cc

  pub one_program : (p q : ProgramTree) → SpellsProgram ts p → SpellsProgram ts q → p ≡ q
  one_program p q h k = one_meaning p q h.0 k.0 (value_once lam program nothing ts _ _ h.1 k.1)

  pub spelt_or_unexpected : (p : ProgramTree) (n : ℕ) → SpellsProgram ts p → IsUnexpected lam program nothing ts n → ⊥
  spelt_or_unexpected p n h k = unexpected_means_nothing lam examples sound program nothing ts n _ k h.1

  pub spelt_or_too_deep : (p : ProgramTree) (n : ℕ) → SpellsProgram ts p → IsTooDeep lam program nothing ts n → ⊥
  spelt_or_too_deep p n h k = too_deep_means_nothing lam examples sound program nothing ts n _ k h.1

-- ---- bytes

module _ (bytes : List ℕ) where
  move_unexpected : {ts us : List Token} {n : ℕ} → ts ≡ us → IsUnexpected lam program nothing ts n → IsUnexpected lam program nothing us n
  move_unexpected {n = n} q h = subst (λ (x : List Token). IsUnexpected lam program nothing x n) q h

  move_too_deep : {ts us : List Token} {n : ℕ} → ts ≡ us → IsTooDeep lam program nothing ts n → IsTooDeep lam program nothing us n
  move_too_deep {n = n} q h = subst (λ (x : List Token). IsTooDeep lam program nothing x n) q h

  one_list : {ts us : List Token} → IsLexed bytes ts → IsLexed bytes us → ts ≡ us
  one_list l k = lexed_once l.lexed k.lexed

  lexed_of : (p : ProgramTree) (a : IsSpelt bytes p) → IsLexed bytes a.tokens
  lexed_of p a = record { utf8 = a.is.utf8; lexed = a.is.lexed }

  pub one_spelt : (p q : ProgramTree) → IsSpelt bytes p → IsSpelt bytes q → p ≡ q
  one_spelt p q a b = one_program b.tokens p q (subst (λ (x : List Token). SpellsProgram x p) (one_list (lexed_of p a) (lexed_of q b)) a.is.spelt) b.is.spelt

  pub spelt_or_misspelt : (p : ProgramTree) (f : ProgramFault) → IsSpelt bytes p → IsMisspelt bytes f → ⊥
  spelt_or_misspelt p f a (no_text n e) = n a.is.utf8
  spelt_or_misspelt p f a (bad_token g u w e) = lexed_never a.is.lexed w
  spelt_or_misspelt p f a (unexpected ts n l h e) = spelt_or_unexpected a.tokens p n a.is.spelt (move_unexpected (one_list l (lexed_of p a)) h)
  spelt_or_misspelt p f a (too_deep ts n l h e) = spelt_or_too_deep a.tokens p n a.is.spelt (move_too_deep (one_list l (lexed_of p a)) h)

  same_at : (flaw : _) (ts us : List Token) (n m : ℕ) → ts ≡ us → n ≡ m → At flaw (position_at ts n) ≡ At flaw (position_at us m)
  same_at flaw ts us n m q e = ap (λ (x : List Token). At flaw (position_at x n)) q ∙ ap (λ (x : ℕ). At flaw (position_at us x)) e

  pub one_misspelt : (f g : ProgramFault) → IsMisspelt bytes f → IsMisspelt bytes g → f ≡ g
  one_misspelt f g (no_text n e) (no_text n' e') = e ∙ sym e'
  one_misspelt f g (no_text n e) (bad_token b u w e') = absurd (n u)
  one_misspelt f g (no_text n e) (unexpected ts m l h e') = absurd (n l.utf8)
  one_misspelt f g (no_text n e) (too_deep ts m l h e') = absurd (n l.utf8)
  one_misspelt f g (bad_token b u w e) (no_text n e') = absurd (n u)
  one_misspelt f g (bad_token b u w e) (bad_token b' u' w' e') = e ∙ ap lexical (fault_once w w') ∙ sym e'
  one_misspelt f g (bad_token b u w e) (unexpected ts m l h e') = absurd (lexed_never l.lexed w)
  one_misspelt f g (bad_token b u w e) (too_deep ts m l h e') = absurd (lexed_never l.lexed w)
  one_misspelt f g (unexpected ts m l h e) (no_text n e') = absurd (n l.utf8)
  one_misspelt f g (unexpected ts m l h e) (bad_token b u w e') = absurd (lexed_never l.lexed w)
  one_misspelt f g (unexpected ts n l h e) (unexpected us m k j e') =
      let q = one_list l k in
      e ∙ same_at Unexpected ts us n m q (one_unexpected us n m (move_unexpected q h) j) ∙ sym e'
  one_misspelt f g (unexpected ts n l h e) (too_deep us m k j e') = absurd (not_both us n m (move_unexpected (one_list l k) h) j)
  one_misspelt f g (too_deep ts m l h e) (no_text n e') = absurd (n l.utf8)
  one_misspelt f g (too_deep ts m l h e) (bad_token b u w e') = absurd (lexed_never l.lexed w)
  one_misspelt f g (too_deep ts n l h e) (unexpected us m k j e') = absurd (not_both us m n j (move_too_deep (one_list l k) h))
  one_misspelt f g (too_deep ts n l h e) (too_deep us m k j e') =
      let q = one_list l k in
      e ∙ same_at TooDeep ts us n m q (one_too_deep us n m (move_too_deep q h) j) ∙ sym e'

  -- ---- with the rules

  one_type_break : {p q : ProgramTree} {b : Option Break} → p ≡ q → first_type_break p ≡ b → first_type_break q ≡ b
  one_type_break e h = sym (ap first_type_break e) ∙ h

  one_region_break : {p q : ProgramTree} {b : Option region.Break} → p ≡ q → first_region_break p ≡ b → first_region_break q ≡ b
  one_region_break e h = sym (ap first_region_break e) ∙ h

  none_or_some : {A : Type 0} {o : Option A} {a : A} → o ≡ None → o ≡ Some a → ⊥
  none_or_some h k = cc

  one_of : {A : Type 0} {o : Option A} {a b : A} → o ≡ Some a → o ≡ Some b → a ≡ b
  one_of h k = cc

  pub one_fine : (p q : ProgramTree) → IsFine bytes p → IsFine bytes q → p ≡ q
  one_fine p q a b = one_spelt p q a.spelt b.spelt

  pub fine_or_broken : (p : ProgramTree) (f : ProgramFault) → IsFine bytes p → IsBroken bytes f → ⊥
  fine_or_broken p f a (misspelt m) = spelt_or_misspelt p f a.spelt m
  fine_or_broken p f a (breaks_type q b s t e) = none_or_some (one_type_break (one_spelt p q a.spelt s) a.typed) t
  fine_or_broken p f a (breaks_region q b s t r e) = none_or_some (one_region_break (one_spelt p q a.spelt s) a.legal) r

  pub one_broken : (f g : ProgramFault) → IsBroken bytes f → IsBroken bytes g → f ≡ g
  one_broken f g (misspelt m) (misspelt n) = one_misspelt f g m n
  one_broken f g (misspelt m) (breaks_type q b s t e) = absurd (spelt_or_misspelt q f s m)
  one_broken f g (misspelt m) (breaks_region q b s t r e) = absurd (spelt_or_misspelt q f s m)
  one_broken f g (breaks_type q b s t e) (misspelt m) = absurd (spelt_or_misspelt q g s m)
  one_broken f g (breaks_type p b s t e) (breaks_type q c u v d) = e ∙ ap mistyped (one_of (one_type_break (one_spelt p q s u) t) v) ∙ sym d
  one_broken f g (breaks_type p b s t e) (breaks_region q c u v r d) = absurd (none_or_some v (one_type_break (one_spelt p q s u) t))
  one_broken f g (breaks_region q b s t r e) (misspelt m) = absurd (spelt_or_misspelt q g s m)
  one_broken f g (breaks_region p b s t r e) (breaks_type q c u v d) = absurd (none_or_some (one_type_break (one_spelt p q s u) t) v)
  one_broken f g (breaks_region p b s t r e) (breaks_region q c u v w d) = e ∙ ap illegal (one_of (one_region_break (one_spelt p q s u) r) w) ∙ sym d
