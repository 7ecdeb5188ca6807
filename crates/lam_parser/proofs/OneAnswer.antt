-- The tokens have one answer.
use Rattle.std.proofs.Common.{◌≡◌, ℕ, ◌+◌, ◌<◌, ◌≤◌, inl, inr, Bool, true, false, cond, nat_lt, Result, Ok, Err, List, refl, sym, ap, ◌∙◌, arith}
use Rattle.std.proofs.lemmas.Bool.{cond_below, cases_lt}
use Rattle.lam_grammar_laws.specs.Texts.{capped, Continues, IsUnexpected, IsTooDeep}
use Rattle.lam_grammar_laws.proofs.Spelling.{moves}
use Rattle.lam_grammar_laws.proofs.Completion.{low, high}
use Rattle.lam_grammar_laws.proofs.Theorem.{value_once, unexpected_means_nothing, too_deep_means_nothing}
use Rattle.lam_lexer.specs.declared.token.Token.{Token}
use Rattle.lam_syntax.specs.declared.Program.{Program}
use Rattle.lam_syntax.specs.Tree.{ProgramTree, program_tree}
use Rattle.lam_grammar.specs.Meaning.{nothing}
use Rattle.lam_grammar.specs.Program.{lam, program, most_depth, SpellsProgram}
use Rattle.lam_grammar.specs.Examples.{examples}
use Rattle.lam_grammar.proofs.Passes.{sound}
use Rattle.lam_parser.specs.declared.ParseFault.{ParseFault}
use Rattle.lam_parser.specs.declared.ParseFault.TheVariants.{Unexpected, TooDeep, NoMemory}
use Rattle.lam_parser.specs.Answers.{Parses, Agree, IsReadAs, position_at}

either_below : (b : Bool) (l n : ℕ) → cond b l n ≤ l + n
either_below true l n = omega arith
either_below false l n = omega arith

module _ (ts : List Token) where
  -- What goes on from more tokens goes on from fewer.
  fewer : (n d n' d' : ℕ) → n' ≤ n → d' ≤ d → Continues lam program nothing ts n d → Continues lam program nothing ts n' d'
  fewer n d n' d' le le' c = record {
    others = c.others;
    same = λ j h. c.same j (omega arith);
    bound = most_depth + c.bound;
    vs = c.vs;
    spells = record { end = c.spells.end; sum = c.spells.sum; reads = moves lam examples sound c.spells.reads (λ j h. refl) (inl refl) (λ m h. no_lower m); whole = c.spells.whole };
  }
    where
      no_lower : (j : ℕ) → capped lam d c.bound j ≤ capped lam d' (most_depth + c.bound) j
      no_lower j =
          elim (cases_lt j d') [
            | inl lt ↦ let e : most_depth ≡ capped lam d c.bound j = cond_below j d most_depth c.bound (omega arith) in omega (arith, e, low lam d' (most_depth + c.bound) j lt)
            | inr ge ↦ omega (arith, either_below (nat_lt j d) most_depth c.bound, high lam d' (most_depth + c.bound) j ge)
          ]

  no_later_unexpected : (n m d : ℕ) → n < m → IsUnexpected lam program nothing ts n → Continues lam program nothing ts m d → ⊥
  no_later_unexpected n m d lt u c = u.1 (fewer m d (n + 1) 0 (omega arith) (omega arith) c)

  no_later_deep : (n m d : ℕ) → n < m → n < d → IsTooDeep lam program nothing ts n → Continues lam program nothing ts m d → ⊥
  no_later_deep n m d lt lt' u c = u.1 (fewer m d (n + 1) (n + 1) (omega arith) (omega arith) c)

  unexpected_once : (n m : ℕ) → IsUnexpected lam program nothing ts n → IsUnexpected lam program nothing ts m → n ≡ m
  unexpected_once n m u v =
      elim (cases_lt n m) [
        | inl lt ↦ absurd (no_later_unexpected n m m lt u v.0)
        | inr ge ↦ elim (cases_lt m n) [ inl lt ↦ absurd (no_later_unexpected m n n lt v u.0) | inr le ↦ omega arith ]
      ]

  too_deep_once : (n m : ℕ) → IsTooDeep lam program nothing ts n → IsTooDeep lam program nothing ts m → n ≡ m
  too_deep_once n m u v =
      elim (cases_lt n m) [
        | inl lt ↦ absurd (no_later_deep n (m + 1) m (omega arith) lt u v.0)
        | inr ge ↦ elim (cases_lt m n) [ inl lt ↦ absurd (no_later_deep m (n + 1) n (omega arith) lt v u.0) | inr le ↦ omega arith ]
      ]

  one_fault : (n m : ℕ) → IsUnexpected lam program nothing ts n → IsTooDeep lam program nothing ts m → ⊥
  one_fault n m u v =
      elim (cases_lt m n) [
        | inl lt ↦ no_later_deep m n n lt lt v u.0
        | inr ge ↦ no_later_unexpected n (m + 1) m (omega arith) u v.0
      ]

  same_place : (n m at at' : ℕ) → n ≡ m → at ≡ position_at ts n → at' ≡ position_at ts m → at ≡ at'
  same_place n m at at' e p q = p ∙ ap (position_at ts) e ∙ sym q

  same_tree : (p q : ProgramTree) → SpellsProgram ts p → SpellsProgram ts q → p ≡ q
  same_tree p q s r =
      let e = value_once lam program nothing ts _ _ s.1 r.1 in
      cc

  -- The first fault and the tree are determined by the tokens.
  pub one_answer : (a b : Result Program ParseFault) → Parses ts a → Parses ts b → Agree a b
  one_answer (Ok p) (Ok q) s r = same_tree (program_tree p) (program_tree q) s r
  one_answer (Ok p) (Err (Unexpected at w)) s r = unexpected_means_nothing lam examples sound program nothing ts r.0 _ r.2 s.1
  one_answer (Ok p) (Err (TooDeep at)) s r = too_deep_means_nothing lam examples sound program nothing ts r.0 _ r.2 s.1
  one_answer (Ok p) (Err NoMemory) s r = tt
  one_answer (Err (Unexpected at w)) (Ok q) s r = unexpected_means_nothing lam examples sound program nothing ts s.0 _ s.2 r.1
  one_answer (Err (Unexpected at w)) (Err (Unexpected at' w')) s r = same_place s.0 r.0 at at' (unexpected_once s.0 r.0 s.2 r.2) s.1 r.1
  one_answer (Err (Unexpected at w)) (Err (TooDeep at')) s r = one_fault s.0 r.0 s.2 r.2
  one_answer (Err (Unexpected at w)) (Err NoMemory) s r = tt
  one_answer (Err (TooDeep at)) (Ok q) s r = too_deep_means_nothing lam examples sound program nothing ts s.0 _ s.2 r.1
  one_answer (Err (TooDeep at)) (Err (Unexpected at' w)) s r = one_fault r.0 s.0 r.2 s.2
  one_answer (Err (TooDeep at)) (Err (TooDeep at')) s r = same_place s.0 r.0 at at' (too_deep_once s.0 r.0 s.2 r.2) s.1 r.1
  one_answer (Err (TooDeep at)) (Err NoMemory) s r = tt
  one_answer (Err NoMemory) b s r = tt

  -- A program that the tokens spell is the answer.
  pub spelt_is_read : (t : ProgramTree) (a : Result Program ParseFault) → SpellsProgram ts t → Parses ts a → IsReadAs t a
  spelt_is_read t (Ok p) s r = same_tree (program_tree p) t r s
  spelt_is_read t (Err (Unexpected at w)) s r = unexpected_means_nothing lam examples sound program nothing ts r.0 _ r.2 s.1
  spelt_is_read t (Err (TooDeep at)) s r = too_deep_means_nothing lam examples sound program nothing ts r.0 _ r.2 s.1
  spelt_is_read t (Err NoMemory) s r = tt
