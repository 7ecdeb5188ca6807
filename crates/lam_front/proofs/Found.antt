-- What the layers answer is what the bytes spell, or their fault.
use Rattle.std.proofs.Common.{◌≡◌, ℕ, ◌⊎◌, inl, inr, List, Option, Some, None, Result, Ok, Err, MatchResult, chars, IsUtf8, refl, sym, ap, subst, ◌∙◌}
use Rattle.lam_syntax.specs.declared.Program.{Program}
use Rattle.lam_syntax.specs.Tree.{ProgramTree, program_tree}
use Rattle.lam_lexer.specs.declared.token.Token.{Token}
use Rattle.lam_lexer.specs.declared.fault.LexFault.{LexFault}
use Rattle.lam_lexer.specs.declared.fault.LexFault.TheVariants as lexer
use Rattle.lam_lexer.specs.Reading.{IsFault}
use Rattle.lam_parser.specs.declared.ParseFault.{ParseFault}
use Rattle.lam_parser.specs.declared.ParseFault.TheVariants as parser
use Rattle.lam_parser.specs.Answers.{Parses}
use Rattle.lam_types_kinds.specs.declared.fault.TypeFault.{TypeFault}
use Rattle.lam_types_kinds.specs.declared.fault.TypeFault.TheVariants as types
use Rattle.lam_types_kinds.specs.Breaks.{Break}
use Rattle.lam_types_kinds.specs.Meets as meets
use Rattle.lam_types.specs.Program.{first_type_break}
use Rattle.region_check.specs.declared.RegionFault.{RegionFault}
use Rattle.region_check.specs.declared.RegionFault.TheVariants as regions
use Rattle.region_check.specs.declared.checked.Checked.{Checked}
use Rattle.region_check.specs.Seen.{checked_tree}
use Rattle.region_check.specs.Breaks as region
use Rattle.region_check.specs.Breaks.{first_region_break}
use Rattle.region_check.specs.Values as legal
use Rattle.lam_front.specs.declared.fault.ProgramFault.{ProgramFault}
use Rattle.lam_front.specs.declared.fault.ProgramFault.TheVariants.{NoMemory}
use Rattle.lam_front.specs.Faults.{lexical, of_parser, of_types, of_regions, mistyped, illegal}
use Rattle.lam_front.specs.Programs.{IsLexed, IsSpelt, IsMisspelt, bad_token, unexpected, too_deep, IsFine, IsBroken, misspelt, breaks_type, breaks_region}
use Rattle.lam_front.proofs.Once.{one_spelt, spelt_or_misspelt, one_misspelt, one_fine, fine_or_broken, one_broken}

module _ (bytes : List ℕ) where
  -- ---- the lexer and the parser

  pub not_lexed : IsUtf8 bytes → (f : LexFault) → IsFault (chars bytes) f → (e : ProgramFault) → e ≡ lexical f → (e ≡ NoMemory) ⊎ IsMisspelt bytes e
  not_lexed u (lexer.BadChar at) h e q = inr (bad_token (lexer.BadChar at) u h q)
  not_lexed u (lexer.BadNumber at) h e q = inr (bad_token (lexer.BadNumber at) u h q)
  not_lexed u (lexer.BadEscape at) h e q = inr (bad_token (lexer.BadEscape at) u h q)
  not_lexed u (lexer.OpenText at) h e q = inr (bad_token (lexer.OpenText at) u h q)
  not_lexed u lexer.NoMemory h e q = inl q

  pub not_parsed : (ts : List Token) → IsLexed bytes ts → (f : ParseFault) → Parses ts (Err f) → (e : ProgramFault) → e ≡ of_parser f → (e ≡ NoMemory) ⊎ IsMisspelt bytes e
  not_parsed ts l (parser.Unexpected at wanted) h e q = inr (unexpected ts h.0 l h.2 (rw (sym h.1) q))
  not_parsed ts l (parser.TooDeep at) h e q = inr (too_deep ts h.0 l h.2 (rw (sym h.1) q))
  not_parsed ts l parser.NoMemory h e q = inl q

  -- ---- a program that was read

  pub found_spelt : (r : Result Program ProgramFault) → MatchResult r (λ p. IsSpelt bytes (program_tree p)) (λ f. (f ≡ NoMemory) ⊎ IsMisspelt bytes f) → (p : ProgramTree) → IsSpelt bytes p → MatchResult r (λ found. program_tree found ≡ p) (λ f. f ≡ NoMemory)
  found_spelt (Ok q) h p s = one_spelt bytes (program_tree q) p h s
  found_spelt (Err f) h p s = elim h [ inl e ↦ e | inr m ↦ absurd (spelt_or_misspelt bytes p f s m) ]

  pub found_misspelt : (r : Result Program ProgramFault) → MatchResult r (λ p. IsSpelt bytes (program_tree p)) (λ f. (f ≡ NoMemory) ⊎ IsMisspelt bytes f) → (f : ProgramFault) → IsMisspelt bytes f → MatchResult r (λ _. ⊥) (λ e. (e ≡ NoMemory) ⊎ (e ≡ f))
  found_misspelt (Ok q) h f m = spelt_or_misspelt bytes (program_tree q) f h m
  found_misspelt (Err e) h f m = elim h [ inl q ↦ inl q | inr n ↦ inr (one_misspelt bytes e f n m) ]

  -- ---- the rules

  pub not_read : (f e : ProgramFault) → (f ≡ NoMemory) ⊎ IsMisspelt bytes f → e ≡ f → (e ≡ NoMemory) ⊎ IsBroken bytes e
  not_read f e h q = elim h [ inl m ↦ inl (q ∙ m) | inr m ↦ inr (misspelt (subst (λ (x : ProgramFault). IsMisspelt bytes x) (sym q) m)) ]

  type_fault : (p : ProgramTree) → IsSpelt bytes p → (f : TypeFault) (o : Option Break) → meets.IsFirst f o → first_type_break p ≡ o → (e : ProgramFault) → e ≡ of_types f → (e ≡ NoMemory) ⊎ IsBroken bytes e
  type_fault p s f None h t e q = inl (q ∙ ap of_types h)
  type_fault p s (types.NoName at) (Some b) h t e q = inr (breaks_type p b s t (q ∙ sym (ap mistyped h)))
  type_fault p s (types.Twice at) (Some b) h t e q = inr (breaks_type p b s t (q ∙ sym (ap mistyped h)))
  type_fault p s (types.Arity at) (Some b) h t e q = inr (breaks_type p b s t (q ∙ sym (ap mistyped h)))
  type_fault p s (types.NoField at) (Some b) h t e q = inr (breaks_type p b s t (q ∙ sym (ap mistyped h)))
  type_fault p s (types.NoReturn at) (Some b) h t e q = inr (breaks_type p b s t (q ∙ sym (ap mistyped h)))
  type_fault p s (types.TooMany at) (Some b) h t e q = inr (breaks_type p b s t (q ∙ sym (ap mistyped h)))
  type_fault p s (types.Mismatch at want got) (Some b) h t e q = inr (breaks_type p b s t (q ∙ sym (ap mistyped h)))
  type_fault p s types.NoMemory (Some b) h t e q = inl q

  pub not_typed : (p : ProgramTree) → IsSpelt bytes p → (f : TypeFault) → meets.IsFirst f (first_type_break p) → (e : ProgramFault) → e ≡ of_types f → (e ≡ NoMemory) ⊎ IsBroken bytes e
  not_typed p s f h e q = type_fault p s f (first_type_break p) h refl e q

  region_fault : (p : ProgramTree) → IsSpelt bytes p → first_type_break p ≡ None → (f : RegionFault) (o : Option region.Break) → legal.IsFirst f o → first_region_break p ≡ o → (e : ProgramFault) → e ≡ of_regions f → (e ≡ NoMemory) ⊎ IsBroken bytes e
  region_fault p s t f None h r e q = inl (q ∙ ap of_regions h)
  region_fault p s t (regions.OuterRead at) (Some b) h r e q = inr (breaks_region p b s t r (q ∙ sym (ap illegal h)))
  region_fault p s t (regions.OuterWrite at) (Some b) h r e q = inr (breaks_region p b s t r (q ∙ sym (ap illegal h)))
  region_fault p s t (regions.ReturnInRegion at) (Some b) h r e q = inr (breaks_region p b s t r (q ∙ sym (ap illegal h)))
  region_fault p s t (regions.CaptureTwice at) (Some b) h r e q = inr (breaks_region p b s t r (q ∙ sym (ap illegal h)))
  region_fault p s t regions.NoMemory (Some b) h r e q = inl q

  pub not_legal : (p : ProgramTree) → IsSpelt bytes p → first_type_break p ≡ None → (f : RegionFault) → legal.IsFirst f (first_region_break p) → (e : ProgramFault) → e ≡ of_regions f → (e ≡ NoMemory) ⊎ IsBroken bytes e
  not_legal p s t f h e q = region_fault p s t f (first_region_break p) h refl e q

  -- ---- a program that was checked

  pub found_fine : (r : Result Checked ProgramFault) → MatchResult r (λ c. IsFine bytes (checked_tree c)) (λ f. (f ≡ NoMemory) ⊎ IsBroken bytes f) → (p : ProgramTree) → IsFine bytes p → MatchResult r (λ found. checked_tree found ≡ p) (λ f. f ≡ NoMemory)
  found_fine (Ok q) h p s = one_fine bytes (checked_tree q) p h s
  found_fine (Err f) h p s = elim h [ inl e ↦ e | inr m ↦ absurd (fine_or_broken bytes p f s m) ]

  pub found_broken : (r : Result Checked ProgramFault) → MatchResult r (λ c. IsFine bytes (checked_tree c)) (λ f. (f ≡ NoMemory) ⊎ IsBroken bytes f) → (f : ProgramFault) → IsBroken bytes f → MatchResult r (λ _. ⊥) (λ e. (e ≡ NoMemory) ⊎ (e ≡ f))
  found_broken (Ok q) h f m = fine_or_broken bytes (checked_tree q) f h m
  found_broken (Err e) h f m = elim h [ inl q ↦ inl q | inr n ↦ inr (one_broken bytes e f n m) ]
