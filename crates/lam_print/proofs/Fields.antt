-- The fields of a class.
use Rattle.std.proofs.Common.{◌≡◌, ℕ, List, [], ◌∷◌, ◌++◌, Result, OnOk, length, refl, sym, ap, ◌∙◌, ◌==◌, true, false, arith}
use Rattle.std.proofs.lemmas.Bool.{eqb-true, both_ways}
use Rattle.lam_lexer.specs.declared.token.TokenKind.TheVariants as Kind
use Rattle.lam_syntax.specs.declared.Var.{Var}
use Rattle.lam_syntax.specs.Tree.{vars_tree}
use Rattle.lam_print.specs.Pieces.{token, line, written}
use Rattle.lam_print.specs.Canon.{lay_class_body, lay_fields}
use Rattle.lam_print.specs.Printing.{Puts}
use Rattle.lam_print.proofs.Steps.{said, on_ok}

none_there : (vs : List Var) → (length vs == 0) ≡ true → vs ≡ []
none_there [] h = refl
none_there (v ∷ vs) h = absurd (let e : length (v ∷ vs) ≡ 0 = eqb-true (length (v ∷ vs)) 0 h in let f : ⊥ = omega (arith, e) in f)

pub no_fields : {E : Type 0} (vs : List Var) (old new text : List ℕ) (r : Result (Unit {0}) E) → (length vs == 0) ≡ true → text ≡ 32 ∷ 125 ∷ [] → OnOk r (new ≡ old ++ text) → OnOk r (Puts old new (lay_class_body (vars_tree vs)))
no_fields vs old new text r e t h =
    on_ok r (λ q. record { gives = λ ps. ap (λ (b : List Var). old ++ written (lay_class_body (vars_tree b) ps)) (none_there vs e) ∙ ap (λ (t : List ℕ). old ++ (t ++ written ps)) (sym t) ∙ said old text q (written ps) }) h

pub some_fields : {E : Type 0} (vs : List Var) (old mid new text : List ℕ) (r : Result (Unit {0}) E) → (length vs == 0) ≡ false → text ≡ 10 ∷ 125 ∷ [] → Puts old mid (lay_fields (vars_tree vs)) → OnOk r (new ≡ mid ++ text) → OnOk r (Puts old new (lay_class_body (vars_tree vs)))
some_fields [] old mid new text r e t p h = absurd (both_ways true e refl)
some_fields (v ∷ vs) old mid new text r e t p h =
    on_ok r (λ q. record { gives = λ ps. p.gives (line 0 ∷ token Kind.BraceClose ∷ ps) ∙ ap (λ (t : List ℕ). mid ++ (t ++ written ps)) (sym t) ∙ said mid text q (written ps) }) h
