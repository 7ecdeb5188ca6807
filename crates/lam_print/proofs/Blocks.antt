-- Blocks of statements.
use Rattle.std.proofs.Common.{◌≡◌, ℕ, ◌+◌, ◌<◌, List, [], ◌∷◌, ◌++◌, Result, OnOk, length, get_or, refl, sym, ap, ◌∙◌, subst, codes, ◌==◌, true, false, arith}
use Rattle.std.proofs.lemmas.Bool.{eqb-true, both_ways}
use Rattle.lam_lexer.specs.declared.token.TokenKind.TheVariants as Kind
use Rattle.lam_syntax.specs.declared.Stmt.{Stmt}
use Rattle.lam_syntax.specs.Tree.{stmt_tree, stmts_tree}
use Rattle.lam_print.specs.Pieces.{token, line, written}
use Rattle.lam_print.specs.Canon.{lay_block, lay_stmt}
use Rattle.lam_print.specs.Printing.{Puts}
use Rattle.lam_print.proofs.Steps.{said, on_ok, EachSoFar, each_more}
use Rattle.lam_print.proofs.Views.{all_stmts, one_stmt, stmts-each}

no_statements : (body : List Stmt) → (length body == 0) ≡ true → body ≡ []
no_statements [] h = refl
no_statements (s ∷ body) h = absurd (let e : length (s ∷ body) ≡ 0 = eqb-true (length (s ∷ body)) 0 h in let f : ⊥ = omega (arith, e) in f)

pub empty_block : {E : Type 0} (body : List Stmt) (n : ℕ) (old new text : List ℕ) (r : Result (Unit {0}) E) → (length body == 0) ≡ true → text ≡ codes "{ }" → OnOk r (new ≡ old ++ text) → OnOk r (Puts old new (lay_block (stmts_tree body) n))
empty_block body n old new text r e t h =
    on_ok r (λ q. record { gives = λ ps. ap (λ (b : List Stmt). old ++ written (lay_block (stmts_tree b) n ps)) (no_statements body e) ∙ ap (λ (t : List ℕ). old ++ (t ++ written ps)) (sym t) ∙ said old text q (written ps) }) h

pub stmt_more : (body : List Stmt) (n : ℕ) {old now mid next : List ℕ} (i : ℕ) (x : Stmt) → i < length body → x ≡ get_or body i x → Puts now mid (λ ps. line n ∷ ps) → Puts mid next (lay_stmt (stmt_tree x) n) → EachSoFar (all_stmts n) body old now i → EachSoFar (all_stmts n) body old next (i + 1)
stmt_more body n {old} {now} {mid} {next} i x h e a b g =
    let both : Puts now next (one_stmt n x) = record { gives = λ ps. a.gives (lay_stmt (stmt_tree x) n ps) ∙ b.gives ps } in
    each_more (stmts-each n) body i x h e both g

pub full_block : {E : Type 0} (body : List Stmt) (n inner : ℕ) (old first mid lined new text : List ℕ) (r : Result (Unit {0}) E) → (length body == 0) ≡ false → inner ≡ n + 1 → text ≡ codes "}" → first ≡ old ++ codes "{" → Puts first mid (all_stmts inner body) → Puts mid lined (λ ps. line n ∷ ps) → OnOk r (new ≡ lined ++ text) → OnOk r (Puts old new (lay_block (stmts_tree body) n))
full_block [] n inner old first mid lined new text r ne e t o p l h = absurd (both_ways true ne refl)
full_block (s ∷ body) n inner old first mid lined new text r ne e t o p l h =
    let p1 : Puts first mid (all_stmts (n + 1) (s ∷ body)) = subst (λ (m : ℕ). Puts first mid (all_stmts m (s ∷ body))) e p in
    on_ok r (λ q. record {
      gives = λ ps.
          said old (codes "{") o (written (all_stmts (n + 1) (s ∷ body) (line n ∷ token Kind.BraceClose ∷ ps)))
          ∙ p1.gives (line n ∷ token Kind.BraceClose ∷ ps)
          ∙ l.gives (token Kind.BraceClose ∷ ps)
          ∙ ap (λ (t : List ℕ). lined ++ (t ++ written ps)) (sym t)
          ∙ said lined text q (written ps);
    }) h
