-- The statements of a block, one after the other.
use Rattle.std.proofs.Common.{◌≡◌, ℕ, ◌+◌, ◌<◌, ◌≤◌, arith, List, [], ◌∷◌, ◌++◌, length, drop, take, get_or, Option, Some, None, IsSome, is_some, refl, sym, ap, ◌∙◌, take-take}
use Rattle.std.proofs.Math.Seq.{take-length}
use Rattle.std.proofs.lemmas.List.{length-take}
use Rattle.lam_syntax.specs.declared.Stmt.{Stmt}
use Rattle.lam_syntax.specs.Tree.{stmt_tree, stmts_tree}
use Rattle.lam_resolve_tree.specs.declared.Stmt.{Stmt as Resolved}
use Rattle.lam_resolve_tree.specs.Tree.{Block, block_end, block_more, stmt_tree as resolved_stmt, stmts_tree as resolved_stmts}
use Rattle.lam_resolve_laws.specs.Resolved.{then_some, Tables, Locals, State, step_as, Closed, closed_as, resolve_stmt, resolve_stmts}
use Rattle.lam_resolve_tables.proofs.Options.{first_some, goes, one_more}
use Rattle.lam_resolve_units.specs.Meets.{Extends}
use Rattle.lam_resolve_stmts.proofs.Sizes.{stmt_size, stmts_size, item_smaller}

abbrev pub glued : Block → Block → Block
glued block_end r = r
glued (block_more s ss) r = block_more s (glued ss r)

glued_end : (b : Block) → glued b block_end ≡ b
glued_end block_end = refl
glued_end (block_more s ss) = ap (block_more s) (glued_end ss)

glued_more : (xs : List Resolved) (x : Resolved) (r : Block) → glued (resolved_stmts xs) (block_more (resolved_stmt x) r) ≡ glued (resolved_stmts (xs ++ x ∷ [])) r
glued_more [] x r = refl
glued_more (y ∷ xs) x r = ap (block_more (resolved_stmt y)) (glued_more xs x r)

-- the whole is what is done, and then the rest
pub record BlockSoFar (whole rest : Option (Closed Block)) (done : List Resolved) : Type 0 where
  pub joins : whole ≡ then_some rest (λ b. Some (closed_as (glued (resolved_stmts done) b.it) b.state))

block_itself : (o : Option (Closed Block)) → o ≡ then_some o (λ b. Some (closed_as b.it b.state))
unfolding then_some
block_itself None = refl
block_itself (Some b) = refl

pub block_first : (o : Option (Closed Block)) (done : List Resolved) → done ≡ [] → BlockSoFar o o done
block_first o done e = record { joins = block_itself o ∙ ap (λ d. then_some o (λ b. Some (closed_as (glued (resolved_stmts d) b.it) b.state))) (sym e) }

block_chunk : (rest : Option (Closed Block)) (done : List Resolved) (x : Resolved) →
    then_some (then_some rest (λ b. Some (closed_as (block_more (resolved_stmt x) b.it) b.state))) (λ b. Some (closed_as (glued (resolved_stmts done) b.it) b.state)) ≡ then_some rest (λ b. Some (closed_as (glued (resolved_stmts (done ++ x ∷ [])) b.it) b.state))
unfolding then_some
block_chunk None done x = refl
block_chunk (Some b) done x = ap (λ d. Some (closed_as d b.state)) (glued_more done x b.it)

module _ (t : Tables) (ls : Locals) (st : State) (xs : List Stmt) (i : ℕ) (x : Stmt) (lt : i < length xs) (is : x ≡ get_or xs i x) where
  block_step : resolve_stmts t ls st (stmts_tree (drop i xs)) ≡ then_some (resolve_stmt t ls st (stmt_tree x)) (λ a. then_some (resolve_stmts t a.locals a.state (stmts_tree (drop (i + 1) xs))) (λ b. Some (closed_as (block_more a.it b.it) b.state)))
  block_step = ap (λ l. resolve_stmts t ls st (stmts_tree l)) (one_more xs i x lt is)

  pub block_needs : (w : Option (Closed Block)) (done : List Resolved) → BlockSoFar w (resolve_stmts t ls st (stmts_tree (drop i xs))) done → IsSome w → (stmt_size (stmt_tree x) < stmts_size (stmts_tree xs)) × IsSome (resolve_stmt t ls st (stmt_tree x))
  block_needs w done s h = (
    item_smaller xs i x lt is,
    first_some (resolve_stmt t ls st (stmt_tree x)) (λ a. then_some (resolve_stmts t a.locals a.state (stmts_tree (drop (i + 1) xs))) (λ b. Some (closed_as (block_more a.it b.it) b.state)))
        (sym (ap is_some block_step) ∙ first_some (resolve_stmts t ls st (stmts_tree (drop i xs))) (λ b. Some (closed_as (glued (resolved_stmts done) b.it) b.state)) (sym (ap is_some s.joins) ∙ h)),
  )

  pub block_next : (w : Option (Closed Block)) (done next : List Resolved) (r : Resolved) (new : Locals) (last : State) → BlockSoFar w (resolve_stmts t ls st (stmts_tree (drop i xs))) done → Some (step_as (resolved_stmt r) new last) ≡ resolve_stmt t ls st (stmt_tree x) → next ≡ done ++ r ∷ [] →
      BlockSoFar w (resolve_stmts t new last (stmts_tree (drop (i + 1) xs))) next
  block_next w done next r new last s e n =
      let rest = resolve_stmts t new last (stmts_tree (drop (i + 1) xs)) in
      record {
        joins = s.joins ∙ ap (λ r. then_some r (λ b. Some (closed_as (glued (resolved_stmts done) b.it) b.state)))
            (block_step ∙ goes (resolve_stmt t ls st (stmt_tree x)) (step_as (resolved_stmt r) new last) (λ a. then_some (resolve_stmts t a.locals a.state (stmts_tree (drop (i + 1) xs))) (λ b. Some (closed_as (block_more a.it b.it) b.state))) e) ∙
            block_chunk rest done r ∙ ap (λ d. then_some rest (λ b. Some (closed_as (glued (resolved_stmts d) b.it) b.state))) (sym n);
      }

pub block_last : (w r : Option (Closed Block)) (done : List Resolved) (last : State) → BlockSoFar w r done → r ≡ Some (closed_as block_end last) → Some (closed_as (resolved_stmts done) last) ≡ w
block_last w r done last s e =
    sym (s.joins ∙ goes r (closed_as block_end last) (λ b. Some (closed_as (glued (resolved_stmts done) b.it) b.state)) (sym e) ∙ ap (λ d. Some (closed_as d last)) (glued_end (resolved_stmts done)))

-- ---- what is in scope

pub extends_first : {A : Type 0} (xs : List A) → Extends xs xs
extends_first xs = take-length xs

pub extends_more : {A : Type 0} (xs ys zs : List A) → Extends xs ys → Extends ys zs → Extends xs zs
extends_more xs ys zs e f =
    let h : length xs ≤ length ys = omega (arith, length-take (length xs) ys, ap length e) in
    sym (take-take (length xs) (length ys) zs h) ∙ ap (take (length xs)) f ∙ e
