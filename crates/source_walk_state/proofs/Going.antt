-- How frames go on.
use Rattle.std.proofs.Common.{◌≡◌, ℕ, true, false, List, ◌∷◌, Option, Some, None, refl, sym, ap, ◌∙◌}
use Rattle.std.specs.Prelude.{length}
use denote.Bor.{Bor}
use Rattle.std.specs.Prelude.{Vec}
use Rattle.std.specs.declared.alloc.Global.{Global}
use Rattle.lam_operators.specs.declared.BinaryOp.TheVariants as binary
use Rattle.lam_operators.specs.declared.BinaryOp.{BinaryOp}
use Rattle.lam_value.specs.declared.values.Value.{Value}
use Rattle.lam_asks.specs.declared.fault.Fault.{Fault}
use Rattle.thread_steps.specs.Operators.{operator}
use Rattle.lam_resolve_tree.specs.declared.Expr.{Expr}
use Rattle.lam_resolve_tree.specs.declared.Stmt.{Stmt}
use Rattle.lam_resolve_tree.specs.Tree.{ResolvedType, Expression, Statement, let_slot, if_block, while_block, return_value, throw_value, sync_block, region_block, do_value, set_local, set_field, set_element, Block, block_more, expr_tree, stmts_tree, else_tree, ResolvedTree}
use Rattle.lam_meaning.specs.Trees.{Own, with_local, local, goes, raises, leaves, Tree, on_end, and_then, done, purely, on_truth}
use Rattle.lam_meaning.specs.Means.{At, two, Open, give_back, returns, throws}
use Rattle.source_walk_state.specs.declared.Sort.{Sort as Written}
use Rattle.source_walk_state.specs.declared.Region.{Region}
use Rattle.source_walk_state.specs.declared.BeforeExpr.TheVariants as expr
use Rattle.source_walk_state.specs.declared.BeforeBlock.TheVariants as statements
use Rattle.source_walk_state.specs.declared.BeforeRegion.TheVariants as part
use Rattle.source_walk_state.specs.declared.Frame.{Frame}
use Rattle.source_walk_state.specs.declared.Frame.TheVariants as frame
use Rattle.source_walk_state.specs.Meaning.{sort_seen, value_of, statement, block, other, valued, reads_element, writes_field, writes_element, enters, open_of, loop_rest, turn, under, takes, after, stops_at, block_in, enters_by}
use Rattle.source_walk_state.proofs.Chains.{chain_next, chain_valued, chain_valued_first}

-- ---- operands

plain_two : (op : BinaryOp) → stops_at op ≡ None → (v : Value) (right : ℕ → Own → Tree Value) (n : ℕ) (o : Own) → two op v right n o ≡ and_then (right n o) (λ w n o. purely n o (operator op v w))
plain_two binary.And h v right n o = cc
plain_two binary.Or h v right n o = cc
plain_two op h v right n o = refl

module _ (r : ResolvedTree) (d : ℕ) (fs : List Frame) (p : At) (n : ℕ) (o : Own) where
  pub goes_right : (op : BinaryOp) (v : Value) (e : Expression) → stops_at op ≡ None → on_end (two op v (λ n o. value_of r d e p n o) n o) (after r fs p) ≡ on_end (value_of r d e p n o) (after r (frame.Operate op v ∷ fs) p)
  unfolding on_end
  goes_right op v e h =
      ap (λ t. on_end t (after r fs p)) (plain_two op h v (λ n o. value_of r d e p n o) n o)
      ∙ chain_next (value_of r d e p n o) (λ w n o. purely n o (operator op v w)) (after r fs p) (after r (frame.Operate op v ∷ fs) p) (λ v n o. refl) (λ f n o. refl) (λ v n o. refl)

  pub goes_element : (s : Written) (v : Value) (e : Expression) → on_end (and_then (value_of r d e p n o) (λ i n o. reads_element p (sort_seen s) v i n o)) (after r fs p) ≡ on_end (value_of r d e p n o) (after r (frame.Element v s ∷ fs) p)
  unfolding on_end
  goes_element s v e = chain_next (value_of r d e p n o) (λ i n o. reads_element p (sort_seen s) v i n o) (after r fs p) (after r (frame.Element v s ∷ fs) p) (λ v n o. refl) (λ f n o. refl) (λ v n o. refl)

  -- ---- assignments

  pub goes_field : (at : ℕ) (v : Value) (e : Expression) → on_end (valued (and_then (value_of r d e p n o) (λ w n o. writes_field p at v w n o))) (after r fs p) ≡ on_end (value_of r d e p n o) (after r (frame.SetField at v ∷ fs) p)
  unfolding on_end
  goes_field at v e = chain_valued (value_of r d e p n o) (λ w n o. writes_field p at v w n o) (after r fs p) (after r (frame.SetField at v ∷ fs) p) (λ v n o. refl) (λ f n o. refl) (λ v n o. refl)

  pub goes_index : (v : Value) (e : Expression) (g : Bor Expr) → on_end (valued (and_then (value_of r d e p n o) (λ i n o. and_then (value_of r d (expr_tree g.now) p n o) (λ w n o. writes_element p v i w n o)))) (after r fs p) ≡ on_end (value_of r d e p n o) (after r (frame.Expr d g (expr.OfIndex v) ∷ fs) p)
  unfolding on_end
  goes_index v e g =
      chain_valued (value_of r d e p n o) (λ i n o. and_then (value_of r d (expr_tree g.now) p n o) (λ w n o. writes_element p v i w n o)) (after r fs p) (after r (frame.Expr d g (expr.OfIndex v) ∷ fs) p) (λ v n o. refl) (λ f n o. refl) (λ v n o. refl)

  pub goes_set : (v i : Value) (e : Expression) → on_end (valued (and_then (value_of r d e p n o) (λ w n o. writes_element p v i w n o))) (after r fs p) ≡ on_end (value_of r d e p n o) (after r (frame.SetElement v i ∷ fs) p)
  unfolding on_end
  goes_set v i e = chain_valued (value_of r d e p n o) (λ w n o. writes_element p v i w n o) (after r fs p) (after r (frame.SetElement v i ∷ fs) p) (λ v n o. refl) (λ f n o. refl) (λ v n o. refl)

  pub goes_region : (l : Value) (x : Region) (e : Expression) → on_end (valued (and_then (value_of r d e p n o) (λ c n o. enters r d l x c n o))) (after r fs p) ≡ on_end (value_of r d e p n o) (after r (frame.Region d x (part.Caps l) ∷ fs) p)
  unfolding on_end
  goes_region l x e = chain_valued (value_of r d e p n o) (λ c n o. enters r d l x c n o) (after r fs p) (after r (frame.Region d x (part.Caps l) ∷ fs) p) (λ v n o. refl) (λ f n o. refl) (λ v n o. refl)

  -- ---- statements that open

  pub opens_value : (e : Expression) (f : Value → ℕ → Own → Tree (Unit {0})) (g : Frame) → ((v : Value) (n : ℕ) (o : Own) → on_end (valued (f v n o)) (after r fs p) ≡ after r (g ∷ fs) p (goes v n o)) → ((x : Fault) (n : ℕ) (o : Own) → after r fs p (raises x n o) ≡ after r (g ∷ fs) p (raises x n o)) → ((v : Value) (n : ℕ) (o : Own) → after r fs p (leaves v n o) ≡ after r (g ∷ fs) p (leaves v n o)) → on_end (valued (and_then (value_of r d e p n o) f)) (after r fs p) ≡ on_end (value_of r d e p n o) (after r (g ∷ fs) p)
  opens_value e f g go up out = chain_valued (value_of r d e p n o) f (after r fs p) (after r (g ∷ fs) p) go up out

  pub opens_let : (x : ℕ) (e : Expression) → on_end (valued (statement r d (open_of fs) (let_slot x e) p n o)) (after r fs p) ≡ on_end (value_of r d e p n o) (after r (frame.Assign x ∷ fs) p)
  unfolding on_end
  opens_let x e = opens_value e (λ v n o. done n (with_local o x v)) (frame.Assign x) (λ v n o. refl) (λ f n o. refl) (λ v n o. refl)

  pub opens_set : (x : ℕ) (e : Expression) → on_end (valued (statement r d (open_of fs) (set_local x e) p n o)) (after r fs p) ≡ on_end (value_of r d e p n o) (after r (frame.Assign x ∷ fs) p)
  unfolding on_end
  opens_set x e = opens_value e (λ v n o. done n (with_local o x v)) (frame.Assign x) (λ v n o. refl) (λ f n o. refl) (λ v n o. refl)

  pub opens_do : (e : Expression) → on_end (valued (statement r d (open_of fs) (do_value e) p n o)) (after r fs p) ≡ on_end (value_of r d e p n o) (after r (frame.Drop ∷ fs) p)
  unfolding on_end
  opens_do e = opens_value e (λ v n o. done n o) frame.Drop (λ v n o. refl) (λ f n o. refl) (λ v n o. refl)

  pub opens_set_field : (e : Expression) (c f : ℕ) (t : ResolvedType) (g : Bor Expr) → on_end (valued (statement r d (open_of fs) (set_field e c f t (expr_tree g.now)) p n o)) (after r fs p) ≡ on_end (value_of r d e p n o) (after r (frame.Expr d g (expr.OfField f) ∷ fs) p)
  unfolding on_end
  opens_set_field e c f t g =
      opens_value e (λ x n o. and_then (value_of r d (expr_tree g.now) p n o) (λ v n o. writes_field p f x v n o)) (frame.Expr d g (expr.OfField f)) (λ v n o. refl) (λ f n o. refl) (λ v n o. refl)

  pub opens_set_element : (e : Expression) (i : Bor Expr) (t : ResolvedType) (g : Bor Expr) → on_end (valued (statement r d (open_of fs) (set_element e (expr_tree i.now) t (expr_tree g.now)) p n o)) (after r fs p) ≡ on_end (value_of r d e p n o) (after r (frame.Index d i g ∷ fs) p)
  unfolding on_end
  opens_set_element e i t g =
      opens_value e (λ x n o. and_then (value_of r d (expr_tree i.now) p n o) (λ i n o. and_then (value_of r d (expr_tree g.now) p n o) (λ v n o. writes_element p x i v n o))) (frame.Index d i g) (λ v n o. refl) (λ f n o. refl) (λ v n o. refl)

  pub opens_throw : (e : Expression) → on_end (valued (statement r d (open_of fs) (throw_value e) p n o)) (after r fs p) ≡ on_end (value_of r d e p n o) (after r (frame.Throw ∷ fs) p)
  unfolding on_end
  opens_throw e = opens_value e (λ v n o. throws v n o) frame.Throw (λ v n o. refl) (λ f n o. refl) (λ v n o. refl)

  pub opens_return : (e : Expression) → on_end (valued (statement r d (open_of fs) (return_value (Some e)) p n o)) (after r fs p) ≡ on_end (value_of r d e p n o) (after r (frame.Return ∷ fs) p)
  unfolding on_end
  opens_return e = opens_value e (λ v n o. returns (open_of fs) v n o) frame.Return (λ v n o. refl) (λ f n o. refl) (λ v n o. refl)

  -- without an `else`, nothing is done there
  pub no_other_is : (os : Open) (b : Option (Vec Stmt Global)) (c : Bor (List Stmt)) → stmts_tree c.now ≡ block_in b → (n : ℕ) (o : Own) → other r d os (else_tree b) p n o ≡ block r d os (stmts_tree c.now) p n o
  no_other_is os None c h n o = ap (λ x. block r d os x p n o) (sym h)
  no_other_is os (Some b) c h n o = ap (λ x. block r d os x p n o) (sym h)

  pub opens_if : (e : Expression) (a c : Bor (List Stmt)) (b : Option (Vec Stmt Global)) → stmts_tree c.now ≡ block_in b → on_end (valued (statement r d (open_of fs) (if_block e (stmts_tree a.now) (else_tree b)) p n o)) (after r fs p) ≡ on_end (value_of r d e p n o) (after r (frame.Branch d a c ∷ fs) p)
  unfolding on_end
  opens_if e a c b h =
      opens_value e (λ v n o. on_truth v (block r d (open_of fs) (stmts_tree a.now) p n o) (other r d (open_of fs) (else_tree b) p n o)) (frame.Branch d a c)
      (λ v n o. ap (λ t. on_end (valued (on_truth v (block r d (open_of fs) (stmts_tree a.now) p n o) t)) (after r fs p)) (no_other_is (open_of fs) b c h n o)) (λ f n o. refl) (λ v n o. refl)

  pub opens_while : (e : Bor Expr) (a : Bor (List Stmt)) → on_end (valued (statement r d (open_of fs) (while_block (expr_tree e.now) (stmts_tree a.now)) p n o)) (after r fs p) ≡ on_end (value_of r d (expr_tree e.now) p n o) (after r (frame.Loop d e a true ∷ fs) p)
  unfolding on_end
  opens_while e a = opens_value (expr_tree e.now) (λ v n o. turn r d (open_of fs) (expr_tree e.now) (stmts_tree a.now) v p n o) (frame.Loop d e a true) (λ v n o. refl) (λ f n o. refl) (λ v n o. refl)

  pub opens_sync : (slot : ℕ) (e : Expression) (a : Bor (List Stmt)) → on_end (valued (statement r d (open_of fs) (sync_block slot e (stmts_tree a.now)) p n o)) (after r fs p) ≡ on_end (value_of r d e p n o) (after r (frame.Block d a (statements.Thing slot) ∷ fs) p)
  unfolding on_end
  opens_sync slot e a = opens_value e (λ v n o. takes r d (open_of fs) slot (stmts_tree a.now) v p n o) (frame.Block d a (statements.Thing slot)) (λ v n o. refl) (λ f n o. refl) (λ v n o. refl)

  pub opens_region : (l : Expression) (c : Bor Expr) (slots : List ResolvedType) (x : Region) → x.slots ≡ length slots → on_end (valued (statement r d (open_of fs) (region_block x.number l (expr_tree c.now) x.captures.now slots (stmts_tree x.body.now) x.catch_slot (stmts_tree x.catch_body.now)) p n o)) (after r fs p) ≡ on_end (value_of r d l p n o) (after r (frame.Region d x (part.Label c) ∷ fs) p)
  unfolding on_end
  opens_region l c slots x h =
      opens_value l (λ l n o. and_then (value_of r d (expr_tree c.now) p n o) (λ c n o. enters_by r d l x (length slots) c n o)) (frame.Region d x (part.Label c))
      (λ l n o. ap (λ m. on_end (valued (and_then (value_of r d (expr_tree c.now) p n o) (λ c n o. enters_by r d l x m c n o))) (after r fs p)) (sym h)) (λ f n o. refl) (λ v n o. refl)

  -- ---- blocks and loops

  pub opens_more : (s : Statement) (a : Bor (List Stmt)) → on_end (valued (block r d (open_of fs) (block_more s (stmts_tree a.now)) p n o)) (after r fs p) ≡ on_end (valued (statement r d (open_of fs) s p n o)) (after r (frame.Block d a statements.Statement ∷ fs) p)
  unfolding on_end
  opens_more s a =
      chain_valued_first (statement r d (open_of fs) s p n o) (λ _ n o. block r d (open_of fs) (stmts_tree a.now) p n o) (after r fs p) (after r (frame.Block d a statements.Statement ∷ fs) p) (λ n o. refl) (λ f n o. refl) (λ v n o. refl)

  pub turns : (e : Bor Expr) (a : Bor (List Stmt)) → on_end (valued (and_then (block r d (open_of fs) (stmts_tree a.now) p n o) (λ _ n o. loop_rest r d (open_of fs) (expr_tree e.now) (stmts_tree a.now) p n o))) (after r fs p) ≡ on_end (valued (block r d (open_of fs) (stmts_tree a.now) p n o)) (after r (frame.Loop d e a false ∷ fs) p)
  unfolding on_end
  turns e a =
      chain_valued_first (block r d (open_of fs) (stmts_tree a.now) p n o) (λ _ n o. loop_rest r d (open_of fs) (expr_tree e.now) (stmts_tree a.now) p n o) (after r fs p) (after r (frame.Loop d e a false ∷ fs) p) (λ n o. refl) (λ f n o. refl) (λ v n o. refl)

  pub holds : (slot : ℕ) (b : Block) → on_end (valued (under r d (open_of fs) slot b p n o)) (after r fs p) ≡ on_end (valued (block r d (slot ∷ open_of fs) b p n o)) (after r (frame.Held slot ∷ fs) p)
  unfolding on_end
  holds slot b =
      chain_valued_first (block r d (slot ∷ open_of fs) b p n o) (λ _ n o. give_back (local o slot) n o) (after r fs p) (after r (frame.Held slot ∷ fs) p) (λ n o. refl) (λ f n o. refl) (λ v n o. refl)
