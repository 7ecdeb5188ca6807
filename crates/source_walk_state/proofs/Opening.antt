-- How expressions and statements open: the first operand comes now, and a frame waits for its value.
use Rattle.std.proofs.Common.{◌≡◌, ℕ, List, [], ◌∷◌, ◌++◌, Option, refl, sym, ap, ◌∙◌, append_assoc}
use Rattle.std.proofs.lemmas.List.{append-nil}
use Rattle.std.proofs.Math.Path.{fun_ext}
use denote.Bor.{Bor}
use Rattle.lam_operators.specs.declared.BinaryOp.{BinaryOp}
use Rattle.lam_operators.specs.declared.UnaryOp.{UnaryOp}
use Rattle.lam_builtins.specs.declared.Builtin.{Builtin}
use Rattle.lam_value.specs.declared.values.Value.{Value}
use Rattle.lam_value.specs.declared.values.Value.TheVariants.{Nothing}
use Rattle.lam_value.specs.declared.shapes.Kind.{Kind}
use Rattle.lam_asks.specs.declared.answer.Answer.{Answer}
use Rattle.lam_asks.specs.declared.answer.Answer.TheVariants.{Val}
use Rattle.lam_asks.specs.declared.ask.Ask.{Ask}
use Rattle.lam_asks.specs.declared.ask.Ask.TheVariants as ask
use Rattle.lam_asks.specs.Suits.{Sort, numbers}
use Rattle.thread_steps.specs.Operators.{prefix}
use Rattle.thread_steps.specs.Builtins as calls
use Rattle.thread_steps.specs.Builtins.{Calls, builtin}
use Rattle.lam_resolve_tree.specs.declared.Expr.{Expr}
use Rattle.lam_resolve_tree.specs.Tree.{ResolvedType, Expression, unary_of, binary_of, field_of, element_of, builtin_of, new_array, spawn_of, Expressions, args_end, args_more, expr_tree, exprs_tree, ResolvedTree}
use Rattle.lam_meaning.specs.Trees.{Own, asked, End, goes, raises, leaves, Tree, asks, on_end, next, and_then, gives, purely, value_reply, ask_value, nothing_gained, done_reply, ask_unit, gained}
use Rattle.lam_meaning.specs.Means.{sort_of, kind_of, At, makes_array, on_number, result_sort, called_in, two}
use Rattle.source_walk_state.specs.declared.Sort.{Sort as Written}
use Rattle.source_walk_state.specs.declared.Using.{Using}
use Rattle.source_walk_state.specs.declared.Using.TheVariants as using
use Rattle.source_walk_state.specs.declared.BeforeExpr.TheVariants as expr
use Rattle.source_walk_state.specs.declared.Frame.{Frame}
use Rattle.source_walk_state.specs.declared.Frame.TheVariants as frame
use Rattle.source_walk_state.specs.Meaning.{sort_seen, value_of, values_of, nulls, valued, reads_field, reads_element, spawns, called_as, used, gathered, after}
use Rattle.source_walk_state.proofs.Chains.{chain, chain_next}

-- ---- asks

value_replies : (a : Ask) (n : ℕ) (o : Own) → ((v : Value) → gained a v o ≡ o) → (x : Answer) → value_reply nothing_gained n o x ≡ value_reply (gained a) n o x
value_replies a n o h (Val v) = ap (gives v n) (sym (h v))
value_replies a n o h x = refl

-- an ask whose value brings nothing
pub asks_value : (s : Sort) (a : Ask) (n : ℕ) (o : Own) → ((v : Value) → gained a v o ≡ o) → ask_value (asked s a) n o ≡ asks (asked s a) (λ x. value_reply (gained a) n o x)
asks_value s a n o h = ap (asks (asked s a)) (fun_ext (value_replies a n o h))

done_replies : (n : ℕ) (o : Own) (x : Answer) → on_end (done_reply tt n o x) (next nulls) ≡ done_reply Nothing n o x
unfolding on_end
done_replies n o (Val v) = refl
done_replies n o x = refl

-- an ask of a statement
pub asks_done : (a : Ask) (n : ℕ) (o : Own) → valued (ask_unit a n o) ≡ asks (asked numbers a) (λ x. done_reply Nothing n o x)
unfolding on_end
asks_done a n o = ap (asks (asked numbers a)) (fun_ext (done_replies n o))

-- ---- expressions

module _ (r : ResolvedTree) (d : ℕ) (fs : List Frame) (p : At) (n : ℕ) (o : Own) where
  pub opens_unary : (op : UnaryOp) (e : Expression) → on_end (value_of r d (unary_of op e) p n o) (after r fs p) ≡ on_end (value_of r d e p n o) (after r (frame.Prefix op ∷ fs) p)
  unfolding on_end
  opens_unary op e = chain_next (value_of r d e p n o) (λ v n o. purely n o (prefix op v)) (after r fs p) (after r (frame.Prefix op ∷ fs) p) (λ v n o. refl) (λ f n o. refl) (λ v n o. refl)

  pub opens_binary : (op : BinaryOp) (e : Expression) (g : Bor Expr) → on_end (value_of r d (binary_of op e (expr_tree g.now)) p n o) (after r fs p) ≡ on_end (value_of r d e p n o) (after r (frame.Expr d g (expr.Left op) ∷ fs) p)
  unfolding on_end
  opens_binary op e g =
      chain_next (value_of r d e p n o) (λ v n o. two op v (λ n o. value_of r d (expr_tree g.now) p n o) n o) (after r fs p) (after r (frame.Expr d g (expr.Left op) ∷ fs) p) (λ v n o. refl) (λ f n o. refl) (λ v n o. refl)

  pub opens_field : (e : Expression) (c f : ℕ) (t : ResolvedType) (s : Written) → sort_seen s ≡ sort_of t → on_end (value_of r d (field_of e c f t) p n o) (after r fs p) ≡ on_end (value_of r d e p n o) (after r (frame.Field f s ∷ fs) p)
  unfolding on_end
  opens_field e c f t s h =
      chain_next (value_of r d e p n o) (λ v n o. reads_field p (sort_of t) f v n o) (after r fs p) (after r (frame.Field f s ∷ fs) p) (λ v n o. ap (λ q. on_end (reads_field p q f v n o) (after r fs p)) (sym h)) (λ f n o. refl) (λ v n o. refl)

  pub opens_element : (e : Expression) (g : Bor Expr) (t : ResolvedType) (s : Written) → sort_seen s ≡ sort_of t → on_end (value_of r d (element_of e (expr_tree g.now) t) p n o) (after r fs p) ≡ on_end (value_of r d e p n o) (after r (frame.Expr d g (expr.OfElement s) ∷ fs) p)
  unfolding on_end
  opens_element e g t s h =
      chain_next (value_of r d e p n o) (λ v n o. and_then (value_of r d (expr_tree g.now) p n o) (λ i n o. reads_element p (sort_of t) v i n o)) (after r fs p) (after r (frame.Expr d g (expr.OfElement s) ∷ fs) p)
      (λ v n o. ap (λ q. on_end (and_then (value_of r d (expr_tree g.now) p n o) (λ i n o. reads_element p q v i n o)) (after r fs p)) (sym h)) (λ f n o. refl) (λ v n o. refl)

  pub opens_array : (e : Expression) (t : ResolvedType) (k : Kind) → k ≡ kind_of t → on_end (value_of r d (new_array t e) p n o) (after r fs p) ≡ on_end (value_of r d e p n o) (after r (frame.Length k ∷ fs) p)
  unfolding on_end
  opens_array e t k h =
      chain_next (value_of r d e p n o) (λ v n o. on_number v (λ z. makes_array (kind_of t) z n o)) (after r fs p) (after r (frame.Length k ∷ fs) p)
      (λ v n o. ap (λ q. on_end (on_number v (λ z. makes_array q z n o)) (after r fs p)) (sym h)) (λ f n o. refl) (λ v n o. refl)

  pub opens_spawn : (c : Expression) (f : ℕ) (args : Bor (List Expr)) → on_end (value_of r d (spawn_of c f (exprs_tree args.now)) p n o) (after r fs p) ≡ on_end (value_of r d c p n o) (after r (frame.Spawn d f args ∷ fs) p)
  unfolding on_end
  opens_spawn c f args =
      chain_next (value_of r d c p n o) (λ c n o. and_then (values_of r d (exprs_tree args.now) p n o) (λ vs n o. spawns f c vs n o)) (after r fs p) (after r (frame.Spawn d f args ∷ fs) p) (λ v n o. refl) (λ f n o. refl) (λ v n o. refl)

  same_calls : (t : Option ResolvedType) (s : Written) → sort_seen s ≡ result_sort t → (n : ℕ) (o : Own) (c : Calls) → called_in t n o c ≡ called_as (sort_seen s) n o c
  same_calls t s h n o (calls.asks a) = ap (λ q. asks (asked q a) (λ x. value_reply (gained a) n o x)) (sym h)
  same_calls t s h n o c = refl

  pub opens_builtin : (b : Builtin) (es : Expressions) (t : Option ResolvedType) (s : Written) → sort_seen s ≡ result_sort t → value_of r d (builtin_of b es t) p n o ≡ gathered r d es [] (using.Builtin b s) p n o
  opens_builtin b es t s h = ap (and_then (values_of r d es p n o)) (fun_ext (λ vs. fun_ext (λ n. fun_ext (λ o. same_calls t s h n o (builtin p.label o.caps b vs)))))

-- ---- arguments

assoc : {A B C : Type 0} (t : Tree A) (f : A → ℕ → Own → Tree B) (g : B → ℕ → Own → Tree C) → and_then (and_then t f) g ≡ and_then t (λ a n o. and_then (f a n o) g)
unfolding on_end
assoc {A = A} t f g = chain t (next f) (next g) (next (λ a n o. and_then (f a n o) g)) each
  where
    each : (e : End A) → on_end (next f e) (next g) ≡ next (λ a n o. and_then (f a n o) g) e
    each (goes a n o) = refl
    each (raises x n o) = refl
    each (leaves v n o) = refl

module _ (r : ResolvedTree) (d : ℕ) (u : Using) (p : At) where
  pub gathers_none : (vs : List Value) (n : ℕ) (o : Own) → gathered r d args_end vs u p n o ≡ used r d u p vs n o
  unfolding on_end
  gathers_none vs n o = ap (λ ws. used r d u p ws n o) (append-nil vs)

  one_more : (es : Expressions) (vs : List Value) (v : Value) (n : ℕ) (o : Own) → and_then (and_then (values_of r d es p n o) (λ ws n o. gives (v ∷ ws) n o)) (λ ws n o. used r d u p (vs ++ ws) n o) ≡ gathered r d es (vs ++ v ∷ []) u p n o
  unfolding on_end
  one_more es vs v n o =
      assoc (values_of r d es p n o) (λ ws n o. gives (v ∷ ws) n o) (λ ws n o. used r d u p (vs ++ ws) n o)
      ∙ ap (and_then (values_of r d es p n o)) (fun_ext (λ ws. fun_ext (λ n. fun_ext (λ o. ap (λ xs. used r d u p xs n o) (sym (append_assoc vs (v ∷ []) ws))))))

  pub gathers_more : (fs : List Frame) (e : Expression) (rest : Bor (List Expr)) (vs : List Value) (n : ℕ) (o : Own) → on_end (gathered r d (args_more e (exprs_tree rest.now)) vs u p n o) (after r fs p) ≡ on_end (value_of r d e p n o) (after r (frame.Args d rest vs u ∷ fs) p)
  unfolding on_end
  gathers_more fs e rest vs n o =
      ap (λ t. on_end t (after r fs p)) (assoc (value_of r d e p n o) (λ v n o. and_then (values_of r d (exprs_tree rest.now) p n o) (λ ws n o. gives (v ∷ ws) n o)) (λ ws n o. used r d u p (vs ++ ws) n o))
      ∙ chain_next (value_of r d e p n o) (λ v n o. and_then (and_then (values_of r d (exprs_tree rest.now) p n o) (λ ws n o. gives (v ∷ ws) n o)) (λ ws n o. used r d u p (vs ++ ws) n o)) (after r fs p) (after r (frame.Args d rest vs u ∷ fs) p)
      (λ v n o. ap (λ t. on_end t (after r fs p)) (one_more (exprs_tree rest.now) vs v n o)) (λ f n o. refl) (λ v n o. refl)
