-- One piece of a program after another, and what follows both.
use Rattle.std.proofs.Common.{◌≡◌, ℕ, refl, sym, ap, ◌∙◌}
use Rattle.std.proofs.Math.Path.{fun_ext}
use Rattle.lam_value.specs.declared.values.Value.{Value}
use Rattle.lam_value.specs.declared.values.Value.TheVariants.{Nothing}
use Rattle.lam_meaning.specs.Trees.{Own, End, goes, raises, leaves, Tree, ends, spent, broken, asks, on_end, next, and_then}
use Rattle.source_walk_state.specs.Meaning.{nulls, valued}

-- the one induction over trees
pub chain : {A B C : Type 0} (t : Tree A) (g : End A → Tree B) (k : End B → Tree C) (m : End A → Tree C) → ((e : End A) → on_end (g e) k ≡ m e) → on_end (on_end t g) k ≡ on_end t m
unfolding on_end
chain (ends e) g k m h = h e
chain spent g k m h = refl
chain broken g k m h = refl
chain (asks q j) g k m h = ap (asks q) (fun_ext (λ x. chain (j x) g k m h))

-- by the three ends
pub chain_next : {A B C : Type 0} (t : Tree A) (f : A → ℕ → Own → Tree B) (k : End B → Tree C) (m : End A → Tree C) → ((a : A) (n : ℕ) (o : Own) → on_end (f a n o) k ≡ m (goes a n o)) → ((x : _) (n : ℕ) (o : Own) → k (raises x n o) ≡ m (raises x n o)) → ((v : Value) (n : ℕ) (o : Own) → k (leaves v n o) ≡ m (leaves v n o)) → on_end (and_then t f) k ≡ on_end t m
unfolding on_end
chain_next {A = A} t f k m go up out = chain t (next f) k m each
  where
    each : (e : End A) → on_end (next f e) k ≡ m e
    each (goes a n o) = go a n o
    each (raises x n o) = up x n o
    each (leaves v n o) = out v n o

-- a statement behind a piece
pub chain_valued : {A C : Type 0} (t : Tree A) (f : A → ℕ → Own → Tree (Unit {0})) (k : End Value → Tree C) (m : End A → Tree C) → ((a : A) (n : ℕ) (o : Own) → on_end (valued (f a n o)) k ≡ m (goes a n o)) → ((x : _) (n : ℕ) (o : Own) → k (raises x n o) ≡ m (raises x n o)) → ((v : Value) (n : ℕ) (o : Own) → k (leaves v n o) ≡ m (leaves v n o)) → on_end (valued (and_then t f)) k ≡ on_end t m
unfolding on_end
chain_valued {A = A} t f k m go up out = ap (λ u. on_end u k) (chain t (next f) (next nulls) (next (λ a n o. valued (f a n o))) each) ∙ chain_next t (λ a n o. valued (f a n o)) k m go up out
  where
    each : (e : End A) → on_end (next f e) (next nulls) ≡ next (λ a n o. valued (f a n o)) e
    each (goes a n o) = refl
    each (raises x n o) = refl
    each (leaves v n o) = refl

-- the first of two statements
pub chain_valued_first : {C : Type 0} (t : Tree (Unit {0})) (f : Unit {0} → ℕ → Own → Tree (Unit {0})) (k m : End Value → Tree C) → ((n : ℕ) (o : Own) → on_end (valued (f tt n o)) k ≡ on_end (nulls tt n o) m) → ((x : _) (n : ℕ) (o : Own) → k (raises x n o) ≡ m (raises x n o)) → ((v : Value) (n : ℕ) (o : Own) → k (leaves v n o) ≡ m (leaves v n o)) → on_end (valued (and_then t f)) k ≡ on_end (valued t) m
unfolding on_end
chain_valued_first t f k m go up out =
    chain_valued t f k (λ e. on_end (next nulls e) m) (λ a n o. go n o) up out ∙ sym (chain_next t nulls m (λ e. on_end (next nulls e) m) (λ a n o. refl) (λ x n o. refl) (λ v n o. refl))

-- a body, and the delimiter that takes its end
pub chain_delimiter : {C : Type 0} (t : Tree (Unit {0})) (g : End (Unit {0}) → Tree Value) (k m : End Value → Tree C) → ((n : ℕ) (o : Own) → on_end (g (goes tt n o)) k ≡ m (goes Nothing n o)) → ((x : _) (n : ℕ) (o : Own) → on_end (g (raises x n o)) k ≡ m (raises x n o)) → ((v : Value) (n : ℕ) (o : Own) → on_end (g (leaves v n o)) k ≡ m (leaves v n o)) → on_end (on_end t g) k ≡ on_end (valued t) m
unfolding on_end
chain_delimiter t g k m go up out =
    chain t g k (λ e. on_end (next nulls e) m) each ∙ sym (chain_next t nulls m (λ e. on_end (next nulls e) m) (λ a n o. refl) (λ x n o. refl) (λ v n o. refl))
  where
    each : (e : End (Unit {0})) → on_end (g e) k ≡ on_end (next nulls e) m
    each (goes a n o) = go n o
    each (raises x n o) = up x n o
    each (leaves v n o) = out v n o

pub chain_valued_delimiter : {C : Type 0} (t : Tree (Unit {0})) (g : End (Unit {0}) → Tree (Unit {0})) (k m : End Value → Tree C) → ((n : ℕ) (o : Own) → on_end (valued (g (goes tt n o))) k ≡ m (goes Nothing n o)) → ((x : _) (n : ℕ) (o : Own) → on_end (valued (g (raises x n o))) k ≡ m (raises x n o)) → ((v : Value) (n : ℕ) (o : Own) → on_end (valued (g (leaves v n o))) k ≡ m (leaves v n o)) → on_end (valued (on_end t g)) k ≡ on_end (valued t) m
unfolding on_end
chain_valued_delimiter t g k m go up out = ap (λ u. on_end u k) (chain t g (next nulls) (λ e. valued (g e)) (λ e. refl)) ∙ chain_delimiter t (λ e. valued (g e)) k m go up out
