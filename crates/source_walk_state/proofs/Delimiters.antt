-- Calls, regions, faults and returns.
use Rattle.std.proofs.Common.{◌≡◌, ℕ, List, [], ◌∷◌, Some, refl, sym, ap}
use Rattle.std.proofs.Math.Path.{fun_ext}
use Rattle.flow_labels.specs.declared.Label.{Label}
use Rattle.flow_labels.specs.declared.Denied.{Denied as Denial}
use Rattle.capabilities.specs.declared.Caps.{Caps}
use Rattle.lam_value.specs.declared.values.Value.{Value}
use Rattle.lam_value.specs.declared.values.Value.TheVariants as value
use Rattle.lam_value.specs.declared.values.Value.TheVariants.{Nothing, Obj, Arr}
use Rattle.lam_asks.specs.declared.fault.Fault.{Fault}
use Rattle.lam_asks.specs.declared.fault.Fault.TheVariants.{Denied, Null}
use Rattle.lam_asks.specs.declared.answer.Answer.{Answer}
use Rattle.lam_asks.specs.declared.answer.Answer.TheVariants.{Done, Entered, Val, Refused, Failed}
use Rattle.lam_asks.specs.declared.ask.Ask.{Ask}
use Rattle.lam_asks.specs.declared.ask.Ask.TheVariants as ask
use Rattle.lam_asks.specs.Suits.{numbers}
use Rattle.lam_asks.specs.Faults.{fault_number}
use Rattle.lam_resolve_tree.specs.Tree.{Block, stmts_tree, ResolvedTree}
use Rattle.lam_meaning.specs.Trees.{Own, with_local, local, asked, End, goes, raises, leaves, Tree, asks, on_end, and_then, fails, done_reply, ask_unit, unless_denied}
use Rattle.lam_meaning.specs.Means.{last_ask, call_end, caught_end, body_end, inside, At, Open, give_back, returns}
use Rattle.source_walk_state.specs.declared.Region.{Region}
use Rattle.source_walk_state.specs.declared.Outside.{Outside}
use Rattle.source_walk_state.specs.declared.BeforeRegion.TheVariants as part
use Rattle.source_walk_state.specs.declared.Frame.{Frame}
use Rattle.source_walk_state.specs.declared.Frame.TheVariants as frame
use Rattle.source_walk_state.specs.Meaning.{block, nulls, valued, region_body, region_handler, place_of, own_of, after}
use Rattle.source_walk_state.proofs.Chains.{chain_next, chain_delimiter, chain_valued_delimiter}

-- ---- calls and regions

module _ (r : ResolvedTree) (d : ℕ) (fs : List Frame) where
  pub calls_body : (q : At) (calls : ℕ) (ls : List Value) (b : Block) (n : ℕ) (o : Own) → on_end (on_end (block r d [] b q n o) (call_end ls)) (after r fs (record { label = q.label; calls = calls })) ≡ on_end (valued (block r d [] b q n o)) (after r (frame.Called calls ls ∷ fs) q)
  unfolding on_end
  calls_body q calls ls b n o =
      chain_delimiter (block r d [] b q n o) (call_end ls) (after r fs (record { label = q.label; calls = calls })) (after r (frame.Called calls ls ∷ fs) q) (λ n o. refl) (λ x n o. refl) (λ v n o. refl)

  pub enters_body : (x : Region) (out : Outside) (l : Label) (k : Caps) (ls : List Value) (n : ℕ) → on_end (valued (on_end (region_body r d x (inside l) n (record { locals = ls; caps = k })) (body_end (own_of out) x.catch_slot (λ n o. region_handler r d x (inside l) n o)))) (after r fs (place_of out)) ≡ on_end (valued (block r d [] (stmts_tree x.body.now) (inside l) n (record { locals = ls; caps = k }))) (after r (frame.Region d x (part.Body out) ∷ fs) (inside l))
  unfolding on_end
  enters_body x out l k ls n =
      chain_valued_delimiter (region_body r d x (inside l) n (record { locals = ls; caps = k })) (body_end (own_of out) x.catch_slot (λ n o. region_handler r d x (inside l) n o)) (after r fs (place_of out)) (after r (frame.Region d x (part.Body out) ∷ fs) (inside l)) (λ n o. refl) (λ x n o. refl) (λ v n o. refl)

  pub handles : (x : Region) (out : Outside) (f : Fault) (p : At) (n : ℕ) (o : Own) → after r (frame.Region d x (part.Caught f out) ∷ fs) p (goes Nothing n o) ≡ on_end (valued (block r d [] (stmts_tree x.catch_body.now) p n (with_local o x.catch_slot (value.Int (fault_number f))))) (after r (frame.Catch out ∷ fs) p)
  unfolding on_end
  handles x out f p n o =
      chain_valued_delimiter (region_handler r d x p n (with_local o x.catch_slot (value.Int (fault_number f)))) (caught_end (own_of out)) (after r fs (place_of out)) (after r (frame.Catch out ∷ fs) p) (λ n o. refl) (λ x n o. refl) (λ v n o. refl)

  caught_by : (x : Region) (out : Outside) (f : Fault) (p : At) (n : ℕ) (o : Own) (y : Answer) → on_end (valued (and_then (done_reply {A = Unit {0}} tt n o y) (λ _ n o. on_end (region_handler r d x p n (with_local o x.catch_slot (value.Int (fault_number f)))) (caught_end (own_of out))))) (after r fs (place_of out)) ≡ on_end (done_reply Nothing n o y) (after r (frame.Region d x (part.Caught f out) ∷ fs) p)
  unfolding on_end
  caught_by x out f p n o (Val v) = refl
  caught_by x out f p n o y = refl

  pub catches : (x : Region) (out : Outside) (f : Fault) (p : At) (n : ℕ) (o : Own) → after r (frame.Region d x (part.Body out) ∷ fs) p (raises f n o) ≡ on_end (asks (asked numbers (ask.Caught f)) (λ y. done_reply Nothing n o y)) (after r (frame.Region d x (part.Caught f out) ∷ fs) p)
  unfolding on_end
  catches x out f p n o = ap (asks (asked numbers (ask.Caught f))) (fun_ext (caught_by x out f p n o))

-- ---- asks before what comes next

then_replies : {C : Type 0} (n : ℕ) (o : Own) (f : ℕ → Own → Tree (Unit {0})) (k m : End Value → Tree C) → ((n : ℕ) (o : Own) → on_end (valued (f n o)) k ≡ m (goes Nothing n o)) → ((x : Fault) (n : ℕ) (o : Own) → k (raises x n o) ≡ m (raises x n o)) → (y : Answer) → on_end (valued (and_then (done_reply {A = Unit {0}} tt n o y) (λ _ n o. f n o))) k ≡ on_end (done_reply Nothing n o y) m
unfolding on_end
then_replies n o f k m go up (Val v) = refl
then_replies n o f k m go up (Refused e) = up Denied n o
then_replies n o f k m go up (Failed g) = up g n o
then_replies n o f k m go up Done = go n o
then_replies n o f k m go up Entered = refl

pub asks_then : {C : Type 0} (a : Ask) (n : ℕ) (o : Own) (f : ℕ → Own → Tree (Unit {0})) (k m : End Value → Tree C) → ((n : ℕ) (o : Own) → on_end (valued (f n o)) k ≡ m (goes Nothing n o)) → ((x : Fault) (n : ℕ) (o : Own) → k (raises x n o) ≡ m (raises x n o)) → on_end (valued (and_then (ask_unit a n o) (λ _ n o. f n o))) k ≡ on_end (asks (asked numbers a) (λ y. done_reply Nothing n o y)) m
unfolding on_end
asks_then a n o f k m go up = ap (asks (asked numbers a)) (fun_ext (then_replies n o f k m go up))

module _ (r : ResolvedTree) (fs : List Frame) (p : At) (n : ℕ) (o : Own) where
  bars_value : (y : Answer) → on_end (and_then (done_reply {A = Unit {0}} tt n o y) (λ _ n o. fails {A = Value} Denied n o)) (after r fs p) ≡ on_end (done_reply Nothing n o y) (after r (frame.Bar ∷ fs) p)
  unfolding on_end
  bars_value (Val v) = refl
  bars_value y = refl

  -- an access that a rule forbids
  pub bars : (e : Denial) (t : Tree Value) → on_end (unless_denied (Some e) n o t) (after r fs p) ≡ on_end (asks (asked numbers (ask.Barred e)) (λ y. done_reply Nothing n o y)) (after r (frame.Bar ∷ fs) p)
  unfolding on_end
  bars e t = ap (asks (asked numbers (ask.Barred e))) (fun_ext bars_value)

  pub bars_unit : (e : Denial) (t : Tree (Unit {0})) → on_end (valued (unless_denied (Some e) n o t)) (after r fs p) ≡ on_end (asks (asked numbers (ask.Barred e)) (λ y. done_reply Nothing n o y)) (after r (frame.Bar ∷ fs) p)
  unfolding on_end
  bars_unit e t = asks_then (ask.Barred e) n o (λ n o. fails Denied n o) (after r fs p) (after r (frame.Bar ∷ fs) p) (λ n o. refl) (λ x n o. refl)

-- ---- returns

module _ {C : Type 0} (k m : End Value → Tree C) (up : (x : Fault) (n : ℕ) (o : Own) → k (raises x n o) ≡ m (raises x n o)) where
  thing_replies : (f : ℕ → Own → Tree (Unit {0})) (n : ℕ) (o : Own) → on_end (valued (f n o)) k ≡ on_end (valued (f n o)) m → (y : Answer) → on_end (valued (and_then (done_reply {A = Unit {0}} tt n o y) (λ _ n o. f n o))) k ≡ on_end (valued (and_then (done_reply {A = Unit {0}} tt n o y) (λ _ n o. f n o))) m
  unfolding on_end
  thing_replies f n o h (Val w) = refl
  thing_replies f n o h (Refused e) = up Denied n o
  thing_replies f n o h (Failed g) = up g n o
  thing_replies f n o h Done = h
  thing_replies f n o h Entered = refl

  thing_back : (f : ℕ → Own → Tree (Unit {0})) (n : ℕ) (o : Own) → on_end (valued (f n o)) k ≡ on_end (valued (f n o)) m → (w : Value) → on_end (valued (and_then (give_back w n o) (λ _ n o. f n o))) k ≡ on_end (valued (and_then (give_back w n o) (λ _ n o. f n o))) m
  unfolding on_end
  thing_back f n o h (Obj x) = ap (asks (asked numbers (ask.MonLeave (Obj x)))) (fun_ext (thing_replies f n o h))
  thing_back f n o h (Arr x len) = ap (asks (asked numbers (ask.MonLeave (Arr x len)))) (fun_ext (thing_replies f n o h))
  thing_back f n o h Nothing = up Null n o
  thing_back f n o h w = refl

  -- a `return` never goes on behind itself
  pub returns_same : (os : Open) (v : Value) (n : ℕ) (o : Own) → ((v : Value) (n : ℕ) (o : Own) → k (leaves v n o) ≡ m (leaves v n o)) → on_end (valued (returns os v n o)) k ≡ on_end (valued (returns os v n o)) m
  unfolding on_end
  returns_same [] v n o out = out v n o
  returns_same (slot ∷ os) v n o out = thing_back (λ n o. returns os v n o) n o (returns_same os v n o out) (local o slot)

-- ---- a thread

-- the body of a thread's function, with no frames
pub begins : (r : ResolvedTree) (d : ℕ) (b : Block) (p : At) (n : ℕ) (o : Own) → on_end (block r d [] b p n o) last_ask ≡ on_end (valued (block r d [] b p n o)) (after r [] p)
unfolding on_end
begins r d b p n o = sym (chain_next (block r d [] b p n o) nulls (after r [] p) last_ask (λ a n o. refl) (λ x n o. refl) (λ v n o. refl))
