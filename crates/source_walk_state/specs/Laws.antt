-- How the states of a walk mean what threads mean.
use Rattle.std.specs.Prelude.{◌≡◌, ℕ, List, [], ◌∷◌, Some, slice_get}
use denote.Bor.{Bor}
use Rattle.flow_labels.specs.declared.Label.{Label}
use Rattle.flow_labels.specs.Flow.{public_label}
use Rattle.capabilities.specs.declared.Caps.{Caps}
use Rattle.lam_value.specs.declared.values.Value.{Value}
use Rattle.lam_value.specs.declared.values.Value.TheVariants.{Int, Nothing}
use Rattle.lam_asks.specs.declared.fault.Fault.{Fault}
use Rattle.lam_asks.specs.Faults.{fault_number}
use Rattle.lam_asks.specs.declared.ask.Ask.TheVariants as ask
use Rattle.lam_resolve_tree.specs.declared.Stmt.{Stmt}
use Rattle.lam_resolve_tree.specs.Tree.{stmts_tree, ResolvedFunction, ResolvedTree}
use Rattle.lam_meaning.specs.Trees.{Own, with_local, on_end}
use Rattle.lam_meaning.specs.Means.{At, inside, call_end, first_locals, means}
use Rattle.source_walk_state.specs.declared.Sort.TheVariants as sort
use Rattle.source_walk_state.specs.declared.Region.{Region}
use Rattle.source_walk_state.specs.declared.Outside.{Outside}
use Rattle.source_walk_state.specs.declared.BeforeRegion.TheVariants as part
use Rattle.source_walk_state.specs.declared.Frame.{Frame}
use Rattle.source_walk_state.specs.declared.Frame.TheVariants as frame
use Rattle.source_walk_state.specs.declared.Reply.TheVariants as reply
use Rattle.source_walk_state.specs.declared.Control.TheVariants as control
use Rattle.source_walk_state.specs.Meaning.{block, valued, entered, place_of, own_of, after, left}

-- a thread of function f, whose body these statements are
abbrev pub WalksBegin : ResolvedTree → Type 0
WalksBegin r =
    (n f : ℕ) (fn : ResolvedFunction) (vs : List Value) (k : Caps) (body : Bor (List Stmt)) → slice_get r.functions f ≡ Some fn → stmts_tree body.now ≡ fn.body →
    left r (control.Block n body) [] (record { label = public_label; calls = 1 }) n (record { locals = first_locals fn vs; caps = k }) ≡ means r n f vs k

pub record DelimitersKeep (r : ResolvedTree) : Type 0 where
  -- the body of a function that was called: its end goes to the caller, whose locals are as they were
  pub calls :
      (d calls : ℕ) (fs : List Frame) (p : At) (ls : List Value) (body : Bor (List Stmt)) (n : ℕ) (o : Own) →
      left r (control.Block d body) (frame.Called calls ls ∷ fs) p n o ≡ on_end (on_end (block r d [] (stmts_tree body.now) p n o) (call_end ls)) (after r fs (record { label = p.label; calls = calls }))
  -- the body of a region that was entered: what stood around it comes back
  pub enters :
      (d : ℕ) (fs : List Frame) (x : Region) (out : Outside) (l : Label) (k : Caps) (ls : List Value) (n : ℕ) →
      left r (control.Block d x.body) (frame.Region d x (part.Body out) ∷ fs) (inside l) n (record { locals = ls; caps = k }) ≡ on_end (valued (entered r d l k x ls n (own_of out))) (after r fs (place_of out))
  -- a fault in the body is caught
  pub catches :
      (d : ℕ) (fs : List Frame) (x : Region) (out : Outside) (f : Fault) (p : At) (n : ℕ) (o : Own) →
      left r (control.Ask (ask.Caught f) sort.Number reply.Done) (frame.Region d x (part.Caught f out) ∷ fs) p n o ≡ left r (control.Raise f) (frame.Region d x (part.Body out) ∷ fs) p n o
  -- and then comes the catch block, with the fault's number in its slot
  pub handles :
      (d : ℕ) (fs : List Frame) (x : Region) (out : Outside) (f : Fault) (p : At) (n : ℕ) (o : Own) →
      left r (control.Block d x.catch_body) (frame.Catch out ∷ fs) p n (with_local o x.catch_slot (Int (fault_number f))) ≡ left r (control.Give Nothing) (frame.Region d x (part.Caught f out) ∷ fs) p n o
