-- Nested code that leads from one shape to another, and the shapes at its addresses.
use Rattle.std.proofs.Common.{◌≡◌, ℕ, ◌+◌, List, [], ◌∷◌, ◌++◌, drop, length, Option, Some, None, refl, sym, ap, ◌∙◌, subst}
use Rattle.lam_bytecode.specs.Codes.{CodeTree}
use Rattle.lam_bytecode.specs.declared.op.Op.{Op}
use Rattle.lam_bytecode.specs.declared.op.Op.TheVariants.{EnterRegion}
use Rattle.lam_meaning_laws.specs.Nested.{Nested, no_code, does, puts, both, when, either, loops, enters}
use Rattle.guarded_code.specs.declared.known.ValueKind.{ValueKind}
use Rattle.guarded_code.specs.declared.known.ValueKind.TheVariants.{Truth, Unknown}
use Rattle.guarded_code.specs.Changes.{Only, Change, Loads, Stores, Tests, Trades, change, goes, kind_of_value}
use Rattle.guarded_code.specs.Says.{KindSays}
use Rattle.guarded_code.proofs.Tables.{none_some}
use Rattle.guarded_code.proofs.Order.{kind_same}
use Rattle.compiled_code_guarded.specs.Layouts.{Fact, Shape, fact_of, TakesKinds, Finds, SlotsSay, FactSays, IsPut, Follows}

-- ---- what says no more

-- t says no more than s, and of the operands the same
pub record Weakens (s t : Shape) : Type 0 where
  pub stack : t.stack ≡ s.stack
  pub slots : SlotsSay s.slots t.slots
  pub fact : FactSays s.fact t.fact

say_trans : (k m z : ValueKind) → KindSays k m → KindSays m z → KindSays k z
say_trans k m Unknown a b = tt
say_trans k m z a b = subst (KindSays k) b a

pub slots_same : (f : ℕ → ValueKind) → SlotsSay f f
slots_same f n = kind_same (f n)

pub slots_trans : (f g h : ℕ → ValueKind) → SlotsSay f g → SlotsSay g h → SlotsSay f h
slots_trans f g h a b n = say_trans (f n) (g n) (h n) (a n) (b n)

fact_same : (m : Option Fact) → FactSays m m
fact_same None = tt
fact_same (Some m) = refl

fact_trans : (m n z : Option Fact) → FactSays m n → FactSays n z → FactSays m z
fact_trans m n None a b = tt
fact_trans m None (Some z) a b = none_some b
fact_trans m (Some n) (Some z) a b = a ∙ b

pub weakens_same : (s : Shape) → Weakens s s
weakens_same s = record { stack = refl; slots = slots_same s.slots; fact = fact_same s.fact }

-- what follows a shape may say less
pub follows_less : (c : Change) (s t x : Shape) → Follows c s t → Weakens t x → Follows c s x
follows_less (Loads n) s t x f w = (w.stack ∙ f.0, slots_trans s.slots t.slots x.slots f.1 w.slots, fact_trans None t.fact x.fact f.2 w.fact)
follows_less (Stores n) s t x f w = (f.0, f.1 ∙ ap (λ ks. f.0 ∷ ks) (sym w.stack), slots_trans _ t.slots x.slots f.2 w.slots, fact_trans None t.fact x.fact f.3 w.fact)
follows_less (Tests access depth) s t x f w = (w.stack ∙ f.0, slots_trans s.slots t.slots x.slots f.1 w.slots, fact_trans (fact_of access depth) t.fact x.fact f.2 w.fact)
follows_less (Trades takes gives) s t x f w = (put_less gives (drop (length takes) s.stack) f.0, slots_trans s.slots t.slots x.slots f.1 w.slots, fact_trans None t.fact x.fact f.2 w.fact)
  where
    put_less : (o : Option ValueKind) (rest : List ValueKind) → IsPut o rest t.stack → IsPut o rest x.stack
    put_less None rest e = w.stack ∙ e
    put_less (Some kind) rest e = (e.0, w.stack ∙ e.1, e.2)

-- ---- merges and branches

-- two ways lead to t: this one leaves s
abbrev pub Joins : Shape → Shape → Type 0
Joins s t = Follows (Trades [] None) s t

fact_joins : (m n : Option Fact) → FactSays None n → FactSays m n
fact_joins m None h = tt
fact_joins m (Some n) h = none_some h

pub joins_weakens : (s t : Shape) → Joins s t → Weakens s t
joins_weakens s t h = record { stack = h.0; slots = h.1; fact = fact_joins s.fact t.fact h.2 }

pub weakens_trans : (s t x : Shape) → Weakens s t → Weakens t x → Weakens s x
weakens_trans s t x a b = record { stack = b.stack ∙ a.stack; slots = slots_trans s.slots t.slots x.slots a.slots b.slots; fact = fact_trans s.fact t.fact x.fact a.fact b.fact }

-- a truth value is taken, and t is left
abbrev pub Branches : Shape → Shape → Type 0
Branches s t = TakesKinds (Only Truth ∷ []) s.stack × Follows (Trades (Only Truth ∷ []) None) s t

-- ---- operations

-- an operation that goes on at the next address alone, or nowhere
abbrev pub OnlyNext : ℕ → Type 0 → List ℕ → Type 0
OnlyNext next F [] = Unit {0}
OnlyNext next F (b ∷ bs) = (b ≡ next) × F × OnlyNext next F bs

module _ (code : CodeTree) (locals : ℕ) where
  abbrev pub Steps : Op → Shape → Shape → Type 0
  Steps op s t = Finds code locals op s × ((a : ℕ) → OnlyNext (a + 1) (Follows (change code op) s t) (goes a op))

  -- ---- nested code
  abbrev pub Runs : Nested → Shape → Shape → Type 0
  Runs no_code s t = s ≡ t
  Runs (does o) s t = Steps o s t
  Runs (puts v) s t = Follows (Trades [] (Some (kind_of_value v))) s t
  Runs (both a b) s t = (m : Shape) × Runs a s m × Runs b m t
  -- m is left where the branch is taken, and e behind it
  Runs (when a) s t = (m : Shape) × (e : Shape) × Branches s m × Branches s t × Runs a m e × Joins e t
  -- m and n are left by the test, e and f behind the two
  Runs (either a b) s t =
      (m : Shape) × (n : Shape) × (e : Shape) × (f : Shape) × Branches s m × Branches s n × Runs a m e × Joins e t × Runs b n f × Joins f t
  -- u is left by the test, m where it was true, and e behind the body
  Runs (loops x b) s t = (u : Shape) × (m : Shape) × (e : Shape) × Runs x s u × Branches u m × Branches u t × Runs b m e × Joins e s
  Runs (enters number captures slots body handler) s t = Steps (EnterRegion number) s t

  -- the shapes at its addresses
  abbrev pub shapes : (c : Nested) (s t : Shape) → Runs c s t → List Shape
  shapes no_code s t h = []
  shapes (does o) s t h = s ∷ []
  shapes (puts v) s t h = s ∷ []
  shapes (both a b) s t h = shapes a s h.0 h.1 ++ shapes b h.0 t h.2
  shapes (when a) s t h = s ∷ shapes a h.0 h.1 h.4
  shapes (either a b) s t h = s ∷ (shapes a h.0 h.2 h.6 ++ (h.2 ∷ shapes b h.1 h.3 h.8))
  shapes (loops x b) s t h = shapes x s h.0 h.3 ++ (h.0 ∷ (shapes b h.1 h.2 h.6 ++ (h.2 ∷ [])))
  shapes (enters number captures slots body handler) s t h = s ∷ []
