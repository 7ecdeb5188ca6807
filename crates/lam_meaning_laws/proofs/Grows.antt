-- A turn keeps the asks that were made, and the work.
use Rattle.std.proofs.Common.{◌≡◌, ℕ, zero, suc, ◌+◌, ◌≤◌, List, [], ◌∷◌, ◌++◌, Bool, true, false, Option, Some, None, refl, sym, ap, ◌∙◌, arith, append_assoc}
use Rattle.std.proofs.lemmas.List.{append-nil}
use Rattle.std.specs.Prelude.{if◌then◌else◌, slice_get}
use Rattle.lam_asks.specs.declared.fault.Fault.{Fault}
use Rattle.lam_asks.specs.declared.answer.Answer.{Answer}
use Rattle.lam_asks.specs.declared.ask.Ask.{Ask}
use Rattle.lam_bytecode.specs.Codes.{CodeTree}
use Rattle.lam_bytecode.specs.declared.op.Op.{Op}
use Rattle.thread_steps.specs.Threads.{Context, Thread}
use Rattle.thread_steps.specs.Next.{Next, goes, asks, stuck, next_of, ops_of, standing_in, stands, is_stuck}
use Rattle.lam_meaning_laws.specs.Lone.{Lone, runs, waits, is_barrier, op_work, work_in, work_of, done, turn_of, turn, turns, asks_in, work_done, NotStuck}
use Rattle.lam_meaning_laws.specs.Acts.{AreFirst}

pub same_asks : (a : List Ask) → AreFirst a a
same_asks a = ([], sym (append-nil a))

pub first_of_first : (a b c : List Ask) → AreFirst a b → AreFirst b c → AreFirst a c
first_of_first a b c p q = (p.0 ++ q.0, q.1 ∙ ap (λ l. l ++ q.0) p.1 ∙ append_assoc a p.0 q.0)

-- a turn does no work, or one piece
record Grows (made : List Ask) (w : ℕ) (s : Lone) : Type 0 where
  first : AreFirst made (asks_in s)
  more : w ≤ work_done s
  few : work_done s ≤ w + 1

if_work : (b : Bool) → (let n : ℕ = if b then 0 else 1 in n) ≤ 1
if_work true = omega arith
if_work false = omega arith

op_few : (o : Option Op) → op_work o ≤ 1
op_few None = omega arith
op_few (Some o) = if_work (is_barrier o)

work_few : (f : Option Fault) (o : Option Op) → work_in f o ≤ 1
work_few (Some f) o = omega arith
work_few None o = op_few o

done_grows : (code : CodeTree) (th : Thread) (c : Context) (rest : List Context) (xs : List Answer) (made : List Ask) (w k : ℕ) (nx : Next) → k ≤ 1 → Grows made w (done code th c rest xs made w (w + k) nx)
done_grows code th c rest xs made w k (goes i) le = record { first = same_asks made; more = omega arith; few = omega (arith, le) }
done_grows code th c rest [] made w k (asks a after) le = record { first = (a ∷ [], refl); more = omega arith; few = omega (arith, le) }
done_grows code th c rest (x ∷ xs) made w k (asks a after) le = record { first = (a ∷ [], refl); more = omega arith; few = omega (arith, le) }
done_grows code th c rest xs made w k stuck le = record { first = same_asks made; more = omega arith; few = omega (arith, le) }

contexts_grow : (code : CodeTree) (th : Thread) (cs : List Context) (xs : List Answer) (made : List Ask) (w : ℕ) → Grows made w (turn_of code th cs xs made w)
contexts_grow code th [] xs made w = record { first = same_asks made; more = omega arith; few = omega arith }
contexts_grow code th (c ∷ rest) xs made w = done_grows code th c rest xs made w (work_of code c) (next_of code c) (work_few c.inside.fault (slice_get (ops_of code c.inside.frame.unit) c.inside.frame.at))

turn_grows : (code : CodeTree) (s : Lone) → Grows (asks_in s) (work_done s) (turn code s)
turn_grows code (runs th xs made w) = contexts_grow code th th.contexts xs made w
turn_grows code (waits made w) = record { first = same_asks made; more = omega arith; few = omega arith }

pub record TurnsGrow (made : List Ask) (w m : ℕ) (s : Lone) : Type 0 where
  pub first : AreFirst made (asks_in s)
  pub more : w ≤ work_done s
  pub few : work_done s ≤ w + m

pub turns_grow : (code : CodeTree) (m : ℕ) (s : Lone) → TurnsGrow (asks_in s) (work_done s) m (turns code m s)
turns_grow code zero s = record { first = same_asks (asks_in s); more = omega arith; few = omega arith }
turns_grow code (suc m) s =
    let a = turn_grows code s in
    let b = turns_grow code m (turn code s) in
    record { first = first_of_first _ _ _ a.first b.first; more = omega (arith, a.more, b.more); few = omega (arith, a.few, b.few) }

-- what stays as it is
pub stays : (code : CodeTree) (m : ℕ) (s : Lone) → turn code s ≡ s → turns code m s ≡ s
stays code zero s e = refl
stays code (suc m) s e = ap (turns code m) e ∙ stays code m s e

-- a thread that is stuck stays so
stuck_turn : (code : CodeTree) (th : Thread) (cs : List Context) (xs : List Answer) (made : List Ask) (w : ℕ) → standing_in code cs ≡ is_stuck → turn_of code th cs xs made w ≡ runs th xs made w
stuck_turn code th [] xs made w e = refl
stuck_turn code th (c ∷ rest) xs made w e = go (next_of code c) e
  where
    go : (nx : Next) → stands nx ≡ is_stuck → done code th c rest xs made w (w + work_of code c) nx ≡ runs th xs made w
    go (goes i) e = absurd cc
    go (asks a after) e = absurd cc
    go stuck e = refl

-- it stays as it is, or it is not stuck
pub stays_or_fine : (code : CodeTree) (s : Lone) → (turn code s ≡ s → ⊥) → NotStuck code s
stays_or_fine code (runs th xs made w) h = λ e. h (stuck_turn code th th.contexts xs made w e)
stays_or_fine code (waits made w) h = tt

pub stays_or_fine_or : (code : CodeTree) (s : Lone) → (turn code s ≡ s → NotStuck code s) → NotStuck code s
stays_or_fine_or code (runs th xs made w) h = λ e. h (stuck_turn code th th.contexts xs made w e) e
stays_or_fine_or code (waits made w) h = tt
