-- What is spawned is a function with all its arguments, in every code.
use Rattle.std.proofs.Common.{ℕ, Bool, true, false, List, [], ◌∷◌, Option, Some, None, length, drop, slice_get, subst}
use Rattle.std.specs.Prelude.{nat_lt, slice_set, if◌then◌else◌}
use Rattle.flow_labels.specs.declared.Label.{Label}
use Rattle.flow_labels.specs.declared.Denied.{Denied}
use Rattle.lam_value.specs.declared.values.Value.{Value}
use Rattle.lam_value.specs.declared.values.Value.TheVariants.{Obj, Arr}
use Rattle.lam_asks.specs.declared.fault.Fault.{Fault}
use Rattle.lam_asks.specs.declared.ask.Ask.{Ask}
use Rattle.lam_asks.specs.declared.ask.Ask.TheVariants as ask
use Rattle.lam_bytecode.specs.Codes.{CodeTree}
use Rattle.lam_bytecode.specs.declared.op.Op.{Op}
use Rattle.lam_bytecode.specs.declared.op.Op.TheVariants.{Load, Store, ReadBarrier, WriteBarrier}
use Rattle.thread_steps.specs.Threads.{Frame, Inside, Phase, Bottom, Context}
use Rattle.thread_steps.specs.Ops.{Did, sets, returns, wants, leaves, breaks, on_any, on_thing, on_constant, stores, barrier, may_read, may_write, effect}
use Rattle.thread_steps.specs.Next.{Next, asks, returned, leaving, next_by, raised, ops_of, around, next_op, next_in, next_of}
use Rattle.guarded_code.specs.declared.known.ValueKind.{ValueKind}
use Rattle.guarded_code.specs.Changes.{Change, Trades, change}
use Rattle.guarded_code.specs.Changes as changes
use Rattle.guarded_code_threads.specs.Laws.{TakesAll, SpawnsAtEntries}
use Rattle.guarded_code_threads.proofs.Trading.{AskTrades, DidTrades, ChangeTrades, IsTrade, op_trades}

module _ (code : CodeTree) where
  abbrev AskSpawns : Ask → Type 0
  AskSpawns (ask.Spawn u vs k) = TakesAll code u vs
  AskSpawns a = Unit {0}

  abbrev DidSpawns : Did → Type 0
  DidSpawns (wants a s) = AskSpawns a
  DidSpawns d = Unit {0}

  abbrev NextSpawns : Next → Type 0
  NextSpawns (asks a i) = AskSpawns a
  NextSpawns n = Unit {0}

  -- ---- operations

  module _ (c : Context) where
    ask_spawns : (at : ℕ) (bs : List ℕ) (g : Option ValueKind) (rest : List Value) (a : Ask) (s : List Value) → AskTrades code at bs g rest a s → AskSpawns a
    ask_spawns at bs g rest (ask.Spawn u vs k) s o = o.1
    ask_spawns at bs g rest a s o = tt

    trade_spawns : (at : ℕ) (bs : List ℕ) (g : Option ValueKind) (rest : List Value) (d : Did) → DidTrades code at bs g rest d → DidSpawns d
    trade_spawns at bs g rest (wants a s) o = ask_spawns at bs g rest a s o.1
    trade_spawns at bs g rest d o = tt

    change_spawns : (s : List Value) (at : ℕ) (bs : List ℕ) (k : Change) → IsTrade k → (d : Did) → ChangeTrades (around code c) s at bs k d → DidSpawns d
    change_spawns s at bs (Trades takes g) t d o = trade_spawns at bs g (drop (length takes) s) d o
    change_spawns s at bs k t d o = absurd t

    load_spawns : (s : List Value) (x : Option Value) → DidSpawns (on_constant s x)
    load_spawns s None = tt
    load_spawns s (Some v) = tt

    store_spawns : (ls : List Value) (n : ℕ) (s : List Value) → DidSpawns (on_any s (λ v s. stores ls n v s))
    store_spawns ls n [] = tt
    store_spawns ls n (v ∷ s) = by (nat_lt n (length ls))
      where
        by : (b : Bool) → DidSpawns (if b then sets (slice_set ls n v) s else breaks)
        by true = tt
        by false = tt

    barrier_spawns : (s : List Value) (x : Option Denied) → DidSpawns (barrier s x)
    barrier_spawns s None = tt
    barrier_spawns s (Some d) = tt

    test_spawns : (s t : List Value) (rule : Label → Option Denied) → DidSpawns (on_thing t (λ n rest. barrier s (rule n.own)))
    test_spawns s (Obj n ∷ t) rule = barrier_spawns s (rule n.own)
    test_spawns s (Arr n len ∷ t) rule = barrier_spawns s (rule n.own)
    test_spawns s t rule = tt

    op_spawns : (s : List Value) (op : Op) → DidSpawns (effect (around code c) s op)
    unfolding effect
    op_spawns s (Load n) = load_spawns s (slice_get c.inside.frame.locals n)
    op_spawns s (Store n) = store_spawns c.inside.frame.locals n s
    op_spawns s (ReadBarrier depth) = test_spawns s (drop depth s) (may_read c.label)
    op_spawns s (WriteBarrier depth) = test_spawns s (drop depth s) (may_write c.label)
    op_spawns s op = change_spawns s 0 (changes.goes 0 op) (change code op) tt (effect (around code c) s op) (op_trades (around code c) s 0 op)

    -- ---- turns

    returned_spawns : (ph : Phase) (i : Inside) (v : Value) (fs : List Frame) → NextSpawns (returned ph i v fs)
    returned_spawns ph i v (f ∷ fs) = tt
    returned_spawns Bottom i v [] = tt
    returned_spawns ph i v [] = tt

    leaving_spawns : (ph : Phase) (i : Inside) → NextSpawns (leaving ph i)
    leaving_spawns Bottom i = tt
    leaving_spawns ph i = tt

    raised_spawns : (ph : Phase) (i : Inside) (f : Fault) → NextSpawns (raised ph i f)
    raised_spawns Bottom i f = tt
    raised_spawns ph i f = tt

    did_spawns : (ph : Phase) (i : Inside) (d : Did) → DidSpawns d → NextSpawns (next_by code ph i d)
    did_spawns ph i (returns v) h = returned_spawns ph i v i.callers
    did_spawns ph i (wants a s) h = h
    did_spawns ph i leaves h = leaving_spawns ph i
    did_spawns ph i d h = tt

    at_op : (x : Option Op) → NextSpawns (next_op code c x)
    at_op None = tt
    at_op (Some op) = did_spawns c.phase c.inside (effect (around code c) c.inside.frame.stack op) (op_spawns c.inside.frame.stack op)

    with_fault : (x : Option Fault) → NextSpawns (next_in code c x)
    with_fault None = at_op (slice_get (ops_of code c.inside.frame.unit) c.inside.frame.at)
    with_fault (Some f) = raised_spawns c.phase c.inside f

    next_spawns : NextSpawns (next_of code c)
    unfolding next_of
    next_spawns = with_fault c.inside.fault

pub spawns_at_entries : (code : CodeTree) → SpawnsAtEntries code
spawns_at_entries code c i unit args caps e = subst (λ n. NextSpawns code n) e (next_spawns code c)
