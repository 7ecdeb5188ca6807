-- What an answer will leave of a thread, once its memory is taken, and what undoes that.
use Rattle.std.specs.Prelude.{ℕ, Bool, true, false, if◌then◌else◌, List, [], ◌∷◌, ◌++◌, take, drop, Option, Some, None}
use Rattle.std.specs.List.{remove}
use Rattle.capabilities.specs.declared.Caps.{Caps}
use Rattle.lam_value.specs.declared.names.Name.{Name}
use Rattle.lam_value.specs.declared.values.Value.{Value}
use Rattle.lam_value.specs.declared.values.Value.TheVariants.{Nothing}
use Rattle.lam_bytecode.specs.declared.unit.UnitKind.{UnitKind}
use Rattle.lam_bytecode.specs.declared.unit.UnitKind.TheVariants.{Function, Region}
use Rattle.lam_asks.specs.declared.ask.Ask.{Ask}
use Rattle.lam_asks.specs.declared.ask.Ask.TheVariants.{End}
use Rattle.lam_asks.specs.declared.answer.Outcome.{Outcome}
use Rattle.thread_steps.specs.Threads.{Inside, Catch, Context, Thread}
use Rattle.thread_steps.specs.Next.{frame_at, outermost, with_held, held_by, without}
use Rattle.thread_core_effects.specs.Acting.{left_over}
use Rattle.thread_core.specs.Moves.{failed}
use Rattle.thread_core_answers.specs.declared.plan.Left.{Left}
use Rattle.thread_core_answers.specs.declared.plan.Monitor.{Monitor}
use Rattle.thread_core_answers.specs.declared.plan.Monitor.TheVariants as monitor
use Rattle.thread_core_answers.specs.declared.plan.Going.{Going}
use Rattle.thread_core_answers.specs.declared.plan.Plan.{Plan}
use Rattle.thread_core_answers.specs.declared.plan.Plan.TheVariants as plan

-- what stands when an ask was answered, below its value
abbrev pub after_of : Left → Inside → Inside
after_of l i = record { frame = frame_at i.frame l.at i.frame.locals (left_over l.takes l.leaves_null i.frame.stack); callers = i.callers; fault = i.fault }

-- what an answer puts on the operands: its value, where it has one, above null, where the ask leaves it
abbrev pub nulls : Bool → List Value
nulls true = Nothing ∷ []
nulls false = []

abbrev pub without_at : Option ℕ → List Name → List Name
without_at None ns = ns
without_at (Some k) ns = remove ns k

abbrev pub held_after : Monitor → List Name → List Name
held_after monitor.Stays ns = ns
held_after monitor.Taken ns = ns
held_after (monitor.Given k) ns = remove ns k

abbrev pub held_before : Monitor → List Name → List Name
held_before monitor.Stays ns = ns
held_before monitor.Taken ns = drop 1 ns
held_before (monitor.Given k) ns = ns

abbrev pub caps_or : Option Caps → Caps → Caps
caps_or None c = c
caps_or (Some d) c = d

-- a context goes on: the operands below those that were put on go, as many as the ask takes
abbrev pub gone : Going → Context → Context
gone g c =
    record {
      label = c.label;
      caps = caps_or g.caps c.caps;
      depth = c.depth;
      phase = c.phase;
      held = held_after g.monitor c.held;
      inside = record {
        frame = frame_at c.inside.frame g.at c.inside.frame.locals (take g.added c.inside.frame.stack ++ drop g.takes (drop g.added c.inside.frame.stack));
        callers = c.inside.callers;
        fault = if g.clears then None else c.inside.fault;
      };
    }

abbrev pub undone : Going → Context → Context
undone g c =
    record {
      label = c.label;
      caps = c.caps;
      depth = c.depth;
      phase = c.phase;
      held = held_before g.monitor c.held;
      inside = record {
        frame = frame_at c.inside.frame c.inside.frame.at c.inside.frame.locals (drop g.added c.inside.frame.stack);
        callers = c.inside.callers;
        fault = c.inside.fault;
      };
    }

-- the outermost call is the acting one, at the address and with the operands that stand
abbrev pub unwound : Context → Context
unwound c =
    record {
      label = c.label;
      caps = c.caps;
      depth = c.depth;
      phase = c.phase;
      held = c.held;
      inside = record {
        frame = record {
          unit = (outermost c.inside.frame c.inside.callers).unit;
          at = c.inside.frame.at;
          locals = (outermost c.inside.frame c.inside.callers).locals;
          stack = c.inside.frame.stack;
        };
        callers = [];
        fault = c.inside.fault;
      };
    }

-- the catch block of a region begins at an address, with these operands
abbrev pub caught : Context → ℕ → List Value → Context
caught c at s =
    record {
      label = c.label;
      caps = c.caps;
      depth = c.depth;
      phase = Catch;
      held = [];
      inside = record {
        frame = frame_at (outermost c.inside.frame c.inside.callers) at (outermost c.inside.frame c.inside.callers).locals s;
        callers = [];
        fault = None;
      };
    }

abbrev pub done_in : Plan → List Context → List Context
done_in (plan.Fails f) (c ∷ rest) = failed c f ∷ rest
done_in plan.Leaves (c ∷ rest) = rest
done_in (plan.Catches at stack) (c ∷ rest) = caught c at stack ∷ rest
done_in (plan.Goes g) (c ∷ rest) = gone g c ∷ rest
done_in (plan.Enters g) (r ∷ c ∷ rest) = r ∷ gone g c ∷ rest
done_in p cs = cs

abbrev pub undone_in : Plan → List Context → List Context
undone_in (plan.Goes g) (c ∷ rest) = undone g c ∷ rest
undone_in (plan.Enters g) (r ∷ c ∷ rest) = undone g c ∷ rest
undone_in p cs = cs

abbrev pub result_or : Option Outcome → Option Outcome → Option Outcome
result_or None old = old
result_or (Some r) old = Some r

-- the thread before the answer, and after it
pub record Ready : Type 0 where
  pub before : Thread
  pub after : Thread

abbrev pub ready_of : Thread → Plan → Option Outcome → Ready
ready_of th p r =
    record {
      before = record { contexts = undone_in p th.contexts; result = th.result };
      after = record { contexts = done_in p th.contexts; result = result_or r th.result };
    }

-- the outcome of the ask by which a thread ends
abbrev pub ending_of : Ask → Option Outcome
ending_of (End r) = Some r
ending_of a = None

-- ---- monitors

abbrev pub taken_by : Value → Context → Context
taken_by r c = with_held c (held_by r (λ n. n ∷ c.held) c.held)

abbrev pub given_by : Value → Context → Context
given_by r c = with_held c (held_by r (λ n. without n c.held) c.held)

-- ---- regions

abbrev pub catch_place_in : UnitKind → ℕ
catch_place_in (Function name takes gives_int) = 0
catch_place_in (Region region captures catch_at) = catch_at
