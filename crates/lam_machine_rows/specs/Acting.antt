-- What the reference monitor reads of the acting context.
use Rattle.std.specs.Prelude.{ℕ, Bool, List}
use Rattle.flow_labels.specs.declared.Label.{Label}
use Rattle.capabilities.specs.declared.Caps.{Caps}
use Rattle.lam_value.specs.declared.names.Name.{Name}
use Rattle.thread_steps.specs.Threads.{Context}
use Rattle.lam_machine_effects.specs.Turns.{is_bottom}

pub record Acting : Type 0 where
  pub label : Label
  pub caps : Caps
  pub depth : ℕ
  -- whether it is the thread's first context
  pub first : Bool
  -- the monitors that it took, the last one first
  pub held : List Name

abbrev pub acting_of : Context → Acting
acting_of c = record { label = c.label; caps = c.caps; depth = c.depth; first = is_bottom c.phase; held = c.held }
