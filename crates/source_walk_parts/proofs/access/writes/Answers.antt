use Rattle.source_walk_parts.specs.States.{state_of}
use Rattle.source_walk_parts.proofs.Steps.{if_ok}
use Rattle.source_walk_parts.proofs.Taken.{writes_there, writes_barred, writes_raised, writes_broken}
use Rattle.source_walk_parts.proofs.access.writes.Goals as goal

pub returns-in-Reaches : goal.returns-in-Reaches
returns-in-Reaches c = writes_there (state_of c.args.w.now) c.args.access c.args.v c.in-Reaches.r c.in-Reaches.at c.in-Reaches.is

pub returns-in-Bars : goal.returns-in-Bars
returns-in-Bars c = if_ok c.bar.result _ _ c.bar.ensures (λ d w. writes_barred (state_of c.args.w.now) c.args.access c.args.v c.in-Bars.denied d (state_of c.bar.new.w) c.in-Bars.is w)

pub returns-in-Raises : goal.returns-in-Raises
returns-in-Raises c = writes_raised (state_of c.args.w.now) c.args.access c.args.v c.in-Raises.fault c.in-Raises.is

pub returns-in-Breaks : goal.returns-in-Breaks
returns-in-Breaks c = writes_broken (state_of c.args.w.now) c.args.access c.args.v c.in-Breaks.is
