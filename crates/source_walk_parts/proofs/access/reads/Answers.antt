use Rattle.source_walk_parts.specs.States.{state_of}
use Rattle.source_walk_parts.proofs.Steps.{if_ok}
use Rattle.source_walk_parts.proofs.Taken.{reads_there, reads_barred, reads_raised, reads_broken}
use Rattle.source_walk_parts.proofs.access.reads.Goals as goal

pub returns-in-Reaches : goal.returns-in-Reaches
returns-in-Reaches c = reads_there (state_of c.args.w.now) c.args.access c.args.sort c.in-Reaches.r c.in-Reaches.at c.in-Reaches.is

pub returns-in-Bars : goal.returns-in-Bars
returns-in-Bars c = if_ok c.bar.result _ _ c.bar.ensures (λ d w. reads_barred (state_of c.args.w.now) c.args.access c.args.sort c.in-Bars.denied d (state_of c.bar.new.w) c.in-Bars.is w)

pub returns-in-Raises : goal.returns-in-Raises
returns-in-Raises c = reads_raised (state_of c.args.w.now) c.args.access c.args.sort c.in-Raises.fault c.in-Raises.is

pub returns-in-Breaks : goal.returns-in-Breaks
returns-in-Breaks c = reads_broken (state_of c.args.w.now) c.args.access c.args.sort c.in-Breaks.is
