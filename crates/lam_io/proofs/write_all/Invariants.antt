use Rattle.std.proofs.Common.{◌≤◌, ◌-◌, length, take, drop}
use Rattle.lam_io.specs.Outside.{Took}
use Rattle.lam_io.proofs.WriteLemmas.{GoesOn}
use Rattle.lam_io.proofs.write_all.Given as goal

abbrev pub invariant-loop-done : goal.invariant-loop-done
invariant-loop-done g l = record {
  within : l.done ≤ length l.text;
  later : g.O.Sink.faults l.fn.out ≤ g.O.Sink.faults l.out;
  calls : GoesOn g.O.Sink.gives l.fn.out l.text l.out (drop l.done l.text);
  took : Took (g.O.Sink.taken l.fn.out) (g.O.Sink.taken l.out) (take l.done l.text);
}

abbrev pub decreases-loop-done : goal.decreases-loop-done
decreases-loop-done g l = length l.text - l.done
