use Rattle.std.proofs.Common.{◌≤◌, take}
use Rattle.lam_io.specs.Outside.{Took}
use Rattle.lam_main_print.specs.Lines.{texts, joined}
use Rattle.lam_main_print.proofs.print_parts.Given as goal

abbrev pub invariant-loop-part : goal.invariant-loop-part
invariant-loop-part g l = record {
  took : Took (g.O.Sink.taken l.fn.out) (g.O.Sink.taken l.out) (joined (texts (take l.part-index l.parts)));
  later : g.O.Sink.faults l.fn.out ≤ g.O.Sink.faults l.out;
}
