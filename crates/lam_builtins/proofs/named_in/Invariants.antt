use Rattle.std.proofs.Common.{◌≡◌, drop}
use Rattle.lam_builtins.specs.Builtins.{named_in}
use Rattle.lam_builtins.proofs.named_in.Given as goal

abbrev pub invariant-loop-call : goal.invariant-loop-call
invariant-loop-call l = named_in l.name l.calls ≡ named_in l.name (drop l.call-index l.calls)
