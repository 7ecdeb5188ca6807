use Rattle.std.proofs.Common.{◌≡◌, ◌++◌, drop, string_bytes}
use Rattle.lam_bytecode.specs.Listing.{op_lines}
use Rattle.lam_bytecode.proofs.text.push_ops.Given as goal

abbrev pub invariant-loop-at : goal.invariant-loop-at
invariant-loop-at l = string_bytes l.text ++ op_lines l.constants l.at (drop l.at l.ops) ≡ string_bytes l.fn.text ++ op_lines l.constants 0 l.ops
