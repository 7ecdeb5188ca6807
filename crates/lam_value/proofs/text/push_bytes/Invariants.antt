use Rattle.std.proofs.Common.{◌≡◌, ◌++◌, ◌∷◌, drop, string_bytes}
use Rattle.lam_value.specs.Texts.{all_escaped}
use Rattle.lam_value.proofs.text.push_bytes.Given as goal

abbrev pub invariant-loop-byte : goal.invariant-loop-byte
invariant-loop-byte l = string_bytes l.text ++ all_escaped (drop l.byte-index l.bytes) ≡ string_bytes l.fn.text ++ 34 ∷ all_escaped l.bytes
