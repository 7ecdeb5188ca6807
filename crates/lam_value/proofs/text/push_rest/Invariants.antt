use Rattle.std.proofs.Common.{◌≡◌, ◌++◌, drop, string_bytes}
use Rattle.lam_value.specs.Texts.{after_commas}
use Rattle.lam_value.proofs.text.push_rest.Given as goal

abbrev pub invariant-loop-value : goal.invariant-loop-value
invariant-loop-value l = string_bytes l.text ++ after_commas l.names (drop l.value-index l.rest) ≡ string_bytes l.fn.text ++ after_commas l.names l.rest
