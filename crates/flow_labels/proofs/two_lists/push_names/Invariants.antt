use Rattle.std.proofs.Common.{◌≡◌, ◌++◌, take, map, string_bytes}
use Rattle.flow_labels.specs.TwoLists.{joined, tag_text}
use Rattle.flow_labels.proofs.two_lists.push_names.Given as goal

abbrev pub invariant-loop-at : goal.invariant-loop-at
invariant-loop-at l = string_bytes l.text ≡ string_bytes l.fn.text ++ joined (map (tag_text l.names) (take l.at l.tags))
