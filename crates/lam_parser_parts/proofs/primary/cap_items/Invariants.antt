use Rattle.std.proofs.Common.{◌≡◌, true, ◌<◌, ◌≤◌, ◌-◌, ◌++◌, List, length, slice_get}
use Rattle.lam_syntax.specs.Tree.{CapTree, caps_tree}
use Rattle.lam_grammar.specs.Table.{cap_items, cap_item, cap_tail}
use Rattle.lam_grammar.specs.Meaning.{caps_value}
use Rattle.lam_grammar.specs.Examples.{examples}
use Rattle.lam_parser_tokens.proofs.Rules.{Loop}
use Rattle.lam_parser_parts.proofs.primary.cap_items.Given as goal

abbrev pub invariant-loop-items : goal.invariant-loop-items
invariant-loop-items l = record {
  goes : Loop (List CapTree) caps_value (slice_get l.tokens) cap_items cap_tail l.depth l.at (λ os. caps_value (caps_tree l.items.items ++ os)) l.next l.depth (λ w. examples.closes cap_item w ≡ true);
  after : l.at < l.next;
  within : l.next ≤ length l.tokens;
}

abbrev pub decreases-loop-items : goal.decreases-loop-items
decreases-loop-items l = length l.initial.tokens - l.next
