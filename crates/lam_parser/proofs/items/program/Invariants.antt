use Rattle.std.proofs.Common.{◌≤◌, length, ◌-◌}
use Rattle.lam_grammar.specs.Meaning.{items_value}
use Rattle.lam_parser.proofs.Lists.{items_before}
use Rattle.lam_parser.proofs.Left.{ItemsRead}
use Rattle.lam_parser.proofs.items.program.Given as goal

abbrev pub invariant-loop-alloc : goal.invariant-loop-alloc
invariant-loop-alloc l = record {
  read : ItemsRead l.initial.tokens.items l.tokens.items (λ os. items_value (items_before l.items.items os)) l.next;
  within : l.next ≤ length l.tokens.items;
}

abbrev pub decreases-loop-alloc : goal.decreases-loop-alloc
decreases-loop-alloc l = length l.tokens.items - l.next
