use Rattle.std.proofs.Common.{◌≤◌, length, slice_get, ◌-◌, List}
use Rattle.lam_syntax.specs.Tree.{VarTree}
use Rattle.lam_grammar.specs.Table.{fields}
use Rattle.lam_grammar.specs.Meaning.{variables_value}
use Rattle.lam_parser_tokens.proofs.Rules.{Loop}
use Rattle.lam_parser_parts.proofs.NameLists.{vars_before}
use Rattle.lam_parser_parts.proofs.variables.fields.Given as goal

abbrev pub invariant-loop-alloc : goal.invariant-loop-alloc
invariant-loop-alloc l = record {
  loop : Loop (List VarTree) variables_value (slice_get l.tokens) fields fields l.depth l.at (λ os. variables_value (vars_before l.all.items os)) l.next l.depth (λ w. Unit {0});
  after : l.at ≤ l.next;
  within : l.next ≤ length l.tokens;
}

abbrev pub decreases-loop-alloc : goal.decreases-loop-alloc
decreases-loop-alloc l = length l.initial.tokens - l.next
