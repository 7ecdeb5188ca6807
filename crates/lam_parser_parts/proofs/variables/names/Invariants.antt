use Rattle.std.proofs.Common.{◌≤◌, length, slice_get, ◌-◌, List}
use Rattle.lam_syntax.specs.Tree.{IdTree}
use Rattle.lam_grammar.specs.Table.{names, names_tail}
use Rattle.lam_grammar.specs.Meaning.{ids_value}
use Rattle.lam_parser_tokens.proofs.Rules.{Loop}
use Rattle.lam_parser_parts.proofs.NameLists.{ids_before}
use Rattle.lam_parser_parts.proofs.variables.names.Given as goal

abbrev pub invariant-loop-all : goal.invariant-loop-all
invariant-loop-all l = record {
  loop : Loop (List IdTree) ids_value (slice_get l.tokens) names names_tail l.depth l.at (λ os. ids_value (ids_before l.all.items os)) l.next l.depth (λ w. Unit {0});
  after : l.at ≤ l.next;
  within : l.next ≤ length l.tokens;
}

abbrev pub decreases-loop-all : goal.decreases-loop-all
decreases-loop-all l = length l.initial.tokens - l.next
