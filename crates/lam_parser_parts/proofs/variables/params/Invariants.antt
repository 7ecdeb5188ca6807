use Rattle.std.proofs.Common.{◌≡◌, true, ◌≤◌, length, slice_get, ◌-◌, List}
use Rattle.lam_syntax.specs.Tree.{VarTree}
use Rattle.lam_grammar.specs.Table.{variable, params, params_tail}
use Rattle.lam_grammar.specs.Meaning.{variables_value}
use Rattle.lam_grammar.specs.Examples.{examples}
use Rattle.lam_parser_tokens.proofs.Rules.{Loop}
use Rattle.lam_parser_parts.proofs.NameLists.{vars_before}
use Rattle.lam_parser_parts.proofs.variables.params.Given as goal

abbrev pub invariant-loop-all : goal.invariant-loop-all
invariant-loop-all l = record {
  loop : Loop (List VarTree) variables_value (slice_get l.tokens) params params_tail l.depth l.at (λ os. variables_value (vars_before l.all.items os)) l.next l.depth (λ w. examples.closes variable w ≡ true);
  after : l.at ≤ l.next;
  within : l.next ≤ length l.tokens;
}

abbrev pub decreases-loop-all : goal.decreases-loop-all
decreases-loop-all l = length l.initial.tokens - l.next
