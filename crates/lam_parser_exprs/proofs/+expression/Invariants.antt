use Rattle.std.proofs.Common.{◌≡◌, true, ◌<◌, ◌≤◌, ◌+◌, ◌-◌, length, slice_get}
use Rattle.lam_syntax.specs.Tree.{expr_tree, ExprList, exprs_tree}
use Rattle.lam_grammar.specs.Table.{chain, chain_tail, operand_rule, post, post_tail, expr, args, args_tail}
use Rattle.lam_grammar.specs.Meaning.{Operations, operations_value, combine, Postfixes, postfixes_value, extend, expr_value, exprs_value}
use Rattle.lam_grammar.specs.Program.{most_depth}
use Rattle.lam_grammar.specs.Examples.{examples}
use Rattle.lam_parser_tokens.proofs.Rules.{Loop}
use Rattle.lam_parser_exprs.proofs.Ranks.{measure, chain_rank, operand_rank}
use Rattle.lam_parser_exprs.proofs.Lists.{joined}
use Rattle.lam_parser_exprs.proofs.+expression.Given as goal

abbrev pub decreases-operators::expression : goal.decreases-operators::expression
decreases-operators::expression l = measure (length l.tokens.now) l.at 21

abbrev pub decreases-operators::chain : goal.decreases-operators::chain
decreases-operators::chain l = measure (length l.tokens.now) l.at (chain_rank l.level)

abbrev pub decreases-operators::operand : goal.decreases-operators::operand
decreases-operators::operand l = measure (length l.tokens.now) l.at (operand_rank l.level)

abbrev pub decreases-operators::comparison : goal.decreases-operators::comparison
decreases-operators::comparison l = measure (length l.tokens.now) l.at 16

abbrev pub decreases-operators::unary : goal.decreases-operators::unary
decreases-operators::unary l = measure (length l.tokens.now) l.at 11

abbrev pub decreases-operators::postfix : goal.decreases-operators::postfix
decreases-operators::postfix l = measure (length l.tokens.now) l.at 10

abbrev pub decreases-operators::indexed : goal.decreases-operators::indexed
decreases-operators::indexed l = measure (length l.tokens.now) l.of.next 5

abbrev pub invariant-operators::chain-loop-left : goal.invariant-operators::chain-loop-left
invariant-operators::chain-loop-left l = record {
  goes : Loop Operations operations_value (slice_get l.tokens) (chain l.level) (chain_tail l.level) l.depth l.at (λ os. expr_value l.left.begin (combine l.left.begin (expr_tree l.left.expr.value) os)) l.left.next l.left.depth (λ w. examples.closes (operand_rule l.level) w ≡ true);
  after : l.at < l.left.next;
  within : l.left.next ≤ length l.tokens;
  low : l.left.depth ≤ most_depth + 22;
}

abbrev pub decreases-operators::chain-loop-left : goal.decreases-operators::chain-loop-left
decreases-operators::chain-loop-left l = length l.initial.tokens - l.left.next

abbrev pub invariant-operators::postfix-loop-of : goal.invariant-operators::postfix-loop-of
invariant-operators::postfix-loop-of l = record {
  goes : Loop Postfixes postfixes_value (slice_get l.tokens) post post_tail l.depth l.at (λ os. expr_value l.of.begin (extend l.of.begin (expr_tree l.of.expr.value) os)) l.of.next l.of.depth (λ w. ⊥);
  after : l.at < l.of.next;
  within : l.of.next ≤ length l.tokens;
  low : l.of.depth ≤ most_depth + 22;
}

abbrev pub decreases-operators::postfix-loop-of : goal.decreases-operators::postfix-loop-of
decreases-operators::postfix-loop-of l = length l.initial.tokens - l.of.next

abbrev pub decreases-primary::primary : goal.decreases-primary::primary
decreases-primary::primary l = measure (length l.tokens.now) l.at 9

abbrev pub decreases-primary::parens : goal.decreases-primary::parens
decreases-primary::parens l = measure (length l.tokens.now) l.at 3

abbrev pub decreases-primary::named : goal.decreases-primary::named
decreases-primary::named l = measure (length l.tokens.now) l.at 5

abbrev pub decreases-primary::arguments : goal.decreases-primary::arguments
decreases-primary::arguments l = measure (length l.tokens.now) l.at 3

abbrev pub decreases-primary::list : goal.decreases-primary::list
decreases-primary::list l = measure (length l.tokens.now) l.at 22

abbrev pub decreases-primary::created : goal.decreases-primary::created
decreases-primary::created l = measure (length l.tokens.now) l.at 5

abbrev pub decreases-primary::new_part : goal.decreases-primary::new_part
decreases-primary::new_part l = measure (length l.tokens.now) l.at 4

abbrev pub decreases-primary::new_array : goal.decreases-primary::new_array
decreases-primary::new_array l = measure (length l.tokens.now) l.at 3

abbrev pub decreases-primary::label_of : goal.decreases-primary::label_of
decreases-primary::label_of l = measure (length l.tokens.now) l.at 5

abbrev pub decreases-primary::spawned : goal.decreases-primary::spawned
decreases-primary::spawned l = measure (length l.tokens.now) l.at 5

abbrev pub invariant-primary::list-loop-args : goal.invariant-primary::list-loop-args
invariant-primary::list-loop-args l = record {
  goes : Loop ExprList exprs_value (slice_get l.tokens) args args_tail l.depth l.at (λ os. exprs_value (joined (exprs_tree l.args.items) os)) l.next l.depth (λ w. examples.closes expr w ≡ true);
  after : l.at < l.next;
  within : l.next ≤ length l.tokens;
}

abbrev pub decreases-primary::list-loop-args : goal.decreases-primary::list-loop-args
decreases-primary::list-loop-args l = length l.initial.tokens - l.next
