use Rattle.std.proofs.Common.{◌≡◌, true, ◌<◌, ◌≤◌, length, slice_get, ◌+◌, ◌-◌, ◌*◌}
use Rattle.lam_syntax.specs.Tree.{StmtList}
use Rattle.lam_grammar.specs.Table.{stmt, stmts}
use Rattle.lam_grammar.specs.Meaning.{stmts_value}
use Rattle.lam_grammar.specs.Examples.{examples}
use Rattle.lam_parser_tokens.proofs.Rules.{Loop}
use Rattle.lam_parser.proofs.Lists.{stmts_before}
use Rattle.lam_parser.proofs.stmts.+statement.Given as goal

abbrev pub invariant-block-loop-alloc : goal.invariant-block-loop-alloc
invariant-block-loop-alloc l = record {
  loop : Loop StmtList stmts_value (slice_get l.tokens) stmts stmts l.inner (l.at + 1) (λ os. stmts_value (stmts_before l.body.items os)) l.next l.inner (λ w. examples.closes stmt w ≡ true);
  after : l.at < l.next;
  within : l.next ≤ length l.tokens;
}

abbrev pub decreases-block-loop-alloc : goal.decreases-block-loop-alloc
decreases-block-loop-alloc l = length l.initial.tokens - l.next

abbrev pub decreases-block : goal.decreases-block
decreases-block l = (length l.tokens.now - l.at) * 2

abbrev pub decreases-statement : goal.decreases-statement
decreases-statement l = (length l.tokens.now - l.at) * 2 + 1

abbrev pub decreases-if_statement : goal.decreases-if_statement
decreases-if_statement l = (length l.tokens.now - l.at) * 2

abbrev pub decreases-else_part : goal.decreases-else_part
decreases-else_part l = (length l.tokens.now - l.at) * 2

abbrev pub decreases-while_statement : goal.decreases-while_statement
decreases-while_statement l = (length l.tokens.now - l.at) * 2

abbrev pub decreases-sync_statement : goal.decreases-sync_statement
decreases-sync_statement l = (length l.tokens.now - l.at) * 2

abbrev pub decreases-region_statement : goal.decreases-region_statement
decreases-region_statement l = (length l.tokens.now - l.at) * 2

abbrev pub decreases-handler : goal.decreases-handler
decreases-handler l = (length l.tokens.now - l.at) * 2
