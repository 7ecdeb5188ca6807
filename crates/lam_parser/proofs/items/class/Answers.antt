use Rattle.std.proofs.Common.{◌+◌, sym, subst, slice_get, refl}
use Rattle.lam_syntax.specs.Tree.{vars_tree, class_item}
use Rattle.lam_grammar.specs.Table.{item}
use Rattle.lam_grammar.specs.Meaning.{item_value}
use Rattle.lam_parser_tokens.specs.Reading.{Gives}
use Rattle.lam_parser_tokens.proofs.Rules.{◌▹◌, broke, begun, mark_taken, maybe_taken, rule_read, mark_fails, rule_fails, present, body_of}
use Rattle.lam_parser.proofs.items.class.Goals as goal

pub returns-in_err-name-clause-reads : goal.returns-in_err-name-clause-reads
returns-in_err-name-clause-reads c = rw (broke _ c.from_residual.ensures.1) (mark_fails (begun (slice_get c.args.tokens.now) item 0 c.args.at refl (body_of item (present c.requires.begun) refl (λ b. refl)) ▹ mark_taken c.requires.begun refl) tt _ c.in_err-name.ensures.takes)

pub returns-in_err-take-clause-reads : goal.returns-in_err-take-clause-reads
returns-in_err-take-clause-reads c = rw (broke _ c.from_residual-in_err-take.ensures.1) (mark_fails (begun (slice_get c.args.tokens.now) item 0 c.args.at refl (body_of item (present c.requires.begun) refl (λ b. refl)) ▹ mark_taken c.requires.begun refl ▹ mark_taken c.in_ok-name.ensures.takes.1 refl) tt _ c.in_err-take.ensures.takes)

pub returns-in_err-fields-clause-reads : goal.returns-in_err-fields-clause-reads
returns-in_err-fields-clause-reads c = rw (broke _ c.from_residual-in_err-fields.ensures.1) (rule_fails (begun (slice_get c.args.tokens.now) item 0 c.args.at refl (body_of item (present c.requires.begun) refl (λ b. refl)) ▹ mark_taken c.requires.begun refl ▹ mark_taken c.in_ok-name.ensures.takes.1 refl ▹ mark_taken c.in_ok-take.ensures.takes refl) tt _ c.in_err-fields.ensures.reads)

pub returns-in_err-take-2-clause-reads : goal.returns-in_err-take-2-clause-reads
returns-in_err-take-2-clause-reads c = rw (broke _ c.from_residual-in_err-take-2.ensures.1) (mark_fails (begun (slice_get c.args.tokens.now) item 0 c.args.at refl (body_of item (present c.requires.begun) refl (λ b. refl)) ▹ mark_taken c.requires.begun refl ▹ mark_taken c.in_ok-name.ensures.takes.1 refl ▹ mark_taken c.in_ok-take.ensures.takes refl ▹ maybe_taken c.in_ok-fields.ensures.reads c.in_ok-fields.ensures.goes_on.0) (tt, refl) _ c.in_err-take-2.ensures.takes)

pub returns-clause-reads : goal.returns-clause-reads
returns-clause-reads c = subst (λ x. Gives (slice_get c.args.tokens.now) item 0 c.args.at (item_value (class_item (record { at = c.args.word.now.at; name = x; fields = vars_tree c.in_ok-fields.fields.items }))) (c.in_ok-fields.next + 1) 0) (sym c.in_ok-name.ensures.takes.2) (begun (slice_get c.args.tokens.now) item 0 c.args.at refl (body_of item (present c.requires.begun) refl (λ b. refl)) ▹ mark_taken c.requires.begun refl ▹ mark_taken c.in_ok-name.ensures.takes.1 refl ▹ mark_taken c.in_ok-take.ensures.takes refl ▹ maybe_taken c.in_ok-fields.ensures.reads c.in_ok-fields.ensures.goes_on.0 ▹ mark_taken c.in_ok-take-2.ensures.takes refl ▹ rule_read)
