use Rattle.std.proofs.Common.{slice_get, refl}
use Rattle.lam_grammar.specs.Table.{item}
use Rattle.lam_parser_tokens.proofs.Rules.{broke, begun}
use Rattle.lam_parser_parts.proofs.Steps.{next_fails}
use Rattle.lam_parser.proofs.ItemBodies.{function_body, function_front}
use Rattle.lam_parser.proofs.items.item.Goals as goal

pub returns-in_err-word-2-clause-reads : goal.returns-in_err-word-2-clause-reads
returns-in_err-word-2-clause-reads c =
    let none = rw c.in_default.is at c.in_ok-word.ensures.takes in
    rw (broke _ c.from_residual-in_err-word-2.ensures.1) (next_fails (begun (slice_get c.args.tokens.now) item 0 c.args.at refl (function_body none)) (function_front (slice_get c.args.tokens.now c.args.at) c.requires.begun none.no) _ (c.in_err-word-2.ensures.takes _))
