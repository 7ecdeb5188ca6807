use Rattle.turn_book.proofs.BookLemmas.{gives_ok, gives_only, gives_broken}
use Rattle.turn_book.proofs.read_book.Goals as goal

pub returns-clause-ok : goal.returns-clause-ok
returns-clause-ok c = gives_ok c.read_turns.result c.args.text.now c.read_turns.ensures

pub returns-clause-only : goal.returns-clause-only
returns-clause-only c = gives_only c.read_turns.result c.args.text.now c.read_turns.ensures

pub returns-clause-broken : goal.returns-clause-broken
returns-clause-broken c = gives_broken c.read_turns.result c.args.text.now c.read_turns.ensures
