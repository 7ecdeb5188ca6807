use Rattle.seat_host.proofs.Closing.{closes_by}
use Rattle.seat_host.proofs.seat_table.closed_by.Goals as goal

pub returns-clause-words : goal.returns-clause-words
returns-clause-words c = closes_by c.args.served c.args.drawn c.into_parts.result c.if-served-drawn.false c.into_parts.ensures.err
