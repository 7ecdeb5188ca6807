use Rattle.std.proofs.Common.{ap, sym, ◌∙◌}
use Rattle.lam_asks.specs.Suits.{want_of}
use Rattle.source_walk_state.specs.Meaning.{sort_seen}
use Rattle.source_walk_parts.proofs.answers.want_of.Goals as goal

pub returns-in-New : goal.returns-in-New
returns-in-New c = c.made.ensures (sort_seen c.args.sort) ∙ ap (want_of (sort_seen c.args.sort)) (sym c.in-New.is)
