use Rattle.std.proofs.Common.{◌∙◌, sym, ap, length}
use Rattle.std.specs.Option.{option_copied}
use Rattle.labelled_heap.specs.Seen.{things_in}
use Rattle.labelled_heap.proofs.RowLemmas.{found}
use Rattle.labelled_heap.proofs.ThingLemmas.{none_there, slots_there}
use Rattle.labelled_heap.proofs.heap.Heap.size.Goals as goal

pub returns-in-None : goal.returns-in-None
returns-in-None c = ap length (none_there (things_in c.self.inside.rows.entries) c.self.inside.counters c.args.self.now c.self.view_is c.args.r.now (found c.self.inside.rows.entries c.self.invariant.kept.unique c.args.r.now ∙ sym c.thing_of.ensures ∙ ap option_copied c.in-None.is))

pub returns-in-Some : goal.returns-in-Some
returns-in-Some c = c.len.ensures ∙ ap length (slots_there (things_in c.self.inside.rows.entries) c.self.inside.counters c.args.self.now c.self.view_is c.args.r.now c.in-Some.thing.now (found c.self.inside.rows.entries c.self.invariant.kept.unique c.args.r.now ∙ sym c.thing_of.ensures ∙ ap option_copied c.in-Some.is))
