use Rattle.std.proofs.Common.{◌∙◌, sym, ap, set, [], slice_get}
use Rattle.std.specs.Option.{option_map, unwrap_or}
use Rattle.labelled_heap.specs.declared.heap.Thing.{Thing}
use Rattle.labelled_heap.proofs.RowLemmas.{at_read, at_past, not_written, set_written}
use Rattle.labelled_heap.proofs.heap.set_in_row.Goals as goal

pub returns-in-None-clause-new : goal.returns-in-None-clause-new
returns-in-None-clause-new c =
    let none = at_past c.args.row.now.things.items c.args.number c.in-None.ensures.item.3 in
    sym (not_written c.args.row.now.things.items c.args.number c.args.at c.args.v none)

pub returns-in-Some-clause-old : goal.returns-in-Some-clause-old
returns-in-Some-clause-old c =
    let there = at_read c.args.row.now.things.items c.args.number c.in-Some.thing.now c.in-Some.ensures.item.3.0 c.in-Some.ensures.value in
    c.set_slot.ensures.old ∙ ap (λ o. slice_get (unwrap_or (option_map (λ (t : Thing). t.slots) o) []) c.args.at) (sym there)

pub returns-in-Some-clause-new : goal.returns-in-Some-clause-new
returns-in-Some-clause-new c =
    let there = at_read c.args.row.now.things.items c.args.number c.in-Some.thing.now c.in-Some.ensures.item.3.0 c.in-Some.ensures.value in
    ap (set c.args.row.now.things.items c.args.number) c.set_slot.ensures.new ∙ set_written c.args.row.now.things.items c.args.number c.args.at c.args.v c.in-Some.thing.now there
