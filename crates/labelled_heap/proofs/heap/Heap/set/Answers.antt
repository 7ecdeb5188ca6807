use Rattle.std.proofs.Common.{◌∙◌, sym, ap, slice_get}
use Rattle.std.specs.Option.{option_copied_mut}
use Rattle.lam_value.specs.Homes.{home_of}
use Rattle.lam_value.proofs.Maps.{some_is}
use Rattle.labelled_heap.specs.Seen.{things_in}
use Rattle.labelled_heap.proofs.RowLemmas.{no_row, row_slots, row_set, rows_set, slot_rows, slot_sound}
use Rattle.labelled_heap.proofs.ThingLemmas.{none_there, unwritten}
use Rattle.labelled_heap.proofs.heap.Heap.set.Goals as goal

pub returns-in-None-clause-old : goal.returns-in-None-clause-old
returns-in-None-clause-old c =
    c.none_of.ensures
    ∙ ap (λ xs. slice_get xs c.args.at) (none_there (things_in c.self.inside.rows.entries) c.self.inside.counters c.args.self.now c.self.view_is c.args.r.now
    (no_row c.self.inside.rows.entries c.self.inside.counters c.args.self.now c.self.invariant.kept.unique c.self.view_is c.home.result.now c.args.r.now c.home.ensures (sym c.get_mut.ensures.value ∙ ap option_copied_mut c.in-None.is)))

pub returns-in-None-clause-new : goal.returns-in-None-clause-new
returns-in-None-clause-new c =
    unwritten (things_in c.self.inside.rows.entries) c.self.inside.counters c.args.self.now c.self.view_is (things_in c.get_mut.follows.lender-at-none.entries) c.args.r.now c.args.at c.args.v (ap (λ m. things_in m.entries) c.get_mut.follows.holds-at-none)
    (no_row c.self.inside.rows.entries c.self.inside.counters c.args.self.now c.self.invariant.kept.unique c.self.view_is c.home.result.now c.args.r.now c.home.ensures (sym c.get_mut.ensures.value ∙ ap option_copied_mut c.in-None.is))

pub returns-in-Some-clause-old : goal.returns-in-Some-clause-old
returns-in-Some-clause-old c =
    c.set_in_row.ensures.old
    ∙ ap (λ xs. slice_get xs c.args.at) (row_slots c.self.inside.rows.entries c.self.inside.counters c.args.self.now c.self.invariant.kept.unique c.self.view_is c.home.result.now c.in-Some.row.now c.n.result c.args.r.now c.home.ensures c.n.ensures
    (sym c.get_mut.ensures.value ∙ ap option_copied_mut c.in-Some.is))

pub returns-in-Some-clause-new : goal.returns-in-Some-clause-new
returns-in-Some-clause-new c =
    let was = sym c.get_mut.ensures.value ∙ ap option_copied_mut c.in-Some.is in
    let new = c.get_mut.follows.lender c.set_in_row.new.row in
    let wrote = (c.get_mut.follows.holds c.set_in_row.new.row).3 (some_is _ c.in-Some.row.now was) in
    let unique = (c.get_mut.follows.holds c.set_in_row.new.row).4 in
    slot_rows c.self.inside.rows new c.self.inside.counters c.args.self.now c.self.invariant c.self.view_is c.args.r.now c.args.at c.args.v
    (rows_set c.self.inside.rows new c.self.invariant.kept c.home.result.now c.in-Some.row.now c.set_in_row.new.row c.n.result c.args.at c.args.v unique wrote.0 was c.set_in_row.ensures.new)
    (row_set c.self.inside.rows.entries new.entries c.home.result.now (home_of c.args.r.now.maker c.args.r.now.own) c.in-Some.row.now c.set_in_row.new.row c.n.result c.args.r.now.n c.args.at c.args.v c.home.ensures c.n.ensures was c.set_in_row.ensures.new wrote.0)

pub invariant_of-self-in-Some : goal.invariant_of-self-in-Some
invariant_of-self-in-Some c =
    let was = sym c.get_mut.ensures.value ∙ ap option_copied_mut c.in-Some.is in
    let new = c.get_mut.follows.lender c.set_in_row.new.row in
    let wrote = (c.get_mut.follows.holds c.set_in_row.new.row).3 (some_is _ c.in-Some.row.now was) in
    let unique = (c.get_mut.follows.holds c.set_in_row.new.row).4 in
    slot_sound c.self.inside.rows new c.self.inside.counters c.args.self.now c.self.invariant c.self.view_is c.args.r.now c.args.at c.args.v
    (rows_set c.self.inside.rows new c.self.invariant.kept c.home.result.now c.in-Some.row.now c.set_in_row.new.row c.n.result c.args.at c.args.v unique wrote.0 was c.set_in_row.ensures.new)
    (row_set c.self.inside.rows.entries new.entries c.home.result.now (home_of c.args.r.now.maker c.args.r.now.own) c.in-Some.row.now c.set_in_row.new.row c.n.result c.args.r.now.n c.args.at c.args.v c.home.ensures c.n.ensures was c.set_in_row.ensures.new wrote.0)
