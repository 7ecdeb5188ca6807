use Rattle.std.proofs.Common.{◌≡◌, ◌∙◌, sym, ap, arith}
use Rattle.lam_value.specs.Homes.{home_of}
use Rattle.lam_value.proofs.Maps.{on_err, not_none}
use Rattle.std.specs.Option.{option_copied}
use Rattle.labelled_heap.specs.Things.{with_thing}
use Rattle.labelled_heap.specs.Seen.{things_in, things_of}
use Rattle.labelled_heap.proofs.RowLemmas.{found, kept_rows, kept_sound, added_rows, added_sound}
use Rattle.labelled_heap.proofs.ThingLemmas.{no_slots, copy_seen}
use Rattle.labelled_heap.proofs.heap.Heap.copy_to.Goals as goal

made : (c : goal.In_ok-name) → things_of (things_in c.add_thing.new.rows.entries) c.add_thing.new.counters ≡ with_thing c.args.self.now (home_of c.args.maker.now c.args.own.now) c.in-Some.thing.now.sort c.in-Some.thing.now.slots
made c =
    let home = home_of c.args.maker.now c.args.own.now in
    added_rows c.self.inside.rows c.add_thing.new.rows c.self.inside.counters c.args.self.now c.self.invariant c.self.view_is c.add_thing.new.counters home c.next-number.result c.in_ok-thing.thing
    c.in_ok-name.ensures.rows c.next-number.ensures.value c.in_ok-name.ensures.counters c.in_ok-name.ensures.things
    ∙ ap (λ t. with_thing c.args.self.now home t.sort t.slots) c.in_ok-thing.ensures

pub invariant_of-self : goal.invariant_of-self
invariant_of-self c = kept_sound c.self.inside.rows c.add_thing.new.rows c.self.inside.counters c.args.self.now c.self.invariant c.self.view_is c.add_thing.new.counters c.in_err-name.ensures.rows c.in_err-name.ensures.same_things c.in_err-name.ensures.same_counters

pub returns-in_err-name-clause-err : goal.returns-in_err-name-clause-err
returns-in_err-name-clause-err c =
    on_err _ c.from_residual-in_err-name.result (kept_rows c.self.inside.rows c.add_thing.new.rows c.self.inside.counters c.args.self.now c.self.invariant c.self.view_is c.add_thing.new.counters c.in_err-name.ensures.rows c.in_err-name.ensures.same_things c.in_err-name.ensures.same_counters)

pub invariant_of-self-2 : goal.invariant_of-self-2
invariant_of-self-2 c =
    let home = home_of c.args.maker.now c.args.own.now in
    let number = c.next-number.ensures.value in
    let bound = c.next-number.ensures.bound in
    let free = c.if-number-eq-HOME_LIMIT.false in
    added_sound c.self.inside.rows c.add_thing.new.rows c.self.inside.counters c.args.self.now c.self.invariant c.self.view_is c.add_thing.new.counters home c.next-number.result c.in_ok-thing.thing
    c.in_ok-name.ensures.rows number c.in_ok-name.ensures.counters c.in_ok-name.ensures.things (omega arith)

pub unreachable-requires : goal.unreachable-requires
unreachable-requires c =
    not_none _ c.requires (no_slots (things_in c.self.inside.rows.entries) c.self.inside.counters c.args.self.now c.self.view_is c.args.r.now (found c.self.inside.rows.entries c.self.invariant.kept.unique c.args.r.now ∙ sym c.thing_of.ensures ∙ ap option_copied c.in_default.is))

pub returns-clause-ok : goal.returns-clause-ok
returns-clause-ok c =
    made c
    ∙ copy_seen (things_in c.self.inside.rows.entries) c.self.inside.counters c.args.self.now c.self.view_is c.args.r.now c.in-Some.thing.now (home_of c.args.maker.now c.args.own.now)
    (found c.self.inside.rows.entries c.self.invariant.kept.unique c.args.r.now ∙ sym c.thing_of.ensures ∙ ap option_copied c.in-Some.is)
