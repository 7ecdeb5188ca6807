use Rattle.std.proofs.Common.{◌≡◌, ◌∙◌, ap, arith}
use Rattle.lam_value.specs.Homes.{home_of}
use Rattle.lam_value.proofs.Maps.{on_err}
use Rattle.labelled_heap.specs.Things.{with_thing, sort_of}
use Rattle.labelled_heap.specs.Seen.{things_in, things_of}
use Rattle.lam_value.specs.Shapes.{slots_of}
use Rattle.labelled_heap.proofs.RowLemmas.{kept_rows, kept_sound, added_rows, added_sound}
use Rattle.labelled_heap.proofs.heap.Heap.make.Goals as goal

made : (c : goal.In_ok-name) → things_of (things_in c.add_thing.new.rows.entries) c.add_thing.new.counters ≡ with_thing c.args.self.now (home_of c.args.maker.now c.args.own.now) (sort_of c.args.shape) (slots_of c.args.shape)
made c =
    let home = home_of c.args.maker.now c.args.own.now in
    added_rows c.self.inside.rows c.add_thing.new.rows c.self.inside.counters c.args.self.now c.self.invariant c.self.view_is c.add_thing.new.counters home c.next-number.result c.in_ok-thing.thing
    c.in_ok-name.ensures.rows c.next-number.ensures.value c.in_ok-name.ensures.counters c.in_ok-name.ensures.things
    ∙ ap (λ t. with_thing c.args.self.now home t.sort t.slots) c.in_ok-thing.ensures

pub invariant_of-self : goal.invariant_of-self
invariant_of-self c = kept_sound c.self.inside.rows c.add_thing.new.rows c.self.inside.counters c.args.self.now c.self.invariant c.self.view_is c.add_thing.new.counters c.in_err-name.ensures.rows c.in_err-name.ensures.same_things c.in_err-name.ensures.same_counters

pub returns-in_err-name-clause-err : goal.returns-in_err-name-clause-err
returns-in_err-name-clause-err c =
    on_err _ c.from_residual-in_err-name.result (kept_rows c.self.inside.rows c.add_thing.new.rows c.self.inside.counters c.args.self.now c.self.invariant c.self.view_is c.add_thing.new.counters c.in_err-name.ensures.rows c.in_err-name.ensures.same_things c.in_err-name.ensures.same_counters)

pub invariant_of-self-2 : goal.invariant_of-self-2
invariant_of-self-2 c =
    let home = home_of c.args.maker.now c.args.own.now in
    let number = c.next-number.ensures.value in
    let bound = c.next-number.ensures.bound in
    let free = c.if-number-eq-HOME_LIMIT.false in
    added_sound c.self.inside.rows c.add_thing.new.rows c.self.inside.counters c.args.self.now c.self.invariant c.self.view_is c.add_thing.new.counters home c.next-number.result c.in_ok-thing.thing
    c.in_ok-name.ensures.rows number c.in_ok-name.ensures.counters c.in_ok-name.ensures.things (omega arith)

pub returns-clause-ok : goal.returns-clause-ok
returns-clause-ok = made
