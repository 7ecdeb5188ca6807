use Rattle.std.proofs.Common.{◌∙◌, sym, ap, subst, cond, Some}
use Rattle.std.specs.Prelude.{option_and_then}
use Rattle.std.specs.Option.{option_copied_mut}
use Rattle.std.specs.HashMap.{get}
use Rattle.std.specs.List.{IsDistinct}
use Rattle.std.specs.Map.{keys_of}
use Rattle.flow_labels.specs.declared.Label.{Label}
use Rattle.lam_value_homes.specs.Homes.{label_eq}
use Rattle.lam_value_homes.proofs.Maps.{on_err, some_is}
use Rattle.lam_value_homes.proofs.Rows.{home_set, home_kept, homes_put, homes_kept, homes_unchanged, filled_put, filled_same}
use Rattle.lam_value_homes.proofs.counters.set_count.Goals as goal

pub returns-in_ok-set_row-in-Some-clause-ok : goal.returns-in_ok-set_row-in-Some-clause-ok
returns-in_ok-set_row-in-Some-clause-ok c =
    let there = sym c.get_mut.ensures.value ∙ ap option_copied_mut c.in-Some.is in
    let wrote = c.get_mut.follows.holds c.set_row.new.row in
    home_set c.args.rows.now.entries _ c.set_row.new.row c.args.maker.now c.args.own.now c.args.count (wrote.3 (some_is _ c.in-Some.row.now there)).0
    (λ q. c.in_ok-set_row-in-Some.ensures.ok q ∙ ap (λ o. cond (label_eq c.args.own.now q) (Some c.args.count) (option_and_then (λ r. get label_eq r q) o)) (sym there))

pub returns-in_err-set_row-in-Some-clause-err : goal.returns-in_err-set_row-in-Some-clause-err
returns-in_err-set_row-in-Some-clause-err c =
    let there = sym c.get_mut.ensures.value ∙ ap option_copied_mut c.in-Some.is in
    let wrote = c.get_mut.follows.holds c.set_row.new.row in
    on_err _ c.from_residual.result (home_kept c.args.rows.now.entries _ c.set_row.new.row c.args.maker.now (wrote.3 (some_is _ c.in-Some.row.now there)).0
    (λ q. c.in_err-set_row-in-Some.ensures.err q ∙ ap (λ o. option_and_then (λ r. get label_eq r q) o) (sym there)))

pub returns-in_ok-put_row-in-None-clause-ok : goal.returns-in_ok-put_row-in-None-clause-ok
returns-in_ok-put_row-in-None-clause-ok c =
    let none = sym c.get_mut.ensures.value ∙ ap option_copied_mut c.in-None.is in
    home_set c.args.rows.now.entries c.put_row.new.rows.entries c.in_ok-row-in-None.row c.args.maker.now c.args.own.now c.args.count
    (λ q. c.in_ok-put_row-in-None.ensures.ok q ∙ (λ i. cond (label_eq c.args.maker.now q) (Some c.in_ok-row-in-None.row) (get label_eq (c.get_mut.follows.holds-at-none i) q)))
    (λ q. c.in_ok-row-in-None.ensures.same q ∙ ap (λ o. cond (label_eq c.args.own.now q) (Some c.args.count) (option_and_then (λ r. get label_eq r q) o)) (sym none))

pub returns-in_ok-set_row-in-Some-clause-homes : goal.returns-in_ok-set_row-in-Some-clause-homes
returns-in_ok-set_row-in-Some-clause-homes c =
    let there = sym c.get_mut.ensures.value ∙ ap option_copied_mut c.in-Some.is in
    let wrote = c.get_mut.follows.holds c.set_row.new.row in
    let outer = (wrote.3 (some_is _ c.in-Some.row.now there)).0 in
    homes_put c.args.rows.now _ c.args.maker.now c.args.own.now c.args.count c.set_row.new.row c.requires.homes wrote.4 outer c.in_ok-set_row-in-Some.ensures.unique
    (filled_put c.set_row.new.row.entries c.args.own.now c.args.count _ (c.in_ok-set_row-in-Some.ensures.ok c.args.own.now)) c.requires.some
    (home_set c.args.rows.now.entries _ c.set_row.new.row c.args.maker.now c.args.own.now c.args.count outer
    (λ q. c.in_ok-set_row-in-Some.ensures.ok q ∙ ap (λ o. cond (label_eq c.args.own.now q) (Some c.args.count) (option_and_then (λ r. get label_eq r q) o)) (sym there)))

pub returns-in_err-set_row-in-Some-clause-homes : goal.returns-in_err-set_row-in-Some-clause-homes
returns-in_err-set_row-in-Some-clause-homes c =
    let there = sym c.get_mut.ensures.value ∙ ap option_copied_mut c.in-Some.is in
    let wrote = c.get_mut.follows.holds c.set_row.new.row in
    let outer = (wrote.3 (some_is _ c.in-Some.row.now there)).0 in
    homes_kept c.args.rows.now _ c.args.maker.now c.set_row.new.row c.requires.homes wrote.4 outer c.in_err-set_row-in-Some.ensures.unique
    (filled_same c.in-Some.row.now.entries c.set_row.new.row.entries c.in_err-set_row-in-Some.ensures.err (c.requires.homes.filled c.args.maker.now c.in-Some.row.now there))
    (home_kept c.args.rows.now.entries _ c.set_row.new.row c.args.maker.now outer
    (λ q. c.in_err-set_row-in-Some.ensures.err q ∙ ap (λ o. option_and_then (λ r. get label_eq r q) o) (sym there)))

pub returns-in_err-put_row-in-None-clause-homes : goal.returns-in_err-put_row-in-None-clause-homes
returns-in_err-put_row-in-None-clause-homes c =
    let same = c.in_err-put_row-in-None.ensures.err ∙ ap (λ m. m.entries) c.get_mut.follows.holds-at-none in
    homes_unchanged c.args.rows.now c.put_row.new.rows c.requires.homes (subst (λ es. IsDistinct label_eq (keys_of es)) (sym same) c.requires.homes.unique) same

pub returns-in_ok-put_row-in-None-clause-homes : goal.returns-in_ok-put_row-in-None-clause-homes
returns-in_ok-put_row-in-None-clause-homes c =
    let none = sym c.get_mut.ensures.value ∙ ap option_copied_mut c.in-None.is in
    let outer = λ (q : Label). c.in_ok-put_row-in-None.ensures.ok q ∙ (λ i. cond (label_eq c.args.maker.now q) (Some c.in_ok-row-in-None.row) (get label_eq (c.get_mut.follows.holds-at-none i) q)) in
    homes_put c.args.rows.now c.put_row.new.rows c.args.maker.now c.args.own.now c.args.count c.in_ok-row-in-None.row c.requires.homes c.in_ok-put_row-in-None.ensures.unique outer c.in_ok-row-in-None.ensures.unique
    (filled_put c.in_ok-row-in-None.row.entries c.args.own.now c.args.count _ (c.in_ok-row-in-None.ensures.same c.args.own.now)) c.requires.some
    (home_set c.args.rows.now.entries c.put_row.new.rows.entries c.in_ok-row-in-None.row c.args.maker.now c.args.own.now c.args.count outer
    (λ q. c.in_ok-row-in-None.ensures.same q ∙ ap (λ o. cond (label_eq c.args.own.now q) (Some c.args.count) (option_and_then (λ r. get label_eq r q) o)) (sym none)))
