use Rattle.std.proofs.Common.{◌∙◌, sym, ap, subst}
use Rattle.std.specs.Option.{option_copied_mut}
use Rattle.lam_value.specs.Homes.{home_of}
use Rattle.lam_value.proofs.Maps.{on_err, some_is}
use Rattle.labelled_heap.specs.Seen.{row_at, AreRows}
use Rattle.labelled_heap.proofs.RowLemmas.{row_kept, row_more, row_first, rows_more, rows_kept, there}
use Rattle.labelled_heap.proofs.heap.add_thing.Goals as goal
use Rattle.labelled_heap.proofs.heap.add_thing.Goals.{in-Some+in_ok-put_last-in-Some, in-None+in_ok-put_first-in-None}

pub returns-in_err-put_last-in-Some-clause-rows : goal.returns-in_err-put_last-in-Some-clause-rows
returns-in_err-put_last-in-Some-clause-rows c =
    let was = sym c.get_mut.ensures.value ∙ ap option_copied_mut c.in-Some.is in
    let wrote = c.get_mut.follows.holds c.put_last.new.row in
    rows_kept c.args.rows.now (c.get_mut.follows.lender c.put_last.new.row) c.requires.rows c.home.result.now c.in-Some.row.now c.put_last.new.row wrote.4 (wrote.3 (some_is _ c.in-Some.row.now was)).0 was c.in_err-put_last-in-Some.ensures.same_things

pub returns-in_err-put_last-in-Some-clause-same_things : goal.returns-in_err-put_last-in-Some-clause-same_things
returns-in_err-put_last-in-Some-clause-same_things c =
    let was = sym c.get_mut.ensures.value ∙ ap option_copied_mut c.in-Some.is in
    let wrote = c.get_mut.follows.holds c.put_last.new.row in
    on_err _ c.from_residual-in_err-put_last-in-Some.result
    (row_kept c.args.rows.now.entries (c.get_mut.follows.lender c.put_last.new.row).entries c.home.result.now c.put_last.new.row (wrote.3 (some_is _ c.in-Some.row.now was)).0
    (c.in_err-put_last-in-Some.ensures.same_things ∙ sym (there c.args.rows.now.entries c.home.result.now c.in-Some.row.now was)))

pub returns-clause-rows : goal.returns-clause-rows
returns-clause-rows c =
    elim c.match-get_mut.branch [
      | in-Some+in_ok-put_last-in-Some w ↦
          let was = sym c.get_mut.ensures.value ∙ ap option_copied_mut w.in-Some.is in
          let wrote = c.get_mut.follows.holds w.put_last.new.row in
          subst AreRows (sym w.rows-is)
          (rows_more c.args.rows.now (c.get_mut.follows.lender w.put_last.new.row) c.requires.rows c.home.result.now w.in-Some.row.now w.put_last.new.row c.args.thing wrote.4 (wrote.3 (some_is _ w.in-Some.row.now was)).0 w.in_ok-put_last-in-Some.ensures.things)
      | in-None+in_ok-put_first-in-None w ↦ subst AreRows (sym w.rows-is) w.in_ok-put_first-in-None.ensures.rows
    ]

pub returns-clause-things : goal.returns-clause-things
returns-clause-things c h =
    let home = home_of c.args.maker.now c.args.own.now in
    let named = ap (λ n. home_of n.maker n.own) c.in_ok-name.ensures in
    elim c.match-get_mut.branch [
      | in-Some+in_ok-put_last-in-Some w ↦
          let was = sym c.get_mut.ensures.value ∙ ap option_copied_mut w.in-Some.is in
          let wrote = c.get_mut.follows.holds w.put_last.new.row in
          ap (λ rows. row_at rows.entries h) w.rows-is
          ∙ row_more c.args.rows.now.entries (c.get_mut.follows.lender w.put_last.new.row).entries c.home.result.now home w.in-Some.row.now w.put_last.new.row c.args.thing (c.home.ensures ∙ named) was w.in_ok-put_last-in-Some.ensures.things (wrote.3 (some_is _ w.in-Some.row.now was)).0 h
      | in-None+in_ok-put_first-in-None w ↦
          let none = sym c.get_mut.ensures.value ∙ ap option_copied_mut w.in-None.is in
          ap (λ rows. row_at rows.entries h) w.rows-is
          ∙ row_first c.args.rows.now.entries c.get_mut.follows.lender-at-none.entries w.put_first.new.rows.entries c.home.result.now w.home-in-None.result.now home c.args.thing (c.home.ensures ∙ named) (w.home-in-None.ensures ∙ named)
          (ap (λ m. m.entries) c.get_mut.follows.holds-at-none) none w.in_ok-put_first-in-None.ensures.things h
    ]
