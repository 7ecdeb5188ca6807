use Rattle.std.proofs.Common.{◌<◌, ◌∙◌, sym, ap, subst, cond, length, List, Some, arith}
use Rattle.std.specs.Map.{lookup}
use Rattle.lam_value.specs.Homes.{Home, home_eq}
use Rattle.labelled_heap.specs.declared.heap.Thing.{Thing}
use Rattle.labelled_heap.specs.Seen.{row_at}
use Rattle.labelled_heap.proofs.RowLemmas.{row_put, rows_put}
use Rattle.labelled_heap.proofs.heap.put_first.Goals as goal

pub returns-clause-rows : goal.returns-clause-rows
returns-clause-rows c =
    let added = λ (q : Home). c.put_new.ensures.row q ∙ (λ i. cond (home_eq (c.in_ok-key.ensures.home i) q) (Some c.in_ok-row.row) (lookup (home_eq q) (c.in_ok-key.ensures.rows i))) in
    rows_put c.args.rows.now c.put_new.new.rows c.requires.rows c.args.home.now c.in_ok-row.row c.put_new.ensures.unique added (subst (λ (ts : List Thing). 0 < length ts) (sym c.in_ok-row.ensures) (omega arith))

pub returns-clause-things : goal.returns-clause-things
returns-clause-things c q =
    let added = λ (q : Home). c.put_new.ensures.row q ∙ (λ i. cond (home_eq (c.in_ok-key.ensures.home i) q) (Some c.in_ok-row.row) (lookup (home_eq q) (c.in_ok-key.ensures.rows i))) in
    row_put c.args.rows.now.entries c.put_new.new.rows.entries c.args.home.now c.in_ok-row.row added q ∙ ap (λ ts. cond (home_eq c.args.home.now q) ts (row_at c.args.rows.now.entries q)) c.in_ok-row.ensures
