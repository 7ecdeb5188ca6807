use Rattle.std.proofs.Common.{◌≡◌, ◌-◌, ◌++◌, ◌∙◌, take, drop, reverse, ap, sym, arith}
use Rattle.std.proofs.lemmas.List.{drop-drop}
use Rattle.thread_core_state.proofs.Ends.{under_reversed}
use Rattle.thread_core_state.proofs.operands.cut_under.Goals as goal

pub returns : goal.returns
returns c =
    let k : c.saturating_sub-top.result - c.loop-taken.taken ≡ c.saturating_sub-bottom.result = omega arith in
    let xs = c.args.items.now.items in
    under_reversed c.args.keep c.args.count c.saturating_sub-top.result c.saturating_sub-bottom.result xs c.loop-taken.items.items (omega arith) (omega arith)
    (c.loop-taken.invariant ∙ ap (λ n. take n xs ++ drop c.saturating_sub-top.result xs) k)
    ∙ ap (λ l. take c.args.keep (reverse xs) ++ l) (sym (drop-drop c.args.count c.args.keep (reverse xs)))
