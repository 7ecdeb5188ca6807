use Rattle.std.proofs.Common.{◌≡◌, List, sym, ap, ◌∙◌, arith}
use Rattle.std.proofs.lemmas.Result.{err_from_is_err_and}
use Rattle.lam_syntax.specs.Tree.{ItemTree, item_tree, items_tree}
use Rattle.lam_grammar.specs.Meaning.{items_value}
use Rattle.lam_parser.proofs.Lists.{items_before, items_more, items_whole}
use Rattle.lam_parser.proofs.Left.{item_read, item_fails, no_item, all_read, none_read, read_as}
use Rattle.lam_parser.proofs.items.program.Goals as goal

pub returns-in_err-item-clause-reads : goal.returns-in_err-item-clause-reads
returns-in_err-item-clause-reads c =
    let p = err_from_is_err_and c.from_residual.result c.from_residual.ensures.1 in
    let g = c.loop-alloc.invariant.read in
    let b = c.in_err-item.field-0.0 in
    let begins = sym (rw c.as_slice.ensures.value at c.begins_item.ensures.is) ∙ c.loop-alloc-test.true in
    let fails = rw c.as_slice-in-loop-alloc.ensures.value at c.in_err-item.ensures.reads in
    rw (p.1, p.2) (g.gone, g.is, item_fails g b begins fails)

pub loop-alloc-preserved : goal.loop-alloc-preserved
loop-alloc-preserved c =
    let g = c.loop-alloc.invariant.read in
    let begins = sym (rw c.as_slice.ensures.value at c.begins_item.ensures.is) ∙ c.loop-alloc-test.true in
    let reads = rw c.as_slice-in-loop-alloc.ensures.value at c.in_ok-item.ensures.reads in
    let pushed = c.in_ok-push.ensures.items in
    record {
      read = item_read g c.let_go-next.new.tokens.items (λ os. items_value (items_before c.push.new.self.items os)) (item_tree c.in_ok-item.item) c.in_ok-item.end c.let_go-next.result begins reads c.in_ok-item.ensures.goes_on.0 c.let_go-next.ensures (λ os. ap items_value (items_more c.loop-alloc.items.items _ c.in_ok-item.item os pushed));
      within = c.let_go-next.ensures.within;
    }

pub returns-in_default-clause-reads : goal.returns-in_default-clause-reads
returns-in_default-clause-reads c =
    let g = c.loop-alloc.invariant.read in
    let none = sym (rw c.as_slice.ensures.value at c.begins_item.ensures.is) ∙ c.loop-alloc-test.false in
    let absent = rw c.as_slice-2.ensures.value at (rw c.in_default.is at c.in_ok-take_if.ensures.takes) in
    (g.gone, g.is, no_item g none absent)

pub returns-clause-reads : goal.returns-clause-reads
returns-clause-reads c =
    let g = c.loop-alloc.invariant.read in
    let none = sym (rw c.as_slice.ensures.value at c.begins_item.ensures.is) ∙ c.loop-alloc-test.false in
    let taken = rw c.as_slice-2.ensures.value at (rw c.in-Some.is at c.in_ok-take_if.ensures.takes) in
    let w = c.in-Some.field-0.now in
    (g.gone, g.is, w, all_read g (items_value (items_tree c.loop-alloc.items.items)) w (ap items_value (items_whole c.loop-alloc.items.items)) none taken)

pub loop-alloc-init : goal.loop-alloc-init
loop-alloc-init c =
    let none : (os : List ItemTree) → items_value os ≡ items_value (items_before c.new-items.result.items os) = λ os. ap (λ xs. items_value (items_before xs os)) (sym c.new-items.ensures.items) in
    record { read = read_as none (none_read c.args.tokens.now.items); within = omega arith }
